-- Inside the crate: what the table of a text holds.
use Rattle.std.specs.Prelude.{◌≡◌, ℕ, ◌+◌, ◌*◌, ◌%◌, ◌^◌, ◌<◌, ◌≤◌, Bool, false, List, [], ◌∷◌, ◌++◌, length, nat_lt}
use Rattle.std.specs.Prelude.{⊤, Option, Some, None, Result, MatchResult}
use Rattle.std.specs.Option.{option_map}
use Rattle.terms.specs.Answers.{pick}
use Rattle.terms.specs.declared.counts.ByteAddress.{ByteAddress}
use Rattle.source.specs.Statements.{label_of}
use Rattle.operands.specs.declared.labels.Label.{Label}
use Rattle.assembler.specs.Labels.{line_at, words_above, same_label, first_from}
use Rattle.assembler.specs.Chains.{entry_at}
use Rattle.assembler.specs.declared.answers.AssemblyError.TheVariants.{TooManyLines}
use Rattle.assembler.specs.declared.answers.AssemblyError.{AssemblyError}
use Rattle.assembler.specs.declared.table.Entry.{Entry}
use Rattle.assembler.specs.declared.table.Table.{Table}

-- a number, if it is below n
abbrev pub below : ℕ → ℕ → Option ℕ
below n k = pick (nat_lt k n) (Some k) None

-- the first line that has a label, if one has
abbrev pub found : List Entry → Label → Option ℕ
found entries label =
    below (length entries) (first_from (λ j. same_label (Some label) (entry_at entries j).label) (length entries) 0)

-- whether there is a line, and above another
abbrev pub precedes : Option ℕ → ℕ → Bool
precedes None line = false
precedes (Some first) line = nat_lt first line

-- whether a label is that of a line above a line
abbrev pub above : List Entry → Option Label → ℕ → Bool
above entries None line = false
above entries (Some label) line = precedes (found entries label) line

-- the address that a name stands for, if it is known; the given one where there is no name
abbrev pub target : List Entry → ℕ → Option Label → Option ℕ
target entries given None = Some given
target entries given (Some label) =
    option_map (λ line. (given + 4 * (entry_at entries line).words_above) % 2 ^ 32) (found entries label)

abbrev pub target_as : Option ByteAddress → Option ℕ
target_as = option_map (λ address. address.0)

-- the entries are those of the first lines
pub record Holds (lines : List (List ℕ)) (entries : List Entry) : Type 0 where
  pub label : (j : ℕ) → j < length entries → (entry_at entries j).label ≡ label_of (line_at lines j)
  pub place : (j : ℕ) → j < length entries → (entry_at entries j).words_above ≡ words_above lines j

-- a table of all lines of a text
pub record Ready (lines : List (List ℕ)) (table : Table) : Type 0 where
  pub all : length table.lines ≡ length lines
  pub few : length lines ≤ 4096
  pub holds : Holds lines table.lines

-- a line more in the table
pub record Entered (label : Option Label) (words : ℕ) (old new : Table) : Type 0 where
  pub next : Option ℕ
  pub entries : new.lines ≡ old.lines ++ record { label = label; words_above = words; next = next } ∷ []

-- what `survey` promises: a table of all lines, unless there are too many
abbrev pub Surveyed : List (List ℕ) → Result ⊤ AssemblyError → Table → Type 0
Surveyed lines r table =
    MatchResult r (λ _. Ready lines table) (λ error. (error ≡ TooManyLines) × (4096 < length lines))
