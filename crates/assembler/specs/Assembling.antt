-- The words of a text, or its refusal.
use Rattle.std.specs.Prelude.{◌≡◌, ℕ, zero, suc, ◌%◌, Bool, not, ◌||◌, List}
use Rattle.std.specs.Prelude.{[], ◌∷◌, ◌++◌, length, drop, ◌==◌, nat_le, nat_lt, slice_index}
use Rattle.std.specs.Prelude.{Option, None, Result, Ok, Err}
use Rattle.std.specs.Option.{is_some}
use Rattle.terms.specs.Answers.{No, no, Answer, answered, refused, pick, chain, fold}
use Rattle.source.specs.Lines.{lines_of}
use Rattle.source.specs.Statements.{label_of, statement_of}
use Rattle.operands.specs.declared.labels.Label.{Label}
use Rattle.placing.specs.Placing.{named, placed, fault_number}
use Rattle.assembler.specs.Labels.{line_at, address_of, line_of, is_defined}
use Rattle.terms.specs.declared.counts.WordIndex.{WordIndex}
use Rattle.assembler.specs.declared.answers.AssemblyError.TheVariants.{Misaligned, NoRoom, Line, TooManyLines}
use Rattle.assembler.specs.declared.answers.AssemblyError.{AssemblyError}

-- "21 label defined above"
abbrev pub defined_above : List (List ℕ) → ℕ → Bool
defined_above lines i = nat_lt (line_of lines (label_of (line_at lines i))) i

-- the label that a line names
abbrev pub name_on : List ℕ → Option Label
name_on line = fold named (λ _. None) (statement_of line)

-- it names none, or one that is defined
abbrev pub is_known : List (List ℕ) → Option Label → Bool
is_known lines label = not (is_some label) || is_defined lines label

-- what is written for a line, or its fault
unfoldable pub placed_on : ℕ → List (List ℕ) → ℕ → Answer (List ℕ)
placed_on given lines i =
    placed (defined_above lines i) (is_known lines (name_on (line_at lines i)))
    (address_of given lines i) (address_of given lines (line_of lines (name_on (line_at lines i))))
    (statement_of (line_at lines i))

-- "the first bad line is named": a fault's number, and the line's, counted from 1
abbrev pub line_no : ℕ → ℕ → No
line_no n line = record { number = n; values = line ∷ [] }

abbrev pub line_words : ℕ → List (List ℕ) → ℕ → Answer (List ℕ)
line_words given lines i = fold answered (λ r. refused (line_no r.number (suc i))) (placed_on given lines i)

-- the words of n lines from line i on
unfoldable pub words_from : ℕ → List (List ℕ) → ℕ → ℕ → Answer (List ℕ)
words_from given lines zero i = answered []
words_from given lines (suc n) i =
    chain (line_words given lines i) (λ words.
    chain (words_from given lines n (suc i)) (λ more. answered (words ++ more)))

-- "24 precedes all, then 1 for the given address, and 19, output shorter than the words to write, comes last"
unfoldable pub assembled : List (List ℕ) → ℕ → ℕ → Answer (List ℕ)
assembled lines given room =
    pick (nat_le (length lines) 4096)
    (pick (given % 4 == 0)
    (chain (words_from given lines (length lines) 0) (λ words.
    pick (nat_le (length words) room) (answered words) (refused (no 19))))
    (refused (no 1)))
    (refused (no 24))

abbrev pub assembling : List ℕ → ℕ → ℕ → Answer (List ℕ)
assembling text given room = assembled (lines_of text) given room

-- "Nothing is written on a refusal": the output then, and words past the last one written keep what they held
abbrev pub output_after : List ℕ → Answer (List ℕ) → List ℕ
output_after output answer = fold (λ words. words ++ drop (length words) output) (λ _. output) answer

-- each refusal, by its number
abbrev pub no_of : AssemblyError → No
no_of Misaligned = no 1
no_of NoRoom = no 19
no_of (Line number fault) = line_no (fault_number fault) number.0
no_of TooManyLines = no 24

-- how many words were written, or the refusal
abbrev pub assembled_as : Result WordIndex AssemblyError → Answer ℕ
assembled_as (Ok n) = answered n.0
assembled_as (Err error) = refused (no_of error)

-- the number of an answer, 0 where words were written, and the line that it names, 0 where it names none
abbrev pub number_in : Result WordIndex AssemblyError → ℕ
number_in answer = fold (λ _. 0) (λ r. r.number) (assembled_as answer)

abbrev pub line_in : Result WordIndex AssemblyError → ℕ
line_in answer = fold (λ _. 0) (λ r. slice_index r.values 0) (assembled_as answer)

-- what `assemble` promises of a text, a given address and an output: its answer, and the output as it leaves it
pub record Assembles (text : List ℕ) (given : ℕ) (output : List ℕ) (r : Result WordIndex AssemblyError)
    (left : List ℕ) : Type 0 where
  pub answers : assembled_as r ≡ chain (assembling text given (length output)) (λ words. answered (length words))
  pub leaves : left ≡ output_after output (assembling text given (length output))
