-- "A line is an optional label and colon, then nothing or one of these: lower-case names, operands in MIPS order with
-- commas, blanks free between parts."
use Rattle.std.specs.Prelude.{Bool, true, false, List, [], ◌∷◌, ◌≡◌, ℕ, Option, Some, None, Result, Ok, Err}
use Rattle.terms.specs.Answers.{Answer, answered, pick, chain, fold}
use Rattle.terms.specs.Texts.{ascii, same}
use Rattle.source.specs.Lines.{parts_of}
use Rattle.operands.specs.Operands.{unreadable, read_as, shaped, label}
use Rattle.operands.specs.declared.labels.Label.{Label}
use Rattle.operands.specs.declared.operands.Shape.TheVariants.{Register, Offset, Word, Comma, Colon, Open, Close}
use Rattle.operands.specs.declared.operands.Shape.{Shape}
use Rattle.source.specs.declared.names.Access.TheVariants.{Lw, Sw}
use Rattle.source.specs.declared.names.Access.{Access}
use Rattle.source.specs.declared.names.Mnemonic.TheVariants as Mnemonic'
use Rattle.source.specs.declared.names.Mnemonic.{Mnemonic}
use Rattle.source.specs.declared.names.Operation.TheVariants.{Add, Sub, And, Or, Slt}
use Rattle.source.specs.declared.names.Operation.{Operation}
use Rattle.source.specs.declared.statements.Statement.TheVariants as Statement'
use Rattle.source.specs.declared.statements.Statement.{Statement}
use Rattle.source.specs.declared.statements.Unreadable.{Unreadable}
use Rattle.source.specs.declared.reading.Heading.{Heading}
use Rattle.source.specs.declared.reading.Line.{Line}

-- the first of some parts, read, and the parts after it
unfoldable pub first : {A : Type 0} → (List ℕ → Answer A) → List (List ℕ) → Answer (A × List (List ℕ))
first read [] = unreadable
first read (part ∷ more) = chain (read part) (λ a. answered (a, more))

-- the same, going on
abbrev pub next : {A B : Type 0} → (List ℕ → Answer A) → List (List ℕ) → (A → List (List ℕ) → Answer B) → Answer B
next read parts go = chain (first read parts) (λ t. go t.0 t.1)

-- a comma, and the part after it
abbrev pub comma : Shape → List (List ℕ) → Answer (ℕ × List (List ℕ))
comma shape parts = next (shaped Comma) parts (λ _ more. first (shaped shape) more)

abbrev pub and_next : {B : Type 0} → Shape → List (List ℕ) → (ℕ → List (List ℕ) → Answer B) → Answer B
and_next shape parts go = chain (comma shape parts) (λ t. go t.0 t.1)

-- whether there is a part
abbrev pub some : List (List ℕ) → Bool
some [] = false
some (part ∷ more) = true

-- the end of the line
abbrev pub done : {A : Type 0} → List (List ℕ) → A → Answer A
done more a = pick (some more) unreadable (answered a)

-- the five names of R-format, and the two of lw and sw
abbrev pub operation : Operation → ℕ → ℕ → ℕ → Statement
operation Add rd rs rt = Statement'.Add rd rs rt
operation Sub rd rs rt = Statement'.Sub rd rs rt
operation And rd rs rt = Statement'.And rd rs rt
operation Or rd rs rt = Statement'.Or rd rs rt
operation Slt rd rs rt = Statement'.Slt rd rs rt

abbrev pub access : Access → ℕ → ℕ → ℕ → Statement
access Lw rt rs field = Statement'.Lw rt rs field
access Sw rt rs field = Statement'.Sw rt rs field

-- $d, $s, $t
unfoldable pub three : (ℕ → ℕ → ℕ → Statement) → List (List ℕ) → Answer Statement
three make parts =
    next (shaped Register) parts (λ rd more.
    and_next Register more (λ rs more.
    and_next Register more (λ rt more. done more (make rd rs rt))))

-- ($s)
unfoldable pub in_parentheses : List (List ℕ) → Answer (ℕ × List (List ℕ))
in_parentheses parts =
    next (shaped Open) parts (λ _ more.
    next (shaped Register) more (λ rs more.
    next (shaped Close) more (λ _ more. answered (rs, more))))

-- $t, offset($s)
unfoldable pub memory : (ℕ → ℕ → ℕ → Statement) → List (List ℕ) → Answer Statement
memory make parts =
    next (shaped Register) parts (λ rt more.
    and_next Offset more (λ field more.
    chain (in_parentheses more) (λ t. done t.1 (make rt t.0 field))))

-- a label, and the end of the line
unfoldable pub target : List (List ℕ) → Answer Label
target parts = next label parts (λ name more. done more name)

-- $s, $t, label
unfoldable pub branch : List (List ℕ) → Answer Statement
branch parts =
    next (shaped Register) parts (λ rs more.
    and_next Register more (λ rt more.
    next (shaped Comma) more (λ _ more.
    chain (target more) (λ name. answered (Statement'.Beq rs rt name)))))

-- the operands of each name
abbrev pub operands : Mnemonic → List (List ℕ) → Answer Statement
operands (Mnemonic'.Three o) parts = three (operation o) parts
operands (Mnemonic'.Memory a) parts = memory (access a) parts
operands Mnemonic'.Beq parts = branch parts
operands Mnemonic'.Jump parts = chain (target parts) (λ name. answered (Statement'.Jump name))
operands Mnemonic'.Directive parts = next (shaped Word) parts (λ word more. done more (Statement'.Word word))

-- "the nine instructions .. and `.word`": "lower-case names"
abbrev pub operations : List (List ℕ × Mnemonic)
operations =
    (ascii "add", Mnemonic'.Three Add)
    ∷ (ascii "sub", Mnemonic'.Three Sub)
    ∷ (ascii "and", Mnemonic'.Three And)
    ∷ (ascii "or", Mnemonic'.Three Or)
    ∷ (ascii "slt", Mnemonic'.Three Slt)
    ∷ []

abbrev pub others : List (List ℕ × Mnemonic)
others =
    (ascii "lw", Mnemonic'.Memory Lw)
    ∷ (ascii "sw", Mnemonic'.Memory Sw)
    ∷ (ascii "beq", Mnemonic'.Beq)
    ∷ (ascii "j", Mnemonic'.Jump)
    ∷ (ascii ".word", Mnemonic'.Directive)
    ∷ []

-- what stands beside a name in a table, or the other
abbrev pub named : List (List ℕ × Mnemonic) → Option Mnemonic → List ℕ → Option Mnemonic
named [] other part = other
named (row ∷ table) other part = pick (same part row.0) (Some row.1) (named table other part)

abbrev pub other_mnemonic : List ℕ → Option Mnemonic
other_mnemonic part = named others None part

unfoldable pub mnemonic : List ℕ → Option Mnemonic
mnemonic part = named operations (other_mnemonic part) part

-- "nothing or one of these"
unfoldable pub statement : List (List ℕ) → Answer (Option Statement)
statement [] = answered None
statement (name ∷ parts) = chain (read_as (mnemonic name)) (λ m. chain (operands m parts) (λ s. answered (Some s)))

-- "an optional label and colon": the label, and the parts after the colon
unfoldable pub labelled : List (List ℕ) → Answer (Label × List (List ℕ))
labelled parts = next label parts (λ name more. next (shaped Colon) more (λ _ more. answered (name, more)))

-- the label, if there is one, and the parts behind it
abbrev pub lead : List (List ℕ) → Option Label × List (List ℕ)
lead parts = fold (λ t. (Some t.0, t.1)) (λ _. (None, parts)) (labelled parts)

-- what a line says: its label, whether a word stands for it, and its statement
unfoldable pub label_of : List ℕ → Option Label
label_of line = (lead (parts_of line)).0

unfoldable pub has_word : List ℕ → Bool
has_word line = some (lead (parts_of line)).1

unfoldable pub statement_of : List ℕ → Answer (Option Statement)
statement_of line = statement (lead (parts_of line)).1

-- a statement or none that was read, or 20
abbrev pub reading_as : Result (Option Statement) Unreadable → Answer (Option Statement)
reading_as (Ok s) = answered s
reading_as (Err u) = unreadable

-- what `read_heading` and `read_line` promise
pub record Heads (line : List ℕ) (r : Heading) : Type 0 where
  pub named : r.label ≡ label_of line
  pub word : r.has_word ≡ has_word line

pub record Reads (line : List ℕ) (r : Line) : Type 0 where
  pub named : r.label ≡ label_of line
  pub says : reading_as r.reading ≡ statement_of line
