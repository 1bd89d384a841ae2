-- A statement at its address, with the address that its label names.
use Rattle.std.specs.Prelude.{◌≡◌, ℕ, ◌+◌, ◌-◌, ◌/◌, ◌%◌, ◌^◌, Bool, false, not, List, [], ◌∷◌, ◌==◌}
use Rattle.std.specs.Prelude.{Option, Some, None, Result, Ok, Err}
use Rattle.std.specs.Option.{is_some}
use Rattle.terms.specs.declared.counts.ByteAddress.{ByteAddress}
use Rattle.terms.specs.Answers.{Answer, answered, refused, no, pick, chain, fold}
use Rattle.words.specs.Encoding.{encoding}
use Rattle.words.specs.Targets.{next_address}
use Rattle.words.specs.declared.instructions.Instruction.TheVariants as Instruction'
use Rattle.source.specs.Statements.{reading_as}
use Rattle.operands.specs.declared.labels.Label.{Label}
use Rattle.source.specs.declared.statements.Unreadable.{Unreadable}
use Rattle.source.specs.declared.statements.Statement.TheVariants.{Add, Sub, And, Or, Slt}
use Rattle.source.specs.declared.statements.Statement.TheVariants.{Lw, Sw, Beq, Jump, Word}
use Rattle.source.specs.declared.statements.Statement.{Statement}
use Rattle.placing.specs.declared.meanings.Meant.TheVariants as Meant'
use Rattle.placing.specs.declared.meanings.Meant.{Meant}
use Rattle.placing.specs.declared.placed.Fault.TheVariants as Fault'
use Rattle.placing.specs.declared.placed.Fault.{Fault}

-- the distance in words from the line's address plus 4, in 16 bits
abbrev pub distance : ℕ → ℕ → ℕ
distance address target = (target + (2 ^ 32 - next_address address)) % 2 ^ 32 / 4 % 2 ^ 16

-- "a j target is out of reach when its upper four bits differ from those of the line's address plus 4"
abbrev pub in_reach : ℕ → ℕ → Bool
in_reach address target = target / 2 ^ 28 == next_address address / 2 ^ 28

abbrev pub out_of_reach : ℕ → ℕ → Statement → Bool
out_of_reach address target (Add rd rs rt) = false
out_of_reach address target (Sub rd rs rt) = false
out_of_reach address target (And rd rs rt) = false
out_of_reach address target (Or rd rs rt) = false
out_of_reach address target (Slt rd rs rt) = false
out_of_reach address target (Lw rt rs field) = false
out_of_reach address target (Sw rt rs field) = false
out_of_reach address target (Beq rs rt label) = false
out_of_reach address target (Jump label) = not (in_reach address target)
out_of_reach address target (Word word) = false

-- "the line's instruction, with labels replaced by the distance or address they name; a directive's word is written as
-- given"
abbrev pub meaning : ℕ → ℕ → Statement → Meant
meaning address target (Add rd rs rt) = Meant'.Is (Instruction'.Add rd rs rt)
meaning address target (Sub rd rs rt) = Meant'.Is (Instruction'.Sub rd rs rt)
meaning address target (And rd rs rt) = Meant'.Is (Instruction'.And rd rs rt)
meaning address target (Or rd rs rt) = Meant'.Is (Instruction'.Or rd rs rt)
meaning address target (Slt rd rs rt) = Meant'.Is (Instruction'.Slt rd rs rt)
meaning address target (Lw rt rs field) = Meant'.Is (Instruction'.Lw rt rs field)
meaning address target (Sw rt rs field) = Meant'.Is (Instruction'.Sw rt rs field)
meaning address target (Beq rs rt label) = Meant'.Is (Instruction'.Beq rs rt (distance address target))
meaning address target (Jump label) = Meant'.Is (Instruction'.Jump (target / 4 % 2 ^ 26))
meaning address target (Word word) = Meant'.Word word

-- the word of what was meant, and the words that are written for a line: none, or one
abbrev pub word : Meant → ℕ
word (Meant'.Is instruction) = fold (λ w. w) (λ _. 0) (encoding instruction)
word (Meant'.Word w) = w

abbrev pub written : ℕ → ℕ → Option Statement → List ℕ
written address target None = []
written address target (Some statement) = word (meaning address target statement) ∷ []

-- whether a line's statement is out of reach; a line without one is not
abbrev pub exceeds : ℕ → ℕ → Option Statement → Bool
exceeds address target None = false
exceeds address target (Some statement) = out_of_reach address target statement

-- the label that a statement names; none for most
abbrev pub name_in : Statement → Option Label
name_in (Add rd rs rt) = None
name_in (Sub rd rs rt) = None
name_in (And rd rs rt) = None
name_in (Or rd rs rt) = None
name_in (Slt rd rs rt) = None
name_in (Lw rt rs field) = None
name_in (Sw rt rs field) = None
name_in (Beq rs rt label) = Some label
name_in (Jump label) = Some label
name_in (Word word) = None

-- "20 line not readable, 21 label defined above, 22 label unknown, 23 target out of reach .. on one line 20, 21, 22, 23
-- apply in that order"
unfoldable pub placed : Bool → Bool → ℕ → ℕ → Answer (Option Statement) → Answer (List ℕ)
placed above known address target reading =
    chain reading (λ statement.
    pick above (refused (no 21))
    (pick known
    (pick (exceeds address target statement) (refused (no 23))
    (answered (written address target statement)))
    (refused (no 22))))

-- each fault's number in the item
abbrev pub fault_number : Fault → ℕ
fault_number Fault'.Unreadable = 20
fault_number Fault'.DefinedAbove = 21
fault_number Fault'.Unknown = 22
fault_number Fault'.OutOfReach = 23

-- the words that stand for a line, no word or one, or the fault
abbrev pub written_as : Option ℕ → List ℕ
written_as None = []
written_as (Some word) = word ∷ []

abbrev pub placed_as : Result (Option ℕ) Fault → Answer (List ℕ)
placed_as (Ok w) = answered (written_as w)
placed_as (Err fault) = refused (no (fault_number fault))

-- which address is known; 0 where none is
abbrev pub known_address : Option ByteAddress → ℕ
known_address None = 0
known_address (Some target) = target.0

-- the label that is named on a line
abbrev pub named : Option Statement → Option Label
named None = None
named (Some statement) = name_in statement

-- what `place` and `name_in` promise
abbrev pub Places : Bool → ℕ → Option ByteAddress → Result (Option Statement) Unreadable →
    Result (Option ℕ) Fault → Type 0
Places above address target reading r =
    placed_as r ≡ placed above (is_some target) address (known_address target) (reading_as reading)

abbrev pub Names : Result (Option Statement) Unreadable → Option Label → Type 0
Names reading r = r ≡ fold named (λ _. None) (reading_as reading)
