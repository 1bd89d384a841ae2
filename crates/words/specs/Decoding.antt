-- "An instruction is a kind with its own fields." "Decoding answers 3 or 4."
use Rattle.std.specs.Prelude.{◌≡◌, ℕ, List, [], ◌∷◌, Result}
use Rattle.terms.specs.Answers.{Answer, answered, refused, no, chain}
use Rattle.terms.specs.Refusals.{answer_of}
use Rattle.terms.specs.declared.refusals.Refusal.{Refusal}
use Rattle.words.specs.Fields.{rs, rt, rd, field, target}
use Rattle.words.specs.Kinds.{kind_of}
use Rattle.words.specs.declared.instructions.Instruction.TheVariants.{Add, Sub, And, Or, Slt, Lw, Sw, Beq, Jump}
use Rattle.words.specs.declared.instructions.Instruction.{Instruction}
use Rattle.words.specs.declared.kinds.Kind.TheVariants as Kind'
use Rattle.words.specs.declared.kinds.Kind.{Kind}

-- the instruction of a kind with its fields, or the refusal
abbrev pub made : Kind → ℕ → ℕ → ℕ → ℕ → ℕ → Answer Instruction
made Kind'.Add rd rs rt field target = answered (Add rd rs rt)
made Kind'.Sub rd rs rt field target = answered (Sub rd rs rt)
made Kind'.And rd rs rt field target = answered (And rd rs rt)
made Kind'.Or rd rs rt field target = answered (Or rd rs rt)
made Kind'.Slt rd rs rt field target = answered (Slt rd rs rt)
made Kind'.Lw rd rs rt field target = answered (Lw rt rs field)
made Kind'.Sw rd rs rt field target = answered (Sw rt rs field)
made Kind'.Beq rd rs rt field target = answered (Beq rs rt field)
made Kind'.Jump rd rs rt field target = answered (Jump target)
made Kind'.NoOpcode rd rs rt field target = refused (no 3)
made Kind'.NoFunction rd rs rt field target = refused (no 4)

-- the instruction that a word is
abbrev pub decoding : ℕ → Answer Instruction
decoding w = made (kind_of w) (rd w) (rs w) (rt w) (field w) (target w)

-- each instruction by its numbers: its opcode, its fields in document 01's order, and in R-format its function
abbrev pub instruction_as : Instruction → List ℕ
instruction_as (Add rd rs rt) = 0 ∷ rs ∷ rt ∷ rd ∷ 32 ∷ []
instruction_as (Sub rd rs rt) = 0 ∷ rs ∷ rt ∷ rd ∷ 34 ∷ []
instruction_as (And rd rs rt) = 0 ∷ rs ∷ rt ∷ rd ∷ 36 ∷ []
instruction_as (Or rd rs rt) = 0 ∷ rs ∷ rt ∷ rd ∷ 37 ∷ []
instruction_as (Slt rd rs rt) = 0 ∷ rs ∷ rt ∷ rd ∷ 42 ∷ []
instruction_as (Lw rt rs field) = 35 ∷ rs ∷ rt ∷ field ∷ []
instruction_as (Sw rt rs field) = 43 ∷ rs ∷ rt ∷ field ∷ []
instruction_as (Beq rs rt field) = 4 ∷ rs ∷ rt ∷ field ∷ []
instruction_as (Jump field) = 2 ∷ field ∷ []

-- what `decode` answers, with an instruction by its numbers
abbrev pub decoded_as : Result Instruction Refusal → Answer (List ℕ)
decoded_as r = chain (answer_of r) (λ i. answered (instruction_as i))

-- what `decode` promises
abbrev pub Decodes : ℕ → Result Instruction Refusal → Type 0
Decodes w r = decoded_as r ≡ chain (decoding w) (λ i. answered (instruction_as i))
