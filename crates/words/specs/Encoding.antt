-- "encoding refuses a register above 31 or a j field of 2^26 or more"
use Rattle.std.specs.Prelude.{◌≡◌, ℕ, ◌+◌, ◌*◌, ◌^◌, ◌&&◌, nat_lt, Result}
use Rattle.terms.specs.Answers.{Answer, answered, refused, no, pick}
use Rattle.terms.specs.Refusals.{answer_of}
use Rattle.terms.specs.declared.refusals.Refusal.{Refusal}
use Rattle.words.specs.declared.instructions.Instruction.TheVariants.{Add, Sub, And, Or, Slt, Lw, Sw, Beq, Jump}
use Rattle.words.specs.declared.instructions.Instruction.{Instruction}

-- opcode 0, rs, rt, rd, bits 10-6 zero, function
unfoldable pub r_format : ℕ → ℕ → ℕ → ℕ → Answer ℕ
r_format rd rs rt function =
    pick (nat_lt rd 32 && (nat_lt rs 32 && nat_lt rt 32))
    (answered (rs * 2 ^ 21 + rt * 2 ^ 16 + rd * 2 ^ 11 + function))
    (refused (no 8))

-- opcode, rs, rt, 16-bit field
unfoldable pub i_format : ℕ → ℕ → ℕ → ℕ → Answer ℕ
i_format opcode rs rt field =
    pick (nat_lt rs 32 && nat_lt rt 32)
    (answered (opcode * 2 ^ 26 + rs * 2 ^ 21 + rt * 2 ^ 16 + field))
    (refused (no 8))

-- opcode 2, 26-bit field
unfoldable pub j_format : ℕ → Answer ℕ
j_format field = pick (nat_lt field (2 ^ 26)) (answered (2 * 2 ^ 26 + field)) (refused (no 8))

-- each case's opcode and function, and where its fields go
abbrev pub encoding : Instruction → Answer ℕ
encoding (Add rd rs rt) = r_format rd rs rt 32
encoding (Sub rd rs rt) = r_format rd rs rt 34
encoding (And rd rs rt) = r_format rd rs rt 36
encoding (Or rd rs rt) = r_format rd rs rt 37
encoding (Slt rd rs rt) = r_format rd rs rt 42
encoding (Lw rt rs field) = i_format 35 rs rt field
encoding (Sw rt rs field) = i_format 43 rs rt field
encoding (Beq rs rt field) = i_format 4 rs rt field
encoding (Jump field) = j_format field

-- what `encode` answers
abbrev pub encoded_as : Result ℕ Refusal → Answer ℕ
encoded_as r = answer_of r

-- what `encode` promises
abbrev pub Encodes : Instruction → Result ℕ Refusal → Type 0
Encodes i r = encoded_as r ≡ encoding i
