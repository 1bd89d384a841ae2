-- One instruction, as MIPS32 has it: a clause for each.
use Rattle.std.specs.Prelude.{ℕ, length, slice_set, ◌==◌}
use Rattle.std.specs.Int.Bits.{bit_and, bit_or}
use Rattle.terms.specs.Answers.{Answer, answered, pick, chain}
use Rattle.terms.specs.declared.refusals.AccessKind.TheVariants.{Fetch, Load, Store}
use Rattle.words.specs.Decoding.{decoding}
use Rattle.words.specs.Fields.{sign_extend}
use Rattle.words.specs.Targets.{next_address, branch_target, jump_target}
use Rattle.words.specs.declared.instructions.Instruction.TheVariants.{Add, Sub, And, Or, Slt, Lw, Sw, Beq, Jump}
use Rattle.words.specs.declared.instructions.Instruction.{Instruction}
use Rattle.parts.specs.Alu.{sum, difference, less_than}
use Rattle.parts.specs.Image.{accessing, reading, located}
use Rattle.parts.specs.Registers.{read_of, written}
use Rattle.single.specs.Visible.{Visible, visible}

-- what a register holds
abbrev pub holds : Visible → ℕ → ℕ
holds s register = read_of s.registers register

-- "Load and store address: rs plus the sign-extended field."
abbrev pub address_of : ℕ → ℕ → ℕ
address_of base field = sum base (sign_extend field)

-- a register takes a value, and control goes to the next address
abbrev pub writing : Visible → ℕ → ℕ → Visible
writing s register value = visible (written s.registers register value) (next_address s.pc) s.image

-- a word of the image takes a value, and control goes to the next address
abbrev pub storing : Visible → ℕ → ℕ → Visible
storing s word value = visible s.registers (next_address s.pc) (slice_set s.image word value)

-- control goes to an address
abbrev pub transferring : Visible → ℕ → Visible
transferring s address = visible s.registers address s.image

-- lw: register rt takes the word at the address
abbrev pub load_word : Visible → ℕ → ℕ → Answer Visible
load_word s rt address =
    chain (located address Load (reading s.image address)) (λ value. answered (writing s rt value))

-- sw: the word at the address takes the value
abbrev pub store_word : Visible → ℕ → ℕ → Answer Visible
store_word s address value =
    chain (located address Store (accessing (length s.image) address)) (λ word. answered (storing s word value))

-- beq: to the target where the two are equal, else to the next address
abbrev pub branching : ℕ → ℕ → ℕ → ℕ → ℕ
branching a b pc field = pick (a == b) (branch_target pc field) (next_address pc)

unfoldable pub executing : Instruction → Visible → Answer Visible
executing (Add rd rs rt) s = answered (writing s rd (sum (holds s rs) (holds s rt)))
executing (Sub rd rs rt) s = answered (writing s rd (difference (holds s rs) (holds s rt)))
executing (And rd rs rt) s = answered (writing s rd (bit_and (holds s rs) (holds s rt)))
executing (Or rd rs rt) s = answered (writing s rd (bit_or (holds s rs) (holds s rt)))
executing (Slt rd rs rt) s = answered (writing s rd (less_than (holds s rs) (holds s rt)))
executing (Lw rt rs field) s = load_word s rt (address_of (holds s rs) field)
executing (Sw rt rs field) s = store_word s (address_of (holds s rs) field) (holds s rt)
executing (Beq rs rt field) s = answered (transferring s (branching (holds s rs) (holds s rt) s.pc field))
executing (Jump field) s = answered (transferring s (jump_target s.pc field))

-- the instruction that a word is: 3, 4, or what it does
abbrev pub performing : ℕ → Visible → Answer Visible
performing word s = chain (decoding word) (λ i. executing i s)

-- the instruction at PC: "Single-cycle: fetch 1, 2; then 3; 4; data 1, 2."
unfoldable pub instruction : Visible → Answer Visible
instruction s = chain (located s.pc Fetch (reading s.image s.pc)) (λ word. performing word s)
