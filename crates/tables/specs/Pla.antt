-- "a PLA of 17 product terms": what each term reads, and what it asserts. "Ten terms read the state only, seven also
-- the opcode (state 1 with each of five, state 2 with lw and sw). Where no term fires, bits are 0."
use Rattle.std.specs.Prelude.{Bool, true, ◌&&◌, List, [], ◌∷◌, ℕ, zero, suc, ◌+◌, ◌*◌, length, ◌==◌}
use Rattle.std.specs.Prelude.{slice_index, slice_index_or, Option, Some, None}
use Rattle.std.specs.Int.Bits.{bit_or}
use Rattle.terms.specs.Answers.{pick}

-- the state that a term reads
unfoldable pub term_states : List ℕ
term_states = 0 ∷ 1 ∷ 2 ∷ 3 ∷ 4 ∷ 5 ∷ 6 ∷ 7 ∷ 8 ∷ 9 ∷ 1 ∷ 1 ∷ 1 ∷ 1 ∷ 1 ∷ 2 ∷ 2 ∷ []

-- the opcode that it reads, if it reads one
unfoldable pub term_opcodes : List (Option ℕ)
term_opcodes =
    None ∷ None ∷ None ∷ None ∷ None ∷ None ∷ None ∷ None ∷ None ∷ None
    ∷ Some 0 ∷ Some 2 ∷ Some 4 ∷ Some 35 ∷ Some 43 ∷ Some 35 ∷ Some 43 ∷ []

-- the bits that it asserts: sixteen control bits in 19-4, the next state in 3-0
unfoldable pub term_asserts : List ℕ
term_asserts =
    0x94081 ∷ 0x180 ∷ 0x140 ∷ 0x30004 ∷ 0x2020 ∷ 0x28000 ∷ 0x447 ∷ 0x30 ∷ 0x40a40 ∷ 0x81000
    ∷ 0x6 ∷ 0x9 ∷ 0x8 ∷ 0x2 ∷ 0x2 ∷ 0x3 ∷ 0x5 ∷ []

-- whether an opcode is the one that is read, if one is
abbrev pub is_read : Option ℕ → ℕ → Bool
is_read None opcode = true
is_read (Some code) opcode = code == opcode

-- a term fires in its state, with its opcode if it reads one; it asserts its bits then, and 0 else
abbrev pub term : ℕ → Option ℕ → ℕ → ℕ → ℕ → ℕ
term reads code asserts state opcode = pick (reads == state && is_read code opcode) asserts 0

-- the logical sum of the first terms
unfoldable pub plane : ℕ → ℕ → ℕ → ℕ
plane zero state opcode = 0
plane (suc t) state opcode =
    bit_or
    (term (slice_index term_states t) (slice_index_or term_opcodes t None) (slice_index term_asserts t) state opcode)
    (plane t state opcode)

-- "Cells: 510": ten inputs and twenty outputs for each term
abbrev pub plane_cells : ℕ
plane_cells = (10 + 20) * length term_states
