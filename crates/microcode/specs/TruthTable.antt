-- The ten words, held to the equations of source 002 signal by signal: in which states each signal is asserted.
use Rattle.std.specs.Prelude.{Bool, true, false, not, ◌&&◌, List, [], ◌∷◌, ℕ, ◌-◌, T, slice_index}
use Rattle.signals.specs.Signals.{bit}
use Rattle.terms.specs.Tables.{all_from, among}
use Rattle.microcode.specs.Fixed.{ten_words}

-- bits 17 to 2, in order
unfoldable pub equations : List (List ℕ)
equations =
    (0 ∷ 9 ∷ [])  -- PCWrite = state0 + state9
    ∷ (8 ∷ [])  -- PCWriteCond = state8
    ∷ (3 ∷ 5 ∷ [])  -- IorD = state3 + state5
    ∷ (0 ∷ 3 ∷ [])  -- MemRead = state0 + state3
    ∷ (5 ∷ [])  -- MemWrite = state5
    ∷ (0 ∷ [])  -- IRWrite = state0
    ∷ (4 ∷ [])  -- MemtoReg = state4
    ∷ (9 ∷ [])  -- PCSource1 = state9
    ∷ (8 ∷ [])  -- PCSource0 = state8
    ∷ (6 ∷ [])  -- ALUOp1 = state6
    ∷ (8 ∷ [])  -- ALUOp0 = state8
    ∷ (1 ∷ 2 ∷ [])  -- ALUSrcB1 = state1 + state2
    ∷ (0 ∷ 1 ∷ [])  -- ALUSrcB0 = state0 + state1
    ∷ (2 ∷ 6 ∷ 8 ∷ [])  -- ALUSrcA = state2 + state6 + state8
    ∷ (4 ∷ 7 ∷ [])  -- RegWrite = state4 + state7
    ∷ (7 ∷ [])  -- RegDst = state7
    ∷ []

unfoldable pub alike : Bool → Bool → Bool
alike true b = b
alike false b = not b

-- the signal at bit k, and those below it, are as their equations say
unfoldable pub agrees : ℕ → ℕ → List (List ℕ) → Bool
agrees state k [] = true
agrees state k (states ∷ more) =
    alike (bit (slice_index ten_words state) k) (among state states) && agrees state (k - 1) more

-- in states 0 to 9 every signal is as its equation says
abbrev pub TruthTable : Type 0
TruthTable = T (all_from 0 10 (λ state. agrees state 17 equations))
