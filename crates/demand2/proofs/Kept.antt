-- A write keeps 32-bit numbers, and what is read from them has 32 bits.
-- Assumes nothing.
use mathlib.Core.Bool.{Bool, true, false}
use mathlib.Core.List.{List, [], ◌∷◌}
use Prim.Native.Nat.{ℕ, zero, suc, ◌^◌, ◌<◌}
use lib.Dec.{lit<, eqb}
use lib.ListN.{get_or, set}
use Rattle.parts.specs.Image.{HoldsWords}
use Rattle.parts.specs.Registers.{cell, read_of, written}
use Rattle.single.specs.Visible.{Visible}
use Rattle.terms.specs.Answers.{pick}

-- all numbers that the programmer sees
pub record Holds (s : Visible) : Type 0 where
  pub registers : HoldsWords s.registers
  pub image : HoldsWords s.image

pub words_set : (l : List ℕ) (i v : ℕ) → v < 2 ^ 32 → HoldsWords l → HoldsWords (set l i v)
words_set [] i v fits h k = h k
words_set (x ∷ l) zero v fits h zero = fits
words_set (x ∷ l) zero v fits h (suc k) = h (suc k)
words_set (x ∷ l) (suc i) v fits h zero = h zero
words_set (x ∷ l) (suc i) v fits h (suc k) = words_set l i v fits (λ j. h (suc j)) k

module _ (cells : List ℕ) (register : ℕ) where
  pub words_written : {v : ℕ} → v < 2 ^ 32 → HoldsWords cells → HoldsWords (written cells register v)
  unfolding written
  words_written {v} fits h = by (eqb (cell register) 0)
    where
      by : (none : Bool) → HoldsWords (pick none cells (set cells (cell register) v))
      by true = h
      by false = words_set cells (cell register) v fits h

  pub words_read : HoldsWords cells → read_of cells register < 2 ^ 32
  unfolding read_of
  words_read h = by (eqb (cell register) 0)
    where
      by : (none : Bool) → pick none 0 (get_or cells (cell register) 0) < 2 ^ 32
      by true = lit< tt
      by false = h (cell register)
