-- What the two machines compute in different ways, and alike.
-- Assumes nothing.
use mathlib.Core.Bool.{Bool, true, false}
use mathlib.Core.Path.{◌≡◌, refl, ap, sym, ◌∙◌}
use Prim.Native.Nat.{ℕ, ◌+◌, ◌*◌, ◌%◌, ◌^◌, ◌<◌}
use native.Mathlib.Nat.{mod-add-mod, add-mod-mod, mul_comm}
use native.Mathlib.Omega.{arith}
use lib.Dec.{eqb}
use borrow.Author.Tests.{eqb-true, eqb-false, eq-eqb, ne_eqb}
use Rattle.parts.specs.Alu.{sum, difference}
use Rattle.words.specs.Targets.{next_address}

-- the branch target, from the incremented PC
pub targets : (pc x : ℕ) → sum (next_address pc) (x * 4 % 2 ^ 32) ≡ (pc + 4 + 4 * x) % 2 ^ 32
targets pc x =
    mod-add-mod (pc + 4) (2 ^ 32) (x * 4 % 2 ^ 32)
    ∙ add-mod-mod (pc + 4) (x * 4) (2 ^ 32)
    ∙ ap (λ y. (pc + 4 + y) % 2 ^ 32) (mul_comm x 4)

-- a difference is 0 where the two are equal
pub equal : (a b : ℕ) → a < 2 ^ 32 → b < 2 ^ 32 → eqb (difference a b) 0 ≡ eqb a b
equal a b ha hb = by (eqb a b) refl
  where
    by : (t : Bool) → eqb a b ≡ t → eqb (difference a b) 0 ≡ eqb a b
    by true e = let q = eqb-true a b e in eq-eqb (difference a b) 0 (omega arith) ∙ sym e
    by false e = let q = eqb-false a b e in ne_eqb (difference a b) 0 (λ z. q (omega arith)) ∙ sym e
