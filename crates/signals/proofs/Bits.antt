-- A choice of four is two choices, by the higher bit and by the lower.
-- Assumes nothing.
use mathlib.Core.Logic.{◌⊎◌, inl, inr}
use mathlib.Core.Path.{◌≡◌, refl}
use Prim.Native.Nat.{ℕ, zero, suc, ◌+◌, ◌*◌, ◌/◌, ◌%◌, ◌^◌, ◌<◌}
use native.Mathlib.Omega.{arith}
use lib.Dec.{eqb}
use Rattle.terms.specs.Answers.{pick}
use Rattle.signals.specs.Signals.{one_of}

two : (n : ℕ) → n < 2 → (n ≡ 0) ⊎ (n ≡ 1)
two zero h = inl refl
two (suc n) h = inr (omega arith)

module _ {ℓ} {A : Type ℓ} (a b c d : A) where
  by_bits : (n high low : ℕ) → n ≡ 2 * high + low → (high ≡ 0) ⊎ (high ≡ 1) → (low ≡ 0) ⊎ (low ≡ 1) → one_of n a b c d ≡ pick (eqb high 1) (pick (eqb low 1) d c) (pick (eqb low 1) b a)
  by_bits n high low s (inl h) (inl l) = let k : n ≡ 0 = omega arith in rw (k, h, l)
  by_bits n high low s (inl h) (inr l) = let k : n ≡ 1 = omega arith in rw (k, h, l)
  by_bits n high low s (inr h) (inl l) = let k : n ≡ 2 = omega arith in rw (k, h, l)
  by_bits n high low s (inr h) (inr l) = let k : n ≡ 3 = omega arith in rw (k, h, l)

  pub one_of_bits : (n : ℕ) → one_of (n % 4) a b c d ≡ pick (eqb (n / 2 ^ 1 % 2) 1) (pick (eqb (n % 2) 1) d c) (pick (eqb (n % 2) 1) b a)
  one_of_bits n =
      by_bits (n % 4) (n / 2 ^ 1 % 2) (n % 2) (omega arith)
      (two (n / 2 ^ 1 % 2) (omega arith)) (two (n % 2) (omega arith))
