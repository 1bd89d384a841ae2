-- Two lists gone through side by side, step by step: what comes first in both comes next, and where either has ended
-- there is nothing.
-- Assumes nothing.
use Rattle.std.proofs.Common.{◌≡◌, ℕ, ◌+◌, List, [], ◌∷◌, length, refl, add-one, arith}
use Rattle.screen.specs.Sides.{along}

module _ {A : Type 0} (f : ℕ → ℕ → ℕ → A → A) (k : ℕ) (xs ys : List ℕ) (a : A) where
  pub along_next : (x y : ℕ) (more others : List ℕ) → xs ≡ x ∷ more → ys ≡ y ∷ others →
      along f k xs ys a ≡ along f (k + 1) more others (f k x y a)
  unfolding along
  along_next x y more others p q = rw (p, q, add-one)

pub along_end : {A : Type 0} (f : ℕ → ℕ → ℕ → A → A) (k : ℕ) (xs ys : List ℕ) (a : A) →
    length xs ≡ 0 → along f k xs ys a ≡ a
unfolding along
along_end f k [] ys a h = refl
along_end f k (x ∷ xs) ys a h = absurd (omega arith)

pub along_short : {A : Type 0} (f : ℕ → ℕ → ℕ → A → A) (k : ℕ) (xs ys : List ℕ) (a : A) →
    length ys ≡ 0 → along f k xs ys a ≡ a
unfolding along
along_short f k [] ys a h = refl
along_short f k (x ∷ xs) [] a h = refl
along_short f k (x ∷ xs) (y ∷ ys) a h = absurd (omega arith)

-- the three of them, for a loop along two lists
pub ruleset along_steps = (along_next, along_end, along_short)
