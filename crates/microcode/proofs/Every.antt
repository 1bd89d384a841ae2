-- A list is looked through for an entry that fails: there is none, or one decides.
-- Assumes nothing.
use Rattle.std.proofs.Common.{◌≡◌, ℕ, zero, suc, ◌<◌, Bool, true, false, ◌&&◌, List, [], ◌∷◌, length, get_or, refl, arith}
use Rattle.std.specs.Bool.{MatchBool}
use Rattle.std.specs.List.{AllWithin, HoldsAt}
use Rattle.terms.proofs.Answers.{both_true}
use Rattle.microcode.specs.Stores.{every}

and_false : (a : Bool) {b : Bool} → b ≡ false → a && b ≡ false
and_false true e = e
and_false false e = refl

module _ (f : ℕ → Bool) where
  every_all : (l : List ℕ) → ((k d : ℕ) → k < length l → f (get_or l k d) ≡ true) → every f l ≡ true
  every_all [] h = refl
  every_all (x ∷ l) h =
      let first : f x ≡ true = h 0 0 (omega arith) in
      rw first (every_all l (λ k d below. h (suc k) d (omega arith)))

  every_not : (l : List ℕ) (k : ℕ) → k < length l → f (get_or l k 0) ≡ false → every f l ≡ false
  every_not [] k h e = absurd (omega arith)
  every_not (x ∷ l) zero h e = rw e
  every_not (x ∷ l) (suc k) h e = and_false (f x) (every_not l k (omega arith) e)

  pub every_by : (l : List ℕ) (r : Bool)
      → MatchBool r (AllWithin (λ x. f x ≡ true) l 0 (length l)) ((k : ℕ) × (k < length l) × HoldsAt (λ x. f x ≡ false) l k)
      → r ≡ every f l
  every_by l true h = rw (every_all l (λ k d below. h k d (omega arith) below))
  every_by l false h = rw (every_not l h.0 h.1 (h.2 0))

-- where all do, each does
pub every_at : (f : ℕ → Bool) → f 0 ≡ true → (l : List ℕ) → every f l ≡ true → (i : ℕ) → f (get_or l i 0) ≡ true
every_at f z [] h i = z
every_at f z (x ∷ l) h zero = (both_true (f x) (every f l) h).0
every_at f z (x ∷ l) h (suc i) = every_at f z l (both_true (f x) (every f l) h).1 i
