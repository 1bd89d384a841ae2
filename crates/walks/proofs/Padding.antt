-- The states of a walk in sixteen places: one more put before them, and looking one up.
-- Assumes nothing.
use mathlib.Core.Bool.{Bool, true, false, ◌||◌}
use mathlib.Core.List.{List, [], ◌∷◌, ◌++◌}
use mathlib.Core.Path.{◌≡◌, refl, ap, sym, ◌∙◌}
use Prim.Native.Nat.{ℕ, zero, suc, ◌+◌, ◌≤◌, ◌<◌}
use native.Mathlib.Nat.{add-zero, add-suc, suc-add, zero-add, le_of_suc-le-suc, not-suc-le-zero}
use native.Mathlib.Omega.{arith}
use lib.Dec.{eqb}
use lib.ListN.{length, take, replicate, get_or}
use borrow.Author.Tests.{eq-eqb, ne_eqb, eqb-true, eqb-false}
use Rattle.std.specs.List.{list_any}
use Rattle.terms.specs.Tables.{among}
use Rattle.terms.specs.Tables.{table_from}
use Rattle.walks.specs.Walk.{padded}

take_take : (n : ℕ) (l : List ℕ) → take n (take (suc n) l) ≡ take n l
take_take zero l = refl
take_take (suc n) [] = refl
take_take (suc n) (x ∷ l) = ap (λ t. x ∷ t) (take_take n l)

pub put_before : (state : ℕ) (states : List ℕ) → state ∷ take 15 (padded states) ≡ padded (state ∷ states)
put_before state states = ap (λ l. state ∷ l) (take_take 15 (states ++ replicate 16 255))

-- the first elements of a list are those at its first places
take_from : (n i : ℕ) (l : List ℕ) (f : ℕ → ℕ) → n ≤ length l → ((k : ℕ) → get_or l k 0 ≡ f (i + k)) → take n l ≡ table_from i n f
take_from zero i l f h e = refl
take_from (suc n) i [] f h e = absurd (not-suc-le-zero h)
take_from (suc n) i (x ∷ l) f h e =
    let first : x ≡ f i = e 0 ∙ ap f (add-zero i) in
    rw (first, take_from n (suc i) l f (le_of_suc-le-suc h) (λ k. e (suc k) ∙ ap f (add-suc i k ∙ sym (suc-add i k))))

pub take_table : (n : ℕ) (l : List ℕ) → n ≤ length l → take n l ≡ table_from 0 n (λ k. get_or l k 0)
take_table n l h = take_from n 0 l (λ k. get_or l k 0) h (λ k. ap (λ j. get_or l j 0) (sym (zero-add k)))

eqb_swap : (a b : ℕ) → eqb a b ≡ eqb b a
eqb_swap a b = by (eqb a b) refl
  where
    by : (t : Bool) → eqb a b ≡ t → eqb a b ≡ eqb b a
    by true e = e ∙ sym (eq-eqb b a (sym (eqb-true a b e)))
    by false e = e ∙ sym (ne_eqb b a (λ p. eqb-false a b e (sym p)))

-- looking through a list for a number finds it where it is among them
pub among_any : (state : ℕ) (l : List ℕ) → list_any (λ m. eqb m state) l ≡ among state l
unfolding among
among_any state [] = refl
among_any state (m ∷ l) = rw (eqb_swap m state, among_any state l)

-- a state below 255 is among the states where it is among the sixteen places
module _ (state : ℕ) (small : state < 255) where
  none_in_rest : (n m : ℕ) → among state (take n (replicate m 255)) ≡ false
  unfolding among
  none_in_rest zero m = refl
  none_in_rest (suc n) zero = refl
  none_in_rest (suc n) (suc m) = rw (ne_eqb state 255 (λ e. omega arith)) (none_in_rest n m)

  in_places : (n m : ℕ) (l : List ℕ) → length l ≤ n → among state (take n (l ++ replicate m 255)) ≡ among state l
  unfolding among
  in_places n m [] h = none_in_rest n m
  in_places zero m (x ∷ l) h = absurd (not-suc-le-zero h)
  in_places (suc n) m (x ∷ l) h = ap (λ b. eqb state x || b) (in_places n m l (le_of_suc-le-suc h))

  pub among_padded : (l : List ℕ) → length l ≤ 16 → among state (padded l) ≡ among state l
  among_padded l h = in_places 16 16 l h
