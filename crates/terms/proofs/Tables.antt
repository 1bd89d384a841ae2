-- A rule that holds at each entry of a table, or at each number below a bound, from one computation over all of them.
-- Assumes nothing.
use Rattle.std.proofs.Common.{◌≡◌, ℕ, zero, suc, ◌+◌, ◌<◌, Bool, true, false, ◌&&◌, T, List, [], ◌∷◌, length, get_or, sym, refl, ap, ◌∙◌, subst, le_of_suc-le-suc, not-suc-le-zero, add-zero, add-suc, suc-add, zero-add, ne_eqb}
use Rattle.terms.specs.Tables.{choose, table_from, all_from}

-- a number that was held against each number of a table, as a `match` leaves it where no arm was taken
abbrev pub Missed : {A : Type 0} → Type 0 → List (ℕ × A) → ℕ → Type 0
Missed X [] n = X
Missed X (row ∷ table) n = Missed (X × (n ≡ row.0 → ⊥)) table n

held : {A : Type 0} (X : Type 0) (table : List (ℕ × A)) (n : ℕ) → Missed X table n → X
held X [] n m = m
held X (row ∷ table) n m = (held (X × (n ≡ row.0 → ⊥)) table n m).0

-- it chooses the other value
pub miss : {A : Type 0} (X : Type 0) (table : List (ℕ × A)) (other : A) (n : ℕ) → Missed X table n → choose table other n ≡ other
miss X [] other n m = refl
miss X (row ∷ table) other n m =
    rw (ne_eqb n row.0 (held (X × (n ≡ row.0 → ⊥)) table n m).1) (miss (X × (n ≡ row.0 → ⊥)) table other n m)

module _ {A : Type 0} (f : ℕ → A) (d : A) where
  table_from_lem : (n i k : ℕ) → k < n → get_or (table_from i n f) k d ≡ f (i + k)
  table_from_lem zero i k h = absurd (not-suc-le-zero h)
  table_from_lem (suc n) i zero h = ap f (sym (add-zero i))
  table_from_lem (suc n) i (suc k) h = table_from_lem n (suc i) k (le_of_suc-le-suc h) ∙ ap f (suc-add i k ∙ sym (add-suc i k))

  -- an entry of the table of a rule is the rule's value
  pub table_at : (n k : ℕ) → k < n → get_or (table_from 0 n f) k d ≡ f k
  table_at n k h = table_from_lem n 0 k h ∙ ap f (zero-add k)

pub table_length : {A : Type 0} (f : ℕ → A) (n i : ℕ) → length (table_from i n f) ≡ n
table_length f zero i = refl
table_length f (suc n) i = ap suc (table_length f n (suc i))

pub both_left : (a b : Bool) → T (a && b) → T a
both_left true b t = tt
both_left false b t = t

pub both_right : (a b : Bool) → T (a && b) → T b
both_right true b t = t
both_right false b t = absurd t

all_from_lem : (n i : ℕ) (f : ℕ → Bool) → T (all_from i n f) → (k : ℕ) → k < n → T (f (i + k))
all_from_lem zero i f t k h = absurd (not-suc-le-zero h)
all_from_lem (suc n) i f t zero h = subst (λ (m : ℕ). T (f m)) (sym (add-zero i)) (both_left (f i) (all_from (suc i) n f) t)
all_from_lem (suc n) i f t (suc k) h =
    subst (λ (m : ℕ). T (f m)) (suc-add i k ∙ sym (add-suc i k))
    (all_from_lem n (suc i) f (both_right (f i) (all_from (suc i) n f) t) k (le_of_suc-le-suc h))

-- a test that passes over all numbers passes at each
pub all_at : (n : ℕ) (f : ℕ → Bool) → T (all_from 0 n f) → (k : ℕ) → k < n → T (f k)
all_at n f t k h = subst (λ (m : ℕ). T (f m)) (zero-add k) (all_from_lem n 0 f t k h)
