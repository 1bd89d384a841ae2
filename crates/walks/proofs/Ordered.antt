-- The first verdict that does not admit, of those of so many numbers from one on: none refuses, or the first that does stands after others
-- that do not.
-- Assumes nothing.
use mathlib.Core.Logic.{◌⊎◌, inl, inr}
use mathlib.Core.Path.{◌≡◌, refl, ap, sym, ◌∙◌}
use Prim.Native.Nat.{ℕ, zero, suc, ◌+◌, ◌≤◌, ◌<◌}
use native.Mathlib.Omega.{arith}
use Rattle.terms.proofs.Answers.{order}
use Rattle.walks.specs.Checking.{Verdict, range, admitted, breach, or_else, first_from}

-- of two
pub both_admit : (a b : Verdict) → or_else a b ≡ admitted → (a ≡ admitted) × (b ≡ admitted)
both_admit range b h = absurd (let z : ◌≡◌ {A = ℕ} 0 1 = cc in omega arith)
both_admit admitted b h = (refl, h)
both_admit (breach o t r) b h = absurd (let z : ◌≡◌ {A = ℕ} 0 1 = cc in omega arith)

-- the first of two is a breach: it is the one, or the one admits and it is the other
pub one_breaks : (a b : Verdict) {o t r : ℕ} → or_else a b ≡ breach o t r → (a ≡ breach o t r) ⊎ ((a ≡ admitted) × (b ≡ breach o t r))
one_breaks range b h = absurd (let z : ◌≡◌ {A = ℕ} 0 1 = cc in omega arith)
one_breaks admitted b h = inr (refl, h)
one_breaks (breach p u q) b h = inl h

module _ (f : ℕ → Verdict) where
  pub each_admits : (i n : ℕ) → first_from i n f ≡ admitted → (k : ℕ) → i ≤ k → k < i + n → f k ≡ admitted
  unfolding first_from
  each_admits i zero h k a b = absurd (omega arith)
  each_admits i (suc n) h k a b = by (both_admit (f i) (first_from (suc i) n f) h) (each_admits (suc i) n) (order i k)
    where
      by : (f i ≡ admitted) × (first_from (suc i) n f ≡ admitted) → (first_from (suc i) n f ≡ admitted → (j : ℕ) → suc i ≤ j → j < suc i + n → f j ≡ admitted) → (i < k) ⊎ ((i ≡ k) ⊎ (k < i)) → f k ≡ admitted
      by p more (inl g) = more p.1 k g (omega arith)
      by p more (inr (inl e)) = ap f (sym e) ∙ p.0
      by p more (inr (inr g)) = absurd (omega arith)

  pub all_admit : (i n : ℕ) → ((k : ℕ) → i ≤ k → k < i + n → f k ≡ admitted) → first_from i n f ≡ admitted
  unfolding first_from
  all_admit i zero h = refl
  all_admit i (suc n) h = rw (h i (omega arith) (omega arith)) (all_admit (suc i) n (λ k a b. h k (omega arith) (omega arith)))

  pub record Found (i n o t r : ℕ) : Type 0 where
    pub at : ℕ
    pub from : i ≤ at
    pub below : at < i + n
    pub lower : (k : ℕ) → i ≤ k → k < at → f k ≡ admitted
    pub found : f at ≡ breach o t r

  pub first_found : (i n : ℕ) {o t r : ℕ} → first_from i n f ≡ breach o t r → Found i n o t r
  unfolding first_from
  first_found i zero h = absurd (let z : ◌≡◌ {A = ℕ} 0 1 = cc in omega arith)
  first_found i (suc n) {o} {t} {r} h = by (one_breaks (f i) (first_from (suc i) n f) h) (first_found (suc i) n)
    where
      by : (f i ≡ breach o t r) ⊎ ((f i ≡ admitted) × (first_from (suc i) n f ≡ breach o t r)) → (first_from (suc i) n f ≡ breach o t r → Found (suc i) n o t r) → Found i (suc n) o t r
      by (inl e) more =
          record { at = i; from = omega arith; below = omega arith; lower = λ k a b. absurd (omega arith); found = e }
      by (inr e) more =
          let g = more e.1 in
          let a : suc i ≤ g.at = g.from in
          let b : g.at < suc i + n = g.below in
          record {
            at = g.at;
            from = omega arith;
            below = omega arith;
            lower = λ k c d. lower g e.0 k d (order i k) c;
            found = g.found;
          }
        where
          lower : (g : Found (suc i) n o t r) → f i ≡ admitted → (k : ℕ) → k < g.at → (i < k) ⊎ ((i ≡ k) ⊎ (k < i)) → i ≤ k → f k ≡ admitted
          lower g z k d (inl q) c = g.lower k q d
          lower g z k d (inr (inl q)) c = ap f (sym q) ∙ z
          lower g z k d (inr (inr q)) c = absurd (omega arith)

  pub found_first : (i n k : ℕ) {o t r : ℕ} → i ≤ k → k < i + n → ((j : ℕ) → i ≤ j → j < k → f j ≡ admitted) → f k ≡ breach o t r → first_from i n f ≡ breach o t r
  unfolding first_from
  found_first i zero k a b lower e = absurd (omega arith)
  found_first i (suc n) k {o} {t} {r} a b lower e = by (order i k) (λ a b lower. found_first (suc i) n k a b lower e)
    where
      by : (i < k) ⊎ ((i ≡ k) ⊎ (k < i)) → (suc i ≤ k → k < suc i + n → ((j : ℕ) → suc i ≤ j → j < k → f j ≡ admitted) → first_from (suc i) n f ≡ breach o t r) → or_else (f i) (first_from (suc i) n f) ≡ breach o t r
      by (inl g) more = rw (lower i (omega arith) g) (more g (omega arith) (λ j c d. lower j (omega arith) d))
      by (inr (inl g)) more = rw (g, e)
      by (inr (inr g)) more = absurd (omega arith)
