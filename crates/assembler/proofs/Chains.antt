-- Chains of numbers that pass a test, and the first of those that pass a narrower one.
-- Assumes nothing.
use Rattle.std.proofs.Common.{◌≡◌, ℕ, zero, suc, ◌+◌, ◌-◌, ◌%◌, ◌<◌, ◌≤◌, Bool, true, false, eqb, ◌⊎◌, List, Some, None, sym, refl, ap, ◌∙◌, inl, inr, zero-le, le_refl, mod-lt, arith, lit<, eq-eqb, eqb-true}
use mathlib.Core.Bool.{false≢true}
use Rattle.std.specs.Prelude.{Option}
use Rattle.terms.specs.Answers.{pick}
use Rattle.terms.proofs.Answers.{truth, both_true}
use Rattle.operands.specs.declared.labels.Label.{Label}
use Rattle.assembler.specs.Labels.{same_label, first_from}
use Rattle.assembler.specs.Chains.{hash_of, last_below, link, entry_at, hashes}
use Rattle.assembler.specs.declared.table.Entry.{Entry}

-- the first from k on, of the numbers below count
abbrev pub from : (ℕ → Bool) → ℕ → ℕ → ℕ
from test count k = first_from test (count - k) k

module _ (test : ℕ → Bool) (count : ℕ) where
  pub from_end : from test count count ≡ count
  unfolding first_from
  from_end = let none : count - count ≡ 0 = omega arith in rw none

  pub from_step : (k : ℕ) → k < count → from test count k ≡ pick (test k) k (from test count (suc k))
  unfolding first_from
  from_step k h = let more : count - k ≡ suc (count - suc k) = omega arith in rw more

module _ (test : ℕ → Bool) where
  by_test : (n : ℕ) (P : ℕ → Type 0) → (test n ≡ true → P (suc n)) → (test n ≡ false → P (last_below test n)) → P (last_below test (suc n))
  unfolding last_below
  by_test n P on off = by (truth (test n))
    where
      by : (test n ≡ true) ⊎ (test n ≡ false) → P (pick (test n) (suc n) (last_below test n))
      by (inl e) = rw e (on e)
      by (inr e) = rw e (off e)

  pub last_within : (n : ℕ) → last_below test n ≤ n
  unfolding last_below
  last_within zero = zero-le
  last_within (suc n) = let more = last_within n in by_test n (λ m. m ≤ suc n) (λ e. le_refl (suc n)) (λ e. omega arith)

  last_here : (n : ℕ) → test n ≡ true → last_below test (suc n) ≡ suc n
  unfolding last_below
  last_here n e = rw e

  -- what ends a chain's part ends its own
  pub last_again : (n : ℕ) → last_below test (last_below test n) ≡ last_below test n
  unfolding last_below
  last_again zero = refl
  last_again (suc n) = let more = last_again n in by_test n (λ m. last_below test m ≡ m) (last_here n) (λ e. more)

  pub last_passes : (n : ℕ) → last_below test (suc n) ≡ suc n → test n ≡ true
  last_passes n = by_test n (λ m. m ≡ suc n → test n ≡ true) (λ e h. e) (λ e h. let w = last_within n in absurd (omega arith))

  -- between two links no number passes a narrower test
  pub skip : (narrow : ℕ → Bool) → ((k : ℕ) → narrow k ≡ true → test k ≡ true) → (count n : ℕ) → n ≤ count → from narrow count (last_below test n) ≡ from narrow count n
  unfolding last_below
  skip narrow only count zero h = refl
  skip narrow only count (suc n) h =
      let more = skip narrow only count n (omega arith) in
      by_test n (λ m. from narrow count m ≡ from narrow count (suc n)) (λ e. refl)
      (λ e. more ∙ from_step narrow count n h ∙ ap (λ b. pick b n (from narrow count (suc n))) (off n e))
    where
      off : (k : ℕ) → test k ≡ false → narrow k ≡ false
      off k e = by (truth (narrow k))
        where
          by : (narrow k ≡ true) ⊎ (narrow k ≡ false) → narrow k ≡ false
          by (inl t) = absurd (false≢true (sym e ∙ only k t))
          by (inr f) = f

pub hash_below : (label : Option Label) → hash_of label < 4096
unfolding hash_of
hash_below None = lit< tt
hash_below (Some label) = let m = mod-lt (label.high % 1000003 + label.low % 999983) {m = 4093} (lit< tt) in omega arith

-- a line with a label is in the label's chain
same_hash : (label : Label) (other : Option Label) → same_label (Some label) other ≡ true → hash_of other ≡ hash_of (Some label)
unfolding hash_of
same_hash label None e = absurd (false≢true e)
same_hash label (Some other) e =
    let two = both_true (eqb label.high other.high) (eqb label.low other.low) e in
    rw (eqb-true label.high other.high two.0, eqb-true label.low other.low two.1) refl

pub same_hashes : (label : Label) (entries : List Entry) (j : ℕ) → same_label (Some label) (entry_at entries j).label ≡ true → hashes entries (hash_of (Some label)) j ≡ true
same_hashes label entries j e = eq-eqb _ _ (same_hash label (entry_at entries j).label e)

-- a link as the number that it stands for
abbrev pub number : Option ℕ → ℕ
number None = 0
number (Some n) = suc n

pub number_link : (n : ℕ) → number (link n) ≡ n
number_link zero = refl
number_link (suc n) = refl
