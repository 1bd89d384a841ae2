-- A label, read as its first eight letters and the others.
-- Assumes nothing.
use mathlib.Core.Bool.{Bool, true, false, ◌&&◌}
use mathlib.Core.List.{List, [], ◌∷◌}
use mathlib.Core.Logic.{◌⊎◌, inl, inr}
use mathlib.Core.Path.{◌≡◌, refl, ap, sym, ◌∙◌}
use Prim.Native.Nat.{ℕ, zero, suc, ◌≤◌}
use native.Mathlib.Omega.{arith}
use lib.Dec.{ltb}
use lib.ListN.{length, take, drop}
use borrow.Author.Tests.{le-leb, lt-leb}
use Rattle.std.specs.Prelude.{min}
use Rattle.std.specs.Ordering.{ord_min, nat_cmp}
use Rattle.std.proofs.lemmas.Grind.{common_steps}
use Rattle.std.proofs.lemmas.List.{take_min, drop_min}
use Rattle.std.proofs.Math.Bool.{and_assoc}
use Rattle.terms.specs.Answers.{answered, pick}
use Rattle.terms.proofs.Answers.{picked, value_of, never}
use Rattle.operands.specs.Operands.{unreadable, digit, all_digits, value, number, is_label, spelled, label}
use Rattle.operands.specs.declared.numbers.Digits.TheVariants.{Letters}
use Rattle.operands.specs.declared.numbers.Digits.{Digits}

-- all are digits, if those before a place and those after it are
all_split : (kind : Digits) (k : ℕ) (l : List ℕ) → all_digits kind l ≡ (all_digits kind (take k l) && all_digits kind (drop k l))
all_split kind zero l = refl
all_split kind (suc k) [] = refl
all_split kind (suc k) (byte ∷ l) =
    ap (λ b. ltb (digit kind byte) 256 && b) (all_split kind k l)
    ∙ sym (and_assoc (ltb (digit kind byte) 256) (all_digits kind (take k l)) (all_digits kind (drop k l)))

pub number_good : (kind : Digits) (l : List ℕ) {v : ℕ} → number kind l ≡ answered v → (all_digits kind l ≡ true) × (value kind l ≡ v)
unfolding number
number_good kind l {v} e = by (picked (all_digits kind l) e)
  where
    by : ((all_digits kind l ≡ true) × (answered (value kind l) ≡ answered v)) ⊎ ((all_digits kind l ≡ false) × (unreadable ≡ answered v)) → (all_digits kind l ≡ true) × (value kind l ≡ v)
    by (inl h) = (h.0, value_of h.1)
    by (inr h) = never h.1

pub number_bad : (kind : Digits) (l : List ℕ) → number kind l ≡ unreadable → all_digits kind l ≡ false
unfolding number
number_bad kind l e = by (picked (all_digits kind l) e)
  where
    by : ((all_digits kind l ≡ true) × (answered (value kind l) ≡ unreadable)) ⊎ ((all_digits kind l ≡ false) × (unreadable {A = ℕ} ≡ unreadable)) → all_digits kind l ≡ false
    by (inl h) = never (sym h.1)
    by (inr h) = h.0

lesser : (n : ℕ) → ord_min nat_cmp 8 n ≡ min 8 n
lesser n = grind (arith, common_steps)

-- the lesser of 8 and a length is as good as 8
module _ (part : List ℕ) {cut : ℕ} {text : List ℕ} (e : cut ≡ ord_min nat_cmp 8 (length part)) where
  pub cut_front : text ≡ take cut part → text ≡ take 8 part
  cut_front t = t ∙ ap (λ n. take n part) (e ∙ lesser (length part)) ∙ take_min 8 part

  pub cut_back : text ≡ drop cut part → text ≡ drop 8 part
  cut_back t = t ∙ ap (λ n. drop n part) (e ∙ lesser (length part)) ∙ drop_min 8 part

-- too short, or too long
pub label_none : (part : List ℕ) → length part ≡ 0 → label part ≡ unreadable
unfolding label is_label
label_none part h = rw (lt-leb 1 (length part) (omega arith))

pub label_long : (part : List ℕ) → suc 16 ≤ length part → label part ≡ unreadable
unfolding label is_label
label_long part h = rw (le-leb 1 (length part) (omega arith), lt-leb (length part) 16 h)

module _ (part : List ℕ) (some : 1 ≤ length part) (few : length part ≤ 16) where
  by_letters : (b : Bool) → all_digits Letters part ≡ b → label part ≡ pick b (answered (spelled part)) unreadable
  unfolding label is_label
  by_letters b e = rw (le-leb 1 (length part) some, le-leb (length part) 16 few, e)

  pub label_front : number Letters (take 8 part) ≡ unreadable → label part ≡ unreadable
  label_front e = by_letters false (all_split Letters 8 part ∙ ap (λ b. b && all_digits Letters (drop 8 part)) (number_bad Letters (take 8 part) e))

  pub label_back : {h : ℕ} → number Letters (take 8 part) ≡ answered h → number Letters (drop 8 part) ≡ unreadable → label part ≡ unreadable
  label_back e g =
      by_letters false
      (all_split Letters 8 part
      ∙ ap (λ b. b && all_digits Letters (drop 8 part)) (number_good Letters (take 8 part) e).0
      ∙ number_bad Letters (drop 8 part) g)

  pub label_good : {h l : ℕ} → number Letters (take 8 part) ≡ answered h → number Letters (drop 8 part) ≡ answered l → label part ≡ answered (record { high = h; low = l })
  label_good {h} e g =
      by_letters true
      (all_split Letters 8 part
      ∙ ap (λ b. b && all_digits Letters (drop 8 part)) (number_good Letters (take 8 part) e).0
      ∙ (number_good Letters (drop 8 part) g).0)
      ∙ ap (λ n. answered (record { high = n; low = value Letters (drop 8 part) })) (number_good Letters (take 8 part) e).1
      ∙ ap (λ n. answered (record { high = h; low = n })) (number_good Letters (drop 8 part) g).1
