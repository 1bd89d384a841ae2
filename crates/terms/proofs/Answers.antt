-- Laws of answers and of choices.
-- Assumes nothing.
use Rattle.std.proofs.Common.{◌≡◌, ℕ, zero, suc, ◌<◌, Bool, true, false, ◌&&◌, ◌||◌, T, ◌⊎◌, sym, refl, ap, inl, inr, arith}
use mathlib.Core.Bool.{false≢true}
use Rattle.terms.specs.Answers.{No, Answer, answered, refused, pick, chain}

-- equal answers have equal values
pub value_of : {A : Type 0} {a b : A} → answered a ≡ answered b → a ≡ b
value_of e = cc

-- and equal refusals
pub refusal_of_lem : {A : Type 0} {r q : No} → ◌≡◌ {A = Answer A} (refused r) (refused q) → r ≡ q
refusal_of_lem e = cc

-- no refusal is a value
pub never : {A B : Type 0} {r : No} {a : A} → refused r ≡ answered a → B
never e = let z : ◌≡◌ {A = ℕ} 0 1 = cc in absurd (omega arith)

-- how a choice came out
pub picked {ℓ} : {A : Type ℓ} (b : Bool) {x y z : A} → pick b x y ≡ z → ((b ≡ true) × (x ≡ z)) ⊎ ((b ≡ false) × (y ≡ z))
picked true e = inl (refl, e)
picked false e = inr (refl, e)

-- what is done to a choice is done to both
pub push {ℓ κ} : {A : Type ℓ} {B : Type κ} (f : A → B) (b : Bool) (x y : A) → f (pick b x y) ≡ pick b (f x) (f y)
push f true x y = refl
push f false x y = refl

pub chain_assoc : {A B C : Type 0} (a : Answer A) (f : A → Answer B) (g : B → Answer C) → chain (chain a f) g ≡ chain a (λ x. chain (f x) g)
chain_assoc (answered a) f g = refl
chain_assoc (refused r) f g = refl

-- a chain that answers has answered on the way
pub chained : {A B : Type 0} (a : Answer A) (f : A → Answer B) {b : B} → chain a f ≡ answered b → (x : A) × (a ≡ answered x) × (f x ≡ answered b)
chained (answered a) f e = (a, refl, e)
chained (refused r) f e = never e

-- a truth value is one of two
pub truth : (b : Bool) → (b ≡ true) ⊎ (b ≡ false)
truth true = inl refl
truth false = inr refl

-- both tests of a pair hold
pub both_true : (a b : Bool) → a && b ≡ true → (a ≡ true) × (b ≡ true)
both_true true b h = (refl, h)
both_true false b h = absurd (false≢true h)

-- neither test of a pair holds
pub or_false_left : (a b : Bool) → a || b ≡ false → a ≡ false
or_false_left true b h = absurd (false≢true (sym h))
or_false_left false b h = refl

pub or_false_right : (a b : Bool) → a || b ≡ false → b ≡ false
or_false_right true b h = absurd (false≢true (sym h))
or_false_right false b h = h

pub T_true : (b : Bool) → T b → b ≡ true
T_true true t = refl
T_true false t = absurd t

-- numbers in order
pub order : (m n : ℕ) → (m < n) ⊎ ((m ≡ n) ⊎ (n < m))
order zero zero = inr (inl refl)
order zero (suc n) = inl (omega arith)
order (suc m) zero = inr (inr (omega arith))
order (suc m) (suc n) = by (order m n)
  where
    by : (m < n) ⊎ ((m ≡ n) ⊎ (n < m)) → (suc m < suc n) ⊎ ((suc m ≡ suc n) ⊎ (suc n < suc m))
    by (inl h) = inl (omega arith)
    by (inr (inl e)) = inr (inl (ap suc e))
    by (inr (inr h)) = inr (inr (omega arith))
