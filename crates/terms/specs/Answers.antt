-- What an entry answers, in the paper's terms: a value, or a "no" by its number and values.
use Rattle.std.specs.Prelude.{◌≡◌, ℕ, Bool, true, false, List, []}

-- "Numbers for no": the number in the table, and the values that it comes with
pub record No : Type 0 where
  pub number : ℕ
  pub values : List ℕ

-- a "no" that is its number alone
abbrev pub no : ℕ → No
no n = record { number = n; values = [] }

pub data Answer (A : Type 0) : Type 0 where
  answered : A → Answer A
  refused : No → Answer A

-- one or the other, by a test
abbrev pub pick {ℓ} : {A : Type ℓ} → Bool → A → A → A
pick true on off = on
pick false on off = off

-- what comes of an answer: f of its value, or g of its refusal
abbrev pub fold {κ} : {A : Type 0} {B : Type κ} → (A → B) → (No → B) → Answer A → B
fold f g (answered a) = f a
fold f g (refused r) = g r

-- a value goes on to what comes next, a refusal is the answer
abbrev pub chain : {A B : Type 0} → Answer A → (A → Answer B) → Answer B
chain (answered a) f = f a
chain (refused r) f = refused r

-- no second answer meets a promise
abbrev pub OneAnswer : {A : Type 0} → (A → Type 0) → Type 0
OneAnswer {A} Promise = (r s : A) → Promise r → Promise s → r ≡ s

-- and no second answer with what it leaves, such as an image
abbrev pub OneWith : {A B : Type 0} → (A → B → Type 0) → Type 0
OneWith {A} {B} Promise = (r s : A) (a b : B) → Promise r a → Promise s b → (r ≡ s) × (a ≡ b)
