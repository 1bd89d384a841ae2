-- No second answer meets a promise: a reading that can be undone is one-to-one.
-- Assumes nothing.
use Rattle.std.proofs.Common.{◌≡◌, ℕ, eqb, List, [], ◌∷◌, get_or, Result, Ok, Err, sym, refl, ap, ◌∙◌}
use Rattle.terms.specs.Answers.{No, Answer, answered, refused, pick, OneAnswer}
use Rattle.terms.specs.Averages.{Averages}
use Rattle.terms.specs.Refusals.{kind_number, refusal_of, Consent, answer_of, reply_of, Ended, spent, stopped, outcome_of}
use Rattle.terms.specs.declared.counts.ByteAddress.{ByteAddress}
use Rattle.terms.specs.declared.counts.Cycles.{Cycles}
use Rattle.terms.specs.declared.counts.Instructions.{Instructions}
use Rattle.terms.specs.declared.counts.WordIndex.{WordIndex}
use Rattle.terms.specs.declared.refusals.AccessKind.TheVariants.{Fetch, Load, Store, Loader}
use Rattle.terms.specs.declared.refusals.AccessKind.{AccessKind}
use Rattle.terms.specs.declared.refusals.Outcome.TheVariants.{Spent, Stopped}
use Rattle.terms.specs.declared.refusals.Outcome.{Outcome}
use Rattle.terms.specs.declared.refusals.Refusal.TheVariants.{Misaligned, Outside, NoEntry, UnknownFunction, StartState, ImageSize, Budget, FieldTooLarge, FileSize, FileMark, FileVersion, StoreRange, WalkRule, NoInstructions}
use Rattle.terms.specs.declared.refusals.Refusal.{Refusal}

-- a promise `r ≡ x`
pub one_value {ℓ} : {A : Type ℓ} {x r s : A} → r ≡ x → s ≡ x → r ≡ s
one_value p q = p ∙ sym q

-- a promise `read r ≡ x`, where the reading can be undone
pub one_reading {ℓ κ} : {A : Type ℓ} {B : Type κ} (read : A → B) (back : B → A) → ((a : A) → back (read a) ≡ a) → {x : B} (r s : A) → read r ≡ x → read s ≡ x → r ≡ s
one_reading read back undone r s p q = sym (undone r) ∙ ap back (one_value p q) ∙ undone s

-- A kind of access is known by its number.
kind_from : ℕ → AccessKind
kind_from n = get_or (Fetch ∷ Load ∷ Store ∷ Loader ∷ []) n Fetch

kind_undone : (k : AccessKind) → kind_from (kind_number k) ≡ k
unfolding kind_from
kind_undone Fetch = refl
kind_undone Load = refl
kind_undone Store = refl
kind_undone Loader = refl

-- A refusal is known by its number and values.
alone : List Refusal
alone =
    NoEntry ∷ NoEntry ∷ NoEntry ∷ NoEntry ∷ UnknownFunction ∷ StartState ∷ ImageSize ∷ Budget ∷ FieldTooLarge
    ∷ FileSize ∷ FileMark ∷ FileVersion ∷ StoreRange ∷ NoEntry ∷ NoInstructions ∷ []

named : ℕ → List ℕ → Refusal
named n (opcode ∷ state ∷ rule ∷ more) = WalkRule opcode state rule
named n (address ∷ kind ∷ []) =
    pick (eqb n 1) (Misaligned (record { 0 = address }) (kind_from kind)) (Outside (record { 0 = address }) (kind_from kind))
named n (value ∷ []) = NoEntry
named n [] = get_or alone n NoEntry

pub refusal_from : No → Refusal
refusal_from r = named r.number r.values

pub refusal_undone : (r : Refusal) → refusal_from (refusal_of r) ≡ r
unfolding refusal_from named alone
refusal_undone (Misaligned address kind) = ap (Misaligned address) (kind_undone kind)
refusal_undone (Outside address kind) = ap (Outside address) (kind_undone kind)
refusal_undone NoEntry = refl
refusal_undone UnknownFunction = refl
refusal_undone StartState = refl
refusal_undone ImageSize = refl
refusal_undone Budget = refl
refusal_undone FieldTooLarge = refl
refusal_undone FileSize = refl
refusal_undone FileMark = refl
refusal_undone FileVersion = refl
refusal_undone StoreRange = refl
refusal_undone (WalkRule opcode state rule) = refl
refusal_undone NoInstructions = refl

pub refusal_one : {y : No} → OneAnswer (λ r. refusal_of r ≡ y)
refusal_one = one_reading refusal_of refusal_from refusal_undone

-- "A value, or a refusal": of an answer that is made by `some` of a value and by `none` of a refusal, no second meets a promise about what it says.
module _ {X A : Type 0} (read : X → Answer A) (some : A → X) (none : Refusal → X) where
  back : Answer A → X
  back (answered a) = some a
  back (refused r) = none (refusal_from r)

  pub data Made (x : X) : Type 0 where
    of_value : (a : A) → x ≡ some a → read x ≡ answered a → Made x
    of_refusal : (r : Refusal) → x ≡ none r → read x ≡ refused (refusal_of r) → Made x

  undone : (x : X) → Made x → back (read x) ≡ x
  unfolding back
  undone x (of_value a e p) = ap back p ∙ sym e
  undone x (of_refusal r e p) = ap back p ∙ ap none (refusal_undone r) ∙ sym e

  pub one_answer : ((x : X) → Made x) → {y : Answer A} → OneAnswer (λ x. read x ≡ y)
  one_answer made r s p q = one_reading read back (λ x. undone x (made x)) r s p q

-- the four counts, by their numbers
pub cycles_one : {n : ℕ} → OneAnswer (λ (r : Cycles). r.0 ≡ n)
cycles_one = one_reading (λ (k : Cycles). k.0) (λ n. record { 0 = n }) (λ k. refl)

pub instructions_one : {n : ℕ} → OneAnswer (λ (r : Instructions). r.0 ≡ n)
instructions_one = one_reading (λ (k : Instructions). k.0) (λ n. record { 0 = n }) (λ k. refl)

pub byte_address_one : {n : ℕ} → OneAnswer (λ (r : ByteAddress). r.0 ≡ n)
byte_address_one = one_reading (λ (k : ByteAddress). k.0) (λ n. record { 0 = n }) (λ k. refl)

pub word_index_one : {n : ℕ} → OneAnswer (λ (r : WordIndex). r.0 ≡ n)
word_index_one = one_reading (λ (k : WordIndex). k.0) (λ n. record { 0 = n }) (λ k. refl)

-- a `Result` is such an answer, whatever its value
pub result_one : {A : Type 0} {y : Answer A} → OneAnswer (λ (r : Result A Refusal). answer_of r ≡ y)
result_one {A} = one_answer answer_of Ok Err made
  where
    made : (x : Result A Refusal) → Made answer_of Ok Err x
    made (Ok a) = of_value a refl refl
    made (Err r) = of_refusal r refl refl

pub average_one : (cycles instructions : ℕ) → OneAnswer (Averages cycles instructions)
average_one cycles instructions = result_one

pub reply_one : {y : Consent} → OneAnswer (λ r. reply_of r ≡ y)
reply_one = result_one

outcome_from : Ended → Outcome
outcome_from spent = Spent
outcome_from (stopped r) = Stopped (refusal_from r)

outcome_undone : (o : Outcome) → outcome_from (outcome_of o) ≡ o
unfolding outcome_from
outcome_undone Spent = refl
outcome_undone (Stopped r) = ap Stopped (refusal_undone r)

pub outcome_one : {e : Ended} → OneAnswer (λ o. outcome_of o ≡ e)
outcome_one = one_reading outcome_of outcome_from outcome_undone
