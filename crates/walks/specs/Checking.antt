-- "Check: 12, 13." "The breach named is the lowest opcode's, first state on its walk, lowest rule there."
use Rattle.std.specs.Prelude.{Bool, true, false, ◌||◌, List, [], ◌∷◌, ◌≡◌, ℕ, zero, suc, slice_index_or, Result}
use Rattle.microcode.specs.Sequencing.{word_of}
use Rattle.microcode.specs.Stores.{in_range}
use Rattle.microcode.specs.declared.stores.Store.{Store}
use Rattle.terms.specs.Answers.{no, refused, pick}
use Rattle.terms.specs.Refusals.{Consent, yes, reply_of}
use Rattle.terms.specs.declared.refusals.Refusal.{Refusal}
use Rattle.rules.specs.Rules.{writes, rules}
use Rattle.walks.specs.Walk.{Visit, walk_of, on_walk}
use Rattle.walks.specs.declared.checks.Surveyed.{Surveyed}

-- what a check says of a store: a word or an entry out of range; admitted; or the breach of a rule
pub data Verdict : Type 0 where
  range : Verdict
  admitted : Verdict
  breach : (opcode state rule : ℕ) → Verdict

-- 12; yes; 13 with opcode, state and rule
abbrev pub consent_of : Verdict → Consent
consent_of range = refused (no 12)
consent_of admitted = yes
consent_of (breach opcode state rule) =
    refused (record { number = 13; values = opcode ∷ state ∷ rule ∷ [] })

-- the first of two that does not admit
abbrev pub or_else : Verdict → Verdict → Verdict
or_else range later = range
or_else admitted later = later
or_else (breach opcode state rule) later = breach opcode state rule

-- and of those of so many numbers, from one on
unfoldable pub first_from : ℕ → ℕ → (ℕ → Verdict) → Verdict
first_from i zero f = admitted
first_from i (suc n) f = or_else (f i) (first_from (suc i) n f)

-- whether a rule is among those kept, by its number
abbrev pub kept : List Bool → ℕ → Bool
kept rules rule = slice_index_or (true ∷ rules) rule true

-- "lowest rule there"
abbrev pub lowest : ℕ → ℕ → List Bool → Verdict
lowest opcode state rules = first_from 1 6 (λ rule. pick (kept rules rule) admitted (breach opcode state rule))

-- the six rules at a state on a walk; `written` says whether a state before it writes
abbrev pub rules_at : Store → Bool → Visit → List Bool
rules_at s written v = rules v.state (word_of s.words v.state) written v.exit

abbrev pub verdict_at : Store → ℕ → Bool → Visit → Verdict
verdict_at s opcode written v = lowest opcode v.state (rules_at s written v)

-- "first state on its walk"
unfoldable pub verdict_in : Store → ℕ → Bool → List Visit → Verdict
verdict_in s opcode written [] = admitted
verdict_in s opcode written (v ∷ walk) =
    or_else (verdict_at s opcode written v)
    (verdict_in s opcode (written || writes (word_of s.words v.state)) walk)

abbrev pub verdict_on : Store → ℕ → Verdict
verdict_on s opcode = verdict_in s opcode false (walk_of s opcode)

-- "the lowest opcode's"; 12 comes before 13
unfoldable pub checking : Store → Verdict
checking s = pick (in_range s) (first_from 0 64 (verdict_on s)) range

-- what `check` promises
abbrev pub Checks : Store → Result (Unit {0}) Refusal → Type 0
Checks s r = reply_of r ≡ consent_of (checking s)

-- what `survey` promises: the check's reply, and whether a state is on the walk of an opcode
pub record Surveys (s : Store) (opcode state : ℕ) (r : Surveyed) : Type 0 where
  pub reply : Checks s r.reply
  pub met : r.met ≡ on_walk s opcode state
