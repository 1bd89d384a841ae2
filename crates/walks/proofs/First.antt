-- The first verdict that does not admit: found number by number, and what it says.
-- Assumes nothing.
use mathlib.Core.Bool.{Bool, true, false}
use Rattle.std.specs.Result.{result_and}
use Rattle.std.specs.Prelude.{Result, Ok, Err, Option, Some, None}
use Rattle.std.specs.Option.{option_or}
use Rattle.walks.specs.Following.{breach_as}
use Rattle.walks.specs.declared.breaches.Breach.{Breach}
use mathlib.Core.Path.{◌≡◌, refl, ap, sym, ◌∙◌}
use Prim.Native.Nat.{ℕ, suc, ◌+◌, ◌-◌, ◌≤◌, ◌<◌}
use native.Mathlib.Numerals.{add-one}
use native.Mathlib.Omega.{arith}
use Rattle.microcode.specs.Stores.{in_range}
use Rattle.microcode.specs.declared.stores.Store.{Store}
use Rattle.terms.proofs.Answers.{chain_assoc}
use Rattle.terms.specs.Answers.{no, answered, refused, pick, chain}
use Rattle.terms.specs.Refusals.{Consent, yes, reply_of}
use Rattle.terms.specs.declared.refusals.Refusal.{Refusal}
use Rattle.walks.specs.Checking.{Verdict, range, admitted, breach, consent_of, or_else, first_from, verdict_on, checking, Checks}

pub or_assoc : (a b c : Verdict) → or_else (or_else a b) c ≡ or_else a (or_else b c)
or_assoc range b c = refl
or_assoc admitted b c = refl
or_assoc (breach opcode state rule) b c = refl

pub or_admitted : (a : Verdict) → or_else a admitted ≡ a
or_admitted range = refl
or_admitted admitted = refl
or_admitted (breach opcode state rule) = refl

-- the first of two breaches
pub breach_or : (opcode : ℕ) (a b : Option Breach) → breach_as opcode (option_or a b) ≡ or_else (breach_as opcode a) (breach_as opcode b)
breach_or opcode (Some a) b = refl
breach_or opcode None b = refl

-- as replies
consent_or : (a b : Verdict) → consent_of (or_else a b) ≡ chain (consent_of a) (λ _. consent_of b)
consent_or range b = refl
consent_or admitted b = refl
consent_or (breach opcode state rule) b = refl

-- the first of two refusals
pub reply_and : (a b : Result (Unit {0}) Refusal) → reply_of (result_and a b) ≡ chain (reply_of a) (λ _. reply_of b)
reply_and (Ok v) b = refl
reply_and (Err r) b = refl

chain_yes : (c : Consent) → chain c (λ _. yes) ≡ c
chain_yes (answered a) = refl
chain_yes (refused r) = refl

-- one number more is tried, or none is left
module _ (f : ℕ → Verdict) (last i : ℕ) (found : Consent) where
  pub try_more : i < last → {later : Consent} → later ≡ chain found (λ _. consent_of (f i)) → chain later (λ _. consent_of (first_from (i + 1) (last - (i + 1)) f)) ≡ chain found (λ _. consent_of (first_from i (last - i) f))
  unfolding first_from
  try_more h e =
      let n : last - i ≡ suc (last - (i + 1)) = omega arith in
      rw (e, n, add-one i, chain_assoc found (λ _. consent_of (f i)) (λ _. consent_of (first_from (suc i) (last - suc i) f)))
      (ap (λ c. chain found (λ _. c)) (sym (consent_or (f i) (first_from (suc i) (last - suc i) f))))

  pub try_end : last ≤ i → chain found (λ _. consent_of (first_from i (last - i) f)) ≡ found
  unfolding first_from
  try_end h = let n : last - i ≡ 0 = omega arith in rw n (chain_yes found)

-- 12 comes before 13
pub check_reply : (s : Store) (ranged walked r : Result (Unit {0}) Refusal) → reply_of ranged ≡ pick (in_range s) yes (refused (no 12)) → reply_of walked ≡ consent_of (first_from 0 64 (verdict_on s)) → reply_of r ≡ chain (reply_of ranged) (λ _. reply_of walked) → Checks s r
unfolding checking
check_reply s ranged walked r e f g = g ∙ rw (e, f) (by (in_range s))
  where
    by : (b : Bool) → chain (pick b yes (refused (no 12))) (λ _. consent_of (first_from 0 64 (verdict_on s))) ≡ consent_of (pick b (first_from 0 64 (verdict_on s)) range)
    by true = refl
    by false = refl
