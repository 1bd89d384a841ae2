-- "Numbers for no", and how a run ends.
use Rattle.std.specs.Prelude.{ℕ, [], ◌∷◌, Result, Ok, Err}
use Rattle.terms.specs.Answers.{No, no, Answer, answered, refused}
use Rattle.terms.specs.declared.refusals.AccessKind.TheVariants.{Fetch, Load, Store, Loader}
use Rattle.terms.specs.declared.refusals.AccessKind.{AccessKind}
use Rattle.terms.specs.declared.refusals.Outcome.TheVariants as Outcome'
use Rattle.terms.specs.declared.refusals.Outcome.{Outcome}
use Rattle.terms.specs.declared.refusals.Refusal.TheVariants as Refusal'
use Rattle.terms.specs.declared.refusals.Refusal.{Refusal}

-- "whether it was a fetch, a load or a store", and "a fourth kind" for the loader
abbrev pub kind_number : AccessKind → ℕ
kind_number Fetch = 0
kind_number Load = 1
kind_number Store = 2
kind_number Loader = 3

-- the "no" of a memory access: its number, and after it the byte address and the kind of access
abbrev pub no_at : ℕ → ℕ → AccessKind → No
no_at n address kind = record { number = n; values = address ∷ kind_number kind ∷ [] }

-- each refusal's number in the table; after 1 and 2 the byte address and the kind, after 13 the opcode, the state and
-- the rule
abbrev pub refusal_of : Refusal → No
refusal_of (Refusal'.Misaligned address kind) = no_at 1 address.0 kind
refusal_of (Refusal'.Outside address kind) = no_at 2 address.0 kind
refusal_of Refusal'.NoEntry = no 3
refusal_of Refusal'.UnknownFunction = no 4
refusal_of Refusal'.StartState = no 5
refusal_of Refusal'.ImageSize = no 6
refusal_of Refusal'.Budget = no 7
refusal_of Refusal'.FieldTooLarge = no 8
refusal_of Refusal'.FileSize = no 9
refusal_of Refusal'.FileMark = no 10
refusal_of Refusal'.FileVersion = no 11
refusal_of Refusal'.StoreRange = no 12
refusal_of (Refusal'.WalkRule opcode state rule) = record { number = 13; values = opcode ∷ state ∷ rule ∷ [] }
refusal_of Refusal'.NoInstructions = no 14

abbrev pub number_of : Refusal → ℕ
number_of r = (refusal_of r).number

-- yes, or a refusal
abbrev pub Consent : Type 0
Consent = Answer (Unit {0})

abbrev pub yes : Consent
yes = answered tt

-- what the code's `Result` says: a value, or a refusal
abbrev pub answer_of : {A : Type 0} → Result A Refusal → Answer A
answer_of (Ok a) = answered a
answer_of (Err r) = refused (refusal_of r)

abbrev pub reply_of : Result (Unit {0}) Refusal → Consent
reply_of r = answer_of r

-- "A run's outcome is 'spent' or 'stopped', the latter holding its refusal."
pub data Ended : Type 0 where
  spent : Ended
  stopped : No → Ended

abbrev pub outcome_of : Outcome → Ended
outcome_of Outcome'.Spent = spent
outcome_of (Outcome'.Stopped r) = stopped (refusal_of r)

-- as `bench` prints it: "refusal (0 if spent)"
abbrev pub end_number : Ended → ℕ
end_number spent = 0
end_number (stopped r) = r.number
