-- A run: steps with a budget, over any state and any step. The single-cycle machine's step is an
-- instruction, the multicycle machine's a clock cycle.
use Rattle.std.specs.Prelude.{ℕ, zero, suc, ◌+◌, Bool}
use Rattle.terms.specs.Answers.{Answer, fold, pick}
use Rattle.terms.specs.Refusals.{Consent, Ended, spent, stopped}

-- "the run returns the state and counts reached": how it ended, the state, the steps done and the instructions done
pub record Ran (S : Type 0) : Type 0 where
  pub outcome : Ended
  pub state : S
  pub steps : ℕ
  pub instructions : ℕ

abbrev pub ran : {S : Type 0} → Ended → S → ℕ → ℕ → Ran S
ran outcome state steps instructions =
    record { outcome = outcome; state = state; steps = steps; instructions = instructions }

-- counts reached before, added to what a run counts
abbrev pub onto : {S : Type 0} → ℕ → ℕ → Ran S → Ran S
onto steps instructions r = ran r.outcome r.state (steps + r.steps) (instructions + r.instructions)

-- one where an instruction ended
abbrev pub one_if : Bool → ℕ
one_if ended = pick ended 1 0

-- with so many steps left: "a refused cycle or instruction changes nothing and is not counted"
unfoldable pub running : {S : Type 0} → (S → Answer S) → (S → Bool) → ℕ → S → Ran S
running step ends zero s = ran spent s 0 0
running step ends (suc left) s =
    fold (λ after. onto 1 (one_if (ends after)) (running step ends left after)) (λ r. ran (stopped r) s 0 0) (step s)

-- "Refusals before a run return the given state and zeros and leave the image untouched."
abbrev pub unless : {S : Type 0} → Consent → S → Ran S → Ran S
unless asked s run = fold (λ _. run) (λ r. ran (stopped r) s 0 0) asked
