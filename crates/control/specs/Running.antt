-- The runs of the multicycle machine: under a fixed unit, and under a store.
use Rattle.std.specs.Prelude.{Bool, ◌||◌, List, ◌≡◌, ℕ, length, nat_le, ◌==◌}
use Rattle.datapath.specs.Machines.{MachineState, with_image, fetching}
use Rattle.datapath.specs.declared.machine.Latches.{Latches}
use Rattle.microcode.specs.Sequencing.{store_cycle}
use Rattle.microcode.specs.declared.stores.Store.{Store}
use Rattle.parts.specs.Ready.{asking}
use Rattle.walks.specs.Checking.{checking, consent_of}
use Rattle.walks.specs.Walk.{on_walk}
use Rattle.terms.specs.Answers.{Answer, refused, no, pick, chain, fold}
use Rattle.terms.specs.Counts.{allowed}
use Rattle.terms.specs.Refusals.{Consent, yes, spent, stopped, outcome_of}
use Rattle.terms.specs.Running.{Ran, ran, one_if, running, unless}
use Rattle.words.specs.Fields.{opcode}
use Rattle.control.specs.Units.{unit_cycle}
use Rattle.control.specs.declared.running.MachineRun.{MachineRun}
use Rattle.control.specs.declared.units.Unit.{Unit}

-- "Refusal 5: fixed units take 0 to 9."
abbrev pub unit_has : ℕ → Consent
unit_has state = pick (nat_le state 9) yes (refused (no 5))

-- "Before a run: 6, 7, .. 5."
abbrev pub unit_asks : MachineState → ℕ → Consent
unit_asks m budget =
    chain (asking (length m.image) (allowed budget)) (λ _. unit_has m.latches.state)

-- a run under a unit
unfoldable pub unit_run : Unit → MachineState → ℕ → Ran MachineState
unit_run u m budget = unless (unit_asks m budget) m (running (unit_cycle u) fetching budget m)

-- "a store run takes 0 or a state on the walk of the opcode in IR"
abbrev pub takes : Store → Latches → Bool
takes s l = l.state == 0 || on_walk s (opcode l.ir) l.state

-- 12, 13, 5
abbrev pub start_asks : Store → Latches → Consent
start_asks s l = chain (consent_of (checking s)) (λ _. pick (takes s l) yes (refused (no 5)))

-- "Before a run: 6, 7, 12, 13, 5."
abbrev pub store_asks : Store → MachineState → ℕ → Consent
store_asks s m budget =
    chain (asking (length m.image) (allowed budget)) (λ _. start_asks s m.latches)

-- a run under a store
unfoldable pub store_run : Store → MachineState → ℕ → Ran MachineState
store_run s m budget = unless (store_asks s m budget) m (running (store_cycle s) fetching budget m)

-- what one cycle from m comes to, as a run
abbrev pub one_cycle : Answer MachineState → MachineState → Ran MachineState
one_cycle answer m = fold (λ after. ran spent after 1 (one_if (fetching after))) (λ r. ran (stopped r) m 0 0) answer

-- "One cycle .. asked for alone is a run with budget 1."
pub record CycleAlone : Type 0 where
  pub under_unit : (u : Unit) (m : MachineState)
      → unit_run u m 1 ≡ unless (unit_asks m 1) m (one_cycle (unit_cycle u m) m)
  pub under_store : (s : Store) (m : MachineState)
      → store_run s m 1 ≡ unless (store_asks s m 1) m (one_cycle (store_cycle s m) m)

-- what a run's answer says, with the image as it is left
abbrev pub ran_as : MachineRun → List ℕ → Ran MachineState
ran_as r image = ran (outcome_of r.outcome) (with_image r.machine image) r.cycles.0 r.instructions.0

-- what a run promises: its answer is the one that the paper says
abbrev pub RunsTo : Ran MachineState → MachineRun → List ℕ → Type 0
RunsTo expected r image = ran_as r image ≡ expected
