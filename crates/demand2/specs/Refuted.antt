-- What demand 2 shuts out, and what it determines.
use Rattle.std.specs.Prelude.{true, ◌≡◌, ℕ, ◌<◌}
use Rattle.control.specs.Running.{unit_asks}
use Rattle.datapath.specs.Machines.{MachineState}
use Rattle.terms.specs.Counts.{allowed}
use Rattle.terms.specs.Refusals.{yes, spent}
use Rattle.terms.specs.Running.{Ran, ran}
use Rattle.demand2.specs.Demand2.{Run, Starts, alone, Beside, AllBeside, Demand2}
use Rattle.demand2.specs.Paths.{visible_in}

-- a run that always refuses
abbrev pub Refuses : Run → Type 0
Refuses run = (m : MachineState) → Starts m → (budget : ℕ) → 0 < budget
    → (run m budget).outcome ≡ spent → ⊥

-- one with a constant answer: always the same machine
abbrev pub Constant : Run → Type 0
Constant run = (k : MachineState)
    × ((m : MachineState) → Starts m → (budget : ℕ) → (run m budget).state ≡ k)

-- one that changes nothing: neither registers, PC nor memory
abbrev pub Idles : Run → Type 0
Idles run = (m : MachineState) → Starts m → (budget : ℕ)
    → visible_in (run m budget).state ≡ visible_in m

-- one that never ends but with its budget
abbrev pub NeverStops : Run → Type 0
NeverStops run = (m : MachineState) → Starts m → (budget : ℕ) → (run m budget).outcome ≡ spent

-- "one that does a whole instruction in the first cycle and idles after"
abbrev pub AtOnce : Run → Type 0
AtOnce run = (m : MachineState) → Starts m → (alone m 1).outcome ≡ spent
    → visible_in (run m 1).state ≡ (alone m 1).state

-- a run with other counts of cycles or of instructions
abbrev pub with_cycles : Run → (MachineState → ℕ → ℕ) → Run
with_cycles run count m budget =
    ran (run m budget).outcome (run m budget).state (count m budget) (run m budget).instructions

abbrev pub with_instructions : Run → (MachineState → ℕ → ℕ) → Run
with_instructions run count m budget =
    ran (run m budget).outcome (run m budget).state (run m budget).steps (count m budget)

pub record ShutOut : Type 0 where
  pub refuser : (run : Run) → AllBeside run → Refuses run → ⊥
  pub constant : (run : Run) → AllBeside run → Constant run → ⊥
  pub idler : (run : Run) → AllBeside run → Idles run → ⊥
  pub endless : (run : Run) → AllBeside run → NeverStops run → ⊥
  pub at_once : (run : Run) → Demand2 run → AtOnce run → ⊥
  -- "A made-up cycle or instruction count is shut out by 2's sums": where a run meets it and meets
  -- it with a count put in, that count is the run's own
  pub cycle_count : (run : Run) (count : MachineState → ℕ → ℕ)
      → AllBeside run → AllBeside (with_cycles run count)
      → (m : MachineState) → Starts m → (budget : ℕ) → allowed budget ≡ true
      → count m budget ≡ (run m budget).steps
  pub instruction_count : (run : Run) (count : MachineState → ℕ → ℕ)
      → AllBeside run → AllBeside (with_instructions run count)
      → (m : MachineState) → Starts m → (budget : ℕ) → allowed budget ≡ true
      → count m budget ≡ (run m budget).instructions

-- two runs end alike, with the same counts
pub record EndAlike (r q : Ran MachineState) : Type 0 where
  pub outcome : r.outcome ≡ q.outcome
  pub cycles : r.steps ≡ q.steps
  pub instructions : r.instructions ≡ q.instructions

-- of two runs that meet the demand
pub record Determined (run other : Run) : Type 0 where
  -- outcome and counts are the same at every budget, by the sums alone,
  pub counts : (m : MachineState) → Starts m → Beside run m → Beside other m
      → (budget : ℕ) → allowed budget ≡ true → EndAlike (run m budget) (other m budget)
  -- and with each cycle all is
  pub whole : Demand2 run → Demand2 other
      → (m : MachineState) (budget : ℕ) → unit_asks m budget ≡ yes → run m budget ≡ other m budget
