-- What demand 3 shuts out, and what it determines.
use Rattle.std.specs.Prelude.{◌≡◌, ℕ, ◌<◌}
use Rattle.datapath.specs.Machines.{MachineState}
use Rattle.microcode.specs.declared.stores.Store.{Store}
use Rattle.walks.specs.Checking.{Verdict, admitted}
use Rattle.terms.specs.Refusals.{spent}
use Rattle.terms.specs.Running.{ran}
use Rattle.demand3.specs.Demand3.{Check, RunUnder, Taken, Demand3}

-- a run that always refuses, whatever is taken
abbrev pub Refuses : Check → RunUnder → Type 0
Refuses check run = (s : Store) (m : MachineState) (budget : ℕ) → Taken check s m budget
    → 0 < budget → (run s m budget).outcome ≡ spent → ⊥

-- one that never ends but with its budget
abbrev pub NeverStops : Check → RunUnder → Type 0
NeverStops check run = (s : Store) (m : MachineState) (budget : ℕ) → Taken check s m budget
    → (run s m budget).outcome ≡ spent

-- a run with other counts of cycles and of instructions
abbrev pub Counts : Type 0
Counts = Store → MachineState → ℕ → ℕ

abbrev pub counting : RunUnder → Counts → Counts → RunUnder
counting run cycles instructions s m budget =
    ran (run s m budget).outcome (run s m budget).state
    (cycles s m budget) (instructions s m budget)

pub record ShutOut (check : Check) (run : RunUnder) : Type 0 where
  -- "A check that admits all stores, or none, is shut out by 3.", and one that always says the same
  pub admits_all : ((s : Store) → check s ≡ admitted) → ⊥
  pub admits_none : ((s : Store) → check s ≡ admitted → ⊥) → ⊥
  pub constant : (v : Verdict) → ((s : Store) → check s ≡ v) → ⊥
  pub refuser : Refuses check run → ⊥
  pub endless : NeverStops check run → ⊥
  -- "A made-up cycle or instruction count is shut out by .. 3's walk length."
  pub cycle_count : (cycles instructions : Counts)
      → Demand3 check (counting run cycles instructions)
      → (s : Store) (m : MachineState) (budget : ℕ) → Taken check s m budget
      → cycles s m budget ≡ (run s m budget).steps
  pub instruction_count : (cycles instructions : Counts)
      → Demand3 check (counting run cycles instructions)
      → (s : Store) (m : MachineState) (budget : ℕ) → Taken check s m budget
      → instructions s m budget ≡ (run s m budget).instructions

-- two checks and runs that meet the demand are equal: what is said of every store, and the outcome,
-- the machine with its image and the counts of every run that is taken
pub record Determined (check other : Check) (run another : RunUnder) : Type 0 where
  pub one_check : (s : Store) → check s ≡ other s
  pub one_run : (s : Store) (m : MachineState) (budget : ℕ) → Taken check s m budget
      → run s m budget ≡ another s m budget
