-- Demand 2, of a run: what comes of a machine state and of a budget in cycles. The single-cycle
-- machine beside it does what MIPS32 says: a clause for each instruction (single, Instruction).
use Rattle.std.specs.Prelude.{true, ◌≡◌, ℕ, suc, ◌+◌, ◌≤◌, ◌<◌, length}
use Rattle.control.specs.Running.{unit_asks, unit_run}
use Rattle.control.specs.Units.{unit_cycle}
use Rattle.control.specs.declared.units.Unit.TheVariants.{StateTable}
use Rattle.control.specs.declared.units.Unit.{Unit}
use Rattle.datapath.specs.Machines.{MachineState, fetching}
use Rattle.parts.specs.Image.{sized, reading, HoldsWords}
use Rattle.single.specs.Running.{single_run}
use Rattle.single.specs.Visible.{Visible}
use Rattle.terms.specs.Answers.{No, fold}
use Rattle.terms.specs.Counts.{allowed}
use Rattle.terms.specs.Refusals.{yes, Ended, spent, stopped}
use Rattle.terms.specs.Running.{Ran, running}
use Rattle.words.specs.Targets.{next_address}
use Rattle.demand2.specs.Paths.{path_before, cost_from, visible_in, OnPath}

abbrev pub Run : Type 0
Run = MachineState → ℕ → Ran MachineState

-- "From equal starts at state 0": about to fetch, with an image that a run takes. The single-cycle
-- machine starts with the registers, PC and memory of this machine.
pub record Starts (m : MachineState) : Type 0 where
  pub fetches : m.latches.state ≡ 0
  pub fits : sized (length m.image) ≡ true
  pub registers : HoldsWords m.registers
  pub memory : HoldsWords m.image

-- the single-cycle machine's run of n instructions from there, and the cycles that these cost
abbrev pub alone : MachineState → ℕ → Ran Visible
alone m n = single_run (visible_in m) n

abbrev pub cycles_of : MachineState → ℕ → ℕ
cycles_of m n = cost_from (visible_in m) n

-- A run r of m is back at a fetch. It "shows the single-cycle machine's registers, PC and memory",
-- of its run q, after as many instructions, "at 5 cycles for lw, 4 sw, 4 R-format, 3 beq, 3 j".
pub record Returned (m : MachineState) (r : Ran MachineState) (q : Ran Visible) : Type 0 where
  pub unstopped : r.outcome ≡ spent
  pub alone_unstopped : q.outcome ≡ spent
  pub fetches : r.state.latches.state ≡ 0
  pub shows : visible_in r.state ≡ q.state
  pub instructions : r.instructions ≡ q.instructions
  pub cycles : r.steps ≡ cycles_of m q.instructions

-- the cycles before the one that is refused, where the single-cycle machine has stopped
abbrev pub cycles_to : MachineState → Ran Visible → ℕ
cycles_to m q = cycles_of m q.instructions + length (path_before q.state)

-- "4 further unless the fetch itself was refused"
abbrev pub stopped_pc : Visible → ℕ
stopped_pc s = fold (λ word. next_address s.pc) (λ r. s.pc) (reading s.image s.pc)

-- "both machines stop at the same instruction with the same refusal and equal registers and memory;
-- the multicycle PC is 4 further unless the fetch itself was refused"; "the two machines report the
-- same address and kind", which are values of the refusal
pub record StopAlike (m : MachineState) (r : Ran MachineState) (q : Ran Visible) : Type 0 where
  pub instructions : r.instructions ≡ q.instructions
  pub refusal : r.outcome ≡ q.outcome
  pub registers : r.state.registers ≡ q.state.registers
  pub memory : r.state.image ≡ q.state.image
  pub pc : r.state.latches.pc.0 ≡ stopped_pc q.state
  pub cycles : r.steps ≡ cycles_to m q

-- r has counted the instructions that the single-cycle machine does and whose cycles it has had
pub record Counted (m : MachineState) (r : Ran MachineState) : Type 0 where
  pub done : (alone m r.instructions).outcome ≡ spent
  pub had : cycles_of m r.instructions ≤ r.steps
  pub no_more : (alone m (suc r.instructions)).outcome ≡ spent
      → r.steps < cycles_of m (suc r.instructions)

-- a run is spent once its budget's cycles are done, and has stopped before
abbrev pub EndsWithin : ℕ → Ended → ℕ → Type 0
EndsWithin budget spent cycles = cycles ≡ budget
EndsWithin budget (stopped refusal) cycles = cycles < budget

-- The run of m beside the single-cycle machine:
pub record Beside (run : Run) (m : MachineState) : Type 0 where
  -- after the cycles of n instructions it is back at a fetch;
  pub meets : (n : ℕ) → (alone m n).outcome ≡ spent → allowed (cycles_of m n) ≡ true
      → Returned m (run m (cycles_of m n)) (alone m n)
  -- "at every return to fetch" it is so;
  pub returns : (budget : ℕ) → allowed budget ≡ true
      → (run m budget).outcome ≡ spent → (run m budget).state.latches.state ≡ 0
      → Returned m (run m budget) (alone m (run m budget).instructions)
  -- at every cycle it has counted what is completed;
  pub counts : (budget : ℕ) → allowed budget ≡ true → Counted m (run m budget)
  pub ends : (budget : ℕ) → allowed budget ≡ true
      → EndsWithin budget (run m budget).outcome (run m budget).steps
  -- with "budgets that do not end first" it stops where the single-cycle machine stops,
  pub stops : (budget enough : ℕ) (refusal : No) → allowed budget ≡ true → allowed enough ≡ true
      → (alone m enough).outcome ≡ stopped refusal → cycles_to m (alone m enough) < budget
      → StopAlike m (run m budget) (alone m enough)
  -- and the single-cycle machine, given one instruction more, where it stops.
  pub stops_there : (budget : ℕ) (refusal : No) → allowed budget ≡ true
      → (run m budget).outcome ≡ stopped refusal
      → StopAlike m (run m budget) (alone m (suc (run m budget).instructions))

-- from every such start
abbrev pub AllBeside : Run → Type 0
AllBeside run = (m : MachineState) → Starts m → Beside run m

pub record Demand2 (run : Run) : Type 0 where
  pub beside : AllBeside run
  -- "Each clock cycle does what its control word says", from every start that a run takes
  pub cycles : (m : MachineState) (budget : ℕ) → unit_asks m budget ≡ yes
      → run m budget ≡ running (unit_cycle StateTable) fetching budget m

-- each fixed unit's run meets it, and each instruction keeps to its path
pub record UnitsMeet : Type 0 where
  pub demand : (u : Unit) → Demand2 (unit_run u)
  pub on_path : (u : Unit) (m : MachineState) → Starts m → OnPath u m
