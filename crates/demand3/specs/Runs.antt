-- Demand 3, of a whole run: its instructions, the cycles since its last fetch, and how it ends.
use Rattle.std.specs.Prelude.{List, ◌≡◌, ℕ, ◌+◌, ◌<◌, length}
use Rattle.datapath.specs.Cycle.{Refusable}
use Rattle.datapath.specs.Machines.{MachineState}
use Rattle.microcode.specs.Sequencing.{store_cycle}
use Rattle.microcode.specs.declared.stores.Store.{Store}
use Rattle.terms.specs.Answers.{No, answered, refused}
use Rattle.terms.specs.Refusals.{spent, stopped}
use Rattle.terms.specs.Running.{Ran}
use Rattle.words.specs.Fields.{opcode}
use Rattle.demand3.specs.Instructions.{walk_length, fetched, away, Passes, Completes, lengths}

-- The end: the budget's; or the next cycle is refused, and the run "stops with refusal 1 to 4 and
-- registers and memory as at that fetch"
pub data Ends (s : Store) (fetch : MachineState) (budget : ℕ) (r : Ran MachineState) : Type 0 where
  at_budget : r.outcome ≡ spent → r.steps ≡ budget → Ends s fetch budget r
  at_refusal : (no : No) → Refusable no → r.outcome ≡ stopped no
      → store_cycle s r.state ≡ refused no
      → r.steps < budget
      → r.state.registers ≡ fetch.registers
      → r.state.image ≡ fetch.image
      → Ends s fetch budget r

-- What a run of so many cycles from m comes to: it completes instructions up to its last fetch,
-- goes on for fewer cycles than the walk of the word there has states, counts all these, and ends
pub record Runs (s : Store) (m : MachineState) (budget : ℕ) (r : Ran MachineState) : Type 0 where
  pub opcodes : List ℕ
  pub fetch : MachineState
  pub since : ℕ
  pub completes : Completes s opcodes m fetch
  pub underway : Passes s (away since) fetch r.state
  pub within : (word : ℕ) → fetched fetch ≡ answered word → since < walk_length s (opcode word)
  pub cycles : r.steps ≡ lengths s opcodes + since
  pub instructions : r.instructions ≡ length opcodes
  pub ends : Ends s fetch budget r
