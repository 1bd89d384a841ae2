-- Inside the crate: the one loop runs under any control, which is a function from state and opcode.
use Rattle.std.specs.Prelude.{◌≡◌, ℕ, ◌^◌, ◌<◌}
use Rattle.datapath.specs.Cycle.{cycle}
use Rattle.datapath.specs.Machines.{MachineState}
use Rattle.datapath.specs.declared.cycle.Control.{Control}
use Rattle.terms.specs.Answers.{Answer}
use Rattle.words.specs.Fields.{opcode}

-- a clock cycle under what is given in a state for an opcode
abbrev pub cycle_by : (ℕ → ℕ → Control) → MachineState → Answer MachineState
cycle_by given m = cycle (given m.latches.state (opcode m.latches.ir)) m

-- whatever a control answers is what is given; the numbers are of 32 bits
abbrev pub GivesAs : (ℕ → ℕ → Control → Type 0) → (ℕ → ℕ → Control) → Type 0
GivesAs answers given =
    (state code : ℕ) (r : Control) → state < 2 ^ 32 → code < 2 ^ 32 → answers state code r → r ≡ given state code
