-- One clock cycle asked for: what it answers, and the machine as it leaves it.
use Rattle.std.specs.Prelude.{List, ◌≡◌, ℕ, Result, Ok, Err}
use Rattle.terms.specs.Answers.{Answer, answered, refused, fold}
use Rattle.terms.specs.Refusals.{refusal_of}
use Rattle.datapath.specs.Cycle.{cycle}
use Rattle.datapath.specs.Machines.{MachineState, machine_state}
use Rattle.datapath.specs.declared.cycle.Control.{Control}
use Rattle.terms.specs.declared.refusals.Refusal.{Refusal}
use Rattle.datapath.specs.declared.machine.Latches.{Latches}

-- the cycle's answer, and the machine afterwards
pub record Tick : Type 0 where
  pub answer : Answer MachineState
  pub machine : MachineState

-- "A refused cycle .. changes nothing."
abbrev pub tick_of : MachineState → Answer MachineState → Tick
tick_of m answer = record { answer = answer; machine = fold (λ after. after) (λ r. m) answer }

-- what `tick` answers, with register file and image as they are left, of a cycle that starts at the latches l
abbrev pub ticked_as : Latches → Result Latches Refusal → List ℕ → List ℕ → Tick
ticked_as l (Ok after) cells image =
    record { answer = answered (machine_state cells after image); machine = machine_state cells after image }
ticked_as l (Err r) cells image =
    record { answer = refused (refusal_of r); machine = machine_state cells l image }

-- what `tick` promises
abbrev pub Ticks : Control → Latches → List ℕ → List ℕ → Result Latches Refusal → List ℕ → List ℕ → Type 0
Ticks c l cells image r cellsLeft imageLeft =
    ticked_as l r cellsLeft imageLeft ≡ tick_of (machine_state cells l image) (cycle c (machine_state cells l image))
