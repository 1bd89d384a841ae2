-- What is left of the run, from here, ends where the whole run ends.
use Rattle.std.proofs.Common.{◌≡◌, ◌-◌, true}
use Rattle.terms.specs.Running.{onto, running}
use Rattle.single.specs.Instruction.{instruction}
use Rattle.single.specs.Visible.{visible}
use Rattle.single.proofs.machine.go.Given as goal

abbrev pub invariant-loop-done : goal.invariant-loop-done
invariant-loop-done l =
    onto l.done l.done (running instruction (λ _. true) (l.budget.0 - l.done) (visible l.registers l.pc.0 l.image))
    ≡ running instruction (λ _. true) l.budget.0 (visible l.initial.registers l.initial.pc.0 l.initial.image)
