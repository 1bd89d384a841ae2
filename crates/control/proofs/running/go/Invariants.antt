-- What is left of the run, from here, ends where the whole run ends, whatever is given.
use Rattle.std.proofs.Common.{◌≡◌, ◌-◌, ◌≤◌, ℕ}
use Rattle.datapath.specs.Machines.{machine_state, fetching}
use Rattle.datapath.specs.declared.cycle.Control.{Control}
use Rattle.terms.specs.Running.{onto, running}
use Rattle.control.specs.Sources.{cycle_by, GivesAs}
use Rattle.control.proofs.running.go.Given as goal

abbrev pub invariant-loop-done : goal.invariant-loop-done
invariant-loop-done g l = record {
  counted : l.instructions.0 ≤ l.done;
  ends : (given : ℕ → ℕ → Control) → GivesAs (goal.F-post g l.gives) given
      → onto l.done l.instructions.0 (running (cycle_by given) fetching (l.budget.0 - l.done) (machine_state l.cells l.latches l.image))
      ≡ running (cycle_by given) fetching l.budget.0 (machine_state l.initial.cells l.initial.latches l.initial.image);
}
