-- A turn goes one cycle on, is refused, or finds the budget spent: the laws of a run say what is left.
use Rattle.std.proofs.Common.{◌≡◌, ◌+◌, ◌≤◌, sym, ap, ◌∙◌, arith, eqb}
use Rattle.datapath.proofs.Cycles.{done_tick, refused_tick}
use Rattle.datapath.specs.Cycle.{cycle}
use Rattle.datapath.specs.Machines.{MachineState, machine_state, fetching}
use Rattle.datapath.specs.Ticking.{tick_of}
use Rattle.datapath.specs.declared.cycle.Control.{Control}
use Rattle.terms.proofs.Running.{one_at_most, turn_done, turn_refused, turn_spent}
use Rattle.terms.specs.Refusals.{refusal_of, stopped}
use Rattle.terms.specs.Running.{ran, one_if}
use Rattle.words.specs.Fields.{opcode}
use Rattle.control.specs.Sources.{cycle_by}
use Rattle.control.proofs.running.go.Goals as goal

pub returns-in-Err : goal.returns-in-Err
returns-in-Err g c = λ given gives.
    let m = machine_state c.loop-done.cells c.loop-done.latches c.loop-done.image in
    let under : c.give-control.result ≡ given m.latches.state (opcode m.latches.ir) = c.give-control.ensures given gives ∙ ap (given m.latches.state) c.opcode.ensures in
    let ticked = c.in-Err.ensures ∙ ap (λ (k : Control). tick_of m (cycle k m)) under in
    let t = refused_tick c.loop-done.latches m (cycle_by given m) c.tick.new.cells c.tick.new.image c.in-Err.refusal ticked in
    rw c.of.ensures
    (ap (λ (s : MachineState). ran (stopped (refusal_of c.in-Err.refusal)) s c.loop-done.done c.loop-done.instructions.0) t.1
    ∙ sym (turn_refused (cycle_by given) fetching c.args.budget.0 c.loop-done.done c.loop-done.instructions.0 m (omega arith) t.0)
    ∙ c.loop-done.invariant.ends given gives)

pub loop-done-preserved : goal.loop-done-preserved
loop-done-preserved g c =
    let done = c.loop-done.done in
    let instructions = c.loop-done.instructions.0 in
    let ended = one_if (eqb c.in-Ok.after.state 0) in
    let at_most : ended ≤ 1 = one_at_most (eqb c.in-Ok.after.state 0) in
    let counted : c.counted-instructions.result.0 ≡ instructions + ended = omega (arith, c.counted-instructions.ensures, at_most, c.loop-done.invariant.counted) in
    record {
      counted = rw counted (omega (arith, at_most, c.loop-done.invariant.counted));
      ends = λ given gives.
          let m = machine_state c.loop-done.cells c.loop-done.latches c.loop-done.image in
          let under : c.give-control.result ≡ given m.latches.state (opcode m.latches.ir) = c.give-control.ensures given gives ∙ ap (given m.latches.state) c.opcode.ensures in
          let ticked = c.in-Ok.ensures ∙ ap (λ (k : Control). tick_of m (cycle k m)) under in
          let t = done_tick c.loop-done.latches m (cycle_by given m) c.tick.new.cells c.tick.new.image ticked in
          rw counted (sym (turn_done (cycle_by given) fetching c.args.budget.0 done instructions m (omega arith) t) ∙ c.loop-done.invariant.ends given gives);
    }

pub returns : goal.returns
returns g c = λ given gives.
    let m = machine_state c.loop-done.cells c.loop-done.latches c.loop-done.image in
    let all : c.loop-done.done ≡ c.args.budget.0 = omega arith in
    sym (turn_spent (cycle_by given) fetching c.args.budget.0 c.args.budget.0 c.loop-done.instructions.0 m (omega arith)) ∙ (rw all at (c.loop-done.invariant.ends given gives))
