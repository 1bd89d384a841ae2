-- A turn goes one step on, is refused, or finds the budget spent: the laws of a run say what is left.
use Rattle.std.proofs.Common.{◌≡◌, true, sym, ap, ◌∙◌, arith}
use Rattle.terms.specs.Answers.{answered}
use Rattle.terms.proofs.Running.{turn_done, turn_refused, turn_spent}
use Rattle.single.specs.Instruction.{instruction}
use Rattle.single.specs.Visible.{visible}
use Rattle.single.proofs.machine.go.Goals as goal

pub returns-in-Err : goal.returns-in-Err
returns-in-Err c =
    let done = c.loop-done.done in
    rw c.of.ensures (sym (turn_refused instruction (λ _. true) c.args.budget.0 done done (visible c.loop-done.registers c.loop-done.pc.0 c.loop-done.image) (omega arith) (sym c.in-Err.ensures)) ∙ c.loop-done.invariant)

pub loop-done-preserved : goal.loop-done-preserved
loop-done-preserved c =
    let done = c.loop-done.done in
    sym (turn_done instruction (λ _. true) c.args.budget.0 done done (visible c.loop-done.registers c.loop-done.pc.0 c.loop-done.image) (omega arith) (sym c.in-Ok.ensures ∙ ap answered (sym c.carry-pc.ensures))) ∙ c.loop-done.invariant

pub returns : goal.returns
returns c =
    let s = visible c.loop-done.registers c.loop-done.pc.0 c.loop-done.image in
    let all : c.loop-done.done ≡ c.args.budget.0 = omega arith in
    sym (turn_spent instruction (λ _. true) c.args.budget.0 c.args.budget.0 c.args.budget.0 s (omega arith)) ∙ rw all at c.loop-done.invariant
