use Rattle.std.proofs.Common.{inl, sym, ap, ◌∙◌, add-one, arith}
use Rattle.terms.specs.Answers.{refused}
use Rattle.source.specs.Lines.{lines_of}
use Rattle.placing.specs.Placing.{fault_number}
use Rattle.assembler.specs.Assembling.{line_no}
use Rattle.assembler.proofs.Surveying.{here}
use Rattle.assembler.proofs.Translated.{Translating, bad, onward, ended, left_few}
use Rattle.assembler.proofs.translating.translate.Goals as goal

pub returns-in-Err : goal.returns-in-Err
returns-in-Err c =
    let lines = lines_of c.args.text.now in
    let s = c.in-Some.ensures.steps in
    let t : Translating c.args.given.0 lines c.loop-number.words c.loop-number.number-iterator.iter.0.now c.in-Some.number =
    rw s.1 c.loop-number.invariant.2
    in
    ap (λ k. refused (line_no (fault_number c.in-Err.fault) k)) (c.line_number.ensures ∙ add-one c.in-Some.number)
    ∙ sym (bad c.args.given.0 lines c.loop-number.words c.in-Some.number t c.next.new.self.iter.0.now (sym s.0) c.in-Err.fault
    (c.in-Err.ensures lines c.requires.0 (here lines c.in-Some.number (t.left ∙ s.0))))

pub loop-number-preserved : goal.loop-number-preserved
loop-number-preserved c =
    let lines = lines_of c.args.text.now in
    let s = c.in-Some.ensures.steps in
    let t : Translating c.args.given.0 lines c.loop-number.words c.loop-number.number-iterator.iter.0.now c.in-Some.number =
    rw s.1 c.loop-number.invariant.2
    in
    let next : Translating c.args.given.0 lines c.put.new.words c.next.new.self.iter.0.now c.next.new.self.count =
    rw (s.2, ← s.1)
    (onward c.args.given.0 lines c.loop-number.words c.in-Some.number t c.next.new.self.iter.0.now (sym s.0) c.in-Ok.word
    (c.in-Ok.ensures lines c.requires.0 (here lines c.in-Some.number (t.left ∙ s.0))) c.put.ensures)
    in
    let few = left_few c.args.given.0 lines c.put.new.words c.next.new.self.count next in
    ((tt, tt, inl (omega (arith, few))), tt, next)

pub returns : goal.returns
returns c =
    sym (ended c.args.given.0 (lines_of c.args.text.now) c.loop-number.words c.loop-number.number-iterator.count c.loop-number.invariant.2
    c.in-None.ensures.steps.0.0)
