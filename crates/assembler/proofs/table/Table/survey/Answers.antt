use Rattle.std.proofs.Common.{refl, sym, ◌∙◌, arith}
use Rattle.source.specs.Lines.{lines_of}
use Rattle.assembler.proofs.Lined.{no_lines, some_lines}
use Rattle.assembler.proofs.Surveying.{begin, onward, byte_one_if, all_entered, not_all_entered}
use Rattle.assembler.proofs.table.Table.survey.Goals as goal

pub loop-lines-init : goal.loop-lines-init
loop-lines-init c = begin c.args.text.now c.requires

pub loop-lines-preserved : goal.loop-lines-preserved
loop-lines-preserved c =
    rw (c.from-words.ensures ∙ byte_one_if c.read_heading-heading.result.has_word)
    (onward (lines_of c.args.text.now) c.loop-lines.self c.loop-lines.invariant c.next.new.self.0.now (sym c.in-Some.ensures.steps)
    (omega (arith, c.len.ensures.0, c.loop-lines-test.true)) c.read_heading-heading.ensures c.enter.ensures)

pub returns-then-lines-eq0 : goal.returns-then-lines-eq0
returns-then-lines-eq0 c =
    all_entered (lines_of c.args.text.now) c.loop-lines.self c.loop-lines.invariant
    (no_lines c.loop-lines.lines.0.now c.if-lines-eq0.true)

pub returns-else-lines-eq0 : goal.returns-else-lines-eq0
returns-else-lines-eq0 c =
    let more = not_all_entered (lines_of c.args.text.now) c.loop-lines.self c.loop-lines.invariant
    (some_lines c.loop-lines.lines.0.now c.if-lines-eq0.false)
    in
    (refl, omega (arith, more, c.len.ensures.0, c.loop-lines-test.false))
