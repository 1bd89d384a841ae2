use Rattle.std.proofs.Common.{◌∷◌, length, sym, ap, ◌∙◌}
use Rattle.source.specs.Lines.{lines_of}
use Rattle.assembler.proofs.Lined.{no_lines, end_within, ends_there, goes_on}
use Rattle.assembler.proofs.lines.next_line.Goals as goal

pub returns-then-text-eq0 : goal.returns-then-text-eq0
returns-then-text-eq0 c = sym (no_lines c.args.text.now c.if-text-eq0.true)

pub split_at-requires : goal.split_at-requires
split_at-requires c = end_within c.args.text.now c.if-text-eq0.false c.line_end.ensures

pub returns-in-Some : goal.returns-in-Some
returns-in-Some c =
    let rest = sym c.split_at.ensures.back ∙ c.in-Some.ensures.cases.0 in
    ap (λ l. l ∷ lines_of c.in-Some.rest.now) c.split_at.ensures.front
    ∙ sym (goes_on c.args.text.now c.if-text-eq0.false c.line_end.ensures rest)

pub returns-in-None : goal.returns-in-None
returns-in-None c =
    let none = ap length (sym c.split_at.ensures.back) ∙ c.in-None.ensures.cases in
    rw (c.split_at.ensures.front, c.split_at.ensures.back)
    (sym (ends_there c.args.text.now c.if-text-eq0.false c.line_end.ensures none))
