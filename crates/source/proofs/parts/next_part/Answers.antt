use Rattle.std.proofs.Common.{drop, sym, ap, ◌∙◌}
use Rattle.source.proofs.Places.{part_none, part_mark, part_run}
use Rattle.source.proofs.parts.next_part.Goals as goal

pub returns-in_err-first : goal.returns-in_err-first
returns-in_err-first c =
    let line = c.args.line.now in
    let rest = c.split_at.ensures.back ∙ ap (λ n. drop n line) c.blanks.ensures.0 in
    rw c.from_residual.ensures (sym (part_none line rest c.in_err-first.ensures.cases))

pub returns-then-is_mark : goal.returns-then-is_mark
returns-then-is_mark c =
    let line = c.args.line.now in
    let rest = c.split_at.ensures.back ∙ ap (λ n. drop n line) c.blanks.ensures.0 in
    sym (part_mark line rest c.in_ok-first.ensures.cases.0 (sym c.if-is_mark.ensures))

pub returns : goal.returns
returns c =
    let line = c.args.line.now in
    let rest = c.split_at.ensures.back ∙ ap (λ n. drop n line) c.blanks.ensures.0 in
    let part = part_run line rest c.in_ok-first.ensures.cases.0 (sym c.if-is_mark.ensures) c.joined.ensures.0 in
    rw (c.split_at-2.ensures.front, c.split_at-2.ensures.back) (sym part)
