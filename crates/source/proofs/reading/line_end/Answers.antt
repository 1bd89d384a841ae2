use Rattle.std.proofs.Common.{not, ◌==◌, ◌+◌, drop, sym, ap, ◌∙◌, add-zero, arith}
use Rattle.std.specs.List.{prefix_len}
use Rattle.std.proofs.lemmas.List.{drop_all}
use Rattle.source.specs.Lines.{line_length}
use Rattle.source.proofs.Places.{line_length_lem}
use Rattle.source.proofs.reading.line_end.Goals as goal

pub returns-in-Some : goal.returns-in-Some
returns-in-Some c =
    let back = c.in-Some.ensures.cases.2 in
    ap (λ n. c.args.at + n)
    (c.line_length.ensures.all ∙ ap (prefix_len (λ byte. not (byte == 10))) back ∙ line_length_lem (drop c.args.at c.args.text.now))

pub returns-in-None : goal.returns-in-None
unfolding line_length
returns-in-None c =
    let short = c.in-None.ensures.cases in
    rw (drop_all c.args.at c.args.text.now (omega (arith, short))) (sym (add-zero c.args.at))
