use Rattle.std.proofs.Common.{◌++◌, ◌%◌, ◌^◌, drop, ap, ◌∙◌, arith}
use Rattle.std.proofs.lemmas.Result.{err_from_is_err_and}
use Rattle.assembler.proofs.Finished.{too_many, misaligned, refused_line_lem, no_room, written}
use Rattle.assembler.proofs.assembling.assemble.Goals as goal

pub returns-in_err-survey : goal.returns-in_err-survey
returns-in_err-survey c =
    let p = err_from_is_err_and c.from_residual.result c.from_residual.ensures.1 in
    let h = c.in_err-survey.ensures in
    rw (p.1, p.2, h.0) (too_many c.args.text.now c.args.output.now c.args.given.0 h.1)

pub returns-then-given-ne0 : goal.returns-then-given-ne0
returns-then-given-ne0 c =
    misaligned c.args.text.now c.args.output.now c.args.given.0 c.in_ok-survey.ensures.few c.if-given-ne0.true

pub returns-in_err-translate : goal.returns-in_err-translate
returns-in_err-translate c =
    let p = err_from_is_err_and c.from_residual-in_err-translate.result c.from_residual-in_err-translate.ensures.1 in
    rw (p.1, p.2)
    (refused_line_lem c.args.text.now c.args.output.now c.args.given.0 c.in_ok-survey.ensures.few c.if-given-ne0.false c.in_err-translate.ensures)

pub returns-then-output-n : goal.returns-then-output-n
returns-then-output-n c =
    let n = c.len-n.ensures.0 in
    no_room c.args.text.now c.args.output.now c.args.given.0 c.in_ok-survey.ensures.few c.if-given-ne0.false c.in_ok-translate.ensures
    (omega (arith, n, c.if-output-n.true))

pub returns : goal.returns
returns c =
    let n = c.len-n.ensures.0 in
    let words = c.translate.new.words in
    let output = c.args.output.now in
    written c.args.text.now output c.args.given.0 c.in_ok-survey.ensures.few c.if-given-ne0.false c.in_ok-translate.ensures
    (omega (arith, n, c.if-output-n.false)) (omega (arith, n, c.len-n.ensures.1))
    (c.of.ensures ∙ ap (λ k. k % 2 ^ 32) n)
    (ap (λ l. l ++ drop c.len-n.result output) (c.copy_from_slice.ensures.after ∙ c.as_slice.ensures)
    ∙ ap (λ k. words ++ drop k output) n)
