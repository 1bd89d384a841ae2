use Rattle.std.proofs.Common.{◌≡◌, ◌<◌, ltb, length, None, refl, sym, ap, ◌∙◌, arith}
use Rattle.terms.specs.Answers.{fold}
use Rattle.source.specs.Statements.{label_of, statement_of, reading_as}
use Rattle.placing.specs.Placing.{named}
use Rattle.assembler.specs.Assembling.{name_on, placed_on, defined_above}
use Rattle.assembler.specs.Labels.{address_of, line_at, line_of}
use Rattle.assembler.specs.Table.{target}
use Rattle.assembler.proofs.Looking.{above_line, address, targeted, placed_alike}
use Rattle.assembler.proofs.translating.place_line.Goals as goal

pub returns : goal.returns
unfolding placed_on
returns c = λ lines ready at.
    let i = c.args.number in
    let table = c.args.table.now in
    let line = line_at lines i in
    let inside : i < length lines = omega (arith, c.requires, ready.all) in
    let label : c.read_line-read.result.label ≡ label_of line =
    c.read_line-read.ensures.named ∙ ap label_of (sym at)
    in
    let says : reading_as c.read_line-read.result.reading ≡ statement_of line =
    c.read_line-read.ensures.says ∙ ap statement_of (sym at)
    in
    let name : c.name_in.result ≡ name_on line =
    c.name_in.ensures ∙ ap (fold named (λ _. None)) says
    in
    let above : c.is_defined_above-above.result ≡ defined_above lines i =
    c.is_defined_above-above.ensures ∙ above_line lines table ready c.read_line-read.result.label i inside
    ∙ ap (λ l. ltb (line_of lines l) i) label
    in
    c.place.ensures
    ∙ placed_alike above refl (address lines table ready c.args.given.0 inside c.address_of-address.ensures) refl says
    ∙ targeted lines table ready (defined_above lines i) c.args.given.0 (address_of c.args.given.0 lines i) (name_on line)
    c.target_of-target.result (statement_of line) (c.target_of-target.ensures ∙ ap (target table.lines c.args.given.0) name) refl
