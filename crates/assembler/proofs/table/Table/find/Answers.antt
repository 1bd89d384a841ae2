use Rattle.std.proofs.Common.{◌∙◌, Some, None, get_or, ap}
use Rattle.std.specs.Option.{option_or}
use Rattle.terms.specs.Answers.{pick}
use Rattle.assembler.specs.Chains.{entry_at}
use Rattle.assembler.specs.Labels.{same_label}
use Rattle.assembler.proofs.Walked.{begin, chosen, onward, falls}
use Rattle.assembler.proofs.table.Table.find.Goals as goal

pub loop-link-init : goal.loop-link-init
loop-link-init c =
    begin c.args.self.now.chained (ap (λ h. get_or c.args.self.now.heads.now h None) c.hash.ensures.0)

pub loop-link-smaller : goal.loop-link-smaller
loop-link-smaller c =
    let entry =
    ap (λ l. entry_at l c.from-line.result) c.as_slice.ensures ∙ ap (entry_at c.args.self.now.lines) c.from-line.ensures
    in
    falls c.args.self.now.chained c.loop-link.invariant c.in-Some.is (ap (λ e. e.next) entry)

pub loop-link-preserved : goal.loop-link-preserved
loop-link-preserved c =
    let line = c.in-Some.line in
    let entry =
    ap (λ l. entry_at l c.from-line.result) c.as_slice.ensures ∙ ap (entry_at c.args.self.now.lines) c.from-line.ensures
    in
    onward c.args.self.now.chained c.loop-link.invariant c.in-Some.is (ap (λ e. e.next) entry)
    (c.or-first.ensures
    ∙ ap (λ o. option_or o c.loop-link.first) c.then_some.ensures
    ∙ chosen c.has.result c.from-line.result c.loop-link.first
    ∙ ap (λ k. pick c.has.result (Some k) c.loop-link.first) c.from-line.ensures
    ∙ ap (λ b. pick b (Some line) c.loop-link.first)
    (c.has.ensures ∙ ap (λ e. same_label (Some c.args.label) e.label) entry))
