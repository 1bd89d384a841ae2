-- A state below sixteen is looked for among the places.
use Rattle.std.proofs.Common.{lt-ltb, ◌∙◌}
use Rattle.walks.proofs.Padding.{among_any}
use Rattle.walks.proofs.checks.is_among.Goals as goal

pub returns-then-state-lt16 : goal.returns-then-state-lt16
returns-then-state-lt16 c = rw (lt-ltb _ _ c.if-state-lt16.true) (c.contains.ensures.value ∙ among_any c.args.state c.args.states.now)
