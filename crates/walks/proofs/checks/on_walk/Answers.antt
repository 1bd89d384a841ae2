-- Another opcode's walk is looked through itself.
use Rattle.std.proofs.Common.{◌∙◌, le-ltb}
use Rattle.walks.proofs.Meeting.{shows}
use Rattle.walks.proofs.checks.on_walk.Goals as goal

pub returns : goal.returns
returns c =
    rw (le-ltb _ _ c.if-opcode-lt64.false)
    (c.is_among.ensures ∙ shows c.args.store.now c.args.opcode c.args.state c.follow.ensures.states)
