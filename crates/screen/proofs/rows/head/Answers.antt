use Rattle.screen.specs.Rows.{head}
use Rattle.screen.proofs.rows.head.Goals as goal

pub returns : goal.returns
unfolding head
returns c = (cc, rw (c.text-3.ensures.1, c.text-2.ensures.1, c.text.ensures.1))
