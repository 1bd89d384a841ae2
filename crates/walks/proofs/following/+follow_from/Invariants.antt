-- The number of states not yet entered falls by the state that a call enters.
use Rattle.walks.specs.Following.{count}
use Rattle.walks.proofs.following.+follow_from.Given as goal

abbrev pub decreases-follow_from : goal.decreases-follow_from
decreases-follow_from l = count l.unentered
