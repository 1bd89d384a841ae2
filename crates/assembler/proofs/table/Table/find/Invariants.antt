-- The first line so far is the first from the link on.
use Rattle.assembler.proofs.Chains.{number}
use Rattle.assembler.proofs.Walked.{Walked}
use Rattle.assembler.proofs.table.Table.find.Given as goal

abbrev pub invariant-loop-link : goal.invariant-loop-link
invariant-loop-link l = Walked l.label l.self.lines l.first l.link

abbrev pub decreases-loop-link : goal.decreases-loop-link
decreases-loop-link l = number l.link
