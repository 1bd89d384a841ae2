use Rattle.assembler.proofs.Tabling.{chained_none}
use Rattle.assembler.proofs.table.Table.new.Goals as goal

pub invariant_of-result-clause-chained : goal.invariant_of-result-clause-chained
invariant_of-result-clause-chained c = rw (c.requires.0, c.new.ensures) chained_none
