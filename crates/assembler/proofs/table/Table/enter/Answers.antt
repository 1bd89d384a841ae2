use Rattle.std.proofs.Common.{None, get_or, ap}
use Rattle.assembler.proofs.Tabling.{chained_more}
use Rattle.assembler.proofs.table.Table.enter.Goals as goal

pub invariant_of-self-clause-chained : goal.invariant_of-self-clause-chained
invariant_of-self-clause-chained c =
    let table = c.args.self.now in
    rw (c.hash-chain.ensures.0, c.len.ensures.0, c.push.ensures)
    (chained_more table.lines _ table.heads.now table.sized table.chained (ap (λ h. get_or table.heads.now h None) c.hash-chain.ensures.0))
