use Rattle.std.proofs.Common.{◌≡◌}
use Rattle.tables.specs.Pla.{plane}
use Rattle.tables.proofs.planes.pla.Given as goal

abbrev pub invariant-loop-term : goal.invariant-loop-term
invariant-loop-term l = l.bits ≡ plane l.term-index l.state l.opcode
