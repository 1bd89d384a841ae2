use Rattle.std.proofs.Common.{sym, arith}
use Rattle.operands.specs.declared.operands.Shape.TheVariants.{Word}
use Rattle.operands.proofs.Bounds.{shaped_below}
use Rattle.source.proofs.reads.WordOperand.read.Goals as goal

pub overflow_cast-result : goal.overflow_cast-result
overflow_cast-result c =
    let small = shaped_below Word c.args.part.now (sym c.in_ok-shaped.ensures) in
    omega arith
