use Rattle.std.proofs.Common.{sym, arith}
use Rattle.operands.specs.declared.operands.Shape.TheVariants.{Register}
use Rattle.operands.proofs.Bounds.{shaped_below}
use Rattle.source.proofs.reads.RegisterOperand.read.Goals as goal

pub overflow_cast-result : goal.overflow_cast-result
overflow_cast-result c =
    let small = shaped_below Register c.args.part.now (sym c.in_ok-shaped.ensures) in
    omega arith
