use Rattle.std.proofs.Common.{sym, arith}
use Rattle.operands.proofs.Written.{decimal_most}
use Rattle.operands.proofs.operands.offset.Goals as goal

pub overflow_sub-result : goal.overflow_sub-result
overflow_sub-result c =
    let most = decimal_most 32768 _ (sym c.in_ok-n-in-45.ensures) in
    omega arith
