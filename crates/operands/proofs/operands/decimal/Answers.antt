use Rattle.std.proofs.Common.{sym}
use Rattle.operands.proofs.Written.{is_decimal_below}
use Rattle.operands.proofs.operands.decimal.Goals as goal

pub read_number-requires : goal.read_number-requires
read_number-requires c = is_decimal_below c.args.part.now (sym c.if-not-has_decimal_form.ensures)
