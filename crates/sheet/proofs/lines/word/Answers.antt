use Rattle.std.proofs.Common.{lit<, sym, ◌∙◌, arith}
use Rattle.sheet.proofs.Places.{after_none, below_all, digit_small}
use Rattle.sheet.proofs.lines.word.Goals as goal

pub loop-byte-init : goal.loop-byte-init
loop-byte-init c = record { small = lit< tt; same = after_none c.args.digits.now }

pub overflow_mul-value : goal.overflow_mul-value
overflow_mul-value c =
    let b = below_all c.loop-byte.value c.loop-byte.byte-index c.loop-byte.invariant.small (omega arith) in omega arith

pub overflow_add-value : goal.overflow_add-value
overflow_add-value c =
    let b = below_all c.loop-byte.value c.loop-byte.byte-index c.loop-byte.invariant.small (omega arith) in
    let d = digit_small _ _ (sym c.digit_of.ensures ∙ c.in_ok-value.was) in
    omega arith
