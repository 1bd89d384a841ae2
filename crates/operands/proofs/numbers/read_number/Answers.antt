use Rattle.std.proofs.Common.{sym, ◌∙◌, get_or, arith, lit<}
use native.Mathlib.Nat.{pow-zero}
use Rattle.terms.proofs.Digits.{below_more}
use Rattle.operands.specs.Operands as of
use Rattle.operands.proofs.Written.{digit_below, digit_good, after_digit, after_none, fits}
use Rattle.operands.proofs.numbers.read_number.Goals as goal

pub loop-byte-init : goal.loop-byte-init
loop-byte-init c = record {
  short = c.requires;
  base_is = c.base-base.ensures;
  below = rw (pow-zero (of.base c.args.kind)) (lit< tt);
  number_is = after_none c.args.kind c.args.part.now;
}

-- the product, and the sum, fit 64 bits
pub overflow_mul-value : goal.overflow_mul-value
overflow_mul-value c =
    let small = fits c.args.kind c.loop-byte.value 0 c.loop-byte.byte-index c.loop-byte.invariant.below (omega arith) (lit< tt) in
    rw c.loop-byte.invariant.base_is (omega arith)

pub overflow_add-value : goal.overflow_add-value
overflow_add-value c =
    let digit = digit_good c.args.kind _ (sym c.in_ok-value.ensures) in
    let small = fits c.args.kind c.loop-byte.value c.in_ok-value.field-0 c.loop-byte.byte-index c.loop-byte.invariant.below (omega arith) (omega (arith, digit.0, digit.1)) in
    rw c.loop-byte.invariant.base_is (omega arith)

pub loop-byte-preserved : goal.loop-byte-preserved
loop-byte-preserved c =
    let byte = get_or c.args.part.now c.loop-byte.byte-index 0 in
    let digit = digit_good c.args.kind byte (sym c.in_ok-value.ensures) in
    let below = digit_below c.args.kind byte digit.1 in
    record {
      short = c.loop-byte.invariant.short;
      base_is = c.loop-byte.invariant.base_is;
      below =
          rw (c.loop-byte.invariant.base_is, ← digit.0)
          (below_more (of.base c.args.kind) _ _ _ c.loop-byte.invariant.below below);
      number_is =
          rw (c.loop-byte.invariant.base_is, ← digit.0)
          (sym (after_digit c.args.kind c.loop-byte.value c.args.part.now c.loop-byte.byte-index c.loop-byte-test.true digit.1)
          ∙ c.loop-byte.invariant.number_is);
    }
