use Rattle.std.proofs.Common.{ap, sym, ◌∙◌, arith}
use Rattle.operands.specs.Operands.{number}
use Rattle.operands.specs.declared.numbers.Digits.TheVariants.{Letters}
use Rattle.operands.proofs.Spelled.{cut_front, cut_back, label_none, label_long, label_front, label_back, label_good}
use Rattle.operands.proofs.labels.read_label.Goals as goal
use Rattle.operands.proofs.labels.read_label.Goals.{then-n-eq0-via-then-n-eq0, then-n-eq0-via-else-n-eq0+then-n-gt16}

pub returns-then-n-eq0 : goal.returns-then-n-eq0
returns-then-n-eq0 c = elim c.then-n-eq0.branch [
  | then-n-eq0-via-then-n-eq0 w ↦ sym (label_none c.args.part.now w.if-n-eq0.true)
  | then-n-eq0-via-else-n-eq0+then-n-gt16 w ↦ sym (label_long c.args.part.now w.if-n-gt16.true)
]

pub returns-in_err-read_number : goal.returns-in_err-read_number
returns-in_err-read_number c =
    let part = c.args.part.now in
    let front = ap (number Letters) (cut_front part c.min.ensures c.split_at.ensures.front) in
    rw c.from_residual.ensures
    (sym (label_front part (omega arith) (omega arith) (sym front ∙ sym c.in_err-read_number.ensures)))

pub returns-in_err-read_number-2 : goal.returns-in_err-read_number-2
returns-in_err-read_number-2 c =
    let part = c.args.part.now in
    let front = ap (number Letters) (cut_front part c.min.ensures c.split_at.ensures.front) in
    let back = ap (number Letters) (cut_back part c.min.ensures c.split_at.ensures.back) in
    rw c.from_residual-in_err-read_number-2.ensures
    (sym (label_back part (omega arith) (omega arith) (sym front ∙ sym c.in_ok-read_number.ensures)
    (sym back ∙ sym c.in_err-read_number-2.ensures)))

pub returns : goal.returns
returns c =
    let part = c.args.part.now in
    let front = ap (number Letters) (cut_front part c.min.ensures c.split_at.ensures.front) in
    let back = ap (number Letters) (cut_back part c.min.ensures c.split_at.ensures.back) in
    sym (label_good part (omega arith) (omega arith) (sym front ∙ sym c.in_ok-read_number.ensures)
    (sym back ∙ sym c.in_ok-read_number-2.ensures))
