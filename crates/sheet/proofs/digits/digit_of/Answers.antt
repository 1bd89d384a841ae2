use Rattle.std.proofs.Common.{◌≡◌, ℕ, ◌≤◌, ◌<◌, Some, None, subst, ap, ◌∙◌, le-leb, rules}
use borrow.Author.Tests.{lt-leb}
use Rattle.terms.proofs.Tables.{table_at}
use Rattle.sheet.specs.Lines.{digit, digit_at}
use Rattle.sheet.proofs.digits.digit_of.Goals as goal

is_none : (byte : ℕ) → 15 < digit byte → None ≡ digit_at byte
is_none byte h = rw (lt-leb (digit byte) 15 h)

is_some : (byte : ℕ) → digit byte ≤ 15 → Some (digit byte) ≡ digit_at byte
is_some byte h = rw (le-leb (digit byte) 15 h)

pub returns-then-worth-gt15 : goal.returns-then-worth-gt15
unfolding digit
returns-then-worth-gt15 c =
    let worth = table_at digit 0 256 c.from.result (search rules) ∙ ap digit c.from.ensures in
    is_none c.args.byte (subst (λ (n : ℕ). 15 < n) worth c.if-worth-gt15.true)

pub returns-else-worth-gt15 : goal.returns-else-worth-gt15
unfolding digit
returns-else-worth-gt15 c =
    let worth = table_at digit 0 256 c.from.result (search rules) ∙ ap digit c.from.ensures in
    ap Some worth ∙ is_some c.args.byte (subst (λ (n : ℕ). n ≤ 15) worth c.if-worth-gt15.false)
