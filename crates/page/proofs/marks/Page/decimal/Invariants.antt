use Rattle.std.proofs.Common.{◌≡◌, ◌-◌, ◌/◌, ◌^◌}
use Rattle.page.specs.Numbers.{leading, digits}
use Rattle.page.specs.Lent.{seen}
use Rattle.page.proofs.marks.Page.decimal.Given as goal

abbrev pub invariant-loop-place : goal.invariant-loop-place
invariant-loop-place l =
    (l.self.bytes.ghost_name ≡ l.fn.self.bytes.ghost_name)
    × (seen l.self ≡ digits leading 10 (9 - l.place) (l.n / 10 / 10 ^ l.place) (seen l.fn.self))
