use Rattle.std.proofs.Common.{◌≡◌, ◌-◌, ◌/◌, ◌^◌}
use Rattle.page.specs.Numbers.{column_digit, digits}
use Rattle.page.specs.Lent.{seen}
use Rattle.page.specs.Pages.{put}
use Rattle.page.proofs.marks.Page.places.Given as goal

abbrev pub invariant-loop-place : goal.invariant-loop-place
invariant-loop-place l =
    (l.self.bytes.ghost_name ≡ l.fn.self.bytes.ghost_name)
    × (seen l.self
    ≡ digits (λ left. put (column_digit left)) 10 ((l.width - 1) - l.place) (l.n / 10 / 10 ^ l.place) (seen l.fn.self))
