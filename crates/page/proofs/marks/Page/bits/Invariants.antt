use Rattle.std.proofs.Common.{◌≡◌, ◌-◌, ◌/◌, ◌^◌}
use Rattle.page.specs.Numbers.{bit_digit, digits}
use Rattle.page.specs.Lent.{seen}
use Rattle.page.specs.Pages.{put}
use Rattle.page.proofs.marks.Page.bits.Given as goal

abbrev pub invariant-loop-place : goal.invariant-loop-place
invariant-loop-place l =
    (l.page.bytes.ghost_name ≡ l.initial.page.bytes.ghost_name)
    × (seen l.page
    ≡ digits (λ left. put (bit_digit left)) 2 (l.width - l.place) (l.n / 2 ^ l.place) (seen l.initial.page))
