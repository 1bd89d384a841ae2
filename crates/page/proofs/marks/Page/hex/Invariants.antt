use Rattle.std.proofs.Common.{◌≡◌, ◌-◌, ◌/◌, ◌^◌}
use Rattle.page.specs.Numbers.{hex_digit, digits}
use Rattle.page.specs.Lent.{seen}
use Rattle.page.specs.Pages.{put}
use Rattle.page.proofs.marks.Page.hex.Given as goal

abbrev pub invariant-loop-place : goal.invariant-loop-place
invariant-loop-place l =
    (l.page.bytes.ghost_name ≡ l.initial.page.bytes.ghost_name)
    × (seen l.page
    ≡ digits (λ left. put (hex_digit left)) 16 (8 - l.place) (l.word / 16 ^ l.place) (seen l.initial.page))
