use Rattle.std.proofs.Common.{◌≡◌, ◌-◌}
use Rattle.page.specs.Lent.{seen}
use Rattle.page.specs.Pages.{spaces, up_to}
use Rattle.page.proofs.marks.Page.blanks.Given as goal

abbrev pub invariant-loop-place : goal.invariant-loop-place
invariant-loop-place l =
    (l.self.bytes.ghost_name ≡ l.fn.self.bytes.ghost_name)
    × (spaces (l.to - l._place) (seen l.self) ≡ up_to l.to (seen l.fn.self))
