use Rattle.std.proofs.Common.{◌≡◌, drop}
use Rattle.page.specs.Lent.{seen}
use Rattle.page.specs.Pages.{write}
use Rattle.page.proofs.marks.Page.text.Given as goal

abbrev pub invariant-loop-byte : goal.invariant-loop-byte
invariant-loop-byte l =
    (l.page.bytes.ghost_name ≡ l.initial.page.bytes.ghost_name)
    × (write (drop l.byte-index l.bytes) (seen l.page) ≡ write l.bytes (seen l.initial.page))
