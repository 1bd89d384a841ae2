use Rattle.std.proofs.Common.{◌≡◌}
use Rattle.std.specs.Slice.Iter.{iter_rest}
use Rattle.page.specs.Lent.{seen}
use Rattle.screen.specs.Sides.{along, name_place}
use Rattle.screen.proofs.sides.name_places.Given as goal

abbrev pub invariant-loop-index : goal.invariant-loop-index
invariant-loop-index l =
    (l.page.bytes.ghost_name ≡ l.fn.page.bytes.ghost_name)
    × (along (name_place l.to l.name) l.index-iterator.count (iter_rest l.index-iterator.iter.a) (iter_rest l.index-iterator.iter.b) (seen l.page)
    ≡ along (name_place l.to l.name) 0 l.ours l.theirs (seen l.fn.page))
