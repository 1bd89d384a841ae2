use Rattle.std.proofs.Common.{◌≡◌, length}
use Rattle.std.specs.Slice.Iter.{iter_rest}
use Rattle.screen.specs.Sides.{along, counted_at}
use Rattle.screen.proofs.sides.differing.Given as goal

abbrev pub invariant-loop-our : goal.invariant-loop-our
invariant-loop-our l =
    along counted_at (length l.yielded) (iter_rest l.our-iterator.a) (iter_rest l.our-iterator.b) l.count
    ≡ along counted_at 0 l.ours l.theirs 0
