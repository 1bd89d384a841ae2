-- The room keeps its length, and what it holds lies within it.
use Rattle.std.proofs.Common.{length, ◌-◌, ◌≤◌, ◌≡◌}
use Rattle.watch.proofs.input.fill.Given as goal

abbrev pub invariant-loop-held : goal.invariant-loop-held
invariant-loop-held g l = record {
  room : length l.bytes ≡ length l.fn.bytes;
  within : l.held ≤ length l.fn.bytes;
}

abbrev pub decreases-loop-held : goal.decreases-loop-held
decreases-loop-held g l = length l.bytes - l.held
