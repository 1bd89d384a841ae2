-- The bytes that have come are held in order; each read that brings one brings the text nearer to being full.
use Rattle.std.proofs.Common.{◌≡◌, ◌-◌, ◌≤◌, length, take}
use Rattle.std.specs.Io.KnownBytes.{Consumes}
use Rattle.bench.proofs.input.read_all.Given as goal

abbrev pub invariant-loop-held : goal.invariant-loop-held
invariant-loop-held g l = record {
  room : length l.room ≡ length l.initial.room;
  within : l.held ≤ length l.room;
  taken : Consumes (g.R.Read.remaining l.initial.input) (g.R.Read.remaining l.input) (take l.held l.room);
}

abbrev pub decreases-loop-held : goal.decreases-loop-held
decreases-loop-held g l = 577 - l.held
