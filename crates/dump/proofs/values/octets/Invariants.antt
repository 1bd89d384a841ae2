use Rattle.std.proofs.Common.{◌≡◌, drop}
use Rattle.page.specs.Lent.{seen}
use Rattle.dump.specs.Waves.{octets}
use Rattle.dump.proofs.values.octets.Given as goal

abbrev pub invariant-loop-byte : goal.invariant-loop-byte
invariant-loop-byte l =
    (l.page.bytes.ghost_name ≡ l.fn.page.bytes.ghost_name)
    × (octets (drop l.byte-index l.bytes) (seen l.page) ≡ octets l.bytes (seen l.fn.page))
