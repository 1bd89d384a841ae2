use Rattle.std.proofs.Common.{◌≡◌, ◌^◌, ◌<◌, drop}
use Rattle.sheet.specs.Lines.{word}
use Rattle.sheet.proofs.Places.{after}
use Rattle.sheet.proofs.lines.word.Given as goal

-- the digits read so far and those that are left write the word
abbrev pub invariant-loop-byte : goal.invariant-loop-byte
invariant-loop-byte l = record {
  small : l.value < 16 ^ l.byte-index;
  same : after l.value (drop l.byte-index l.digits) ≡ word l.digits;
}
