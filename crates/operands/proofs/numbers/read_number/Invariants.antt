-- What was taken, with what is left, is the number.
use Rattle.std.proofs.Common.{◌≡◌, ◌^◌, ◌≤◌, ◌<◌, length, drop}
use Rattle.operands.specs.Operands as of
use Rattle.operands.proofs.Written.{after}
use Rattle.operands.proofs.numbers.read_number.Given as goal

abbrev pub invariant-loop-byte : goal.invariant-loop-byte
invariant-loop-byte l = record {
  short : length l.part ≤ 8;
  base_is : l.base ≡ of.base l.kind;
  below : l.value < of.base l.kind ^ l.byte-index;
  number_is : after l.kind l.value (drop l.byte-index l.part) ≡ of.number l.kind l.part;
}
