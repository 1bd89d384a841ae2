use Rattle.std.proofs.Common.{◌≡◌, ◌-◌, ◌≤◌}
use Rattle.std.specs.Iterator.Adapters.{enumerate_source, enumerate_count}
use Rattle.std.specs.Slice.Iter.{chunks_rest, chunks_size}
use Rattle.sheet.specs.Lines.{lines}
use Rattle.sheet.specs.Sheets.{into, sheet_of}
use Rattle.sheet.proofs.parsing.parse.Given as goal

-- the image so far and the lines that are left make the sheet
abbrev pub invariant-loop-k : goal.invariant-loop-k
invariant-loop-k l = record {
  nine : chunks_size (enumerate_source l.k-iterator) ≡ 9;
  read : enumerate_count l.k-iterator ≤ 64;
  same : into l.image (enumerate_count l.k-iterator) (lines (64 - enumerate_count l.k-iterator) (chunks_rest (enumerate_source l.k-iterator))) ≡ sheet_of l.text;
}
