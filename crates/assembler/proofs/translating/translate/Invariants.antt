-- The words so far, with those of the lines that are left, are the words of all lines.
use Rattle.source.specs.Lines.{lines_of}
use Rattle.assembler.proofs.Translated.{Translating}
use Rattle.assembler.proofs.translating.translate.Given as goal

abbrev pub invariant-loop-number : goal.invariant-loop-number
invariant-loop-number l =
    (goal.iterator-loop-number).can_next l.number-iterator ×
    (goal.iterator-loop-number).is_finite l.number-iterator ×
    Translating l.given.0 (lines_of l.text) l.words l.number-iterator.iter.0.now l.number-iterator.count
