-- The lines so far are in the table.
use Rattle.std.proofs.Common.{◌-◌, length}
use Rattle.source.specs.Lines.{lines_of}
use Rattle.assembler.proofs.Surveying.{Surveying}
use Rattle.assembler.proofs.table.Table.survey.Given as goal

abbrev pub invariant-loop-lines : goal.invariant-loop-lines
invariant-loop-lines l = Surveying (lines_of l.text) l.self.lines l.lines.0.now l.words

abbrev pub decreases-loop-lines : goal.decreases-loop-lines
decreases-loop-lines l = 4096 - length l.self.lines
