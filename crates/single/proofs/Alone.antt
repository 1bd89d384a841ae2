-- "One cycle or instruction asked for alone is a run with budget 1."
-- Assumes nothing.
use mathlib.Core.Path.{refl}
use Rattle.terms.specs.Running.{running}
use Rattle.single.specs.Running.{single_run, InstructionAlone}

pub instruction_alone : InstructionAlone
unfolding single_run running
instruction_alone s = refl
