-- A run of the single-cycle machine: its step is an instruction, and its budget is in instructions.
use Rattle.std.specs.Prelude.{true, List, ◌≡◌, ℕ, length, replicate}
use Rattle.terms.specs.Answers.{fold}
use Rattle.terms.specs.Counts.{allowed}
use Rattle.terms.specs.Refusals.{spent, stopped, outcome_of}
use Rattle.terms.specs.Running.{Ran, ran, running, unless}
use Rattle.parts.specs.Ready.{asking}
use Rattle.single.specs.Instruction.{instruction}
use Rattle.single.specs.Visible.{Visible, visible}
use Rattle.single.specs.declared.machine.SingleCycle.{SingleCycle}
use Rattle.single.specs.declared.machine.SingleRun.{SingleRun}

-- the machine at reset: zero registers, PC 0
abbrev pub at_reset : SingleCycle
at_reset = record { registers = replicate 32 0; pc = record { 0 = 0 } }

-- what the programmer sees of a machine and its image
abbrev pub visible_of : SingleCycle → List ℕ → Visible
visible_of machine image = visible machine.registers machine.pc.0 image

-- "Before a run: 6, 7"; then instructions, as far as the budget goes
unfoldable pub single_run : Visible → ℕ → Ran Visible
single_run s budget =
    unless (asking (length s.image) (allowed budget)) s (running instruction (λ _. true) budget s)

-- what `SingleRun` says, with the image as it is left; each step is an instruction
abbrev pub single_run_as : SingleRun → List ℕ → Ran Visible
single_run_as r image =
    ran (outcome_of r.outcome) (visible_of r.machine image) r.instructions.0 r.instructions.0

-- what `run` promises
abbrev pub RunsSingle : Visible → ℕ → SingleRun → List ℕ → Type 0
RunsSingle s budget r image = single_run_as r image ≡ single_run s budget

-- "One cycle or instruction asked for alone is a run with budget 1."
abbrev pub InstructionAlone : Type 0
InstructionAlone = (s : Visible) → single_run s 1
    ≡ unless (asking (length s.image) true) s
    (fold (λ after. ran spent after 1 1) (λ r. ran (stopped r) s 0 0) (instruction s))
