-- No second answer, and no other image, meets the promise of a run.
-- Assumes nothing.
use mathlib.Core.Path.{◌≡◌, ap}
use Rattle.datapath.specs.Machines.{MachineState}
use Rattle.terms.specs.Answers.{OneWith}
use Rattle.terms.specs.Running.{Ran}
use Rattle.terms.proofs.One.{one_value, outcome_one}
use Rattle.control.specs.Running.{ran_as, RunsTo}

pub run_one : (expected : Ran MachineState) → OneWith (RunsTo expected)
run_one expected r s a b p q =
    let e : ran_as r a ≡ ran_as s b = one_value p q in
    let o = outcome_one r.outcome s.outcome (ap (λ (x : Ran MachineState). x.outcome) e) (λ i. (ran_as s b).outcome) in (
      λ i. record {
        outcome = o i;
        machine = record { registers = (e i).state.registers; latches = (e i).state.latches };
        cycles = record { 0 = (e i).steps };
        instructions = record { 0 = (e i).instructions };
      },
      ap (λ (x : Ran MachineState). x.state.image) e,
    )
