-- The check and the run of a store meet demand 3.
-- Assumes nothing.
use mathlib.Core.Path.{◌≡◌, sym, subst}
use Prim.Native.Nat.{ℕ}
use Rattle.control.specs.Running.{store_run}
use Rattle.datapath.specs.Machines.{MachineState}
use Rattle.microcode.specs.declared.stores.Store.{Store}
use Rattle.walks.proofs.Admitted.{admission}
use Rattle.walks.specs.Checking.{checking}
use Rattle.demand3.specs.Demand3.{Taken, Demand3}
use Rattle.demand3.specs.Runs.{Runs}
use Rattle.demand3.proofs.Runs.{goes, running_runs}

-- nothing refuses a run that is taken
run_started : (s : Store) (m : MachineState) (budget : ℕ) → Taken checking s m budget → store_run s m budget ≡ goes s m budget
unfolding store_run
run_started s m budget t = rw (t.fits, t.allows, t.admits, t.fetches)

pub demand_3 : Demand3 checking store_run
demand_3 =
    record {
      ranges = admission.ranges;
      admits = admission.admits;
      names = admission.names;
      runs = λ s m budget t. subst (λ r. Runs s m budget r) (sym (run_started s m budget t)) (running_runs s t.admits m t.fetches budget);
    }
