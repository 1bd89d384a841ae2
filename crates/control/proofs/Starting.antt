-- What comes of a run by what it asks first.
-- Assumes nothing.
use mathlib.Core.Path.{◌≡◌, refl, ap}
use Prim.Native.Nat.{ℕ}
use native.Mathlib.Nat.{add-zero}
use Rattle.datapath.specs.Machines.{MachineState, fetching}
use Rattle.microcode.specs.Sequencing.{store_cycle}
use Rattle.microcode.specs.declared.stores.Store.{Store}
use Rattle.terms.specs.Answers.{No, Answer, answered, refused, fold}
use Rattle.terms.specs.Refusals.{yes, spent, stopped}
use Rattle.terms.specs.Running.{ran, onto, one_if, running, unless}
use Rattle.control.specs.Running.{unit_asks, unit_run, store_asks, store_run, one_cycle, CycleAlone}
use Rattle.control.specs.Units.{unit_cycle}
use Rattle.control.specs.declared.units.Unit.{Unit}

-- a run that asks first goes on, or is refused
module _ (u : Unit) (m : MachineState) (budget : ℕ) where
  pub unit_started : unit_asks m budget ≡ yes → unit_run u m budget ≡ running (unit_cycle u) fetching budget m
  unfolding unit_run
  unit_started e = rw e

  pub unit_refused : {r : No} → unit_asks m budget ≡ refused r → unit_run u m budget ≡ ran (stopped r) m 0 0
  unfolding unit_run
  unit_refused e = rw e

module _ (s : Store) (m : MachineState) (budget : ℕ) where
  pub store_started : store_asks s m budget ≡ yes → store_run s m budget ≡ running (store_cycle s) fetching budget m
  unfolding store_run
  store_started e = rw e

  pub store_refused : {r : No} → store_asks s m budget ≡ refused r → store_run s m budget ≡ ran (stopped r) m 0 0
  unfolding store_run
  store_refused e = rw e

-- a cycle asked for alone
alone : (step : MachineState → Answer MachineState) (m : MachineState) → running step fetching 1 m ≡ one_cycle (step m) m
unfolding running
alone step m = by (step m)
  where
    by : (a : Answer MachineState) → fold (λ after. onto 1 (one_if (fetching after)) (ran spent after 0 0)) (λ r. ran (stopped r) m 0 0) a ≡ one_cycle a m
    by (answered after) = ap (ran spent after 1) (add-zero (one_if (fetching after)))
    by (refused r) = refl

pub cycle_alone : CycleAlone
unfolding unit_run store_run
cycle_alone =
    record {
      under_unit = λ u m. ap (unless (unit_asks m 1) m) (alone (unit_cycle u) m);
      under_store = λ s m. ap (unless (store_asks s m 1) m) (alone (store_cycle s) m);
    }
