-- No second check meets demand 3, and no second run; so no check that admits all stores, or none, no run that always refuses or never stops, and no
-- made-up count.
-- Assumes nothing.
use mathlib.Core.Bool.{true}
use mathlib.Core.List.{[], ◌∷◌}
use mathlib.Core.Path.{◌≡◌, refl, sym, ap, ◌∙◌}
use Prim.Native.Nat.{ℕ}
use native.Mathlib.Omega.{arith}
use lib.Dec.{lit<}
use lib.ListN.{replicate}
use Rattle.datapath.specs.Cycle.{cycle, operation}
use Rattle.datapath.specs.Machines.{MachineState, machine_state, latched}
use Rattle.microcode.specs.Sequencing.{sequence}
use Rattle.microcode.specs.Stores.{in_range}
use Rattle.microcode.specs.declared.stores.Store.{Store}
use Rattle.parts.specs.Image.{sized, accessing}
use Rattle.walks.proofs.Admitted.{admission}
use Rattle.walks.specs.Checking.{Verdict, range, admitted, breach, first_from, verdict_in, checking}
use Rattle.rules.specs.Rules.{rule1, rule2, rule3, rule4, rule5, rule6}
use Rattle.walks.specs.Walk.{walk_from}
use Rattle.terms.specs.Counts.{allowed}
use Rattle.terms.specs.Refusals.{spent, stopped, no_at}
use Rattle.terms.specs.declared.refusals.AccessKind.TheVariants.{Fetch}
use Rattle.terms.specs.Running.{Ran, running}
use Rattle.demand3.specs.Demand3.{Check, RunUnder, Taken, Demand3}
use Rattle.demand3.specs.Refuted.{Counts, counting, ShutOut, Determined}
use Rattle.demand3.proofs.Runs.{goes, runs_as, one_run}

module _ {check other : Check} {run another : RunUnder} (d : Demand3 check run) (e : Demand3 other another) where
  same_check : (s : Store) → check s ≡ other s
  same_check s = by (check s) refl
    where
      by : (v : Verdict) → check s ≡ v → check s ≡ other s
      by range h = h ∙ sym ((e.ranges s).1 ((d.ranges s).0 h))
      by admitted h = h ∙ sym ((e.admits s).1 ((d.admits s).0 h))
      by (breach o t r) h = h ∙ sym ((e.names s o t r).1 ((d.names s o t r).0 h))

  taken_too : (s : Store) (m : MachineState) (budget : ℕ) → Taken check s m budget → Taken other s m budget
  taken_too s m budget t = record { admits = sym (same_check s) ∙ t.admits; fetches = t.fetches; fits = t.fits; allows = t.allows }

  pub determined : Determined check other run another
  determined =
      record {
        one_check = same_check;
        one_run = λ s m budget t. one_run (d.runs s m budget t) (e.runs s m budget (taken_too s m budget t));
      }

-- A store whose state 0 fetches and whose state 1 goes back, and one whose state 0 does nothing.

stored : ℕ → Store
stored w = record { words = w ∷ replicate 15 0; rom1 = replicate 64 255; rom2 = replicate 64 255 }

fetches : checking (stored 0x25023) ≡ admitted
unfolding stored checking first_from verdict_in walk_from sequence in_range rule1 rule2 rule3 rule4 rule5 rule6
fetches = refl

idles : checking (stored 0) ≡ breach 0 0 1
unfolding stored checking first_from verdict_in walk_from sequence in_range rule1 rule2 rule3 rule4 rule5 rule6
idles = refl

-- a machine about to fetch at a PC, in an image of one word, 0
about : ℕ → MachineState
about pc = machine_state (replicate 32 0) (latched pc 0 0 0 0 0 0) (0 ∷ [])

spends : (goes (stored 0x25023) (about 0) 2).outcome ≡ spent
unfolding about stored running cycle operation accessing sequence
spends = refl

stops : (goes (stored 0x25023) (about 4) 1).outcome ≡ stopped (no_at 2 4 Fetch)
unfolding about stored running cycle operation accessing sequence
stops = refl

module _ {check : Check} {run : RunUnder} (d : Demand3 check run) where
  admits : check (stored 0x25023) ≡ admitted
  admits = (d.admits (stored 0x25023)).1 ((admission.admits (stored 0x25023)).0 fetches)

  breaks : check (stored 0) ≡ breach 0 0 1
  breaks = (d.names (stored 0) 0 0 1).1 ((admission.names (stored 0) 0 0 1).0 idles)

  taken : (pc budget : ℕ) → allowed budget ≡ true → Taken check (stored 0x25023) (about pc) budget
  unfolding about sized
  taken pc budget h = record { admits = admits; fetches = refl; fits = refl; allows = h }

  ends_so : (pc budget : ℕ) (h : allowed budget ≡ true) → (run (stored 0x25023) (about pc) budget).outcome ≡ (goes (stored 0x25023) (about pc) budget).outcome
  ends_so pc budget h = ap (λ (r : Ran MachineState). r.outcome) (sym (runs_as (d.runs (stored 0x25023) (about pc) budget (taken pc budget h))))

  counted : (cycles instructions : Counts) → Demand3 check (counting run cycles instructions) → (s : Store) (m : MachineState) (budget : ℕ) → Taken check s m budget → counting run cycles instructions s m budget ≡ run s m budget
  counted cycles instructions e s m budget t = one_run (e.runs s m budget t) (d.runs s m budget t)

  pub shut_out : ShutOut check run
  shut_out =
      record {
        admits_all = λ all. differ (all (stored 0)) breaks;
        admits_none = λ none. none (stored 0x25023) admits;
        constant = λ v same. differ (sym (same (stored 0x25023)) ∙ admits) (sym (same (stored 0)) ∙ breaks);
        refuser = λ refuses. refuses (stored 0x25023) (about 0) 2 (taken 0 2 refl) (lit< tt) (ends_so 0 2 refl ∙ spends);
        endless = λ never. unlike (sym (never (stored 0x25023) (about 4) 1 (taken 4 1 refl)) ∙ ends_so 4 1 refl ∙ stops);
        cycle_count = λ cycles instructions e s m budget t. ap (λ (r : Ran MachineState). r.steps) (counted cycles instructions e s m budget t);
        instruction_count = λ cycles instructions e s m budget t. ap (λ (r : Ran MachineState). r.instructions) (counted cycles instructions e s m budget t);
      }
    where
      differ : {v : Verdict} {o t r : ℕ} → v ≡ admitted → v ≡ breach o t r → ⊥
      differ p q = let z : ◌≡◌ {A = ℕ} 0 1 = cc in omega arith

      unlike : spent ≡ stopped (no_at 2 4 Fetch) → ⊥
      unlike p = let z : ◌≡◌ {A = ℕ} 0 1 = cc in omega arith
