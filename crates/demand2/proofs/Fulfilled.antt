-- Each fixed unit's run meets demand 2.
-- Assumes nothing.
use mathlib.Core.Bool.{true}
use mathlib.Core.Logic.{⊎_elim}
use mathlib.Core.Path.{◌≡◌, refl, ap, sym, subst, ◌∙◌}
use Prim.Native.Nat.{ℕ, suc, ◌+◌, ◌≤◌, ◌<◌}
use native.Mathlib.Omega.{arith}
use lib.Dec.{leb}
use lib.ListN.{length}
use borrow.Author.Tests.{leb-true, le-leb}
use Rattle.control.specs.Running.{unit_asks, unit_run}
use Rattle.control.specs.declared.units.Unit.{Unit}
use Rattle.control.proofs.Starting.{unit_started}
use Rattle.datapath.specs.Machines.{MachineState}
use Rattle.parts.specs.Ready.{asking}
use Rattle.single.specs.Instruction.{instruction}
use Rattle.single.specs.Visible.{Visible}
use Rattle.terms.specs.Answers.{No, no, answered, refused, pick}
use Rattle.terms.specs.Counts.{allowed}
use Rattle.terms.specs.Refusals.{Ended, yes, spent, stopped}
use Rattle.terms.specs.Running.{Ran}
use Rattle.terms.proofs.Answers.{chained, picked, never, value_of, refusal_of_lem}
use Rattle.demand2.specs.Demand2.{Starts, alone, cycles_of, Returned, cycles_to, stopped_pc, StopAlike, Counted, EndsWithin, Beside, UnitsMeet}
use Rattle.demand2.specs.Paths.{path_before, visible_in, Costs, OnPath}
use Rattle.demand2.proofs.Alone.{cost, some_cost, Does, some_cycles, costs, Compared, same, fewer, further, compare, alone_spent, alone_stopped, does_alone, refused_alone}
use Rattle.demand2.proofs.Courses.{Course, at_fetch, underway, halted, course}
use Rattle.demand2.proofs.Instructions.{Instructed, completes, stops, instructed}
use Rattle.demand2.proofs.Tabled.{table_run}

-- spent is not stopped
unspent : {o : Ended} {r : No} {B : Type 0} → o ≡ spent → o ≡ stopped r → B
unspent p q = let z : ◌≡◌ {A = ℕ} 0 1 = cc in absurd (omega arith)

pub within : (n budget : ℕ) → allowed budget ≡ true → n ≤ budget → allowed n ≡ true
within n budget ok h = let g = leb-true budget 1000000 ok in le-leb n 1000000 (omega arith)

module _ (m : MachineState) (start : Starts m) where
  abbrev s : Visible
  s = visible_in m

  -- what a run has counted
  counted : (budget : ℕ) (r : Ran MachineState) {c : ℕ} {t : Visible} → allowed budget ≡ true → Does r.instructions c s t → c ≤ r.steps → r.steps ≤ budget → ((after : Visible) → instruction t ≡ answered after → r.steps < c + cost t) → Counted m r
  counted budget r {c} {t} ok d had short unfinished =
      let some = some_cycles d in
      record {
        done = ap (λ (q : Ran Visible). q.outcome) (does_alone s start.fits (within r.instructions budget ok (omega arith)) d);
        had = rw (costs d) had;
        no_more = λ o. by (compare d (alone_spent s start.fits (suc r.instructions) o).0);
      }
    where
      by : {c' : ℕ} {t' : Visible} → Compared r.instructions c t (suc r.instructions) c' t' → r.steps < c'
      by (same i e x) = absurd (omega arith)
      by (fewer {after = after} i e h) = omega (arith, unfinished after e)
      by (further i e h) = absurd (omega arith)

  module _ (budget : ℕ) (r : Ran MachineState) (ok : allowed budget ≡ true) where
    course_ends : Course m budget r → EndsWithin budget r.outcome r.steps
    course_ends (at_fetch c) = rw c.outcome c.steps
    course_ends (underway c) = rw c.outcome c.steps
    course_ends (halted c) = rw c.outcome c.early

    course_counts : Course m budget r → Counted m r
    course_counts (at_fetch c) =
        let e = c.steps in
        counted budget r ok c.does (omega arith) (omega arith) (λ after i. let k = some_cost (visible_in r.state) i in omega arith)
    course_counts (underway c) =
        let e = c.steps in
        let h = c.had in
        counted budget r ok c.does (omega arith) (omega arith) (λ after i. omega (arith, c.unfinished i))
    course_counts (halted c) =
        let e = c.steps in
        let h = c.early in
        counted budget r ok c.does (omega arith) (omega arith) (λ after i. never (sym c.refuses ∙ i))

    course_returns : Course m budget r → r.outcome ≡ spent → r.state.latches.state ≡ 0 → Returned m r (alone m r.instructions)
    course_returns (at_fetch c) o home =
        let some = some_cycles c.does in
        subst (Returned m r) (sym (does_alone s start.fits (within r.instructions budget ok (omega arith)) c.does))
        (record {
          unstopped = o;
          alone_unstopped = refl;
          fetches = home;
          shows = refl;
          instructions = refl;
          cycles = c.steps ∙ sym (costs c.does);
        })
    course_returns (underway c) o home = absurd (c.elsewhere home)
    course_returns (halted c) o home = unspent o c.outcome

    -- where the single-cycle machine has done n instructions, at the budget's cycles
    course_meets : (n : ℕ) {t : Visible} → Does n budget s t → Course m budget r → Returned m r (alone m n)
    course_meets n {t} d (at_fetch c) = by (compare c.does d)
      where
        by : Compared r.instructions budget (visible_in r.state) n budget t → Returned m r (alone m n)
        by (same i e x) = subst (λ k. Returned m r (alone m k)) i (course_returns (at_fetch c) c.outcome c.fetches)
        by (fewer i e h) = let k = some_cost (visible_in r.state) e in absurd (omega arith)
        by (further i e h) = let k = some_cost t e in absurd (omega arith)
    course_meets n {t} d (underway c) = absurd (by (compare c.does d))
      where
        by : Compared r.instructions c.cycles c.shown n budget t → ⊥
        by (same i e x) = omega (arith, c.had)
        by (fewer i e h) = omega (arith, c.unfinished e)
        by (further i e h) = omega (arith, c.had)
    course_meets n {t} d (halted c) = absurd (by (compare c.does d))
      where
        by : Compared r.instructions c.cycles c.shown n budget t → ⊥
        by (same i e x) = omega (arith, c.early, c.steps)
        by (fewer i e h) = never (sym c.refuses ∙ e)
        by (further i e h) = omega (arith, c.early, c.steps)

    -- where it has stopped, with cycles to spare
    course_stops : (q : Ran Visible) {refusal : No} → Does q.instructions (cycles_of m q.instructions) s q.state → instruction q.state ≡ refused refusal → q.outcome ≡ stopped refusal → cycles_to m q < budget → Course m budget r → StopAlike m r q
    course_stops q d isnt o room (at_fetch c) = absurd (by (compare c.does d))
      where
        by : Compared r.instructions budget (visible_in r.state) q.instructions (cycles_of m q.instructions) q.state → ⊥
        by (same i e x) = omega arith
        by (fewer i e h) = omega arith
        by (further i e h) = never (sym isnt ∙ e)
    course_stops q d isnt o room (underway c) = absurd (by (compare c.does d))
      where
        by : Compared r.instructions c.cycles c.shown q.instructions (cycles_of m q.instructions) q.state → ⊥
        by (same i e x) = let l : length (path_before c.shown) ≡ length (path_before q.state) = ap (λ v. length (path_before v)) x in omega (arith, c.unrefused (ap instruction x ∙ isnt))
        by (fewer i e h) = omega (arith, c.unfinished e)
        by (further i e h) = never (sym isnt ∙ e)
    course_stops q {refusal} d isnt o room (halted c) = by (compare c.does d)
      where
        by : Compared r.instructions c.cycles c.shown q.instructions (cycles_of m q.instructions) q.state → StopAlike m r q
        by (same i e x) =
            let f : c.refusal ≡ refusal = refusal_of_lem (sym c.refuses ∙ ap instruction x ∙ isnt) in
            record {
              instructions = i;
              refusal = c.outcome ∙ ap stopped f ∙ sym o;
              registers = c.registers ∙ ap (λ (v : Visible). v.registers) x;
              memory = c.memory ∙ ap (λ (v : Visible). v.image) x;
              pc = c.pc ∙ ap stopped_pc x;
              cycles = c.steps ∙ ap (λ n. n + length (path_before c.shown)) e ∙ ap (λ v. cycles_of m q.instructions + length (path_before v)) x;
            }
        by (fewer i e h) = never (sym c.refuses ∙ e)
        by (further i e h) = never (sym isnt ∙ e)

    course_stopped : {refusal : No} → Course m budget r → r.outcome ≡ stopped refusal → StopAlike m r (alone m (suc r.instructions))
    course_stopped (at_fetch c) o = unspent c.outcome o
    course_stopped (underway c) o = unspent c.outcome o
    course_stopped (halted c) o =
        let some = some_cycles c.does in
        let e = c.steps in
        let h = c.early in
        subst (StopAlike m r) (sym (refused_alone s start.fits (within (suc r.instructions) budget ok (omega arith)) c.does c.refuses))
        (record {
          instructions = refl;
          refusal = c.outcome;
          registers = c.registers;
          memory = c.memory;
          pc = c.pc;
          cycles = c.steps ∙ ap (λ n. n + length (path_before c.shown)) (sym (costs c.does));
        })

  module _ (u : Unit) where
    taken : (budget : ℕ) → allowed budget ≡ true → unit_asks m budget ≡ yes
    taken budget ok = rw (start.fits, ok, start.fetches)

    unit_course : (budget : ℕ) → allowed budget ≡ true → Course m budget (unit_run u m budget)
    unit_course budget ok =
        subst (Course m budget) (sym (unit_started u m budget (taken budget ok)))
        (course u m start.fetches (record { registers = start.registers; image = start.memory }) budget)

    pub unit_beside : Beside (unit_run u) m
    unit_beside =
        record {
          meets = λ n o ok. course_meets (cycles_of m n) (unit_run u m (cycles_of m n)) ok n (alone_spent s start.fits n o).0 (unit_course (cycles_of m n) ok);
          returns = λ budget ok. course_returns budget (unit_run u m budget) ok (unit_course budget ok);
          counts = λ budget ok. course_counts budget (unit_run u m budget) ok (unit_course budget ok);
          ends = λ budget ok. course_ends budget (unit_run u m budget) ok (unit_course budget ok);
          stops = λ budget n refusal ok enough o room.
              let d = alone_stopped s start.fits n enough o in
              course_stops budget (unit_run u m budget) ok (alone m n) d.0 d.1 o room (unit_course budget ok);
          stops_there = λ budget refusal ok. course_stopped budget (unit_run u m budget) ok (unit_course budget ok);
        }

-- a start that is taken is in one of states 0 to 9
below_ten : (m : MachineState) (budget : ℕ) → unit_asks m budget ≡ yes → m.latches.state < 10
below_ten m budget e =
    let state = m.latches.state in
    let asked = chained (asking (length m.image) (allowed budget)) (λ _. pick (leb state 9) yes (refused (no 5))) e in
    ⊎_elim (λ h. let g = leb-true state 9 h.0 in omega arith) (λ h. never h.1) (picked (leb state 9) asked.2)

-- each instruction keeps to its path
pub costs_are : Costs
costs_are = refl

on_path : (u : Unit) (m : MachineState) → Starts m → OnPath u m
on_path u m start =
    by (instructed u m start.fetches (record { registers = start.registers; image = start.memory }))
  where
    by : Instructed u m → OnPath u m
    by (completes front after split away does goes home holds) =
        record {
          to_fetch = λ v e. (after, goes, value_of (sym does ∙ e));
          to_refusal = λ r e. never (sym e ∙ does);
        }
    by (stops refusal end away isnt goes cut same-registers same_memory same-pc) =
        record {
          to_fetch = λ v e. never (sym isnt ∙ e);
          to_refusal = λ r e. (end, goes, cut ∙ ap refused (refusal_of_lem (sym isnt ∙ e)));
        }

pub units_meet : UnitsMeet
units_meet =
    record {
      demand = λ u. record {
        beside = λ m start. unit_beside m start u;
        cycles = λ m budget taken. unit_started u m budget taken ∙ table_run u budget m (below_ten m budget taken);
      };
      on_path = on_path;
    }
