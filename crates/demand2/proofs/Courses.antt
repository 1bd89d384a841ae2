-- What every run of a fixed unit from state 0 comes to beside the single-cycle machine: by induction on the budget, one
-- instruction at a time.
-- Assumes nothing.
use mathlib.Core.List.{List, [], ◌∷◌, ◌++◌, append-nil}
use mathlib.Core.Logic.{⊎_elim}
use mathlib.Core.Path.{◌≡◌, refl, ap, sym, subst, ◌∙◌}
use Prim.Native.Nat.{ℕ, zero, suc, ◌+◌, ◌-◌, ◌≤◌, ◌<◌}
use native.Mathlib.Nat.{add-zero, zero-add, add_assoc}
use native.Mathlib.Numerals.{one-add}
use native.Mathlib.Omega.{arith}
use lib.ListN.{length, length-append}
use borrow.Author.Tests.{eq-eqb}
use Rattle.control.specs.Units.{unit_cycle}
use Rattle.control.specs.declared.units.Unit.{Unit}
use Rattle.datapath.specs.Machines.{MachineState, fetching}
use Rattle.single.specs.Instruction.{instruction}
use Rattle.single.specs.Visible.{Visible}
use Rattle.terms.specs.Answers.{No, answered, refused}
use Rattle.terms.specs.Going.{then}
use Rattle.terms.specs.Refusals.{spent, stopped}
use Rattle.terms.specs.Running.{Ran, ran, onto, one_if, running}
use Rattle.terms.proofs.Answers.{order, never}
use Rattle.terms.proofs.Going.{ended, run_through, run_to_refusal}
use Rattle.terms.proofs.Running.{run_none, run_done, same_ran}
use Rattle.demand2.specs.Demand2.{stopped_pc}
use Rattle.demand2.specs.Paths.{path_before, Enters, visible_in}
use Rattle.demand2.proofs.Alone.{cost, Does, none, more}
use Rattle.demand2.proofs.Instructions.{Instructed, completes, stops, instructed, ends}
use Rattle.demand2.proofs.Kept.{Holds}

-- A run of m ends at a fetch, between two, or where the single-cycle machine stops.
module _ (m : MachineState) (budget : ℕ) (r : Ran MachineState) where
  pub record AtFetch : Type 0 where
    pub outcome : r.outcome ≡ spent
    pub steps : r.steps ≡ budget
    pub fetches : r.state.latches.state ≡ 0
    pub does : Does r.instructions budget (visible_in m) (visible_in r.state)

  -- in the midst of the instruction at a state that the single-cycle machine shows
  pub record Underway : Type 0 where
    pub shown : Visible
    pub cycles : ℕ
    pub outcome : r.outcome ≡ spent
    pub steps : r.steps ≡ budget
    pub elsewhere : r.state.latches.state ≡ 0 → ⊥
    pub does : Does r.instructions cycles (visible_in m) shown
    pub had : cycles < budget
    pub unfinished : {after : Visible} → instruction shown ≡ answered after → budget < cycles + cost shown
    pub unrefused : {q : No} → instruction shown ≡ refused q → budget ≤ cycles + length (path_before shown)

  pub record Halted : Type 0 where
    pub shown : Visible
    pub cycles : ℕ
    pub refusal : No
    pub outcome : r.outcome ≡ stopped refusal
    pub refuses : instruction shown ≡ refused refusal
    pub registers : r.state.registers ≡ shown.registers
    pub memory : r.state.image ≡ shown.image
    pub pc : r.state.latches.pc.0 ≡ stopped_pc shown
    pub does : Does r.instructions cycles (visible_in m) shown
    pub steps : r.steps ≡ cycles + length (path_before shown)
    pub early : r.steps < budget

  pub data Course : Type 0 where
    at_fetch : AtFetch → Course
    underway : Underway → Course
    halted : Halted → Course

-- an instruction more before it
one_more_lem : (m after : MachineState) → instruction (visible_in m) ≡ answered (visible_in after) → (b : ℕ) (r : Ran MachineState) → Course after b r → Course m (cost (visible_in m) + b) (onto (cost (visible_in m)) 1 r)
one_more_lem m after e b r (at_fetch c) =
    at_fetch (record { outcome = c.outcome; steps = ap (λ n. cost (visible_in m) + n) c.steps; fetches = c.fetches; does = more e c.does })
one_more_lem m after e b r (underway c) =
    let k = cost (visible_in m) in
    let had : k + c.cycles < k + b = omega (arith, c.had) in
    underway (record {
      shown = c.shown;
      cycles = k + c.cycles;
      outcome = c.outcome;
      steps = ap (λ n. k + n) c.steps;
      elsewhere = c.elsewhere;
      does = more e c.does;
      had = had;
      unfinished = λ i. omega (arith, c.unfinished i);
      unrefused = λ i. omega (arith, c.unrefused i);
    })
one_more_lem m after e b r (halted c) =
    let k = cost (visible_in m) in
    halted (record {
      shown = c.shown;
      cycles = k + c.cycles;
      refusal = c.refusal;
      outcome = c.outcome;
      refuses = c.refuses;
      registers = c.registers;
      memory = c.memory;
      pc = c.pc;
      does = more e c.does;
      steps = ap (λ n. k + n) c.steps ∙ sym (add_assoc k c.cycles (length (path_before c.shown)));
      early = omega (arith, c.early);
    })

module _ (u : Unit) where
  abbrev runs : ℕ → MachineState → Ran MachineState
  runs budget m = running (unit_cycle u) fetching budget m

  -- part of a way on which no state is 0
  part : (front rest : List ℕ) {m end : MachineState} → Enters u (front ++ rest) m end → ended ends front ≡ 0 → (b : ℕ) → 0 < b → b ≤ length front → (x : MachineState) × (x.latches.state ≡ 0 → ⊥) × (runs b m ≡ ran spent x b 0)
  part [] rest g z b h f = absurd (omega arith)
  part (k ∷ front) rest {m} (then {mid = mid} e way) z b h f = by b h f (λ c less long. part front rest way (omega arith) c less long)
    where
      uncounted : one_if (ends mid.latches.state) ≡ 0
      uncounted = omega arith

      onward : (c : ℕ) {x : MachineState} → runs c mid ≡ ran spent x c 0 → runs (suc c) m ≡ ran spent x (suc c) 0
      onward c e' =
          run_done (unit_cycle u) fetching c m e ∙ ap (onto 1 (one_if (ends mid.latches.state))) e'
          ∙ same_ran refl refl (one-add c) (add-zero (one_if (ends mid.latches.state)) ∙ uncounted)

      by : (c : ℕ) → 0 < c → c ≤ suc (length front) → ((d : ℕ) → 0 < d → d ≤ length front → (x : MachineState) × (x.latches.state ≡ 0 → ⊥) × (runs d mid ≡ ran spent x d 0)) → (x : MachineState) × (x.latches.state ≡ 0 → ⊥) × (runs c m ≡ ran spent x c 0)
      by zero some long go = absurd (omega arith)
      by (suc zero) some long go =
          (mid, (λ home. let w : one_if (ends mid.latches.state) ≡ 1 = rw (eq-eqb mid.latches.state 0 home) in omega arith), onward 0 (run_none (unit_cycle u) fetching mid))
      by (suc (suc c)) some long go = let p = go (suc c) (omega arith) (omega arith) in (p.0, p.1, onward (suc c) p.2)

  -- how many instructions end on a way whose last state alone is 0
  one_ended : (front : List ℕ) → ended ends front ≡ 0 → ended ends (front ++ (0 ∷ [])) ≡ 1
  one_ended [] z = refl
  one_ended (k ∷ front) z =
      let first : one_if (ends k) ≡ 0 = omega arith in
      let others = one_ended front (omega arith) in
      rw (first, others)

  -- from a fetch, where the courses of shorter runs are known
  module _ (m : MachineState) (b : ℕ) (home : m.latches.state ≡ 0) (holds : Holds (visible_in m)) (shorter : (c : ℕ) → c < b → (after : MachineState) → after.latches.state ≡ 0 → Holds (visible_in after) → Course after c (runs c after)) where
    at_once : b ≡ 0 → Course m b (runs b m)
    at_once e =
        subst (λ n. Course m n (runs n m)) (sym e)
        (subst (Course m 0) (sym (run_none (unit_cycle u) fetching m))
        (at_fetch (record { outcome = refl; steps = refl; fetches = home; does = none })))

    -- part of the way to the next fetch, or to the refusal
    part_way : (front rest : List ℕ) {end : MachineState} → Enters u (front ++ rest) m end → ended ends front ≡ 0 → 0 < b → b ≤ length front → ((after : Visible) → instruction (visible_in m) ≡ answered after → b < cost (visible_in m)) → ((q : No) → instruction (visible_in m) ≡ refused q → b ≤ length (path_before (visible_in m))) → Course m b (runs b m)
    part_way front rest g z some long unfinished unrefused =
        let p = part front rest g z b some long in
        subst (Course m b) (sym p.2)
        (underway (record {
          shown = visible_in m;
          cycles = 0;
          outcome = refl;
          steps = refl;
          elsewhere = p.1;
          does = none;
          had = omega arith;
          unfinished = λ {after} i. omega (arith, unfinished after i);
          unrefused = λ {q} i. omega (arith, unrefused q i);
        }))

    by_instruction : 0 < b → Instructed u m → Course m b (runs b m)
    by_instruction some (completes front after split away does goes after-home after_holds) =
        let s = visible_in m in
        let k : cost s ≡ suc (length front) = ap length split ∙ simp length-append (omega arith) in
        ⊎_elim
        (λ short. part_way front (0 ∷ []) (rw split at goes) away some (omega arith) (λ _ _. short) (λ _ isnt. never (sym isnt ∙ does)))
        (λ long.
        let rest = b - cost s in
        let n : cost s + rest ≡ b = ⊎_elim (λ e. omega arith) (λ e. omega arith) long in
        let c = shorter rest (omega arith) after after-home after_holds in
        let through : runs (cost s + rest) m ≡ onto (cost s) 1 (runs rest after) =
        run_through (unit_cycle u) (λ x. x.latches.state) ends goes rest
        ∙ ap (λ j. onto (cost s) j (runs rest after)) (ap (ended ends) split ∙ one_ended front away)
        in
        subst (λ j. Course m j (runs j m)) n (subst (Course m (cost s + rest)) (sym through) (one_more_lem m after does rest (runs rest after) c)))
        (order b (cost s))
    by_instruction some (stops refusal end away isnt goes cut same-registers same_memory same-pc) =
        let s = visible_in m in
        let before = path_before s in
        ⊎_elim
        (λ early.
        let n : length before + suc (b - suc (length before)) ≡ b = omega arith in
        let to : runs (length before + suc (b - suc (length before))) m ≡ ran (stopped refusal) end (length before) 0 =
        run_to_refusal (unit_cycle u) (λ x. x.latches.state) ends goes cut (b - suc (length before))
        ∙ same_ran refl refl refl away
        in
        subst (Course m b) (sym (ap (λ j. runs j m) (sym n) ∙ to))
        (halted (record {
          shown = s;
          cycles = 0;
          refusal = refusal;
          outcome = refl;
          refuses = isnt;
          registers = same-registers;
          memory = same_memory;
          pc = same-pc;
          does = none;
          steps = sym (zero-add (length before));
          early = early;
        })))
        (λ late.
        let long : b ≤ length before = ⊎_elim (λ e. omega arith) (λ e. omega arith) late in
        part_way before [] {end = end} (rw append-nil goes) away some long (λ _ does. never (sym isnt ∙ does)) (λ _ _. long))
        (order (length before) b)

    one_course : Course m b (runs b m)
    one_course =
        ⊎_elim (λ h. absurd (omega arith)) (λ h. ⊎_elim at_once (λ some. by_instruction some (instructed u m home holds)) h) (order b 0)

  by_budget : (f b : ℕ) → b ≤ f → (m : MachineState) → m.latches.state ≡ 0 → Holds (visible_in m) → Course m b (runs b m)
  by_budget zero b h m home holds = one_course m b home holds (λ c g. absurd (omega arith))
  by_budget (suc f) b h m home holds = one_course m b home holds (λ c g. by_budget f c (omega arith))

  pub course : (m : MachineState) → m.latches.state ≡ 0 → Holds (visible_in m) → (budget : ℕ) → Course m budget (runs budget m)
  course m home holds budget = by_budget budget budget (omega arith) m home holds
