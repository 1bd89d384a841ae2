-- Of two runs that meet demand 2, outcome and counts are the same at every budget.
-- Assumes nothing.
use mathlib.Core.Bool.{true}
use mathlib.Core.Logic.{⊎_elim}
use mathlib.Core.Path.{◌≡◌, refl, sym, ◌∙◌}
use Prim.Native.Nat.{ℕ, suc, ◌≤◌, ◌<◌}
use native.Mathlib.Omega.{arith}
use Rattle.datapath.specs.Machines.{MachineState}
use Rattle.single.specs.Instruction.{instruction}
use Rattle.single.specs.Visible.{Visible}
use Rattle.terms.specs.Answers.{No, refused}
use Rattle.terms.specs.Counts.{allowed}
use Rattle.terms.specs.Refusals.{Ended, spent, stopped}
use Rattle.terms.specs.Running.{Ran}
use Rattle.terms.proofs.Answers.{never, order}
use Rattle.demand2.specs.Demand2.{Run, Starts, alone, cycles_of, cycles_to, StopAlike, Counted, Beside}
use Rattle.demand2.specs.Refuted.{EndAlike, Determined}
use Rattle.demand2.specs.Paths.{visible_in}
use Rattle.demand2.proofs.Alone.{Does, some_cycles, Compared, same, fewer, further, compare, alone_spent, alone_stopped}
use Rattle.demand2.proofs.Fulfilled.{within}

module _ (m : MachineState) (start : Starts m) where
  abbrev s : Visible
  s = visible_in m

  -- fewer instructions than were done are done too
  prefix : (n : ℕ) {n' c' : ℕ} {t' : Visible} → allowed n ≡ true → Does n' c' s t' → n ≤ n' → (alone m n).outcome ≡ spent
  prefix n {n'} {c'} {t'} ok d h = by (alone m n).outcome refl
    where
      by : (o : Ended) → (alone m n).outcome ≡ o → (alone m n).outcome ≡ spent
      by spent e = e
      by (stopped r) e = let p = alone_stopped s start.fits n ok e in against p.1 p.2 (compare p.0 d)
        where
          against : {c : ℕ} → instruction (alone m n).state ≡ refused r → (alone m n).instructions < n → Compared (alone m n).instructions c (alone m n).state n' c' t' → (alone m n).outcome ≡ spent
          against isnt less (same i q x) = absurd (omega arith)
          against isnt less (fewer i q x) = never (sym isnt ∙ q)
          against isnt less (further i q x) = absurd (omega arith)

  -- what is counted was done, and has had a cycle each
  counted_does : (r : Ran MachineState) → Counted m r → Does r.instructions (cycles_of m r.instructions) s (alone m r.instructions).state
  counted_does r c = (alone_spent s start.fits r.instructions c.done).0

  counted_some : (r : Ran MachineState) → Counted m r → r.instructions ≤ r.steps
  counted_some r c = let some = some_cycles (counted_does r c) in let had = c.had in omega arith

  -- fewer cannot be counted where more are, in no more cycles
  not_fewer : (r r' : Ran MachineState) → Counted m r → Counted m r' → allowed r'.steps ≡ true → r'.steps ≤ r.steps → r.instructions < r'.instructions → ⊥
  not_fewer r r' c c' ok less h =
      let n = suc r.instructions in
      let some = counted_some r' c' in
      let done : (alone m n).outcome ≡ spent = prefix n (within n r'.steps ok (omega arith)) (counted_does r' c') h in
      let short : r.steps < cycles_of m n = c.no_more done in
      let had : cycles_of m r'.instructions ≤ r'.steps = c'.had in
      by (omega arith) (compare (alone_spent s start.fits n done).0 (counted_does r' c'))
    where
      by : {t t' : Visible} → cycles_of m r'.instructions < cycles_of m (suc r.instructions) → Compared (suc r.instructions) (cycles_of m (suc r.instructions)) t r'.instructions (cycles_of m r'.instructions) t' → ⊥
      by less (same i q x) = omega arith
      by less (fewer i q x) = omega arith
      by less (further i q x) = omega arith

  counted_once : (r r' : Ran MachineState) → Counted m r → Counted m r' → allowed r.steps ≡ true → r.steps ≡ r'.steps → r.instructions ≡ r'.instructions
  counted_once r r' c c' ok e =
      ⊎_elim
      (λ h. absurd (not_fewer r r' c c' (rw e at ok) (omega arith) h))
      (λ h. ⊎_elim (λ i. i) (λ g. absurd (not_fewer r' r c' c ok (omega arith) g)) h)
      (order r.instructions r'.instructions)

  module _ (budget : ℕ) (ok : allowed budget ≡ true) where
    -- where one has stopped, so has the other
    stop_alike : (run other : Run) {refusal : No} → Beside run m → Beside other m → (run m budget).outcome ≡ stopped refusal → EndAlike (run m budget) (other m budget)
    stop_alike run other {refusal} b b' o =
        let r = run m budget in
        let early : r.steps < budget = rw o at (b.ends budget ok) in
        let some = counted_some r (b.counts budget ok) in
        let n = suc r.instructions in
        let stop : StopAlike m r (alone m n) = b.stops_there budget refusal ok o in
        let room : cycles_to m (alone m n) < budget = rw stop.cycles at early in
        let stop' : StopAlike m (other m budget) (alone m n) = b'.stops budget n refusal ok (within n budget ok (omega arith)) (sym stop.refusal ∙ o) room in
        record {
          outcome = stop.refusal ∙ sym stop'.refusal;
          cycles = stop.cycles ∙ sym stop'.cycles;
          instructions = stop.instructions ∙ sym stop'.instructions;
        }

    pub end_alike : (run other : Run) → Beside run m → Beside other m → EndAlike (run m budget) (other m budget)
    end_alike run other b b' = by (run m budget).outcome refl
      where
        both : (o : Ended) → (run m budget).outcome ≡ spent → (other m budget).outcome ≡ o → EndAlike (run m budget) (other m budget)
        both spent p q =
            let e : (run m budget).steps ≡ budget = rw p at (b.ends budget ok) in
            let e' : (other m budget).steps ≡ budget = rw q at (b'.ends budget ok) in
            record {
              outcome = p ∙ sym q;
              cycles = e ∙ sym e';
              instructions = counted_once (run m budget) (other m budget) (b.counts budget ok) (b'.counts budget ok) (rw e ok) (e ∙ sym e');
            }
        both (stopped refusal) p q =
            let a = stop_alike other run b' b q in
            record { outcome = sym a.outcome; cycles = sym a.cycles; instructions = sym a.instructions }

        by : (o : Ended) → (run m budget).outcome ≡ o → EndAlike (run m budget) (other m budget)
        by spent p = both (other m budget).outcome p refl
        by (stopped refusal) p = stop_alike run other b b' p

pub determined : (run other : Run) → Determined run other
determined run other =
    record {
      counts = λ m start b b' budget ok. end_alike m start budget ok run other b b';
      whole = λ d d' m budget taken. d.cycles m budget taken ∙ sym (d'.cycles m budget taken);
    }
