-- What a run comes to determines it; and every run of a machine in state 0 under an admitted store comes to that.
-- Assumes nothing.
use mathlib.Core.Bool.{Bool, false}
use mathlib.Core.List.{List, [], ◌∷◌, ◌++◌}
use mathlib.Core.Logic.{⊎_elim}
use mathlib.Core.Path.{◌≡◌, refl, sym, ap, subst, ◌∙◌}
use Prim.Native.Nat.{ℕ, zero, suc, ◌+◌, ◌-◌, ◌≤◌, ◌<◌}
use native.Mathlib.Nat.{add-zero}
use native.Mathlib.Omega.{arith}
use lib.ListN.{length, length-append, length-replicate}
use borrow.Author.Tests.{eqb-true}
use Rattle.datapath.proofs.Cycles.{cycle_refuses}
use Rattle.datapath.specs.Cycle.{Refusable}
use Rattle.datapath.specs.Machines.{MachineState, fetching}
use Rattle.microcode.specs.Sequencing.{store_gives, store_cycle}
use Rattle.microcode.specs.declared.stores.Store.{Store}
use Rattle.walks.specs.Checking.{admitted, checking}
use Rattle.terms.proofs.Answers.{order, value_of}
use Rattle.terms.proofs.Going.{ended, go_on, run_through, run_to_refusal}
use Rattle.terms.proofs.Running.{run_none, same_ran}
use Rattle.terms.specs.Answers.{No, answered, refused}
use Rattle.terms.specs.Going.{here}
use Rattle.terms.specs.Refusals.{spent, stopped}
use Rattle.terms.specs.Running.{Ran, ran, onto, running}
use Rattle.words.specs.Fields.{opcode}
use Rattle.demand3.specs.Instructions.{walk_length, fetched, away, back, Passes, none, one, lengths}
use Rattle.demand3.specs.Runs.{Ends, at_budget, at_refusal, Runs}
use Rattle.demand3.proofs.Fates.{Fate, unfetched, comes, stops, fate}
use Rattle.demand3.proofs.Ways.{walk_some, ended_more, ended_away, last_seen, parted, away_part, back_part, trail, completes_passes, trail_length, trail_ended}

-- the run of which demand 3 speaks, once nothing refuses it
abbrev pub goes : Store → MachineState → ℕ → Ran MachineState
goes s m budget = running (store_cycle s) fetching budget m

-- What a run comes to is what `running` gives.
module _ {s : Store} {m : MachineState} {budget : ℕ} {r : Ran MachineState} (t : Runs s m budget r) where
  abbrev path : List Bool
  path = trail s t.opcodes ++ away t.since

  way : Passes s path m r.state
  way = go_on (store_cycle s) fetching (completes_passes s t.completes) t.underway

  path_length : length path ≡ r.steps
  path_length =
      let a = length-append (trail s t.opcodes) (away t.since) in
      let b = length-replicate t.since false in
      let c = trail_length s t.opcodes in
      let d = t.cycles in
      omega (arith, a, b, c, d)

  path_ended : ended (λ b. b) path ≡ r.instructions
  path_ended =
      let a = ended_more (trail s t.opcodes) (away t.since) in
      let b = ended_away t.since in
      let c = trail_ended s t.opcodes in
      let d = t.instructions in
      omega (arith, a, b, c, d)

  pub runs_as : goes s m budget ≡ r
  runs_as = by t.ends
    where
      by : Ends s t.fetch budget r → goes s m budget ≡ r
      by (at_budget o e) =
          let n : budget ≡ length path + 0 = let a = path_length in omega arith in
          ap (goes s m) n
          ∙ run_through (store_cycle s) fetching (λ b. b) way 0
          ∙ ap (onto (length path) (ended (λ b. b) path)) (run_none (store_cycle s) fetching r.state)
          ∙ same_ran (sym o) refl (add-zero (length path) ∙ path_length) (add-zero (ended (λ b. b) path) ∙ path_ended)
      by (at_refusal q can o e h registers image) =
          let n : budget ≡ length path + suc (budget - suc r.steps) = let a = path_length in omega arith in
          ap (goes s m) n
          ∙ run_to_refusal (store_cycle s) fetching (λ b. b) way e (budget - suc r.steps)
          ∙ same_ran (sym o) refl path_length path_ended

-- So there is one result: outcome, machine with image, cycles and instructions.
pub one_run : {s : Store} {m : MachineState} {budget : ℕ} {r q : Ran MachineState} → Runs s m budget r → Runs s m budget q → r ≡ q
one_run a b = sym (runs_as a) ∙ runs_as b

-- what a word reads as is one word
fewer : (s : Store) (m : MachineState) (since : ℕ) {word : ℕ} → fetched m ≡ answered word → since < walk_length s (opcode word) → (w : ℕ) → fetched m ≡ answered w → since < walk_length s (opcode w)
fewer s m since e h w f = subst (λ (x : ℕ). since < walk_length s (opcode x)) (value_of (sym e ∙ f)) h

-- back at fetch is in state 0
at_zero : (s : Store) (n : ℕ) (m last : MachineState) → Passes s (back n) m last → last.latches.state ≡ 0
at_zero s n m last g = eqb-true last.latches.state 0 (last_seen s (parted s (away (n - 1)) g).2 refl)

module _ (s : Store) where
  -- some result is what a run of so many cycles comes to
  abbrev Some : ℕ → MachineState → Type 0
  Some b m = (r : Ran MachineState) × Runs s m b r

  -- its budget ends since the fetch
  some_spent : (b : ℕ) (m now : MachineState) → Passes s (away b) m now → ((w : ℕ) → fetched m ≡ answered w → b < walk_length s (opcode w)) → Some b m
  unfolding lengths
  some_spent b m now way short =
      (ran spent now b 0, record { opcodes = []; fetch = m; since = b; completes = none; underway = way; within = short; cycles = omega arith; instructions = refl; ends = at_budget refl refl })

  -- it is refused since the fetch
  some_stopped : (b since : ℕ) (m now : MachineState) (r : No) → Passes s (away since) m now → since < b → store_cycle s now ≡ refused r → now.registers ≡ m.registers → now.image ≡ m.image → ((w : ℕ) → fetched m ≡ answered w → since < walk_length s (opcode w)) → Some b m
  unfolding lengths
  some_stopped b since m now r way h e registers image short =
      let can : Refusable r = cycle_refuses (store_gives s now.latches.state (opcode now.latches.ir)) now e in
      (ran (stopped r) now since 0, record { opcodes = []; fetch = m; since = since; completes = none; underway = way; within = short; cycles = omega arith; instructions = refl; ends = at_refusal r can refl e h registers image })

  -- an instruction more before it
  later_ends : (fetch : MachineState) (n b : ℕ) (r : Ran MachineState) → Ends s fetch b r → Ends s fetch (n + b) (onto n 1 r)
  later_ends fetch n b r (at_budget o e) = at_budget o (ap (λ k. n + k) e)
  later_ends fetch n b r (at_refusal q can o e h registers image) = at_refusal q can o e (omega arith) registers image

  some_more : (b : ℕ) (m last : MachineState) (word : ℕ) → fetched m ≡ answered word → Passes s (back (walk_length s (opcode word))) m last → walk_length s (opcode word) ≤ 16 → Some b last → Some (walk_length s (opcode word) + b) m
  unfolding lengths
  some_more b m last word rd way short p =
      let r = p.0 in
      let t = p.1 in (
        onto (walk_length s (opcode word)) 1 r,
        record {
          opcodes = opcode word ∷ t.opcodes;
          fetch = t.fetch;
          since = t.since;
          completes = one word rd way short t.completes;
          underway = t.underway;
          within = t.within;
          cycles = regroup (walk_length s (opcode word)) r.steps (lengths s t.opcodes) t.since t.cycles;
          instructions = counted r.instructions (length t.opcodes) t.instructions;
          ends = later_ends t.fetch (walk_length s (opcode word)) b r t.ends;
        },
      )
    where
      regroup : (n c l k : ℕ) → c ≡ l + k → n + c ≡ n + l + k
      regroup n c l k e = omega arith

      counted : (i l : ℕ) → i ≡ l → 1 + i ≡ suc l
      counted i l e = omega arith

  module _ (admits : checking s ≡ admitted) where
    one_turn : (b : ℕ) (m : MachineState) → m.latches.state ≡ 0 → ((b' : ℕ) → b' < b → (last : MachineState) → last.latches.state ≡ 0 → Some b' last) → Some b m
    one_turn zero m z more = some_spent 0 m m here (λ w e. walk_some s (opcode w))
    one_turn (suc b) m z more = by (fate s admits m z)
      where
        completed : (word : ℕ) (last : MachineState) → fetched m ≡ answered word → Passes s (back (walk_length s (opcode word))) m last → walk_length s (opcode word) ≤ 16 → walk_length s (opcode word) ≤ suc b → Some (suc b) m
        completed word last rd way short h =
            let n = walk_length s (opcode word) in
            let k : 1 ≤ n = walk_some s (opcode word) in
            let e : n + (suc b - n) ≡ suc b = omega arith in
            subst (λ x. Some x m) e (some_more (suc b - n) m last word rd way short (more (suc b - n) (omega arith) last (at_zero s n m last way)))

        by : Fate s m → Some (suc b) m
        by (unfetched q r rd e) = some_stopped (suc b) 0 m m r here (omega arith) e refl refl (λ w f. walk_some s (opcode w))
        by (comes word last rd way short) =
            ⊎_elim
            (λ g. let p = back_part s (suc b) g way in some_spent (suc b) m p.0 p.1 (fewer s m (suc b) rd g))
            (λ g. completed word last rd way short (⊎_elim (λ e. omega arith) (λ h. omega arith) g))
            (order (suc b) (walk_length s (opcode word)))
        by (stops word rd st) =
            let i : st.cycles < walk_length s (opcode word) = st.sooner in
            ⊎_elim
            (λ g. some_stopped (suc b) st.cycles m st.reached st.refusal st.way g st.refuses st.registers st.image (fewer s m st.cycles rd st.sooner))
            (λ g.
            let h : suc b ≤ st.cycles = ⊎_elim (λ e. omega arith) (λ f. omega arith) g in
            let q = away_part s (suc b) h st.way in
            some_spent (suc b) m q.0 q.1 (fewer s m (suc b) rd (omega arith)))
            (order st.cycles (suc b))

    some_run : (f b : ℕ) → b ≤ f → (m : MachineState) → m.latches.state ≡ 0 → Some b m
    some_run zero b h m z = one_turn b m z (λ b' g. absurd (omega arith))
    some_run (suc f) b h m z = one_turn b m z (λ b' g last home. some_run f b' (omega arith) last home)

    -- every run of a machine in state 0 under an admitted store comes to that
    pub running_runs : (m : MachineState) → m.latches.state ≡ 0 → (budget : ℕ) → Runs s m budget (goes s m budget)
    running_runs m z budget =
        let p = some_run budget budget (omega arith) m z in
        subst (Runs s m budget) (sym (runs_as p.1)) p.1
