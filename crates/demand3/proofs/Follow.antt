-- The machine follows the walk, cycle by cycle: by induction on the states not yet entered.
-- Assumes nothing.
use mathlib.Core.Bool.{Bool, true, false, ◌&&◌, ◌||◌, not, and-false, false≢true}
use mathlib.Core.List.{List}
use mathlib.Core.Logic.{◌⊎◌, inl, inr, ⊎_elim}
use mathlib.Core.Path.{◌≡◌, refl, sym, ap, subst, ◌∙◌}
use Prim.Native.Nat.{ℕ, zero, suc, ◌≤◌, ◌<◌}
use native.Mathlib.Omega.{arith}
use lib.Dec.{eqb, ltb}
use lib.ListN.{length, get_or, set}
use borrow.Author.Tests.{eqb-true, eqb-false, eq-eqb, ne_eqb, not-true}
use Rattle.datapath.specs.Cycle.{after, cycle}
use Rattle.datapath.specs.Machines.{MachineState, fetching}
use Rattle.signals.specs.Signals.{mem_read, mem_write, ir_write, reg_write}
use Rattle.datapath.specs.declared.cycle.Control.{Control}
use Rattle.microcode.specs.Sequencing.{word_of, sequence, store_gives, store_cycle}
use Rattle.microcode.specs.declared.stores.Store.{Store}
use Rattle.walks.proofs.Admitted.{head_keeps, tail_keeps}
use Rattle.walks.proofs.Stepping.{count_enter, onward_enters}
use Rattle.walks.specs.Checking.{admitted, kept, rules_at, verdict_in}
use Rattle.walks.specs.Following.{count}
use Rattle.rules.specs.Rules.{writes, rule2, rule6, is_barred}
use Rattle.walks.specs.Walk.{may_enter, exit_to, Visit, visit, on_from, walk_from}
use Rattle.rules.specs.declared.rules.Exit.TheVariants.{Onward, Back, Missing, Barred}
use Rattle.rules.specs.declared.rules.Exit.{Exit}
use Rattle.terms.proofs.Answers.{picked, both_true}
use Rattle.terms.specs.Answers.{No, answered, refused, pick}
use Rattle.terms.specs.Going.{here}
use Rattle.words.specs.Fields.{opcode}
use Rattle.demand3.specs.Instructions.{away, back, Passes}
use Rattle.demand3.proofs.Turns.{Done, turn}
use Rattle.demand3.proofs.Ways.{back_more, step_away, step_back}

-- what an exit says of the next state
exit_onward : (u : List Bool) (next t : ℕ) → exit_to u next ≡ Onward t → (next ≡ t) × (t ≡ 0 → ⊥)
exit_onward u next t e =
    ⊎_elim (λ f. absurd (let p = f.1 in let z : ◌≡◌ {A = ℕ} 0 1 = cc in omega arith)) (λ f.
    ⊎_elim (λ g. absurd (let p = g.1 in let z : ◌≡◌ {A = ℕ} 0 1 = cc in omega arith)) (λ g.
    ⊎_elim (λ h. let p = h.1 in let q : next ≡ t = cc in (q, λ z. eqb-false next 0 g.0 (q ∙ z))) (λ h. absurd (let p = h.1 in let z : ◌≡◌ {A = ℕ} 0 1 = cc in omega arith))
    (picked (may_enter u next) g.1))
    (picked (eqb next 0) f.1))
    (picked (eqb next 255) e)

exit_back : (u : List Bool) (next : ℕ) → exit_to u next ≡ Back → next ≡ 0
exit_back u next e =
    ⊎_elim (λ f. absurd (let p = f.1 in let z : ◌≡◌ {A = ℕ} 0 1 = cc in omega arith)) (λ f.
    ⊎_elim (λ g. eqb-true next 0 g.0) (λ g.
    ⊎_elim (λ h. absurd (let p = h.1 in let z : ◌≡◌ {A = ℕ} 0 1 = cc in omega arith)) (λ h. absurd (let p = h.1 in let z : ◌≡◌ {A = ℕ} 0 1 = cc in omega arith))
    (picked (may_enter u next) g.1))
    (picked (eqb next 0) f.1))
    (picked (eqb next 255) e)

exit_missing : (u : List Bool) (next : ℕ) → exit_to u next ≡ Missing → eqb next 255 ≡ true
exit_missing u next e =
    ⊎_elim (λ f. f.0) (λ f.
    ⊎_elim (λ g. absurd (let p = g.1 in let z : ◌≡◌ {A = ℕ} 0 1 = cc in omega arith)) (λ g.
    ⊎_elim (λ h. absurd (let p = h.1 in let z : ◌≡◌ {A = ℕ} 0 1 = cc in omega arith)) (λ h. absurd (let p = h.1 in let z : ◌≡◌ {A = ℕ} 0 1 = cc in omega arith))
    (picked (may_enter u next) g.1))
    (picked (eqb next 0) f.1))
    (picked (eqb next 255) e)

or_false : (a b : Bool) → a || b ≡ false → (a ≡ false) × (b ≡ false)
or_false true b h = absurd (false≢true (sym h))
or_false false b h = (refl, h)

-- a cycle that writes nothing leaves registers and image
pub unwritten : (w : ℕ) (m : MachineState) (k result to : ℕ) → writes w ≡ false → ((after w m k result to).registers ≡ m.registers) × ((after w m k result to).image ≡ m.image)
unwritten w m k result to h =
    let p = or_false (reg_write w) (mem_write w) h in
    (rw p.0, rw p.1)

-- "stops with refusal 1 to 4 and registers and memory as at that fetch", sooner than so many cycles
pub record Stopped (s : Store) (n : ℕ) (m : MachineState) (cells words : List ℕ) : Type 0 where
  pub refusal : No
  pub cycles : ℕ
  pub reached : MachineState
  pub way : Passes s (away cycles) m reached
  pub refuses : store_cycle s reached ≡ refused refusal
  pub sooner : cycles < n
  pub registers : reached.registers ≡ cells
  pub image : reached.image ≡ words

-- the ways on, from a walk's position
abbrev pub Ahead : Store → ℕ → MachineState → List ℕ → List ℕ → Type 0
Ahead s n m cells words = ((last : MachineState) × Passes s (back n) m last) ⊎ Stopped s n m cells words

-- a cycle more before them
pub further : (s : Store) (n : ℕ) (m mid : MachineState) (cells words : List ℕ) → 1 ≤ n → store_cycle s m ≡ answered mid → fetching mid ≡ false → Ahead s n mid cells words → Ahead s (suc n) m cells words
further s n m mid cells words some e f (inl a) =
    inl (a.0, subst (λ p. Passes s p m a.0) (sym (back_more n some)) (step_away s e f a.1))
further s n m mid cells words some e f (inr a) =
    let k : a.cycles < n = a.sooner in
    inr (record {
      refusal = a.refusal;
      cycles = suc a.cycles;
      reached = a.reached;
      way = step_away s e f a.way;
      refuses = a.refuses;
      sooner = omega arith;
      registers = a.registers;
      image = a.image;
    })

-- what a store gives in a state, with its word by itself
abbrev pub given : Store → ℕ → ℕ → Control
given s state o = record { word = word_of s.words state; next = (store_gives s state o).next }

-- a cycle under a store, at a state and an opcode that are known
pub at_state : (s : Store) (m : MachineState) (o state : ℕ) → m.latches.state ≡ state → opcode m.latches.ir ≡ o → store_cycle s m ≡ cycle (given s state o) m
unfolding sequence
at_state s m o state e f = λ i. cycle (store_gives s (e i) (f i)) m

-- a walk has a state where one may be entered
walks_on : (s : Store) (o n : ℕ) (u : List Bool) (state : ℕ) → count u ≡ n → may_enter u state ≡ true → 1 ≤ length (walk_from n s o u state)
unfolding walk_from
walks_on s o zero u state e h =
    let b = count_enter u state (both_true (ltb state 16) (get_or u state false) h).1 in
    absurd (omega arith)
walks_on s o (suc n) u state e h = omega arith

module _ (s : Store) (o : ℕ) (cells words : List ℕ) where
  -- what holds where the machine stands at a state of the walk
  pub record Standing (n : ℕ) (u : List Bool) (state : ℕ) (written : Bool) (m : MachineState) : Type 0 where
    pub left : count u ≡ n
    pub enters : may_enter u state ≡ true
    pub fetched : state ≡ 0 → ⊥
    pub at : m.latches.state ≡ state
    pub by : opcode m.latches.ir ≡ o
    pub keeps : verdict_in s o written (walk_from n s o u state) ≡ admitted
    pub held : written ≡ false → (m.registers ≡ cells) × (m.image ≡ words)

  module _ (n : ℕ) (u : List Bool) (state : ℕ) (written : Bool) (m : MachineState) (k : Standing (suc n) u state written m) where
    abbrev u' : List Bool
    u' = set u state false

    abbrev c : Control
    c = given s state o

    abbrev w : ℕ
    w = word_of s.words state

    abbrev v : Visit
    v = visit s o u state

    abbrev from : ℕ → List Visit
    from t = walk_from n s o u' t

    entered : count u ≡ suc (count u')
    entered = count_enter u state (both_true (ltb state 16) (get_or u state false) k.enters).1

    keeps : (rule : ℕ) → kept (rules_at s written v) rule ≡ true
    unfolding walk_from
    keeps = head_keeps s o written v (on_from v.exit from) k.keeps

    rest : verdict_in s o (written || writes w) (on_from v.exit from) ≡ admitted
    unfolding walk_from
    rest = tail_keeps s o written v (on_from v.exit from) k.keeps

    -- rule 2 keeps IR
    no_fetch : ir_write w ≡ false
    unfolding rule2
    no_fetch = not-true (ir_write w) (ap (λ b. pick b true (not (ir_write w))) (sym (ne_eqb state 0 k.fetched)) ∙ keeps 2)

    same_opcode : (word result to : ℕ) → opcode (after w m word result to).latches.ir ≡ o
    same_opcode word result to =
        ap (λ b. opcode (pick b (get_or m.image word 0) m.latches.ir)) (ap (λ b. mem_read w && b) no_fetch ∙ and-false (mem_read w)) ∙ k.by

    does : Done c m → MachineState
    does d = after w m d.word d.result c.next

    abbrev More : Type 0
    More = (t : ℕ) (written' : Bool) (m' : MachineState) → Standing n u' t written' m' → Ahead s (length (from t)) m' cells words

    by_exit : (x : Exit) → v.exit ≡ x → verdict_in s o (written || writes w) (on_from x from) ≡ admitted → Done c m → More → Ahead s (suc (length (on_from x from))) m cells words
    unfolding rule6 does
    by_exit (Onward t) e r d more =
        let p = exit_onward u' c.next t e in
        let a : count u ≡ suc n = k.left in
        let b = entered in
        let left : count u' ≡ n = omega arith in
        let enters = onward_enters u' c.next e in
        further s (length (from t)) m (does d) cells words (walks_on s o n u' t left enters) (at_state s m o state k.at k.by ∙ d.makes) (ne_eqb c.next 0 (λ z. p.1 (sym p.0 ∙ z)))
        (more t (written || writes w) (does d) (record {
          left = left;
          enters = enters;
          fetched = p.1;
          at = p.0;
          by = same_opcode d.word d.result c.next;
          keeps = r;
          held = λ h.
              let f = or_false written (writes w) h in
              let g = unwritten w m d.word d.result c.next f.1 in
              (g.0 ∙ (k.held f.0).0, g.1 ∙ (k.held f.0).1);
        }))
    by_exit Back e r d more =
        inl (does d, step_back s (at_state s m o state k.at k.by ∙ d.makes) (eq-eqb c.next 0 (exit_back u' c.next e)))
    by_exit Missing e r d more = absurd (false≢true (sym d.entry ∙ exit_missing u' c.next e))
    by_exit Barred e r d more = absurd (false≢true (sym (ap (λ x. not (is_barred x)) e) ∙ keeps 6))

    turned : More → Ahead s (suc (length (on_from v.exit from))) m cells words
    turned more =
        ⊎_elim
        (λ d. by_exit v.exit refl rest d more)
        (λ r.
        inr (record {
          refusal = r.refusal;
          cycles = 0;
          reached = m;
          way = here;
          refuses = at_state s m o state k.at k.by ∙ r.refuses;
          sooner = omega arith;
          registers = (k.held r.unwritten).0;
          image = (k.held r.unwritten).1;
        }))
        (turn state c written u' keeps m)

  pub follow : (n : ℕ) (u : List Bool) (state : ℕ) (written : Bool) (m : MachineState) → Standing n u state written m → Ahead s (length (walk_from n s o u state)) m cells words
  unfolding walk_from
  follow zero u state written m k =
      let some = walks_on s o zero u state k.left k.enters in
      absurd (omega arith)
  follow (suc n) u state written m k = turned n u state written m k (λ t written' m'. follow n (set u state false) t written' m')
