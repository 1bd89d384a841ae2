-- What demand 2 shuts out, each by one start: a jump in an image of one word, or a word that is no instruction.
-- Assumes nothing.
use mathlib.Core.List.{List, [], ◌∷◌}
use mathlib.Core.Path.{◌≡◌, refl, ap, sym, subst, ◌∙◌}
use Prim.Native.Nat.{ℕ, zero, suc, ◌^◌, ◌<◌}
use native.Mathlib.Omega.{arith}
use lib.Dec.{lit<}
use lib.ListN.{get_or, replicate}
use Rattle.control.specs.Units.{unit_gives}
use Rattle.datapath.specs.Cycle.{cycle, operation}
use Rattle.datapath.specs.Machines.{MachineState}
use Rattle.microcode.specs.Fixed.{ten_words, fixed_store}
use Rattle.parts.specs.Image.{sized, accessing, reading, HoldsWords}
use Rattle.single.specs.Instruction.{executing, instruction}
use Rattle.single.specs.Running.{single_run}
use Rattle.single.specs.Visible.{Visible, visible}
use Rattle.terms.specs.Answers.{no}
use Rattle.terms.specs.Refusals.{spent, stopped}
use Rattle.terms.specs.Running.{Ran, ran, running}
use Rattle.words.specs.Kinds.{by_opcode}
use Rattle.demand2.specs.Demand2.{Run, Starts, alone, cycles_of, cycles_to, Returned, AllBeside, Demand2}
use Rattle.demand2.specs.Refuted.{Refuses, Constant, Idles, NeverStops, AtOnce, with_cycles, with_instructions, ShutOut}
use Rattle.demand2.specs.Paths.{cost_from, visible_in}
use Rattle.demand2.proofs.Determining.{end_alike}
use Rattle.demand2.proofs.Steps.{at}

-- a machine with one register set, about to fetch the one word of its image
abbrev cells : ℕ → List ℕ
cells first = 0 ∷ first ∷ replicate 30 0

at_word : ℕ → ℕ → MachineState
at_word first word = at 0 (cells first) 0 0 0 0 0 0 (word ∷ [])

one_and : (x : ℕ) (l : List ℕ) → x < 2 ^ 32 → HoldsWords l → HoldsWords (x ∷ l)
one_and x l h g zero = h
one_and x l h g (suc k) = g k

zeros : (n : ℕ) → HoldsWords (replicate n 0)
zeros zero k = lit< tt
zeros (suc n) k = one_and 0 (replicate n 0) (lit< tt) (zeros n) k

starts : (first word : ℕ) → first < 2 ^ 32 → word < 2 ^ 32 → Starts (at_word first word)
unfolding at_word sized
starts first word h g =
    record {
      fetches = refl;
      fits = refl;
      registers = one_and 0 (first ∷ replicate 30 0) (lit< tt) (one_and first (replicate 30 0) h (zeros 30));
      memory = one_and word [] g (λ k. lit< tt);
    }

-- j 2: to PC 8, in three cycles
abbrev jump : ℕ
jump = 0x08000002

abbrev jumping : ℕ → MachineState
jumping first = at_word first jump

abbrev jumped : ℕ → Ran Visible
jumped first = ran spent (visible (cells first) 8 (jump ∷ [])) 1 1

jumps : (first : ℕ) → alone (jumping first) 1 ≡ jumped first
unfolding at_word sized single_run running instruction reading accessing by_opcode executing
jumps first = refl

three : (first : ℕ) → cycles_of (jumping first) 1 ≡ 3
unfolding at_word cost_from instruction reading accessing by_opcode executing
three first = refl

-- opcode 63: refused in state 1, after one cycle
abbrev unknown : MachineState
unknown = at_word 0 0xFC000000

refuses : alone unknown 1 ≡ ran (stopped (no 3)) (visible_in unknown) 0 0
unfolding at_word sized single_run running instruction reading accessing by_opcode
refuses = refl

soon : cycles_to unknown (alone unknown 1) < 2
unfolding at_word sized single_run running instruction reading accessing by_opcode cost_from
soon = lit< tt

module _ (run : Run) (beside : AllBeside run) where
  met : (first : ℕ) → first < 2 ^ 32 → Returned (jumping first) (run (jumping first) 3) (jumped first)
  met first h =
      subst (λ n. Returned (jumping first) (run (jumping first) n) (jumped first)) (three first)
      (subst (Returned (jumping first) (run (jumping first) (cycles_of (jumping first) 1))) (jumps first)
      ((beside (jumping first) (starts first jump h (lit< tt))).meets 1 (ap (λ (q : Ran Visible). q.outcome) (jumps first)) (rw (three first) refl)))

  no_refuser : Refuses run → ⊥
  no_refuser refuses = refuses (jumping 0) (starts 0 jump (lit< tt) (lit< tt)) 3 (lit< tt) (met 0 (lit< tt)).unstopped

  no_constant : Constant run → ⊥
  no_constant same =
      let is : (first : ℕ) → first < 2 ^ 32 → same.0.registers ≡ cells first =
      λ first h. sym (ap (λ (x : MachineState). x.registers) (same.1 (jumping first) (starts first jump h (lit< tt)) 3)) ∙ ap (λ (v : Visible). v.registers) (met first h).shows
      in
      let z : ◌≡◌ {A = ℕ} 0 1 = ap (λ (l : List ℕ). get_or l 1 0) (sym (is 0 (lit< tt)) ∙ is 1 (lit< tt)) in
      omega arith

  no_idler : Idles run → ⊥
  unfolding at_word
  no_idler same =
      let z : ◌≡◌ {A = ℕ} 0 8 = ap (λ (v : Visible). v.pc) (sym (same (jumping 0) (starts 0 jump (lit< tt) (lit< tt)) 3) ∙ (met 0 (lit< tt)).shows) in
      omega arith

  no_endless : NeverStops run → ⊥
  no_endless spends =
      let start = starts 0 0xFC000000 (lit< tt) (lit< tt) in
      let o : (alone unknown 1).outcome ≡ stopped (no 3) = ap (λ (q : Ran Visible). q.outcome) refuses in
      let stop = (beside unknown start).stops 2 1 (no 3) refl refl o soon in
      let e : spent ≡ stopped (no 3) = sym (spends unknown start 2) ∙ stop.refusal ∙ o in
      let z : ◌≡◌ {A = ℕ} 0 1 = cc in
      omega arith

no_at_once : (run : Run) → Demand2 run → AtOnce run → ⊥
unfolding at_word sized running accessing cycle operation unit_gives fixed_store ten_words
no_at_once run demand whole =
    let start = starts 0 jump (lit< tt) (lit< tt) in
    let first : (run (jumping 0) 1).state.latches.pc.0 ≡ 4 =
    ap (λ (r : Ran MachineState). r.state.latches.pc.0) (demand.cycles (jumping 0) 1 refl)
    in
    let all : (run (jumping 0) 1).state.latches.pc.0 ≡ 8 =
    ap (λ (v : Visible). v.pc)
    (whole (jumping 0) start (ap (λ (q : Ran Visible). q.outcome) (jumps 0)) ∙ ap (λ (q : Ran Visible). q.state) (jumps 0))
    in
    omega arith

pub shut_out : ShutOut
shut_out =
    record {
      refuser = no_refuser;
      constant = no_constant;
      idler = no_idler;
      endless = no_endless;
      at_once = no_at_once;
      cycle_count = λ run count b c m start budget ok. (end_alike m start budget ok (with_cycles run count) run (c m start) (b m start)).cycles;
      instruction_count = λ run count b c m start budget ok. (end_alike m start budget ok (with_instructions run count) run (c m start) (b m start)).instructions;
    }
