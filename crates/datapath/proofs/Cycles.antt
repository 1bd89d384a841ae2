-- What a cycle can refuse, what its answer was, and that it reads bits 17 to 2 of its control word alone.
-- Assumes nothing.
use mathlib.Core.Bool.{Bool, true, false, ◌||◌}
use mathlib.Core.List.{List}
use mathlib.Core.Path.{◌≡◌, ap, sym, ◌∙◌, subst}
use Prim.Native.Nat.{ℕ, ◌*◌, ◌/◌, ◌%◌, ◌^◌}
use native.Mathlib.Nat.{div-div-eq-div-mul}
use native.Mathlib.Omega.{arith}
use lib.Dec.{eqb, ltb}
use lib.ListN.{length}
use Rattle.parts.specs.Image.{accessing, located}
use Rattle.terms.specs.Answers.{No, no, Answer, answered, refused, pick, chain, fold}
use Rattle.terms.specs.Refusals.{refusal_of}
use Rattle.terms.specs.declared.refusals.Refusal.{Refusal}
use Rattle.datapath.specs.Cycle.{access_kind, access, operation, operating, function_result, entered, cycle, Refusable, misaligned, outside, no_entry, no_function}
use Rattle.datapath.specs.Machines.{MachineState, machine_state}
use Rattle.signals.specs.Signals.{mem_read, mem_write}
use Rattle.datapath.specs.Ticking.{Tick, tick_of, ticked_as}
use Rattle.datapath.specs.declared.cycle.Control.{Control}
use Rattle.std.specs.Prelude.{Ok, Err}
use Rattle.datapath.specs.declared.machine.Latches.{Latches}

-- what refuses an answer is refusable
abbrev Fails : {A : Type 0} → Answer A → Type 0
Fails a = fold (λ x. Unit {0}) Refusable a

fails_pick : {A : Type 0} (b : Bool) (x y : Answer A) → Fails x → Fails y → Fails (pick b x y)
fails_pick true x y p q = p
fails_pick false x y p q = q

fails_chain : {A B : Type 0} (a : Answer A) (f : A → Answer B) → Fails a → ((x : A) → Fails (f x)) → Fails (chain a f)
fails_chain (answered x) f p q = q x
fails_chain (refused r) f p q = p

-- what memory answers, by whether an address is aligned and inside
abbrev found : ℕ → Bool → Bool → Answer ℕ
found address aligned inside = pick aligned (pick inside (answered (address / 4)) (refused (no 2))) (refused (no 1))

fails_found : (w address : ℕ) (aligned inside : Bool) → Fails (located address (access_kind w) (found address aligned inside))
fails_found w address true true = tt
fails_found w address true false = outside address w
fails_found w address false inside = misaligned address w

fails_access : (w words address : ℕ) → Fails (located address (access_kind w) (accessing words address))
unfolding accessing
fails_access w words address = fails_found w address (eqb (address % 4) 0) (ltb (address / 4) words)

fails_operation : (op f x y : ℕ) → Fails (operation op f x y)
unfolding operation function_result
fails_operation op f x y =
    fails_pick (eqb op 0) _ _ tt
    (fails_pick (eqb op 1) _ _ tt
    (fails_pick (eqb f 32) _ _ tt
    (fails_pick (eqb f 34) _ _ tt
    (fails_pick (eqb f 36) _ _ tt (fails_pick (eqb f 37) _ _ tt (fails_pick (eqb f 42) _ _ tt no_function))))))

fails_cycle : (c : Control) (m : MachineState) → Fails (cycle c m)
unfolding cycle
fails_cycle c m =
    fails_chain (access c.word m.latches (length m.image)) _
    (fails_pick (mem_read c.word || mem_write c.word) _ _ (fails_access c.word _ _) tt) (λ k.
    fails_chain (operating c.word m.latches) _ (fails_operation _ _ _ _) (λ result.
    fails_chain (entered c.next) _ (fails_pick (eqb c.next 255) _ _ no_entry tt) (λ state. tt)))

-- a cycle refuses what a clock cycle can refuse, and nothing else
pub cycle_refuses : (c : Control) (m : MachineState) {r : No} → cycle c m ≡ refused r → Refusable r
cycle_refuses c m e = subst Fails e (fails_cycle c m)

-- what a cycle was, from what `tick` answered of it
module _ (l : Latches) (m : MachineState) (answer : Answer MachineState) (cells image : List ℕ) where
  pub done_tick : {after : Latches} → ticked_as l (Ok after) cells image ≡ tick_of m answer → answer ≡ answered (machine_state cells after image)
  done_tick e = sym (ap (λ (t : Tick). t.answer) e)

  pub refused_tick : (r : Refusal) → ticked_as l (Err r) cells image ≡ tick_of m answer → (answer ≡ refused (refusal_of r)) × (machine_state cells l image ≡ m)
  refused_tick r e =
      let a : answer ≡ refused (refusal_of r) = sym (ap (λ (t : Tick). t.answer) e) in
      (a, ap (λ (t : Tick). t.machine) e ∙ ap (fold (λ after. after) (λ q. m)) a)

-- the sixteen control bits of a word, where they stand in it
abbrev pub control_bits : ℕ → ℕ
control_bits w = w / 4 * 4

shifted : (w n : ℕ) → w / 4 * 4 / (4 * n) ≡ w / (4 * n)
shifted w n =
    let a : w / 4 * 4 / 4 ≡ w / 4 = omega arith in
    sym (div-div-eq-div-mul (w / 4 * 4) 4 n) ∙ ap (λ x. x / n) a ∙ div-div-eq-div-mul w 4 n

-- a cycle reads no other
pub by_control_bits : (w next : ℕ) (m : MachineState) → cycle (record { word = control_bits w; next = next }) m ≡ cycle (record { word = w; next = next }) m
unfolding cycle
by_control_bits w next m =
    simp (
      shifted w (2 ^ 15),
      shifted w (2 ^ 14),
      shifted w (2 ^ 13),
      shifted w (2 ^ 12),
      shifted w (2 ^ 11),
      shifted w (2 ^ 10),
      shifted w (2 ^ 9),
      shifted w (2 ^ 7),
      shifted w (2 ^ 5),
      shifted w (2 ^ 3),
      shifted w (2 ^ 2),
      shifted w 2,
      shifted w 1,
    )
