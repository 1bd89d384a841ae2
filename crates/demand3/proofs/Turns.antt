-- A turn of a walk that keeps the rules: done, or refused with nothing written so far.
-- Assumes nothing.
use mathlib.Core.Bool.{Bool, true, false, ◌&&◌, ◌||◌, not, false≢true}
use mathlib.Core.List.{List}
use mathlib.Core.Logic.{◌⊎◌, inl, inr}
use mathlib.Core.Path.{◌≡◌, refl, sym, ap, ◌∙◌}
use Prim.Native.Nat.{ℕ}
use native.Mathlib.Omega.{arith}
use lib.Dec.{eqb}
use lib.ListN.{length}
use borrow.Author.Tests.{eqb-false, eq-eqb, not-true}
use Rattle.datapath.specs.Cycle.{access, after, cycle}
use Rattle.datapath.specs.Machines.{MachineState}
use Rattle.signals.specs.Signals.{mem_read, mem_write, alu_op, pc_source}
use Rattle.datapath.specs.declared.cycle.Control.{Control}
use Rattle.walks.specs.Checking.{kept}
use Rattle.rules.specs.Rules.{rules, rule4, rule5, is_missing}
use Rattle.walks.specs.Walk.{exit_to}
use Rattle.terms.proofs.Answers.{both_true}
use Rattle.terms.specs.Answers.{No, answered, refused}
use Rattle.demand3.proofs.Cycles.{Cycled, done, no_memory, no_function, no_entry, cycled}

-- rule 5 lets nothing be refused after a write
free : (w x : Bool) → not (w && x) ≡ true → x ≡ true → w ≡ false
free true x h e = absurd (false≢true (sym (ap not e) ∙ h))
free false x h e = refl

or_left : {a : Bool} (b : Bool) → a ≡ true → a || b ≡ true
or_left b e = rw e

or_right : (a : Bool) {b : Bool} → b ≡ true → a || b ≡ true
or_right true e = refl
or_right false e = e

-- what a refused cycle says
pub record Refused (c : Control) (m : MachineState) (written : Bool) : Type 0 where
  pub refusal : No
  pub refuses : cycle c m ≡ refused refusal
  pub unwritten : written ≡ false

-- what a cycle that is done says
pub record Done (c : Control) (m : MachineState) : Type 0 where
  pub word : ℕ
  pub result : ℕ
  pub accesses : access c.word m.latches (length m.image) ≡ answered word
  pub entry : eqb c.next 255 ≡ false
  pub makes : cycle c m ≡ answered (after c.word m word result c.next)

module _ (state : ℕ) (c : Control) (written : Bool) (unentered : List Bool) (keeps : (rule : ℕ) → kept (rules state c.word written (exit_to unentered c.next)) rule ≡ true) (m : MachineState) where
  abbrev w : ℕ
  w = c.word

  abbrev ends : Bool
  ends = is_missing (exit_to unentered c.next)

  unwrites : (mem_read w || mem_write w) || (eqb (alu_op w) 2 || ends) ≡ true → written ≡ false
  unfolding rule5
  unwrites e = free written ((mem_read w || mem_write w) || (eqb (alu_op w) 2 || ends)) (keeps 5) e

  by_function_lem : eqb (alu_op w) 0 ≡ false → eqb (alu_op w) 1 ≡ false → eqb (alu_op w) 2 ≡ true
  unfolding rule4
  by_function_lem a b =
      let p = not-true (eqb (alu_op w) 3) (both_true (not (eqb (alu_op w) 3)) (not (eqb (pc_source w) 3)) (keeps 4)).0 in
      let x = eqb-false (alu_op w) 0 a in
      let y = eqb-false (alu_op w) 1 b in
      let z = eqb-false (alu_op w) 3 p in
      eq-eqb (alu_op w) 2 (omega arith)

  no_way : eqb c.next 255 ≡ true → ends ≡ true
  no_way e = rw e

  pub turn : Done c m ⊎ Refused c m written
  turn = by (cycled c m)
    where
      by : Cycled c m → Done c m ⊎ Refused c m written
      by (done k result e g d) = inl (record { word = k; result = result; accesses = e; entry = g; makes = d })
      by (no_memory r e uses d) = inr (record { refusal = r; refuses = d; unwritten = unwrites (or_left (eqb (alu_op w) 2 || ends) uses) })
      by (no_function k r e a b d) = inr (record { refusal = r; refuses = d; unwritten = unwrites (or_right (mem_read w || mem_write w) (or_left ends (by_function_lem a b))) })
      by (no_entry k r e g d) = inr (record { refusal = r; refuses = d; unwritten = unwrites (or_right (mem_read w || mem_write w) (or_right (eqb (alu_op w) 2) (no_way g))) })
