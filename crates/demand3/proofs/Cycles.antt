-- How a clock cycle comes out: done, or refused by memory, by the function, or at a dispatch.
-- Assumes nothing.
use mathlib.Core.Bool.{Bool, true, false, ◌||◌}
use mathlib.Core.Logic.{⊎_elim}
use mathlib.Core.Path.{◌≡◌, refl, sym}
use Prim.Native.Nat.{ℕ}
use lib.Dec.{eqb}
use lib.ListN.{length}
use Rattle.datapath.specs.Cycle.{access, first, second, operation, operating, after, cycle}
use Rattle.datapath.specs.Machines.{MachineState}
use Rattle.signals.specs.Signals.{mem_read, mem_write, alu_op}
use Rattle.datapath.specs.declared.cycle.Control.{Control}
use Rattle.datapath.specs.declared.machine.Latches.{Latches}
use Rattle.terms.proofs.Answers.{never, picked}
use Rattle.terms.specs.Answers.{No, no, Answer, answered, refused}
use Rattle.words.specs.Fields.{function, field, sign_extend}

-- memory refuses where it is used
access_refused : (w : ℕ) (l : Latches) (words : ℕ) {r : No} → access w l words ≡ refused r → mem_read w || mem_write w ≡ true
access_refused w l words h = ⊎_elim (λ g. g.0) (λ g. never (sym g.1)) (picked (mem_read w || mem_write w) h)

-- the ALU refuses where ALUOp neither adds nor subtracts
operation_refused : (op f x y : ℕ) {r : No} → operation op f x y ≡ refused r → (eqb op 0 ≡ false) × (eqb op 1 ≡ false)
unfolding operation
operation_refused op f x y h =
    ⊎_elim (λ g. never (sym g.1)) (λ g.
    ⊎_elim (λ k. never (sym k.1)) (λ k. (g.0, k.0))
    (picked (eqb op 1) g.1))
    (picked (eqb op 0) h)

-- how a cycle comes out
pub data Cycled (c : Control) (m : MachineState) : Type 0 where
  done : (k result : ℕ) → access c.word m.latches (length m.image) ≡ answered k → eqb c.next 255 ≡ false → cycle c m ≡ answered (after c.word m k result c.next) → Cycled c m
  no_memory : (r : No) → access c.word m.latches (length m.image) ≡ refused r → mem_read c.word || mem_write c.word ≡ true → cycle c m ≡ refused r → Cycled c m
  no_function : (k : ℕ) (r : No) → access c.word m.latches (length m.image) ≡ answered k → eqb (alu_op c.word) 0 ≡ false → eqb (alu_op c.word) 1 ≡ false → cycle c m ≡ refused r → Cycled c m
  no_entry : (k : ℕ) (r : No) → access c.word m.latches (length m.image) ≡ answered k → eqb c.next 255 ≡ true → cycle c m ≡ refused r → Cycled c m

pub cycled : (c : Control) (m : MachineState) → Cycled c m
unfolding cycle
cycled c m = by_access (access c.word m.latches (length m.image)) refl
  where
    by_entry : (k result : ℕ) → access c.word m.latches (length m.image) ≡ answered k → operating c.word m.latches ≡ answered result → (b : Bool) → eqb c.next 255 ≡ b → Cycled c m
    by_entry k result e f true g = no_entry k (no 3) e g (rw (e, f, g))
    by_entry k result e f false g = done k result e g (rw (e, f, g))

    by_result : (k : ℕ) → access c.word m.latches (length m.image) ≡ answered k → (a : Answer ℕ) → operating c.word m.latches ≡ a → Cycled c m
    by_result k e (answered result) f = by_entry k result e f (eqb c.next 255) refl
    by_result k e (refused r) f =
        let l = m.latches in
        let p = operation_refused (alu_op c.word) (function l.ir) (first c.word l) (second c.word l.b (sign_extend (field l.ir))) f in
        no_function k r e p.0 p.1 (rw (e, f))

    by_access : (a : Answer ℕ) → access c.word m.latches (length m.image) ≡ a → Cycled c m
    by_access (answered k) e = by_result k e (operating c.word m.latches) refl
    by_access (refused r) e = no_memory r e (access_refused c.word m.latches (length m.image) e) (rw e)
