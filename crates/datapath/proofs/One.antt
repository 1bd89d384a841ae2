-- No second answer, register file or image meets the promise of `tick`.
-- Assumes nothing.
use mathlib.Core.List.{List}
use mathlib.Core.Path.{◌≡◌, refl, ap, sym, ◌∙◌}
use Prim.Native.Nat.{ℕ}
use Rattle.terms.specs.Answers.{Answer, answered, refused}
use Rattle.terms.proofs.One.{one_value, refusal_from, refusal_undone}
use Rattle.datapath.specs.Machines.{MachineState}
use Rattle.datapath.specs.Ticking.{Tick, ticked_as, Ticks}
use Rattle.datapath.specs.declared.cycle.Control.{Control}
use Rattle.terms.specs.declared.refusals.Refusal.{Refusal}
use Rattle.std.specs.Prelude.{Result, Ok, Err}
use Rattle.datapath.specs.declared.machine.Latches.{Latches}

ticked_from : Answer MachineState → Result Latches Refusal
ticked_from (answered m) = Ok m.latches
ticked_from (refused r) = Err (refusal_from r)

ticked_undone : (l : Latches) (r : Result Latches Refusal) (cells image : List ℕ) → ticked_from (ticked_as l r cells image).answer ≡ r
unfolding ticked_from
ticked_undone l (Ok after) cells image = refl
ticked_undone l (Err r) cells image = ap Err (refusal_undone r)

left : (l : Latches) (r : Result Latches Refusal) (cells image : List ℕ) → ((ticked_as l r cells image).machine.registers ≡ cells) × ((ticked_as l r cells image).machine.image ≡ image)
left l (Ok after) cells image = (refl, refl)
left l (Err r) cells image = (refl, refl)

pub tick_one : (c : Control) (l : Latches) (cells image : List ℕ) {r s : Result Latches Refusal} {a b m n : List ℕ} → Ticks c l cells image r a m → Ticks c l cells image s b n → (r ≡ s) × (a ≡ b) × (m ≡ n)
tick_one c l cells image {r} {s} {a} {b} {m} {n} p q =
    let e : ticked_as l r a m ≡ ticked_as l s b n = one_value p q in (
      sym (ticked_undone l r a m) ∙ ap (λ (t : Tick). ticked_from t.answer) e ∙ ticked_undone l s b n,
      sym (left l r a m).0 ∙ ap (λ (t : Tick). t.machine.registers) e ∙ (left l s b n).0,
      sym (left l r a m).1 ∙ ap (λ (t : Tick). t.machine.image) e ∙ (left l s b n).1,
    )
