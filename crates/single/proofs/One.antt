-- No second answer, and no other image, meets the promise of `run`.
-- Assumes nothing.
use mathlib.Core.Path.{◌≡◌, refl, ap}
use Prim.Native.Nat.{ℕ}
use Rattle.terms.specs.Answers.{OneWith}
use Rattle.terms.specs.Running.{Ran}
use Rattle.terms.proofs.One.{one_value, outcome_one}
use Rattle.single.specs.Running.{single_run_as, RunsSingle}
use Rattle.single.specs.Visible.{Visible}

pub run_one : (s : Visible) (budget : ℕ) → OneWith (RunsSingle s budget)
run_one s budget p q a b h g =
    let e : single_run_as p a ≡ single_run_as q b = one_value h g in
    let outcome = outcome_one p.outcome q.outcome (ap (λ (r : Ran Visible). r.outcome) e) refl in
    let state = ap (λ (r : Ran Visible). r.state) e in
    let instructions = ap (λ (r : Ran Visible). r.instructions) e in (
      λ i. record { outcome = outcome i; machine = record { registers = (state i).registers; pc = record { 0 = (state i).pc } }; instructions = record { 0 = instructions i } },
      ap (λ (v : Visible). v.image) state,
    )
