-- Cycle by cycle, each unit goes by the state table: from states 0 to 9 it comes to states 0 to 9.
-- Assumes nothing.
use mathlib.Core.Bool.{Bool, true, false, ◌||◌}
use mathlib.Core.Path.{◌≡◌, ap, sym, ◌∙◌}
use Prim.Native.Nat.{ℕ, ◌<◌}
use native.Mathlib.Omega.{arith}
use lib.Dec.{T, eqb, ltb, ltb→lt}
use lib.ListN.{length}
use Rattle.control.specs.Units.{unit_gives, unit_cycle}
use Rattle.control.specs.declared.units.Unit.TheVariants.{StateTable}
use Rattle.control.specs.declared.units.Unit.{Unit}
use Rattle.control.proofs.Agreeing.{by_table}
use Rattle.datapath.specs.Cycle.{access, operating, entered, after, cycle}
use Rattle.datapath.specs.Machines.{MachineState, fetching}
use Rattle.datapath.specs.declared.cycle.Control.{Control}
use Rattle.microcode.specs.Fixed.{ten_words, dispatch1, dispatch2, fixed_store}
use Rattle.terms.specs.Answers.{Answer, answered, refused, no, pick, chain}
use Rattle.terms.specs.Running.{running}
use Rattle.terms.specs.Tables.{all_from}
use Rattle.terms.proofs.Answers.{chained, value_of, never}
use Rattle.terms.proofs.Running.{same_where}
use Rattle.terms.proofs.Tables.{all_at}
use Rattle.words.specs.Fields.{opcode}

-- a cycle that is done enters the state that its control gives
pub state_entered : (c : Control) (m : MachineState) {end : MachineState} → cycle c m ≡ answered end → entered c.next ≡ answered end.latches.state
unfolding cycle
state_entered c m e =
    let w = c.word in
    let leave : ℕ → ℕ → Answer MachineState = λ k result. chain (entered c.next) (λ state. answered (after w m k result state)) in
    let accessed = chained (access w m.latches (length m.image)) (λ k. chain (operating w m.latches) (leave k)) e in
    let operated = chained (operating w m.latches) (leave accessed.0) accessed.2 in
    let left = chained (entered c.next) (λ state. answered (after w m accessed.0 operated.0 state)) operated.2 in
    left.1 ∙ ap (λ (x : MachineState). answered x.latches.state) (value_of left.2)

-- the state table gives a state below 10, or none
tenth : ℕ → ℕ → Bool
tenth code state = eqb (unit_gives StateTable state code).next 255 || ltb (unit_gives StateTable state code).next 10

tested : T (all_from 0 64 (λ code. all_from 0 10 (tenth code)))
unfolding tenth unit_gives fixed_store ten_words dispatch1 dispatch2
tested = tt

below : (n : ℕ) {state : ℕ} → T (eqb n 255 || ltb n 10) → entered n ≡ answered state → state < 10
below n {state} t e = by (eqb n 255) t e
  where
    by : (b : Bool) → T (b || ltb n 10) → pick b (refused (no 3)) (answered n) ≡ answered state → state < 10
    by true t' q = never q
    by false t' q = let v : n ≡ state = value_of q in rw v at (ltb→lt n 10 t')

module _ (u : Unit) where
  stays : (m end : MachineState) → m.latches.state < 10 → unit_cycle u m ≡ answered end → end.latches.state < 10
  unfolding tenth
  stays m end h e =
      let state = m.latches.state in
      let code = opcode m.latches.ir in
      let g = unit_gives StateTable state code in
      below g.next
      (all_at 10 (tenth code) (all_at 64 (λ o. all_from 0 10 (tenth o)) tested code (omega arith)) state h)
      (state_entered g m (sym (by_table m h u) ∙ e))

  pub table_run : (budget : ℕ) (m : MachineState) → m.latches.state < 10 → running (unit_cycle u) fetching budget m ≡ running (unit_cycle StateTable) fetching budget m
  table_run = same_where (unit_cycle u) (unit_cycle StateTable) fetching (λ m. m.latches.state < 10) (λ m h. by_table m h u) stays
