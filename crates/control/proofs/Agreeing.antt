-- All four units give the same cycle: one test over states 0 to 9 and all opcodes.
-- Assumes nothing.
use mathlib.Core.Bool.{Bool, ◌&&◌}
use mathlib.Core.Path.{◌≡◌, ap, sym, ◌∙◌}
use Prim.Native.Nat.{ℕ, ◌<◌}
use native.Mathlib.Nat.{le_trans}
use native.Mathlib.Omega.{arith}
use lib.Dec.{T, eqb, eqb→eq, lit≤}
use Rattle.datapath.specs.Cycle.{cycle}
use Rattle.datapath.specs.Machines.{MachineState}
use Rattle.datapath.specs.declared.cycle.Control.{Control}
use Rattle.datapath.proofs.Cycles.{control_bits, by_control_bits}
use Rattle.microcode.specs.Fixed.{ten_words, dispatch1, dispatch2, fixed_store}
use Rattle.microcode.specs.Sequencing.{sequence}
use Rattle.terms.specs.Tables.{all_from}
use Rattle.terms.proofs.Tables.{all_at, both_left, both_right}
use Rattle.words.specs.Fields.{opcode}
use Rattle.tables.specs.Outputs.{control, from_entry}
use Rattle.tables.specs.Pla.{plane, term_states, term_opcodes, term_asserts}
use Rattle.control.specs.Units.{unit_gives, unit_cycle, UnitsAgree}
use Rattle.control.specs.declared.units.Unit.TheVariants.{StateTable, Rom, Pla, Sequencer}
use Rattle.control.specs.declared.units.Unit.{Unit}
use Rattle.tables.proofs.Roms.{rom_is_pla}

-- control bits and next state are alike
alike : Control → Control → Bool
alike a b = eqb (control_bits a.word) (control_bits b.word) && eqb a.next b.next

-- the three units that are told apart by computing; the ROM is the PLA
same : Unit → ℕ → ℕ → Bool
same u code state = alike (unit_gives u state code) (unit_gives StateTable state code)

tested_pla : T (all_from 0 64 (λ code. all_from 0 10 (same Pla code)))
unfolding same alike unit_gives fixed_store ten_words dispatch1 dispatch2 plane term_states term_opcodes term_asserts
tested_pla = tt

tested_sequencer : T (all_from 0 64 (λ code. all_from 0 10 (same Sequencer code)))
unfolding same alike unit_gives sequence fixed_store ten_words dispatch1 dispatch2
tested_sequencer = tt

-- a cycle is under the control bits and the next state
module _ (m : MachineState) where
  by_bits : (a : Control) → cycle (control (control_bits a.word) a.next) m ≡ cycle a m
  by_bits a = by_control_bits a.word a.next m

  alike_cycle : (a b : Control) → T (alike a b) → cycle a m ≡ cycle b m
  unfolding alike
  alike_cycle a b t =
      let words = eqb (control_bits a.word) (control_bits b.word) in
      let nexts = eqb a.next b.next in
      let w = eqb→eq (control_bits a.word) (control_bits b.word) (both_left words nexts t) in
      let n = eqb→eq a.next b.next (both_right words nexts t) in
      sym (by_bits a) ∙ (λ i. cycle (control (w i) (n i)) m) ∙ by_bits b

  module _ (h : m.latches.state < 10) where
    abbrev state : ℕ
    state = m.latches.state

    abbrev code : ℕ
    code = opcode m.latches.ir

    from_table : (u : Unit) → T (all_from 0 64 (λ code. all_from 0 10 (same u code))) → unit_cycle u m ≡ unit_cycle StateTable m
    unfolding same
    from_table u t =
        alike_cycle (unit_gives u state code) (unit_gives StateTable state code)
        (all_at 10 (same u code) (all_at 64 (λ o. all_from 0 10 (same u o)) t code (omega arith)) state h)

    rom_table : unit_cycle Rom m ≡ unit_cycle StateTable m
    unfolding unit_gives
    rom_table =
        ap (λ e. cycle (from_entry state e) m) (rom_is_pla state code (le_trans h (lit≤ tt)) (omega arith)) ∙ from_table Pla tested_pla

    pub by_table : (u : Unit) → unit_cycle u m ≡ unit_cycle StateTable m
    by_table StateTable = λ i. unit_cycle StateTable m
    by_table Rom = rom_table
    by_table Pla = from_table Pla tested_pla
    by_table Sequencer = from_table Sequencer tested_sequencer

pub units_agree : UnitsAgree
units_agree u v m h = by_table m h u ∙ sym (by_table m h v)
