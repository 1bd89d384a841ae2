-- A cycle is its decision carried out.
-- Assumes nothing.
use mathlib.Core.Bool.{Bool, true, false}
use mathlib.Core.List.{List}
use mathlib.Core.Path.{◌≡◌, refl, ap, sym}
use Prim.Native.Nat.{ℕ}
use lib.ListN.{length, get_or}
use Rattle.parts.specs.Registers.{written}
use Rattle.terms.specs.Answers.{Answer, answered, refused, pick, chain}
use Rattle.words.specs.Fields.{rt, rd}
use Rattle.datapath.specs.Cycle.{access, operating, entered, next_mdr, next_ir, stored, after, cycle}
use Rattle.datapath.specs.Effects.{latching, latches_after, effect_after, carried_out, deciding}
use Rattle.datapath.specs.Machines.{MachineState, machine_state}
use Rattle.signals.specs.Signals.{reg_write, reg_dst, memto_reg}
use Rattle.datapath.specs.declared.cycle.Control.{Control}
use Rattle.datapath.specs.declared.machine.Latches.{Latches}

no_register : (cells : List ℕ) (on : Bool) (register value : ℕ) → written cells (pick on register 0) value ≡ pick on (written cells register value) cells
unfolding written
no_register cells true register value = refl
no_register cells false register value = refl

module _ (c : Control) (l : Latches) (cells image : List ℕ) where
  abbrev m : MachineState
  m = machine_state cells l image

  abbrev mdr : ℕ → ℕ
  mdr k = next_mdr c.word l (get_or image k 0)

  abbrev ir : ℕ → ℕ
  ir k = next_ir c.word l (get_or image k 0)

  effect_after_lem : (k result state : ℕ) → carried_out (effect_after c.word l cells k (mdr k) (ir k) result state) cells image ≡ after c.word m k result state
  effect_after_lem k result state =
      ap (λ (r : List ℕ). machine_state r (latches_after c.word l cells (mdr k) (ir k) result state) (stored c.word l k image))
      (no_register cells (reg_write c.word) (pick (reg_dst c.word) (rd l.ir) (rt l.ir)) (pick (memto_reg c.word) l.mdr l.aluout))

  pub decided : cycle c m ≡ chain (deciding c l cells image) (λ e. answered (carried_out e cells image))
  unfolding cycle
  decided = by_access (access c.word l (length image))
    where
      by_state : (k result : ℕ) (s : Answer ℕ) → chain s (λ state. answered (after c.word m k result state)) ≡ chain (chain s (λ state. answered (effect_after c.word l cells k (mdr k) (ir k) result state))) (λ e. answered (carried_out e cells image))
      by_state k result (answered s) = ap answered (sym (effect_after_lem k result s))
      by_state k result (refused r) = refl

      by_result : (k : ℕ) (v : Answer ℕ) → chain v (λ result. chain (entered c.next) (λ state. answered (after c.word m k result state))) ≡ chain (chain v (λ result. chain (entered c.next) (λ state. answered (effect_after c.word l cells k (mdr k) (ir k) result state)))) (λ e. answered (carried_out e cells image))
      by_result k (answered v) = by_state k v (entered c.next)
      by_result k (refused r) = refl

      by_access : (a : Answer ℕ) → chain a (λ k. chain (operating c.word l) (λ result. chain (entered c.next) (λ state. answered (after c.word m k result state)))) ≡ chain (chain (chain a (latching c.word l image)) (λ shown. chain (operating c.word l) (λ result. chain (entered c.next) (λ state. answered (effect_after c.word l cells shown.word shown.mdr shown.ir result state))))) (λ e. answered (carried_out e cells image))
      by_access (answered k) = by_result k (operating c.word l)
      by_access (refused r) = refl
