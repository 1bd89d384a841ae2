-- Under an admitted store every machine in state 0 has one of three fates: its fetch is refused; it comes back to fetch in as many cycles as the
-- walk of the fetched word's opcode has states; or before that it stops.
-- Assumes nothing.
use mathlib.Core.Bool.{Bool, true, false, ◌&&◌, not}
use mathlib.Core.List.{List, ◌∷◌}
use mathlib.Core.Logic.{⊎_elim}
use mathlib.Core.Path.{◌≡◌, refl, sym, ap, subst, ◌∙◌}
use Prim.Native.Nat.{ℕ, suc, ◌/◌, ◌^◌, ◌≤◌, ◌<◌}
use native.Mathlib.Nat.{mod-lt}
use native.Mathlib.Omega.{arith}
use lib.Dec.{eqb, lit<}
use lib.ListN.{length, get_or, set}
use borrow.Author.Tests.{eqb-true, not-true}
use Rattle.datapath.specs.Cycle.{access_kind, access, after, cycle}
use Rattle.datapath.specs.Machines.{MachineState}
use Rattle.signals.specs.Signals.{addr_ctl, mem_read, ir_write, ior_d}
use Rattle.datapath.specs.declared.cycle.Control.{Control}
use Rattle.microcode.specs.Sequencing.{word_of, follows, sequence, store_gives, store_cycle}
use Rattle.microcode.specs.declared.stores.Store.{Store}
use Rattle.parts.specs.Image.{accessing, reading, located}
use Rattle.parts.proofs.Images.{unlocated, located_refused}
use Rattle.walks.proofs.Admitted.{admitted_on, head_keeps, tail_keeps}
use Rattle.walks.proofs.Meeting.{walk_length_lem}
use Rattle.walks.specs.Checking.{admitted, verdict_in, checking}
use Rattle.rules.specs.Rules.{writes, rule1}
use Rattle.walks.specs.Walk.{exit_to, Visit, visit, on_from, walk_from, fresh}
use Rattle.rules.specs.declared.rules.Exit.TheVariants.{Onward}
use Rattle.terms.proofs.Answers.{both_true}
use Rattle.terms.specs.Answers.{No, Answer, answered, refused, pick}
use Rattle.words.specs.Fields.{opcode}
use Rattle.demand3.specs.Instructions.{walk_length, fetched, back, Passes}
use Rattle.demand3.proofs.Cycles.{Cycled, done, no_memory, no_function, no_entry, cycled}
use Rattle.demand3.proofs.Follow.{Stopped, Ahead, further, unwritten, given, at_state, follow}
use Rattle.demand3.proofs.Ways.{walk_some}
use Rattle.terms.specs.Going.{here}

pub data Fate (s : Store) (m : MachineState) : Type 0 where
  unfetched : (q r : No) → fetched m ≡ refused q → store_cycle s m ≡ refused r → Fate s m
  comes : (word : ℕ) (last : MachineState) → fetched m ≡ answered word → Passes s (back (walk_length s (opcode word))) m last → walk_length s (opcode word) ≤ 16 → Fate s m
  stops : (word : ℕ) → fetched m ≡ answered word → Stopped s (walk_length s (opcode word)) m m.registers m.image → Fate s m

opcode_below : (ir : ℕ) → opcode ir < 64
opcode_below ir = mod-lt (ir / 2 ^ 26) (lit< tt)

-- what is read, from what is accessed
read_word : (image : List ℕ) (at k : ℕ) → accessing (length image) at ≡ answered k → reading image at ≡ answered (get_or image k 0)
unfolding reading
read_word image at k e = rw e

read_refused : (image : List ℕ) (at : ℕ) {r : No} → accessing (length image) at ≡ refused r → reading image at ≡ refused r
unfolding reading
read_refused image at e = rw e

-- state 0 of an admitted store fetches at PC and counts on to state 1
module _ (s : Store) (admits : checking s ≡ admitted) where
  abbrev w : ℕ
  w = word_of s.words 0

  abbrev rest : List Bool
  rest = set fresh 0 false

  abbrev first : ℕ → Visit
  first o = visit s o fresh 0

  abbrev others : ℕ → List Visit
  others o = on_from (first o).exit (λ t. walk_from 15 s o rest t)

  none_broken : (o : ℕ) → o < 64 → verdict_in s o false (first o ∷ others o) ≡ admitted
  unfolding walk_from
  none_broken o h = admitted_on s admits o h

  first_rule : (mem_read w && ir_write w) && (not (ior_d w) && eqb (addr_ctl w) 3) ≡ true
  unfolding rule1
  first_rule = head_keeps s 0 false (first 0) (others 0) (none_broken 0 (lit< tt)) 1

  fetches : mem_read w && ir_write w ≡ true
  fetches = (both_true (mem_read w && ir_write w) (not (ior_d w) && eqb (addr_ctl w) 3) first_rule).0

  reads : mem_read w ≡ true
  reads = (both_true (mem_read w) (ir_write w) fetches).0

  on_at_pc : (ior_d w ≡ false) × (addr_ctl w ≡ 3)
  on_at_pc =
      let p = both_true (not (ior_d w)) (eqb (addr_ctl w) 3) (both_true (mem_read w && ir_write w) (not (ior_d w) && eqb (addr_ctl w) 3) first_rule).1 in
      (not-true (ior_d w) p.0, eqb-true (addr_ctl w) 3 p.1)

  to_one : (o : ℕ) → (store_gives s 0 o).next ≡ 1
  unfolding sequence
  to_one o = ap (λ c. follows c s.rom1 s.rom2 0 o) on_at_pc.1

  goes_on_lem : (o : ℕ) → (first o).exit ≡ Onward 1
  goes_on_lem o = ap (exit_to rest) (to_one o)

  length_is : (o : ℕ) → walk_length s o ≡ suc (length (walk_from 15 s o rest 1))
  unfolding walk_from
  length_is o = ap (λ x. suc (length (on_from x (λ t. walk_from 15 s o rest t)))) (goes_on_lem o)

  more : (o : ℕ) → 1 ≤ length (walk_from 15 s o rest 1)
  unfolding walk_from
  more o = omega arith

  module _ (m : MachineState) (at_fetch : m.latches.state ≡ 0) where
    abbrev c : Control
    c = given s 0 (opcode m.latches.ir)

    cycle_is : store_cycle s m ≡ cycle c m
    cycle_is = at_state s m (opcode m.latches.ir) 0 at_fetch refl

    -- what memory answers at PC
    abbrev at_pc : Answer ℕ
    at_pc = accessing (length m.image) m.latches.pc.0

    access_is : access w m.latches (length m.image) ≡ located m.latches.pc.0 (access_kind w) at_pc
    access_is = rw (reads, on_at_pc.0)

    -- from the fetched word on, the machine follows the walk of its opcode
    fetched_on : (k result : ℕ) → cycle c m ≡ answered (after w m k result c.next) → Ahead s (walk_length s (opcode (get_or m.image k 0))) m m.registers m.image
    fetched_on k result e =
        let one = to_one (opcode m.latches.ir) in
        let word = get_or m.image k 0 in
        let mid = after w m k result c.next in
        subst (λ n. Ahead s n m m.registers m.image) (sym (length_is (opcode word)))
        (further s (length (walk_from 15 s (opcode word) rest 1)) m mid m.registers m.image (more (opcode word)) (cycle_is ∙ e) (ap (λ n. eqb n 0) one)
        (follow s (opcode word) m.registers m.image 15 rest 1 (writes w) mid (record {
          left = refl;
          enters = refl;
          fetched = λ z. omega arith;
          at = one;
          by = ap (λ b. opcode (pick b word m.latches.ir)) fetches;
          keeps = ap (λ x. verdict_in s (opcode word) (writes w) (on_from x (λ t. walk_from 15 s (opcode word) rest t))) (sym (goes_on_lem (opcode word))) ∙ tail_keeps s (opcode word) false (first (opcode word)) (others (opcode word)) (none_broken (opcode word) (opcode_below word));
          held = λ h. unwritten w m k result c.next h;
        })))

    pub fate : Fate s m
    fate = by (cycled c m)
      where
        reads_as : (k : ℕ) → access w m.latches (length m.image) ≡ answered k → fetched m ≡ answered (get_or m.image k 0)
        reads_as k e =
            read_word m.image m.latches.pc.0 k (unlocated m.latches.pc.0 (access_kind w) at_pc (sym access_is ∙ e))

        stopped_at_once : (k : ℕ) (r : No) → access w m.latches (length m.image) ≡ answered k → cycle c m ≡ refused r → Fate s m
        stopped_at_once k r e d =
            stops (get_or m.image k 0) (reads_as k e)
            (record { refusal = r; cycles = 0; reached = m; way = here; refuses = cycle_is ∙ d; sooner = walk_some s (opcode (get_or m.image k 0)); registers = refl; image = refl })

        by : Cycled c m → Fate s m
        by (done k result e g d) =
            ⊎_elim
            (λ a. comes (get_or m.image k 0) a.0 (reads_as k e) a.1 (walk_length_lem s (opcode (get_or m.image k 0)) 16 fresh 0))
            (λ a. stops (get_or m.image k 0) (reads_as k e) a)
            (fetched_on k result d)
        by (no_memory r e uses d) =
            let q = located_refused m.latches.pc.0 (access_kind w) at_pc (sym access_is ∙ e) in
            unfetched q.0 r (read_refused m.image m.latches.pc.0 q.1) (cycle_is ∙ d)
        by (no_function k r e a b d) = stopped_at_once k r e d
        by (no_entry k r e g d) = stopped_at_once k r e d
