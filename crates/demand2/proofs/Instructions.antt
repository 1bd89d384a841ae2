-- One instruction on both machines: from a fetch, each unit goes through the instruction's states to what the
-- single-cycle machine shows, or to the same refusal.
-- Assumes nothing.
use mathlib.Core.Bool.{Bool, true, false}
use mathlib.Core.List.{List, [], ◌∷◌, ◌++◌}
use mathlib.Core.Path.{◌≡◌, refl, sym, subst, ◌∙◌}
use Prim.Native.Nat.{ℕ, ◌*◌, ◌%◌, ◌^◌, ◌<◌}
use native.Mathlib.Omega.{arith}
use lib.Bits.{bit_and, bit_or, and_lt, or_lt}
use lib.Dec.{eqb, lit<}
use lib.ListN.{length, get_or, set, take}
use lib.Signed.{lt_z}
use borrow.Author.Tests.{eqb-true}
use Rattle.control.specs.Units.{unit_cycle}
use Rattle.control.specs.declared.units.Unit.{Unit}
use Rattle.datapath.specs.Cycle as datapath
use Rattle.datapath.specs.Machines.{MachineState}
use Rattle.microcode.specs.Fixed.{dispatch1, dispatch2}
use Rattle.parts.specs.Alu.{sum, difference, signed, less_than}
use Rattle.parts.specs.Image.{accessing, reading}
use Rattle.parts.specs.Registers.{read_of, written}
use Rattle.single.specs.Instruction.{executing, instruction, address_of, writing}
use Rattle.single.specs.Visible.{Visible, visible}
use Rattle.single.proofs.Instructions.{unfetched, undecoded, executed}
use Rattle.terms.specs.Answers.{No, no, Answer, answered, refused, pick}
use Rattle.terms.specs.Going.{here, then}
use Rattle.terms.specs.Refusals.{no_at}
use Rattle.terms.specs.declared.refusals.AccessKind.TheVariants as AccessKind'
use Rattle.terms.proofs.Going.{ended}
use Rattle.words.specs.Decoding.{made}
use Rattle.words.specs.Fields.{opcode, rs, rt, rd, function, field, target, sign_extend}
use Rattle.words.specs.Kinds.{kind_of, by_opcode, by_function}
use Rattle.words.specs.Targets.{next_address, upper_and}
use Rattle.words.specs.declared.instructions.Instruction.TheVariants.{Add, Sub, And, Or, Slt, Lw, Sw, Beq, Jump}
use Rattle.words.specs.declared.instructions.Instruction.{Instruction}
use Rattle.words.specs.declared.kinds.Kind.TheVariants as Kind'
use Rattle.words.specs.declared.kinds.Kind.{Kind}
use Rattle.demand2.specs.Demand2.{stopped_pc}
use Rattle.demand2.specs.Paths.{path_of, path_at, path_before, Enters, visible_in}
use Rattle.demand2.proofs.Arithmetic.{targets, equal}
use Rattle.demand2.proofs.Kept.{Holds, words_set, words_written, words_read}
use Rattle.demand2.proofs.Steps.{at, state_0, state_1, state_2, state_3, state_4, state_5, state_6, state_7, state_8, state_9}

-- a state number that ends an instruction
abbrev pub ends : ℕ → Bool
ends state = eqb state 0

-- what becomes of the instruction at PC, from a fetch
pub data Instructed (u : Unit) (m : MachineState) : Type 0 where
  completes : (front : List ℕ) (after : MachineState)
      → path_at (visible_in m) ≡ front ++ (0 ∷ [])
      → ended ends front ≡ 0
      → instruction (visible_in m) ≡ answered (visible_in after)
      → Enters u (path_at (visible_in m)) m after
      → after.latches.state ≡ 0
      → Holds (visible_in after)
      → Instructed u m
  stops : (refusal : No) (end : MachineState)
      → ended ends (path_before (visible_in m)) ≡ 0
      → instruction (visible_in m) ≡ refused refusal
      → Enters u (path_before (visible_in m)) m end
      → unit_cycle u end ≡ refused refusal
      → end.registers ≡ m.registers
      → end.image ≡ m.image
      → end.latches.pc.0 ≡ stopped_pc (visible_in m)
      → Instructed u m

-- two numbers are the same, or not
is : {R : Type 0} (a b : ℕ) → (a ≡ b → R) → (eqb a b ≡ false → R) → R
is {R} a b same other = by (eqb a b) refl
  where
    by : (t : Bool) → eqb a b ≡ t → R
    by true e = same (eqb-true a b e)
    by false e = other e

less_than_fits : (x y : ℕ) → less_than x y < 2 ^ 32
unfolding less_than
less_than_fits x y = by (lt_z (signed x) (signed y))
  where
    by : (b : Bool) → pick b 1 0 < 2 ^ 32
    by true = lit< tt
    by false = lit< tt

module _ (u : Unit) (registers : List ℕ) (pc ir mdr a b aluout : ℕ) (image : List ℕ) (holds : Holds (visible registers pc image)) (k : ℕ) (e : accessing (length image) pc ≡ answered k) where
  abbrev w : ℕ
  w = get_or image k 0

  abbrev x : ℕ
  x = read_of registers (rs w)

  abbrev y : ℕ
  y = read_of registers (rt w)

  abbrev s : Visible
  s = visible registers pc image

  abbrev start : MachineState
  start = at 0 registers pc ir mdr a b aluout image

  abbrev branches : ℕ
  branches = sum (next_address pc) (sign_extend (field w) * 4 % 2 ^ 32)

  abbrev address : ℕ
  address = address_of x (field w)

  read : reading image pc ≡ answered w
  unfolding reading
  read = rw e

  -- after the fetch, after state 1 and after state 2
  abbrev decoding_state : MachineState
  decoding_state = at 1 registers (next_address pc) w w (read_of registers (rs ir)) (read_of registers (rt ir)) (next_address pc) image

  fetched : unit_cycle u start ≡ answered decoding_state
  fetched = state_0 u registers pc ir mdr a b aluout image ∙ rw e

  abbrev on_dispatch : ℕ → ℕ → MachineState
  on_dispatch result state = at state registers (next_address pc) w w x y result image

  dispatched : (o n : ℕ) → opcode w ≡ o → datapath.entered (dispatch1 o) ≡ answered n → unit_cycle u decoding_state ≡ answered (on_dispatch branches n)
  dispatched o n h d =
      state_1 u registers (next_address pc) w w (read_of registers (rs ir)) (read_of registers (rt ir)) (next_address pc) image ∙ rw (h, d)

  addressed : (o n : ℕ) → opcode w ≡ o → datapath.entered (dispatch2 o) ≡ answered n → unit_cycle u (on_dispatch branches 2) ≡ answered (on_dispatch address n)
  addressed o n h d = state_2 u registers (next_address pc) w w x y branches image ∙ rw (h, d)

  -- the word's kind is known: all of its states are entered, or those up to the refusal
  module _ (kind : Kind) (known : kind_of w ≡ kind) where
    completed : (i : Instruction) (front : List ℕ) (after : MachineState)
        → made kind (rd w) (rs w) (rt w) (field w) (target w) ≡ answered i
        → path_of kind ≡ front ++ (0 ∷ [])
        → ended ends front ≡ 0
        → executing i s ≡ answered (visible_in after)
        → Enters u (path_of kind) start after
        → after.latches.state ≡ 0
        → Holds (visible_in after)
        → Instructed u start
    completed i front after has split away done goes home kept =
        let states : path_at s ≡ path_of kind = rw (read, known) in
        let does = executed s read {i = i} (rw (known, has)) in
        completes front after (states ∙ split) away (does ∙ done) (rw states goes) home kept

    cut_off : (refusal : No) (end : MachineState)
        → ended ends (take 3 (path_of kind)) ≡ 0
        → instruction s ≡ refused refusal
        → Enters u (take 3 (path_of kind)) start end
        → unit_cycle u end ≡ refused refusal
        → end.registers ≡ registers
        → end.image ≡ image
        → end.latches.pc.0 ≡ next_address pc
        → Instructed u start
    cut_off refusal end away isnt goes cut same-registers same-image further =
        let states : path_before s ≡ take 3 (path_of kind) = rw (read, known) in
        stops refusal end (rw states away) isnt (rw states goes) cut same-registers same-image (further ∙ rw read)

  load : opcode w ≡ 35 → (d : Answer ℕ) → accessing (length image) address ≡ d → Instructed u start
  unfolding by_opcode dispatch1 dispatch2 executing reading
  load h (answered j) d =
      let v = get_or image j 0 in
      completed Kind'.Lw (rw h) (Lw (rt w) (rs w) (field w))
      (1 ∷ 2 ∷ 3 ∷ 4 ∷ [])
      (at 0 (written registers (rt w) v) (next_address pc) w v x y (sum (next_address pc) y) image)
      refl refl refl
      (rw d)
      (then fetched (then (dispatched 35 2 h refl) (then (addressed 35 3 h refl)
      (then (state_3 u registers (next_address pc) w w x y address image ∙ rw d)
      (then (state_4 u registers (next_address pc) w v x y (sum (next_address pc) y) image) here)))))
      refl
      (record { registers = words_written registers (rt w) (holds.image j) holds.registers; image = holds.image })
  load h (refused r) d =
      cut_off Kind'.Lw (rw h) (no_at r.number address AccessKind'.Load) (on_dispatch address 3) refl
      (executed s read {i = Lw (rt w) (rs w) (field w)} (rw h) ∙ rw d)
      (then fetched (then (dispatched 35 2 h refl) (then (addressed 35 3 h refl) here)))
      (state_3 u registers (next_address pc) w w x y address image ∙ rw d)
      refl refl refl

  store : opcode w ≡ 43 → (d : Answer ℕ) → accessing (length image) address ≡ d → Instructed u start
  unfolding by_opcode dispatch1 dispatch2 executing
  store h (answered j) d =
      completed Kind'.Sw (rw h) (Sw (rt w) (rs w) (field w))
      (1 ∷ 2 ∷ 5 ∷ [])
      (at 0 registers (next_address pc) w w x y (sum (next_address pc) y) (set image j y))
      refl refl refl
      (rw d)
      (then fetched (then (dispatched 43 2 h refl) (then (addressed 43 5 h refl)
      (then (state_5 u registers (next_address pc) w w x y address image ∙ rw d) here))))
      refl
      (record { registers = holds.registers; image = words_set image j y (words_read registers (rt w) holds.registers) holds.image })
  store h (refused r) d =
      cut_off Kind'.Sw (rw h) (no_at r.number address AccessKind'.Store) (on_dispatch address 5) refl
      (executed s read {i = Sw (rt w) (rs w) (field w)} (rw h) ∙ rw d)
      (then fetched (then (dispatched 43 2 h refl) (then (addressed 43 5 h refl) here)))
      (state_5 u registers (next_address pc) w w x y address image ∙ rw d)
      refl refl refl

  branch : opcode w ≡ 4 → Instructed u start
  unfolding by_opcode dispatch1 executing
  branch h =
      let z = equal x y (words_read registers (rs w) holds.registers) (words_read registers (rt w) holds.registers) in
      completed Kind'.Beq (rw h) (Beq (rs w) (rt w) (field w))
      (1 ∷ 8 ∷ [])
      (at 0 registers (pick (eqb (difference x y) 0) branches (next_address pc)) w w x y (difference x y) image)
      refl refl refl
      (rw (z, targets pc (sign_extend (field w))))
      (then fetched (then (dispatched 4 8 h refl) (then (state_8 u registers (next_address pc) w w x y branches image) here)))
      refl
      (record { registers = holds.registers; image = holds.image })

  jump : opcode w ≡ 2 → Instructed u start
  unfolding by_opcode dispatch1 executing
  jump h =
      completed Kind'.Jump (rw h) (Jump (target w))
      (1 ∷ 9 ∷ [])
      (at 0 registers (upper_and (next_address pc) (target w)) w w x y (sum (next_address pc) y) image)
      refl refl refl refl
      (then fetched (then (dispatched 2 9 h refl) (then (state_9 u registers (next_address pc) w w x y branches image) here)))
      refl
      (record { registers = holds.registers; image = holds.image })

  -- what the ALU gives by function, and an R-format instruction writes
  operate : opcode w ≡ 0 → (f : ℕ) → function w ≡ f → (kind : Kind) (i : Instruction) (v : ℕ)
      → by_function f ≡ kind
      → made kind (rd w) (rs w) (rt w) (field w) (target w) ≡ answered i
      → path_of kind ≡ 1 ∷ 6 ∷ 7 ∷ 0 ∷ []
      → datapath.function_result f x y ≡ answered v
      → executing i s ≡ answered (writing s (rd w) v)
      → v < 2 ^ 32
      → Instructed u start
  unfolding by_opcode dispatch1
  operate h f g kind i v by has states gives done fits =
      let operated : unit_cycle u (on_dispatch branches 6) ≡ answered (on_dispatch v 7) =
      state_6 u registers (next_address pc) w w x y branches image ∙ rw (g, gives)
      in
      completed kind (rw (h, g, by)) i
      (1 ∷ 6 ∷ 7 ∷ [])
      (at 0 (written registers (rd w) v) (next_address pc) w w x y (sum (next_address pc) y) image)
      has states refl done
      (rw states (then fetched (then (dispatched 0 6 h refl)
      (then operated (then (state_7 u registers (next_address pc) w w x y v image) here)))))
      refl
      (record { registers = words_written registers (rd w) fits holds.registers; image = holds.image })

  by_function_lem : opcode w ≡ 0 → Instructed u start
  unfolding by_opcode by_function datapath.function_result dispatch1 executing
  by_function_lem h =
      let f = function w in
      let fits-x = words_read registers (rs w) holds.registers in
      let fits-y = words_read registers (rt w) holds.registers in
      is f 32 (λ g. operate h 32 g Kind'.Add (Add (rd w) (rs w) (rt w)) (sum x y) refl refl refl refl refl (omega arith)) (λ add.
      is f 34 (λ g. operate h 34 g Kind'.Sub (Sub (rd w) (rs w) (rt w)) (difference x y) refl refl refl refl refl (omega arith)) (λ sub.
      is f 36 (λ g. operate h 36 g Kind'.And (And (rd w) (rs w) (rt w)) (bit_and x y) refl refl refl refl refl (and_lt 32 x y fits-x fits-y)) (λ and.
      is f 37 (λ g. operate h 37 g Kind'.Or (Or (rd w) (rs w) (rt w)) (bit_or x y) refl refl refl refl refl (or_lt 32 x y fits-x fits-y)) (λ or.
      is f 42 (λ g. operate h 42 g Kind'.Slt (Slt (rd w) (rs w) (rt w)) (less_than x y) refl refl refl refl refl (less_than_fits x y)) (λ slt.
      cut_off Kind'.NoFunction (rw (h, add, sub, and, or, slt)) (no 4) (on_dispatch branches 6) refl
      (undecoded s read (rw (h, add, sub, and, or, slt)))
      (then fetched (then (dispatched 0 6 h refl) here))
      (state_6 u registers (next_address pc) w w x y branches image ∙ rw (add, sub, and, or, slt))
      refl refl refl)))))

  by_opcode_lem : Instructed u start
  unfolding by_opcode dispatch1
  by_opcode_lem =
      let o = opcode w in
      is o 0 by_function_lem (λ zero.
      is o 35 (λ h. load h (accessing (length image) address) refl) (λ lw.
      is o 43 (λ h. store h (accessing (length image) address) refl) (λ sw.
      is o 4 branch (λ beq.
      is o 2 jump (λ j.
      cut_off Kind'.NoOpcode (rw (zero, lw, sw, beq, j)) (no 3) decoding_state refl
      (undecoded s read (rw (zero, lw, sw, beq, j)))
      (then fetched here)
      (state_1 u registers (next_address pc) w w (read_of registers (rs ir)) (read_of registers (rt ir)) (next_address pc) image
      ∙ rw (zero, lw, sw, beq, j))
      refl refl refl)))))

-- every machine in state 0, its numbers of 32 bits, completes the instruction at its PC or stops with its refusal
by_fetch : (u : Unit) (registers : List ℕ) (pc ir mdr a b aluout : ℕ) (image : List ℕ) → Holds (visible registers pc image) → (f : Answer ℕ) → accessing (length image) pc ≡ f → Instructed u (at 0 registers pc ir mdr a b aluout image)
unfolding reading
by_fetch u registers pc ir mdr a b aluout image holds (answered k) e =
    by_opcode_lem u registers pc ir mdr a b aluout image holds k e
by_fetch u registers pc ir mdr a b aluout image holds (refused r) e =
    let read : reading image pc ≡ refused r = rw e in
    stops (no_at r.number pc AccessKind'.Fetch) (at 0 registers pc ir mdr a b aluout image) (rw e)
    (unfetched (visible registers pc image) read) (rw e here)
    (state_0 u registers pc ir mdr a b aluout image ∙ rw e)
    refl refl (rw e)

pub instructed : (u : Unit) (m : MachineState) → m.latches.state ≡ 0 → Holds (visible_in m) → Instructed u m
instructed u m home holds =
    let l = m.latches in
    subst (λ (n : ℕ). Instructed u (at n m.registers l.pc.0 l.ir l.mdr l.a l.b l.aluout m.image)) (sym home)
    (by_fetch u m.registers l.pc.0 l.ir l.mdr l.a l.b l.aluout m.image holds (accessing (length m.image) l.pc.0) refl)
