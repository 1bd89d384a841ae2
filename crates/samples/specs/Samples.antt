-- "Samples at the edges": the cases marked *, as one table under one claim. A row is an equation
-- between a definition that the promises cite and what the paper says of it; a run starts where it
-- may, with a budget that it takes.
use Rattle.std.specs.Prelude.{List, [], ◌∷◌, ◌++◌, ◌≡◌, ℕ, length, replicate, slice_set}
use Rattle.control.specs.Running.{unit_run, store_run}
use Rattle.control.specs.declared.units.Unit.TheVariants.{StateTable, Rom, Pla, Sequencer}
use Rattle.control.specs.declared.units.Unit.{Unit}
use Rattle.datapath.specs.Machines.{MachineState, machine_state, latched}
use Rattle.microcode.specs.Fixed.{fixed_store}
use Rattle.microcode.specs.declared.stores.Store.{Store}
use Rattle.parts.specs.Alu.{sum, less_than}
use Rattle.parts.specs.Image.{accessing}
use Rattle.walks.specs.Checking.{admitted, breach, checking}
use Rattle.walks.specs.Walk.{walk_of}
use Rattle.single.specs.Running.{single_run}
use Rattle.single.specs.Visible.{visible}
use Rattle.terms.specs.Answers.{No, no, answered, refused}
use Rattle.terms.specs.Refusals.{Ended, spent, stopped, no_at}
use Rattle.terms.specs.declared.refusals.AccessKind.TheVariants.{Fetch}
use Rattle.terms.specs.Running.{Ran, ran}
use Rattle.words.specs.Decoding.{decoding}
use Rattle.words.specs.Targets.{branch_target, jump_target}
use Rattle.words.specs.declared.instructions.Instruction.TheVariants.{Add, Lw}

-- every row of a table holds
pub data AllHold : List (Type 0) → Type 1 where
  done : AllHold []
  ◌and◌ : {row : Type 0} {rows : List (Type 0)} → row → AllHold rows → AllHold (row ∷ rows)

-- a row for each of the four units
abbrev pub each : (Unit → Type 0) → List (Type 0)
each row = row StateTable ∷ row Rom ∷ row Pla ∷ row Sequencer ∷ []

-- registers that hold 0, and the same but for $1, $2 and $3
abbrev pub zeros : List ℕ
zeros = replicate 32 0

abbrev pub cells : ℕ → ℕ → ℕ → List ℕ
cells one two three = 0 ∷ one ∷ two ∷ three ∷ replicate 28 0

-- the multicycle machine about to fetch at an address
abbrev pub fetch_at : List ℕ → ℕ → List ℕ → MachineState
fetch_at registers pc image = machine_state registers (latched pc 0 0 0 0 0 0) image

-- how a run of the multicycle machine ended, and its PC, cycles and instructions
pub record Ending : Type 0 where
  pub outcome : Ended
  pub pc : ℕ
  pub cycles : ℕ
  pub instructions : ℕ

abbrev pub ending : Ended → ℕ → ℕ → ℕ → Ending
ending outcome pc cycles instructions =
    record { outcome = outcome; pc = pc; cycles = cycles; instructions = instructions }

abbrev pub ending_of : Ran MachineState → Ending
ending_of r = ending r.outcome r.state.latches.pc.0 r.steps r.instructions

-- a word that sets $3 from $1 and $2, run alone by each machine
abbrev pub sets : ℕ → ℕ → ℕ → ℕ → List (Type 0)
sets word one two three =
    (single_run (visible (cells one two 5) 0 (word ∷ [])) 1
    ≡ ran spent (visible (cells one two three) 4 (word ∷ [])) 1 1)
    ∷ each (λ u.
    (unit_run u (fetch_at (cells one two 5) 0 (word ∷ [])) 4).state.registers ≡ cells one two three)

-- slt $3,$1,$2 and add $3,$1,$2
abbrev pub slt_word : ℕ
slt_word = 0x0022182A

abbrev pub add_word : ℕ
add_word = 0x00221820

-- a branch to itself, at address 8, and one with field 8000, at address 0
abbrev pub itself : List ℕ
itself = 0 ∷ 0 ∷ 0x1000FFFF ∷ []

abbrev pub far : List ℕ
far = 0x10008000 ∷ []

-- the refusal of the fetch at FFFE0004
abbrev pub far_fetch : No
far_fetch = no_at 2 0xFFFE0004 Fetch

-- a jump to itself, at address 0
abbrev pub jump : List ℕ
jump = 0x08000000 ∷ []

-- in state 1 with opcode 63 in IR
abbrev pub unknown : MachineState
unknown = machine_state zeros (latched 4 0xFC000000 0 0 0 0 1) (0xFC000000 ∷ [])

-- the fixed store with another word in a state
abbrev pub with_word : ℕ → ℕ → Store
with_word state word =
    record {
      words = slice_set fixed_store.words state word;
      rom1 = fixed_store.rom1;
      rom2 = fixed_store.rom2;
    }

unfoldable pub samples : List (Type 0)
samples =
    -- "8C01000C is lw $1,12($0)." "00211020 is add $2,$1,$1."
    (decoding 0x8C01000C ≡ answered (Lw 1 0 12))
    ∷ (decoding 0x00211020 ≡ answered (Add 2 1 1))
    -- "slt of 7FFFFFFF and FFFFFFFF is 0." "Of 80000000 and 7FFFFFFF it is 1."
    ∷ (less_than 0x7FFFFFFF 0xFFFFFFFF ≡ 0)
    ∷ sets slt_word 0x7FFFFFFF 0xFFFFFFFF 0
    ++ (less_than 0x80000000 0x7FFFFFFF ≡ 1)
    ∷ sets slt_word 0x80000000 0x7FFFFFFF 1
    -- "FFFFFFFF + 1 is 0."
    ++ (sum 0xFFFFFFFF 1 ≡ 0)
    ∷ sets add_word 0xFFFFFFFF 1 0
    -- "1000FFFF at address 8 branches to 8."
    ++ (single_run (visible zeros 8 itself) 1 ≡ ran spent (visible zeros 8 itself) 1 1)
    ∷ each (λ u. ending_of (unit_run u (fetch_at zeros 8 itself) 3) ≡ ending spent 8 3 1)
    -- "Field 8000 at address 0 targets FFFE0004; the next fetch answers 2": in the largest image too
    ++ (branch_target 0 0x8000 ≡ 0xFFFE0004)
    ∷ (single_run (visible zeros 0 far) 2 ≡ ran (stopped far_fetch) (visible zeros 0xFFFE0004 far) 1 1)
    ∷ each (λ u. ending_of (unit_run u (fetch_at zeros 0 far) 4) ≡ ending (stopped far_fetch) 0xFFFE0004 3 1)
    ++ (accessing 16384 0xFFFE0004 ≡ refused (no 2))
    -- "Jump target for field 0 at 0FFFFFFC is 10000000."
    ∷ (jump_target 0x0FFFFFFC 0 ≡ 0x10000000)
    -- "Opcode 63 in state 1: refusal 3."
    ∷ each (λ u. unit_run u unknown 1 ≡ ran (stopped (no 3)) unknown 0 0)
    -- "The fixed store is admitted."
    ++ (checking fixed_store ≡ admitted)
    -- "Its word 4 made 0080B: opcode 35, state 5, rule 5."
    ∷ (checking (with_word 4 0x0080B) ≡ breach 35 5 5)
    -- "Its word 8 made 10291: opcode 4, state 8, rule 6."
    ∷ (checking (with_word 8 0x10291) ≡ breach 4 8 6)
    -- "Its word 9 made 20403: admitted, j takes 4 cycles."
    ∷ (checking (with_word 9 0x20403) ≡ admitted)
    ∷ (length (walk_of (with_word 9 0x20403) 2) ≡ 4)
    ∷ ((ending_of (store_run (with_word 9 0x20403) (fetch_at zeros 0 jump) 3)).instructions ≡ 0)
    ∷ (ending_of (store_run (with_word 9 0x20403) (fetch_at zeros 0 jump) 4) ≡ ending spent 0 4 1)
    ∷ []

infixr 4 ◌and◌
