-- Each state's cycle, under any of the four units, from a machine in that state.
-- Assumes nothing.
use mathlib.Core.List.{List}
use mathlib.Core.Path.{◌≡◌, ap, ◌∙◌}
use Prim.Native.Nat.{ℕ, ◌*◌, ◌%◌, ◌^◌, ◌<◌}
use native.Mathlib.Omega.{arith}
use lib.Dec.{lit<, eqb}
use lib.ListN.{length, get_or, set}
use borrow.Author.Tests.{lt-ltb}
use Rattle.tables.specs.Outputs.{control}
use Rattle.control.specs.Units.{unit_gives, unit_cycle}
use Rattle.control.specs.declared.units.Unit.{Unit}
use Rattle.control.proofs.Agreeing.{by_table}
use Rattle.datapath.specs.Cycle.{cycle, operation, function_result, entered}
use Rattle.datapath.specs.Machines.{MachineState, machine_state, latched}
use Rattle.microcode.specs.Fixed.{ten_words, dispatch1, dispatch2, fixed_store}
use Rattle.microcode.specs.Sequencing.{entry_of}
use Rattle.parts.specs.Alu.{sum, difference}
use Rattle.parts.specs.Image.{accessing, located}
use Rattle.parts.specs.Registers.{read_of, written}
use Rattle.terms.specs.Answers.{answered, pick, chain}
use Rattle.terms.specs.declared.refusals.AccessKind.TheVariants.{Fetch, Load, Store}
use Rattle.terms.proofs.Tables.{table_at}
use Rattle.words.specs.Fields.{opcode, rs, rt, rd, function, field, target, sign_extend}
use Rattle.words.specs.Targets.{next_address, upper_and}

-- a machine, latch by latch
abbrev pub at : ℕ → List ℕ → ℕ → ℕ → ℕ → ℕ → ℕ → ℕ → List ℕ → MachineState
at state registers pc ir mdr a b aluout image =
    machine_state registers (latched pc ir mdr a b aluout state) image

-- the dispatch ROMs hold their rules
in_rom_1 : (code : ℕ) → code < 64 → entry_of fixed_store.rom1 code ≡ dispatch1 code
unfolding fixed_store
in_rom_1 code h = rw (lt-ltb code 64 h) (table_at dispatch1 0 64 code h)

in_rom_2 : (code : ℕ) → code < 64 → entry_of fixed_store.rom2 code ≡ dispatch2 code
unfolding fixed_store
in_rom_2 code h = rw (lt-ltb code 64 h) (table_at dispatch2 0 64 code h)

module _ (u : Unit) (registers : List ℕ) (pc ir mdr a b aluout : ℕ) (image : List ℕ) where
  abbrev in_state : ℕ → MachineState
  in_state state = at state registers pc ir mdr a b aluout image

  -- what the machine becomes whose register file and image stay: A and B take rs and rt
  abbrev then_in : ℕ → ℕ → ℕ → ℕ → ℕ → MachineState
  then_in state pc' ir' mdr' aluout' =
      at state registers pc' ir' mdr' (read_of registers (rs ir)) (read_of registers (rt ir)) aluout' image

  -- the fetch
  pub state_0 : unit_cycle u (in_state 0)
      ≡ chain (located pc Fetch (accessing (length image) pc)) (λ k.
      answered (then_in 1 (next_address pc) (get_or image k 0) (get_or image k 0) (next_address pc)))
  unfolding unit_gives fixed_store ten_words cycle operation
  state_0 = by_table (in_state 0) (lit< tt) u

  -- the branch target; dispatch 1
  pub state_1 : unit_cycle u (in_state 1) ≡ chain (entered (dispatch1 (opcode ir))) (λ s. answered (then_in s pc ir mdr (sum pc (sign_extend (field ir) * 4 % 2 ^ 32))))
  unfolding unit_gives fixed_store ten_words cycle operation
  state_1 =
      by_table (in_state 1) (lit< tt) u
      ∙ ap (λ next. cycle (control 0x61 next) (in_state 1)) (in_rom_1 (opcode ir) (omega arith))

  -- the data address; dispatch 2
  pub state_2 : unit_cycle u (in_state 2) ≡ chain (entered (dispatch2 (opcode ir))) (λ s. answered (then_in s pc ir mdr (sum a (sign_extend (field ir)))))
  unfolding unit_gives fixed_store ten_words cycle operation
  state_2 =
      by_table (in_state 2) (lit< tt) u
      ∙ ap (λ next. cycle (control 0x52 next) (in_state 2)) (in_rom_2 (opcode ir) (omega arith))

  -- the load
  pub state_3 : unit_cycle u (in_state 3)
      ≡ chain (located aluout Load (accessing (length image) aluout)) (λ k.
      answered (then_in 4 pc ir (get_or image k 0) (sum pc b)))
  unfolding unit_gives fixed_store ten_words cycle operation
  state_3 = by_table (in_state 3) (lit< tt) u

  -- MDR into rt
  pub state_4 : unit_cycle u (in_state 4) ≡ answered (at 0 (written registers (rt ir) mdr) pc ir mdr (read_of registers (rs ir)) (read_of registers (rt ir)) (sum pc b) image)
  unfolding unit_gives fixed_store ten_words cycle operation
  state_4 = by_table (in_state 4) (lit< tt) u

  -- the store
  pub state_5 : unit_cycle u (in_state 5)
      ≡ chain (located aluout Store (accessing (length image) aluout)) (λ k.
      answered (at 0 registers pc ir mdr (read_of registers (rs ir)) (read_of registers (rt ir)) (sum pc b) (set image k b)))
  unfolding unit_gives fixed_store ten_words cycle operation
  state_5 = by_table (in_state 5) (lit< tt) u

  -- the operation by function
  pub state_6 : unit_cycle u (in_state 6) ≡ chain (function_result (function ir) a b) (λ v. answered (then_in 7 pc ir mdr v))
  unfolding unit_gives fixed_store ten_words cycle operation
  state_6 = by_table (in_state 6) (lit< tt) u

  -- ALUOut into rd
  pub state_7 : unit_cycle u (in_state 7) ≡ answered (at 0 (written registers (rd ir) aluout) pc ir mdr (read_of registers (rs ir)) (read_of registers (rt ir)) (sum pc b) image)
  unfolding unit_gives fixed_store ten_words cycle operation
  state_7 = by_table (in_state 7) (lit< tt) u

  -- the branch
  pub state_8 : unit_cycle u (in_state 8) ≡ answered (then_in 0 (pick (eqb (difference a b) 0) aluout pc) ir mdr (difference a b))
  unfolding unit_gives fixed_store ten_words cycle operation
  state_8 = by_table (in_state 8) (lit< tt) u

  -- the jump
  pub state_9 : unit_cycle u (in_state 9) ≡ answered (then_in 0 (upper_and pc (target ir)) ir mdr (sum pc b))
  unfolding unit_gives fixed_store ten_words cycle operation
  state_9 = by_table (in_state 9) (lit< tt) u
