-- "a constant ROM of 1,024 entries addressed by opcode times 16 plus state"
use Rattle.std.specs.Prelude.{List, ◌≡◌, ℕ, ◌+◌, ◌*◌, ◌/◌, ◌%◌, ◌<◌, slice_index, ◌==◌}
use Rattle.datapath.specs.declared.cycle.Control.{Control}
use Rattle.microcode.specs.Fixed.{fixed_store}
use Rattle.terms.specs.Answers.{pick}
use Rattle.terms.specs.Tables.{table_from}
use Rattle.tables.specs.Outputs.{tabled}
use Rattle.tables.specs.Pla.{plane}

-- sixteen control bits and the next state; where an opcode has no entry the next state's bits are 0
abbrev pub packed : Control → ℕ
packed c = c.word / 4 * 16 + pick (c.next == 255) 0 c.next

-- the entry of a state and an opcode, from the state table
unfoldable pub entry : ℕ → ℕ → ℕ
entry state opcode =
    packed (tabled fixed_store.words fixed_store.rom1 fixed_store.rom2 state opcode)

unfoldable pub rom_entries : List ℕ
rom_entries = table_from 0 1024 (λ address. entry (address % 16) (address / 16))

-- the entry at an address: ten address lines, six of the opcode and four of the state
abbrev pub rom_at : List ℕ → ℕ → ℕ → ℕ
rom_at entries state opcode = slice_index entries (opcode % 64 * 16 + state % 16)

-- "ROM and PLA words .. are equal at all 1,024 addresses."
abbrev pub RomIsPla : Type 0
RomIsPla = (state opcode : ℕ) → state < 16 → opcode < 64 → rom_at rom_entries state opcode ≡ plane 17 state opcode
