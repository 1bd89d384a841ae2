-- "Four fixed units: the state table; a constant ROM ..; a PLA of 17 product terms; the sequencer with dispatch
-- ROMs."
use Rattle.std.specs.Prelude.{◌≡◌, ℕ, ◌<◌}
use Rattle.datapath.specs.Cycle.{cycle}
use Rattle.datapath.specs.Machines.{MachineState}
use Rattle.datapath.specs.declared.cycle.Control.{Control}
use Rattle.microcode.specs.Fixed.{fixed_store}
use Rattle.microcode.specs.Sequencing.{store_gives}
use Rattle.terms.specs.Answers.{Answer}
use Rattle.words.specs.Fields.{opcode}
use Rattle.tables.specs.Outputs.{tabled, from_entry}
use Rattle.tables.specs.Pla.{plane}
use Rattle.tables.specs.Rom.{rom_at, rom_entries}
use Rattle.control.specs.declared.units.Unit.TheVariants.{StateTable, Rom, Pla, Sequencer}
use Rattle.control.specs.declared.units.Unit.{Unit}

-- what a unit gives in a state for an opcode; the sequencer is the engine of a store, over the fixed store
unfoldable pub unit_gives : Unit → ℕ → ℕ → Control
unit_gives StateTable state code = tabled fixed_store.words fixed_store.rom1 fixed_store.rom2 state code
unit_gives Rom state code = from_entry state (rom_at rom_entries state code)
unit_gives Pla state code = from_entry state (plane 17 state code)
unit_gives Sequencer state code = store_gives fixed_store state code

-- a clock cycle under a unit: by the state, and the opcode in IR
abbrev pub unit_cycle : Unit → MachineState → Answer MachineState
unit_cycle u m = cycle (unit_gives u m.latches.state (opcode m.latches.ir)) m

-- "All four give the same cycle from every start": from each state that they have
abbrev pub UnitsAgree : Type 0
UnitsAgree = (u v : Unit) (m : MachineState) → m.latches.state < 10 → unit_cycle u m ≡ unit_cycle v m
