-- The samples at the edges hold: each row by computing it.
-- Assumes nothing.
use mathlib.Core.Path.{refl}
use Rattle.tables.specs.Pla.{plane, term_states, term_opcodes, term_asserts}
use Rattle.tables.specs.Rom.{entry, rom_entries}
use Rattle.control.specs.Running.{unit_run, store_run}
use Rattle.control.specs.Units.{unit_gives}
use Rattle.datapath.specs.Cycle as datapath
use Rattle.microcode.specs.Fixed.{ten_words, dispatch1, dispatch2, fixed_store}
use Rattle.microcode.specs.Sequencing.{sequence}
use Rattle.microcode.specs.Stores.{in_range}
use Rattle.terms.specs.Tables.{among}
use Rattle.parts.specs.Alu.{signed, less_than}
use Rattle.parts.specs.Image.{sized, accessing, reading}
use Rattle.parts.specs.Registers.{read_of, written}
use Rattle.walks.specs.Checking.{first_from, verdict_in, checking}
use Rattle.rules.specs.Rules.{rule1, rule2, rule3, rule4, rule5, rule6}
use Rattle.walks.specs.Walk.{walk_from}
use Rattle.single.specs.Instruction.{executing, instruction}
use Rattle.single.specs.Running.{single_run}
use Rattle.terms.specs.Running.{running}
use Rattle.words.specs.Kinds.{by_opcode, by_function}
use Rattle.samples.specs.Samples.{AllHold, done, ◌and◌, samples}

pub samples_hold : AllHold samples
unfolding samples checking first_from verdict_in walk_from among in_range rule1 rule2 rule3 rule4 rule5 rule6 fixed_store ten_words dispatch1 dispatch2 sequence by_opcode by_function signed less_than sized accessing reading read_of written instruction executing single_run unit_run store_run running datapath.cycle datapath.operation datapath.function_result unit_gives rom_entries entry plane term_states term_opcodes term_asserts
samples_hold =
    refl and refl
    and refl and refl and refl and refl and refl and refl
    and refl and refl and refl and refl and refl and refl
    and refl and refl and refl and refl and refl and refl
    and refl and refl and refl and refl and refl
    and refl and refl and refl and refl and refl and refl and refl
    and refl
    and refl and refl and refl and refl
    and refl and refl and refl and refl and refl and refl and refl
    and done
