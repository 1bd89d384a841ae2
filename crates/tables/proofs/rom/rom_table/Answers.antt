use Rattle.std.proofs.Common.{refl}
use Rattle.microcode.specs.Fixed.{ten_words, dispatch1, dispatch2, fixed_store}
use Rattle.tables.specs.Rom.{entry, rom_entries}
use Rattle.tables.proofs.rom.rom_table.Goals as goal

pub returns : goal.returns
unfolding entry rom_entries fixed_store ten_words dispatch1 dispatch2
returns c = refl
