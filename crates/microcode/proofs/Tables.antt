-- The ten words are those of source 002's equations.
-- Assumes nothing.
use Rattle.microcode.specs.Fixed.{ten_words}
use Rattle.microcode.specs.TruthTable.{TruthTable, equations, alike, agrees}
use Rattle.terms.specs.Tables.{among}

pub truth_table : TruthTable
unfolding agrees alike among equations ten_words
truth_table = tt
