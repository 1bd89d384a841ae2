-- The store as it is written out is the one that the ten words and the two tables make.
use Rattle.std.proofs.Common.{refl}
use Rattle.microcode.specs.Fixed.{ten_words, dispatch1, dispatch2, fixed_store}
use Rattle.microcode.proofs.fixed.fixed_store.Goals as goal

pub returns : goal.returns
unfolding fixed_store ten_words dispatch1 dispatch2
returns c = refl
