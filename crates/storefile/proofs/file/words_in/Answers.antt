use Rattle.std.proofs.Common.{◌*◌, arith}
use Rattle.storefile.specs.File.{word_in}
use Rattle.storefile.proofs.Words.{filled}
use Rattle.storefile.proofs.file.words_in.Goals as goal

pub returns : goal.returns
returns c = filled (λ j. word_in c.args.part.now (4 * j)) 16 _ (omega arith) (λ j h. c.loop-k.invariant j (omega arith))
