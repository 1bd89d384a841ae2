use Rattle.std.proofs.Common.{◌/◌, ◌%◌, get_or, arith}
use Rattle.storefile.specs.File.{byte_of}
use Rattle.storefile.proofs.Words.{filled}
use Rattle.storefile.proofs.file.write_words.Goals as goal

pub returns : goal.returns
returns c =
    filled (λ j. byte_of (get_or c.args.words.now (j / 4) 0) (j % 4)) 64 _ (omega arith)
    (λ j h. c.loop-k.invariant j (omega arith))
