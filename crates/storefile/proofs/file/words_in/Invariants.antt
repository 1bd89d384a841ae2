use Rattle.std.proofs.Common.{◌≡◌, ℕ, ◌*◌, ◌<◌, get_or}
use Rattle.storefile.specs.File.{word_in}
use Rattle.storefile.proofs.file.words_in.Given as goal

abbrev pub invariant-loop-k : goal.invariant-loop-k
invariant-loop-k l = (j : ℕ) → j < l.k → get_or l.word-items j 0 ≡ word_in l.part (4 * j)
