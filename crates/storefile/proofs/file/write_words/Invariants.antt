use Rattle.std.proofs.Common.{◌≡◌, ℕ, ◌*◌, ◌/◌, ◌%◌, ◌<◌, get_or}
use Rattle.storefile.specs.File.{byte_of}
use Rattle.storefile.proofs.file.write_words.Given as goal

abbrev pub invariant-loop-k : goal.invariant-loop-k
invariant-loop-k l = (j : ℕ) → j < 4 * l.k → get_or l.part j 0 ≡ byte_of (get_or l.words (j / 4) 0) (j % 4)
