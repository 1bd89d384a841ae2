-- "The average is cycles divided by instructions, two 32-bit counts, as one double division rounded once."
use Rattle.std.specs.Prelude.{◌≡◌, ℕ, pos, ◌==◌, Float, Result}
use Rattle.std.specs.Float.{binary64}
use Rattle.std.specs.Float.Ieee.{div, of_int}
use Rattle.terms.specs.Answers.{Answer, answered, refused, no, pick}
use Rattle.terms.specs.Refusals.{answer_of}
use Rattle.terms.specs.declared.refusals.Refusal.{Refusal}

-- 14: average over zero instructions
abbrev pub average_of : ℕ → ℕ → Answer Float
average_of cycles instructions =
    pick (instructions == 0) (refused (no 14))
    (answered (div binary64 (of_int binary64 (pos cycles)) (of_int binary64 (pos instructions))))

abbrev pub averaged_as : Result Float Refusal → Answer Float
averaged_as r = answer_of r

-- what `average` promises
abbrev pub Averages : ℕ → ℕ → Result Float Refusal → Type 0
Averages cycles instructions r = averaged_as r ≡ average_of cycles instructions
