-- What is left of a text from a place on.
-- Assumes nothing.
use Rattle.std.proofs.Common.{◌≡◌, ℕ, ◌-◌, ◌<◌, List, [], ◌∷◌, length, take, drop, refl, le_of_eq, arith, length-drop, take_all}

pub rest : (text : List ℕ) (at : ℕ) → take (length text - at) (drop at text) ≡ drop at text
rest text at = take_all (length text - at) (drop at text) (le_of_eq (length-drop at text))

-- a text of no bytes
pub none : (text : List ℕ) → length text < 1 → text ≡ []
none [] h = refl
none (byte ∷ text) h = absurd (omega arith)
