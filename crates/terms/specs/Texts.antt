-- A text as it is written between quotes, and whether two texts are the same.
use Rattle.std.specs.Prelude.{ℕ, Bool, true, false, ◌&&◌, List, [], ◌∷◌, ◌==◌}
use Prim.Native.Char.{code}
use Prim.Native.String.{String, [] as no_text, ◌∷◌ as ◌then◌}

-- the bytes of a text in ASCII
abbrev pub ascii : String → List ℕ
ascii no_text = []
ascii (letter then rest) = code letter ∷ ascii rest

-- the same bytes
abbrev pub same : List ℕ → List ℕ → Bool
same [] [] = true
same [] (b ∷ more) = false
same (a ∷ rest) [] = false
same (a ∷ rest) (b ∷ more) = a == b && same rest more
