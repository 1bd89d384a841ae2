-- The lines of a text, and the parts of a line. A text is a list of bytes.
use Rattle.std.specs.Prelude.{Bool, false, ◌&&◌, ◌||◌, not, List, [], ◌∷◌, ℕ, suc, ◌+◌, drop, ◌==◌}
use Rattle.terms.specs.Answers.{pick}

-- a byte more at the start of the first text, or a text of its own
abbrev pub on_first : ℕ → List (List ℕ) → List (List ℕ)
on_first byte [] = (byte ∷ []) ∷ []
on_first byte (text ∷ texts) = (byte ∷ text) ∷ texts

-- a newline, 10, ends a line; what stands behind the last newline is a line too
unfoldable pub lines_of : List ℕ → List (List ℕ)
lines_of [] = []
lines_of (byte ∷ rest) = pick (byte == 10) ([] ∷ lines_of rest) (on_first byte (lines_of rest))

-- a blank is a space or a tab
abbrev pub is_blank : ℕ → Bool
is_blank byte = byte == 32 || byte == 9

-- a comma, a colon and the two parentheses are parts of their own
abbrev pub is_mark : ℕ → Bool
is_mark byte = byte == 44 || (byte == 58 || (byte == 40 || byte == 41))

-- any other byte makes one part with its like beside it
abbrev pub joins : ℕ → Bool
joins byte = not (is_blank byte || is_mark byte)

-- whether a text begins with a byte that joins
abbrev pub goes_on : List ℕ → Bool
goes_on [] = false
goes_on (byte ∷ rest) = joins byte

-- "blanks free between parts"
unfoldable pub parts_of : List ℕ → List (List ℕ)
parts_of [] = []
parts_of (byte ∷ rest) =
    pick (is_blank byte) (parts_of rest)
    (pick (joins byte && goes_on rest) (on_first byte (parts_of rest)) ((byte ∷ []) ∷ parts_of rest))

-- how many bytes a text's first line has
unfoldable pub line_length : List ℕ → ℕ
line_length [] = 0
line_length (byte ∷ rest) = pick (byte == 10) 0 (suc (line_length rest))

-- where the line that goes through a place ends: at its newline, or where the text ends
abbrev pub line_end : List ℕ → ℕ → ℕ
line_end text at = at + line_length (drop at text)
