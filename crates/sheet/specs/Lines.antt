-- "at most 64 lines of eight lower-case hexadecimal digits (valued by a constant 256-entry table), each ended by a
-- newline": a text is a list of bytes, and a byte is a character's number.
use Rattle.std.specs.Prelude.{Bool, true, ◌&&◌, List, [], ◌∷◌, ℕ, zero, suc, ◌+◌}
use Rattle.std.specs.Prelude.{◌-◌, ◌*◌, ◌^◌, length, take, drop, nat_le, slice_index, ◌==◌, Option, Some, None}
use Rattle.std.specs.Option.{option_map, option_and_then}
use Rattle.terms.specs.Answers.{pick}

abbrev pub between : ℕ → ℕ → ℕ → Bool
between low high byte = nat_le low byte && nat_le byte high

-- the value of a digit: 0 to 9 from '0' on, 10 to 15 from 'a' on; 255 for a byte that is none
unfoldable pub digit : ℕ → ℕ
digit byte = pick (between 0x30 0x39 byte) (byte - 0x30) (pick (between 0x61 0x66 byte) (byte - 0x61 + 10) 255)

-- that value, or none
abbrev pub digit_at : ℕ → Option ℕ
digit_at byte = pick (nat_le (digit byte) 15) (Some (digit byte)) None

-- whether all are digits
abbrev pub all_digits : List ℕ → Bool
all_digits [] = true
all_digits (byte ∷ rest) = nat_le (digit byte) 15 && all_digits rest

-- the number that digits write: each digit times the power of 16 of its place
abbrev pub value : List ℕ → ℕ
value [] = 0
value (byte ∷ rest) = digit byte * 16 ^ length rest + value rest

-- the word that digits write, or none where one is no digit
unfoldable pub word : List ℕ → Option ℕ
word digits = pick (all_digits digits) (Some (value digits)) None

-- the word of the line with which a text begins: nine bytes, eight digits and the newline, 10
unfoldable pub line : List ℕ → Option ℕ
line text = pick (nat_le 9 (length text)) (pick (slice_index text 8 == 10) (word (take 8 text)) None) None

-- the words of a text of at most so many lines
unfoldable pub lines : ℕ → List ℕ → Option (List ℕ)
lines zero text = pick (length text == 0) (Some []) None
lines (suc most) text =
    pick (length text == 0) (Some [])
    (option_and_then (λ w. option_map (λ more. w ∷ more) (lines most (drop 9 text))) (line text))
