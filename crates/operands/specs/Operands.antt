-- "registers $0 to $31, signed decimal offsets for lw and sw, labels of up to 16 letters .. and `.word` with eight
-- hexadecimal digits": what a part says where it is asked for as one of these.
use Rattle.std.specs.Prelude.{Bool, true, ◌&&◌, ◌||◌, not, List, [], ◌∷◌, ℕ, ◌+◌, ◌-◌}
use Rattle.std.specs.Prelude.{◌*◌, ◌%◌, ◌^◌, length, take, drop, nat_le, nat_lt, slice_index, ◌==◌, Option, Some, None}
use Rattle.terms.specs.Answers.{Answer, answered, refused, no, pick, chain}
use Rattle.operands.specs.declared.numbers.Digits.TheVariants.{Decimal, Hexadecimal, Letters}
use Rattle.operands.specs.declared.numbers.Digits.{Digits}
use Rattle.operands.specs.declared.labels.Label.{Label}
use Rattle.operands.specs.declared.operands.Shape.TheVariants.{Register, Offset, Word, Comma, Colon, Open, Close}
use Rattle.operands.specs.declared.operands.Shape.{Shape}

-- "20 line not readable"
abbrev pub unreadable : {A : Type 0} → Answer A
unreadable = refused (no 20)

-- a byte of a range, counted from the number of the range's first; another number for a byte outside it
unfoldable pub within : ℕ → ℕ → ℕ → ℕ → ℕ → ℕ
within low high first byte other = pick (nat_le low byte && nat_le byte high) (byte - low + first) other

-- the value of a digit; 256 for a byte that is none. A letter is a digit of a label, and its value is its byte
abbrev pub digit : Digits → ℕ → ℕ
digit Decimal byte = within 0x30 0x39 0 byte 256
digit Hexadecimal byte = within 0x30 0x39 0 byte (within 0x41 0x46 10 byte (within 0x61 0x66 10 byte 256))
digit Letters byte = within 0x41 0x5a 0x41 byte (within 0x61 0x7a 0x61 byte 256)

-- the digit that a byte is, if it is one
abbrev pub digit_read : Digits → ℕ → Option ℕ
digit_read kind byte = pick (nat_lt (digit kind byte) 256) (Some (digit kind byte)) None

abbrev pub base : Digits → ℕ
base Decimal = 10
base Hexadecimal = 16
base Letters = 256

abbrev pub all_digits : Digits → List ℕ → Bool
all_digits kind [] = true
all_digits kind (byte ∷ rest) = nat_lt (digit kind byte) 256 && all_digits kind rest

-- each digit times the power of the base of its place
abbrev pub value : Digits → List ℕ → ℕ
value kind [] = 0
value kind (byte ∷ rest) = digit kind byte * base kind ^ length rest + value kind rest

-- the number that digits write
unfoldable pub number : Digits → List ℕ → Answer ℕ
number kind part = pick (all_digits kind part) (answered (value kind part)) unreadable

-- a decimal has one to five digits, and the first is no 0 unless it stands alone
unfoldable pub decimal_form : List ℕ → Bool
decimal_form part =
    nat_le 1 (length part)
    && (nat_le (length part) 5 && (length part == 1 || not (slice_index part 0 == 0x30)))

-- "A decimal out of its field's range makes the line unreadable"
unfoldable pub decimal : ℕ → List ℕ → Answer ℕ
decimal most part =
    pick (decimal_form part)
    (chain (number Decimal part) (λ n. pick (nat_le n most) (answered n) unreadable))
    unreadable

-- "registers $0 to $31": a dollar sign and the number
unfoldable pub register : List ℕ → Answer ℕ
register part = pick (slice_index part 0 == 0x24) (decimal 31 (drop 1 part)) unreadable

-- the 16 bits of a signed decimal: after a minus sign, 2^16 less the number
unfoldable pub offset : List ℕ → Answer ℕ
offset part =
    pick (slice_index part 0 == 0x2d)
    (chain (decimal 32768 (drop 1 part)) (λ n. answered ((2 ^ 16 - n) % 2 ^ 16)))
    (decimal 32767 part)

-- "eight hexadecimal digits"
unfoldable pub hexadecimal : List ℕ → Answer ℕ
hexadecimal part = pick (length part == 8) (number Hexadecimal part) unreadable

-- a mark says no more than that it is there
unfoldable pub mark : ℕ → List ℕ → Answer ℕ
mark byte part = pick (length part == 1 && slice_index part 0 == byte) (answered 0) unreadable

-- what a part says where it is asked for in a shape
abbrev pub shaped : Shape → List ℕ → Answer ℕ
shaped Register part = register part
shaped Offset part = offset part
shaped Word part = hexadecimal part
shaped Comma part = mark 0x2c part
shaped Colon part = mark 0x3a part
shaped Open part = mark 0x28 part
shaped Close part = mark 0x29 part

-- "labels of up to 16 letters", of at least one
unfoldable pub is_label : List ℕ → Bool
is_label part = nat_le 1 (length part) && (nat_le (length part) 16 && all_digits Letters part)

-- a label is held as two numbers, its first eight letters and the others
abbrev pub spelled : List ℕ → Label
spelled part = record { high = value Letters (take 8 part); low = value Letters (drop 8 part) }

unfoldable pub label : List ℕ → Answer Label
label part = pick (is_label part) (answered (spelled part)) unreadable

-- what was read, or 20
abbrev pub read_as : {A : Type 0} → Option A → Answer A
read_as (Some a) = answered a
read_as None = unreadable

abbrev pub number_as : Option ℕ → Answer ℕ
number_as = read_as

abbrev pub named_as : Option Label → Answer Label
named_as = read_as
