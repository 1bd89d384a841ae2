-- Numbers as the digits that a reader of the table expects.
use Rattle.std.specs.Prelude.{ℕ, zero, suc, ◌+◌, ◌-◌, ◌/◌, ◌%◌, ◌==◌, nat_lt}
use Rattle.terms.specs.Answers.{pick}
use Rattle.page.specs.Pages.{Page, put}

-- so many digits of a number in a base, the highest first: f of what is left of the number at each place
unfoldable pub digits : (ℕ → Page → Page) → ℕ → ℕ → ℕ → Page → Page
digits f base zero n p = p
digits f base (suc k) n p = f n (digits f base k (n / base) p)

-- the digit of the low four bits: `0` to `9` from 48 on, `a` to `f` from 97 on
abbrev pub hex_digit : ℕ → ℕ
hex_digit n = pick (nat_lt (n % 16) 10) (48 + n % 16) (87 + n % 16)

-- a word, in eight hexadecimal digits
unfoldable pub hex : ℕ → Page → Page
hex w p = digits (λ n. put (hex_digit n)) 16 8 w p

-- the last decimal digit
abbrev pub decimal_digit : ℕ → ℕ
decimal_digit n = 48 + n % 10

-- the digit of what is left of a number at its place, where anything is left
unfoldable pub leading : ℕ → Page → Page
leading left p = pick (left == 0) p (put (decimal_digit left) p)

-- a 32-bit number in decimal, in as many digits as it takes, which are ten or fewer
unfoldable pub decimal : ℕ → Page → Page
decimal n p = put (decimal_digit n) (digits leading 10 9 (n / 10) p)

-- a 16-bit field as the signed number that it is, `-` being 45
unfoldable pub signed_decimal : ℕ → Page → Page
signed_decimal f p = pick (nat_lt f 32768) (decimal f p) (decimal (65536 - f) (put 45 p))

-- a digit of a column, or a blank in front of the number
abbrev pub column_digit : ℕ → ℕ
column_digit left = pick (left == 0) 32 (decimal_digit left)

-- the last digits of a number in so many places, and at least one
unfoldable pub places : ℕ → ℕ → Page → Page
places width n p = put (decimal_digit n) (digits (λ left. put (column_digit left)) 10 (width - 1) (n / 10) p)

-- the low bit, as a digit
abbrev pub bit_digit : ℕ → ℕ
bit_digit n = 48 + n % 2

-- so many low bits, the highest first
unfoldable pub bits : ℕ → ℕ → Page → Page
bits width n p = digits (λ left. put (bit_digit left)) 2 width n p
