-- "All sums and differences are taken modulo 2^32; add and sub never trap. slt compares as signed numbers and
-- answers 1 or 0."
use Rattle.std.specs.Prelude.{ℕ, ◌+◌, ◌-◌, ◌%◌, ◌^◌, ℤ, pos, negsuc, int_lt, nat_lt}
use Rattle.terms.specs.Answers.{pick}

abbrev pub sum : ℕ → ℕ → ℕ
sum a b = (a + b) % 2 ^ 32

abbrev pub difference : ℕ → ℕ → ℕ
difference a b = (a + (2 ^ 32 - b)) % 2 ^ 32

-- the signed number that 32 bits stand for: from 2 ^ 31 on, the number less 2 ^ 32
unfoldable pub signed : ℕ → ℤ
signed a = pick (nat_lt a (2 ^ 31)) (pos a) (negsuc (2 ^ 32 - 1 - a))

unfoldable pub less_than : ℕ → ℕ → ℕ
less_than a b = pick (int_lt (signed a) (signed b)) 1 0
