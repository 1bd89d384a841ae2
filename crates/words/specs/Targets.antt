-- "All sums and differences are taken modulo 2^32."
use Rattle.std.specs.Prelude.{ℕ, ◌+◌, ◌*◌, ◌/◌, ◌%◌, ◌^◌}
use Rattle.words.specs.Fields.{sign_extend}

-- the address of the word after this one
abbrev pub next_address : ℕ → ℕ
next_address address = (address + 4) % 2 ^ 32

-- "Branch target: address of the branch, plus 4, plus four times the signed field."
abbrev pub branch_target : ℕ → ℕ → ℕ
branch_target address f = (address + 4 + 4 * sign_extend f) % 2 ^ 32

-- "upper four bits .., the 26 bits, two zeros"
abbrev pub upper_and : ℕ → ℕ → ℕ
upper_and address t = address / 2 ^ 28 * 2 ^ 28 + t % 2 ^ 26 * 4

-- "Jump target: upper four bits of (address + 4), the 26 bits, two zeros."
abbrev pub jump_target : ℕ → ℕ → ℕ
jump_target address t = upper_and (next_address address) t
