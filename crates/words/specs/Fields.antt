-- "R-format: opcode 0, rs 25-21, rt 20-16, rd 15-11, bits 10-6 zero, function ..": a field is the number of its bits.
use Rattle.std.specs.Prelude.{ℕ, ◌+◌, ◌-◌, ◌/◌, ◌%◌, ◌^◌, nat_lt}
use Rattle.terms.specs.Answers.{pick}

abbrev pub opcode : ℕ → ℕ
opcode w = w / 2 ^ 26 % 2 ^ 6

abbrev pub rs : ℕ → ℕ
rs w = w / 2 ^ 21 % 2 ^ 5

abbrev pub rt : ℕ → ℕ
rt w = w / 2 ^ 16 % 2 ^ 5

abbrev pub rd : ℕ → ℕ
rd w = w / 2 ^ 11 % 2 ^ 5

-- "all eleven low bits are compared": bits 10-6 with the function below them
abbrev pub function : ℕ → ℕ
function w = w % 2 ^ 11

abbrev pub field : ℕ → ℕ
field w = w % 2 ^ 16

abbrev pub target : ℕ → ℕ
target w = w % 2 ^ 26

-- the 32-bit number whose signed value is that of the 16-bit field: a field of 2 ^ 15 or more stands for the field
-- less 2 ^ 16
abbrev pub sign_extend : ℕ → ℕ
sign_extend f = pick (nat_lt f (2 ^ 15)) f (f + (2 ^ 32 - 2 ^ 16))
