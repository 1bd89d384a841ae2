-- "Register 0 reads 0 and a write to it is dropped (MIPS32); its cell is neither read nor written."
use Rattle.std.specs.Prelude.{ℕ, ◌%◌, List, ◌==◌, slice_index, slice_set}
use Rattle.terms.specs.Answers.{pick}

-- "thirty-two 32-bit cells": a register's number is taken in five bits
abbrev pub cell : ℕ → ℕ
cell register = register % 32

unfoldable pub read_of : List ℕ → ℕ → ℕ
read_of cells register = pick (cell register == 0) 0 (slice_index cells (cell register))

unfoldable pub written : List ℕ → ℕ → ℕ → List ℕ
written cells register value = pick (cell register == 0) cells (slice_set cells (cell register) value)
