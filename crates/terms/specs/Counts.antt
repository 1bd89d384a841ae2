-- The four counts. None may be given where another is wanted; a count is read by its number.
use Rattle.std.specs.Prelude.{ℕ, ◌+◌, ◌-◌, ◌*◌, ◌/◌, ◌%◌, ◌^◌, min, Bool, nat_le}
use Rattle.terms.specs.declared.counts.Cycles.{Cycles}
use Rattle.terms.specs.declared.counts.Instructions.{Instructions}

-- "Word k stands at byte address 4k."
abbrev pub word_at : ℕ → ℕ
word_at address = address / 4

-- a place in a slice of words, as a 32-bit index
abbrev pub word_index : ℕ → ℕ
word_index place = place % 2 ^ 32

-- the first byte address past so many words is four times as many, modulo 2^32
abbrev pub past_words : ℕ → ℕ
past_words words = words * 4 % 2 ^ 32

-- a count of cycles is known by its number
abbrev pub number_of_cycles : Cycles → ℕ
number_of_cycles cycles = cycles.0

-- a count of instructions is known by its number
abbrev pub number_of_instructions : Instructions → ℕ
number_of_instructions instructions = instructions.0

-- a 32-bit count, and one more
abbrev pub one_more : ℕ → ℕ
one_more count = (count + 1) % 2 ^ 32

-- two counts together, as far as 32 bits count
abbrev pub total : ℕ → ℕ → ℕ
total a b = min (a + b) (2 ^ 32 - 1)

-- "budget 0 to 1,000,000 (cycles, or instructions for the single-cycle machine)"
abbrev pub allowed : ℕ → Bool
allowed budget = nat_le budget 1000000
