-- Words and their bytes, high byte first; and a table that a loop has filled.
-- Assumes nothing.
use Rattle.std.proofs.Common.{◌≡◌, ℕ, ◌+◌, ◌*◌, ◌<◌, List, [], ◌∷◌, length, get_or, ext_get_or, sym, ◌∙◌, arith}
use Rattle.std.specs.Int.{w32, from_be_bytes}
use Rattle.terms.specs.Tables.{table_from}
use Rattle.terms.proofs.Tables.{table_at, table_length}

-- the word of four bytes
pub four_bytes : (a b c d : ℕ) → from_be_bytes w32 (a ∷ b ∷ c ∷ d ∷ []) ≡ ((a * 256 + b) * 256 + c) * 256 + d
four_bytes a b c d = omega arith

-- a list that has the rule's value at each place is the table of the rule
pub filled : (f : ℕ → ℕ) (n : ℕ) (l : List ℕ) → length l ≡ n → ((j : ℕ) → j < n → get_or l j 0 ≡ f j) → l ≡ table_from 0 n f
filled f n l sized each =
    ext_get_or 0 l (table_from 0 n f) (sized ∙ sym (table_length f n 0))
    (λ j h. each j (rw sized at h) ∙ sym (table_at f 0 n j (rw sized at h)))
