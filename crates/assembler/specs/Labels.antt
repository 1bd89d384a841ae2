-- Where the lines of a text stand, and which of them a label names. A line is counted from 0 here.
use Rattle.std.specs.Prelude.{ℕ, zero, suc, ◌+◌, ◌*◌, ◌%◌, ◌^◌, Bool, false, Option, Some, None}
use Rattle.std.specs.Prelude.{◌&&◌, List, [], length, ◌==◌, nat_lt, slice_index_or}
use Rattle.terms.specs.Answers.{pick}
use Rattle.terms.specs.Running.{one_if}
use Rattle.source.specs.Statements.{label_of, has_word}
use Rattle.operands.specs.declared.labels.Label.{Label}

abbrev pub line_at : List (List ℕ) → ℕ → List ℕ
line_at lines i = slice_index_or lines i []

-- the words of the lines above a line
unfoldable pub words_above : List (List ℕ) → ℕ → ℕ
words_above lines zero = 0
words_above lines (suc i) = words_above lines i + one_if (has_word (line_at lines i))

-- "The caller gives the byte address of the first word; addresses run modulo 2^32."
abbrev pub address_of : ℕ → List (List ℕ) → ℕ → ℕ
address_of given lines i = (given + 4 * words_above lines i) % 2 ^ 32

-- whether two lines have one label; lines without a label have none
abbrev pub same_label : Option Label → Option Label → Bool
same_label None b = false
same_label (Some a) None = false
same_label (Some a) (Some b) = a.high == b.high && a.low == b.low

-- of n numbers from k on, the first that passes a test; k + n where none does
unfoldable pub first_from : (ℕ → Bool) → ℕ → ℕ → ℕ
first_from test zero k = k
first_from test (suc n) k = pick (test k) k (first_from test n (suc k))

-- the first line that defines a label, forward ones too; the number of lines where none does
abbrev pub line_of : List (List ℕ) → Option Label → ℕ
line_of lines label = first_from (λ i. same_label label (label_of (line_at lines i))) (length lines) 0

abbrev pub is_defined : List (List ℕ) → Option Label → Bool
is_defined lines label = nat_lt (line_of lines label) (length lines)
