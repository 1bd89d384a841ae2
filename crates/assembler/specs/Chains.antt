-- Inside the crate: the table of the lines of a text. Lines of one hash are chained, the last first; a link is the
-- line's number.
use Rattle.std.specs.Prelude.{◌≡◌, ℕ, zero, suc, ◌+◌, ◌%◌, ◌<◌}
use Rattle.std.specs.Prelude.{Bool, List, length, ◌==◌, slice_index_or, Option, Some, None}
use Rattle.terms.specs.Answers.{pick}
use Rattle.operands.specs.declared.labels.Label.{Label}
use Rattle.assembler.specs.declared.table.Entry.{Entry}

-- the chain of a label; that of lines without one is 0
unfoldable pub hash_of : Option Label → ℕ
hash_of None = 0
hash_of (Some label) = (label.high % 1000003 + label.low % 999983) % 4093 + 1

-- the last number below n that passes a test, plus 1; 0 where none does
unfoldable pub last_below : (ℕ → Bool) → ℕ → ℕ
last_below test zero = 0
last_below test (suc n) = pick (test n) (suc n) (last_below test n)

-- that number as a link
abbrev pub link : ℕ → Option ℕ
link zero = None
link (suc n) = Some n

abbrev pub blank : Entry
blank = record { label = None; words_above = 0; next = None }

abbrev pub entry_at : List Entry → ℕ → Entry
entry_at entries j = slice_index_or entries j blank

abbrev pub hashes : List Entry → ℕ → ℕ → Bool
hashes entries h j = hash_of (entry_at entries j).label == h

-- the chains of the lines
pub record Chained (heads : List (Option ℕ)) (entries : List Entry) : Type 0 where
  pub head : (h : ℕ) → h < 4096 → slice_index_or heads h None ≡ link (last_below (hashes entries h) (length entries))
  pub next : (j : ℕ) → j < length entries →
      (entry_at entries j).next ≡ link (last_below (hashes entries (hash_of (entry_at entries j).label)) j)
