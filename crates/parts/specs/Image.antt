-- "Word k stands at byte address 4k."
use Rattle.std.specs.Prelude.{◌≡◌, ℕ, ◌%◌, ◌^◌, ◌<◌, Bool, ◌&&◌, List}
use Rattle.std.specs.Prelude.{length, ◌==◌, nat_le, nat_lt, slice_index, Result, Ok, Err}
use Rattle.terms.specs.Answers.{Answer, answered, refused, no, pick, fold, chain}
use Rattle.terms.specs.Counts.{word_at}
use Rattle.terms.specs.Refusals.{no_at}
use Rattle.terms.specs.declared.counts.WordIndex.{WordIndex}
use Rattle.terms.specs.declared.refusals.AccessKind.{AccessKind}
use Rattle.parts.specs.declared.image.BadAddress.TheVariants.{Misaligned, Outside}
use Rattle.parts.specs.declared.image.BadAddress.{BadAddress}

-- "Limits: image 1 to 16,384 words."
unfoldable pub sized : ℕ → Bool
sized words = nat_le 1 words && nat_le words 16384

-- the word that an address names in an image of so many words: 1 address not a multiple of 4, then 2 address
-- outside the image
unfoldable pub accessing : ℕ → ℕ → Answer ℕ
accessing words address =
    pick (address % 4 == 0)
    (pick (nat_lt (word_at address) words) (answered (word_at address)) (refused (no 2)))
    (refused (no 1))

-- the word that stands at an address
unfoldable pub reading : List ℕ → ℕ → Answer ℕ
reading image address = chain (accessing (length image) address) (λ k. answered (slice_index image k))

-- "A memory access that is refused with 1 or 2 now also gives the byte address and whether it was a fetch, a load or a
-- store."
abbrev pub located : {A : Type 0} → ℕ → AccessKind → Answer A → Answer A
located address kind answer = fold answered (λ r. refused (no_at r.number address kind)) answer

-- what `BadAddress` says, and what `access` and `fetch` answer
abbrev pub bad_number : BadAddress → ℕ
bad_number Misaligned = 1
bad_number Outside = 2

abbrev pub accessed_as : Result WordIndex BadAddress → Answer ℕ
accessed_as (Ok k) = answered k.0
accessed_as (Err b) = refused (no (bad_number b))

abbrev pub fetched_as : Result ℕ BadAddress → Answer ℕ
fetched_as (Ok w) = answered w
fetched_as (Err b) = refused (no (bad_number b))

-- what `access` and `fetch` promise
abbrev pub Accesses : ℕ → ℕ → Result WordIndex BadAddress → Type 0
Accesses words address r = accessed_as r ≡ accessing words address

abbrev pub Fetches : List ℕ → ℕ → Result ℕ BadAddress → Type 0
Fetches image address r = fetched_as r ≡ reading image address

-- 32-bit numbers, as the types of an image and of a register file have them
abbrev pub HoldsWords : List ℕ → Type 0
HoldsWords words = (k : ℕ) → slice_index words k < 2 ^ 32
