-- "197 bytes: mark "MCS", version 1 as 16 bits, sixteen words of 32 bits, ROM 1 then ROM 2 as bytes; numbers high
-- byte first. Reading and writing accept stores that break walk rules."
use Rattle.std.specs.Prelude.{Bool, ◌&&◌, List, [], ◌∷◌, ◌++◌, ◌≡◌, ℕ, ◌+◌, ◌-◌}
use Rattle.std.specs.Prelude.{◌*◌, ◌/◌, ◌%◌, ◌^◌, length, take, drop, slice_index, ◌==◌, Result}
use Rattle.terms.specs.Answers.{Answer, answered, refused, no, pick}
use Rattle.terms.specs.Refusals.{Consent, yes, answer_of, reply_of}
use Rattle.terms.specs.Tables.{table_from}
use Rattle.terms.specs.declared.refusals.Refusal.{Refusal}
use Rattle.microcode.specs.Stores.{in_range}
use Rattle.microcode.specs.declared.stores.Store.{Store}

-- mark "MCS"
abbrev pub marked : List ℕ → Bool
marked bytes = slice_index bytes 0 == 77 && (slice_index bytes 1 == 67 && slice_index bytes 2 == 83)

-- "version 1 as 16 bits"
abbrev pub versioned : List ℕ → Bool
versioned bytes = slice_index bytes 3 * 256 + slice_index bytes 4 == 1

-- the number of four bytes, "high byte first"
abbrev pub word_in : List ℕ → ℕ → ℕ
word_in bytes at =
    ((slice_index bytes at * 256 + slice_index bytes (at + 1)) * 256 + slice_index bytes (at + 2)) * 256
    + slice_index bytes (at + 3)

-- "sixteen words of 32 bits"
abbrev pub words_in : List ℕ → List ℕ
words_in bytes = table_from 0 16 (λ k. word_in bytes (4 * k))

-- the part of a file that starts at a byte and has so many
abbrev pub part : ℕ → ℕ → List ℕ → List ℕ
part from size bytes = take size (drop from bytes)

-- after mark and version the words, then "ROM 1 then ROM 2"
abbrev pub store_in : List ℕ → Store
store_in bytes =
    record { words = words_in (part 5 64 bytes); rom1 = part 69 64 bytes; rom2 = part 133 64 bytes }

-- "Reading a file: 9, 10, 11, 12": "file or file buffer not 197 bytes; mark; version", and the store's range
unfoldable pub file_read : List ℕ → Answer Store
file_read bytes =
    pick (length bytes == 197)
    (pick (marked bytes)
    (pick (versioned bytes)
    (pick (in_range (store_in bytes)) (answered (store_in bytes)) (refused (no 12)))
    (refused (no 11)))
    (refused (no 10)))
    (refused (no 9))

-- what `read_file` promises
abbrev pub ReadsFile : List ℕ → Result Store Refusal → Type 0
ReadsFile bytes r = answer_of r ≡ file_read bytes

-- mark and version
abbrev pub header : List ℕ
header = 77 ∷ 67 ∷ 83 ∷ 0 ∷ 1 ∷ []

-- byte k of a word, counted from its high byte
abbrev pub byte_of : ℕ → ℕ → ℕ
byte_of w k = w / 2 ^ (24 - 8 * k) % 256

-- sixteen words, four bytes each
abbrev pub word_bytes : List ℕ → List ℕ
word_bytes words = table_from 0 64 (λ k. byte_of (slice_index words (k / 4)) (k % 4))

-- the file of a store
unfoldable pub file_of : Store → List ℕ
file_of s = header ++ (word_bytes s.words ++ (s.rom1 ++ s.rom2))

-- what a writing answers, and the buffer as it is left
pub record FileWritten : Type 0 where
  pub answer : Consent
  pub buffer : List ℕ

-- "writing: 9, 12"; "a refusal by file .. writes nothing"
unfoldable pub file_written : Store → List ℕ → FileWritten
file_written s buffer =
    pick (length buffer == 197)
    (pick (in_range s)
    (record { answer = yes; buffer = file_of s })
    (record { answer = refused (no 12); buffer = buffer }))
    (record { answer = refused (no 9); buffer = buffer })

-- what `write_file` promises of its answer and of the buffer as it is left
abbrev pub WritesFile : Store → List ℕ → Result (Unit {0}) Refusal → List ℕ → Type 0
WritesFile s buffer r left =
    ◌≡◌ {A = FileWritten} (record { answer = reply_of r; buffer = left }) (file_written s buffer)
