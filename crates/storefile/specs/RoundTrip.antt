-- What is written reads back as the same store, and what reads writes back as the same bytes.
use Rattle.std.specs.Prelude.{true, List, ◌≡◌, ℕ, ◌<◌, length, slice_index}
use Rattle.terms.specs.Answers.{answered}
use Rattle.storefile.specs.File.{file_of, file_read}
use Rattle.microcode.specs.Stores.{in_range}
use Rattle.microcode.specs.declared.stores.Store.{Store}

-- sixteen words and two ROMs of 64 entries, as the type of a store has them
pub record HasSizes (s : Store) : Type 0 where
  pub sixteen : length s.words ≡ 16
  pub first : length s.rom1 ≡ 64
  pub second : length s.rom2 ≡ 64

pub record RoundTrip : Type 0 where
  pub written_reads : (s : Store) → HasSizes s → in_range s ≡ true
      → file_read (file_of s) ≡ answered s
  pub read_writes : (bytes : List ℕ) → ((k : ℕ) → slice_index bytes k < 256) → (s : Store)
      → file_read bytes ≡ answered s
      → file_of s ≡ bytes
