-- What is written reads back as the same store, and what reads writes back as the same bytes.
-- Assumes nothing.
use Rattle.std.proofs.Common.{true, ◌&&◌, List, [], ◌∷◌, ◌++◌, ⊎_elim, ◌≡◌, refl, sym, ap, ◌∙◌, ℕ, zero, suc, ◌+◌, ◌*◌, ◌/◌, ◌%◌, ◌^◌, ◌<◌, ◌≤◌, div-one, add-zero, arith, lit<, eqb, length, get_or, take, drop, take-append-drop, length-drop, ext_get_or, get_or-take, get_or-drop, length-take-le, take_all, drop-drop, eq-eqb, eqb-true, ltb-true}
use Rattle.std.proofs.lemmas.Nat.{be_bytes_4, from_be_bytes-to_be_bytes_4}
use Rattle.terms.specs.Answers.{answered}
use Rattle.terms.proofs.Answers.{value_of, picked, both_true, never}
use Rattle.terms.proofs.Tables.{table_at}
use Rattle.storefile.specs.File.{marked, versioned, word_in, words_in, part, store_in, file_read, header, byte_of, word_bytes, file_of}
use Rattle.storefile.specs.RoundTrip.{HasSizes, RoundTrip}
use Rattle.microcode.specs.Stores.{word_fits, entry_fits, every, in_range}
use Rattle.microcode.specs.declared.stores.Store.{Store}
use Rattle.microcode.proofs.Every.{every_at}
use Rattle.storefile.proofs.Words.{four_bytes}
use Rattle.storefile.proofs.Files.{file_length, words_part, rom1_part, rom2_part}

-- the four bytes of a word
abbrev bytes_of : ℕ → List ℕ
bytes_of w = byte_of w 0 ∷ byte_of w 1 ∷ byte_of w 2 ∷ byte_of w 3 ∷ []

-- a word of 32 bits is the number of its four bytes
bytes_word : (w : ℕ) → w < 2 ^ 32 → ((byte_of w 0 * 256 + byte_of w 1) * 256 + byte_of w 2) * 256 + byte_of w 3 ≡ w
bytes_word w h = rw div-one (sym (four_bytes _ _ _ _) ∙ from_be_bytes-to_be_bytes_4 w h)

-- and bytes are those of their number
word_bytes_are : (a b c d : ℕ) → a < 256 → b < 256 → c < 256 → d < 256 → bytes_of (((a * 256 + b) * 256 + c) * 256 + d) ≡ a ∷ b ∷ c ∷ d ∷ []
word_bytes_are a b c d ha hb hc hd = rw div-one (be_bytes_4 (a ∷ b ∷ c ∷ d ∷ []) _ refl small (sym (four_bytes a b c d)))
  where
    small : (i : ℕ) → get_or (a ∷ b ∷ c ∷ d ∷ []) i 0 < 256
    small zero = ha
    small (suc zero) = hb
    small (suc (suc zero)) = hc
    small (suc (suc (suc zero))) = hd
    small (suc (suc (suc (suc i)))) = lit< tt

-- sixteen words, written and read
module _ (words : List ℕ) (sixteen : length words ≡ 16) (small : (i : ℕ) → get_or words i 0 < 2 ^ 32) where
  byte_at : (i j : ℕ) → i < 16 → j < 4 → get_or (word_bytes words) (4 * i + j) 0 ≡ byte_of (get_or words i 0) j
  byte_at i j h g =
      let q : (4 * i + j) / 4 ≡ i = omega arith in
      let r : (4 * i + j) % 4 ≡ j = omega arith in
      table_at (λ k. byte_of (get_or words (k / 4) 0) (k % 4)) 0 64 (4 * i + j) (omega arith)
      ∙ ap (λ n. byte_of (get_or words n 0) ((4 * i + j) % 4)) q
      ∙ ap (byte_of (get_or words i 0)) r

  word_back : (i : ℕ) → i < 16 → word_in (word_bytes words) (4 * i) ≡ get_or words i 0
  word_back i h =
      let zeroth : get_or (word_bytes words) (4 * i) 0 ≡ byte_of (get_or words i 0) 0 = ap (λ n. get_or (word_bytes words) n 0) (sym (add-zero (4 * i))) ∙ byte_at i 0 h (omega arith) in
      rw (zeroth, byte_at i 1 h (omega arith), byte_at i 2 h (omega arith), byte_at i 3 h (omega arith))
      (bytes_word (get_or words i 0) (small i))

  words_back : words_in (word_bytes words) ≡ words
  words_back =
      ext_get_or 0 (words_in (word_bytes words)) words (sym sixteen)
      (λ i h. table_at (λ k. word_in (word_bytes words) (4 * k)) 0 16 i h ∙ word_back i h)

-- their 64 bytes, read and written
module _ (bytes : List ℕ) (sized : length bytes ≡ 64) (small : (k : ℕ) → k < 64 → get_or bytes k 0 < 256) where
  byte_back : (q r : ℕ) → q < 16 → r < 4 → byte_of (word_in bytes (4 * q)) r ≡ get_or bytes (4 * q + r) 0
  byte_back q r g h = by r h
    where
      all : bytes_of (word_in bytes (4 * q)) ≡ get_or bytes (4 * q) 0 ∷ get_or bytes (4 * q + 1) 0 ∷ get_or bytes (4 * q + 2) 0 ∷ get_or bytes (4 * q + 3) 0 ∷ []
      all = word_bytes_are _ _ _ _ (small (4 * q) (omega arith)) (small (4 * q + 1) (omega arith)) (small (4 * q + 2) (omega arith)) (small (4 * q + 3) (omega arith))

      by : (r : ℕ) → r < 4 → byte_of (word_in bytes (4 * q)) r ≡ get_or bytes (4 * q + r) 0
      by zero h = ap (λ (l : List ℕ). get_or l 0 0) all ∙ ap (λ n. get_or bytes n 0) (sym (add-zero (4 * q)))
      by (suc zero) h = ap (λ (l : List ℕ). get_or l 1 0) all
      by (suc (suc zero)) h = ap (λ (l : List ℕ). get_or l 2 0) all
      by (suc (suc (suc zero))) h = ap (λ (l : List ℕ). get_or l 3 0) all
      by (suc (suc (suc (suc r)))) h = absurd (omega arith)

  bytes_back : word_bytes (words_in bytes) ≡ bytes
  bytes_back = ext_get_or 0 (word_bytes (words_in bytes)) bytes (sym sized) place
    where
      place : (k : ℕ) → k < 64 → get_or (word_bytes (words_in bytes)) k 0 ≡ get_or bytes k 0
      place k h =
          let e : 4 * (k / 4) + k % 4 ≡ k = omega arith in
          table_at (λ j. byte_of (get_or (words_in bytes) (j / 4) 0) (j % 4)) 0 64 k h
          ∙ ap (λ x. byte_of x (k % 4)) (table_at (λ j. word_in bytes (4 * j)) 0 16 (k / 4) (omega arith))
          ∙ byte_back (k / 4) (k % 4) (omega arith) (omega arith)
          ∙ ap (λ j. get_or bytes j 0) e

-- what is written reads back
module _ (s : Store) (sizes : HasSizes s) (fits : in_range s ≡ true) where
  word_small : (i : ℕ) → get_or s.words i 0 < 2 ^ 32
  unfolding in_range
  word_small i =
      let words = (both_true (every word_fits s.words) (every entry_fits s.rom1 && every entry_fits s.rom2) fits).0 in
      let n = ltb-true (get_or s.words i 0) (2 ^ 18) (every_at word_fits refl s.words words i) in
      omega arith

  store_back : store_in (file_of s) ≡ s
  store_back =
      let a = sizes.first in
      let b = sizes.second in
      let words = ap words_in (words_part s a b) ∙ words_back s.words sizes.sixteen word_small in
      λ i. record { words = words i; rom1 = rom1_part s a b i; rom2 = rom2_part s a b i }

  headed : (marked (file_of s) ≡ true) × (versioned (file_of s) ≡ true)
  unfolding file_of
  headed = (refl, refl)

  written_reads : file_read (file_of s) ≡ answered s
  unfolding file_read
  written_reads =
      let size = eq-eqb (length (file_of s)) 197 (file_length s sizes.first sizes.second) in
      rw (size, headed.0, headed.1, store_back, fits)

-- what reads is whole
record Whole (bytes : List ℕ) (s : Store) : Type 0 where
  size : length bytes ≡ 197
  mark : marked bytes ≡ true
  version : versioned bytes ≡ true
  store : store_in bytes ≡ s

whole : (bytes : List ℕ) (s : Store) → file_read bytes ≡ answered s → Whole bytes s
unfolding file_read
whole bytes s h =
    ⊎_elim
    (λ size. ⊎_elim
    (λ mark. ⊎_elim
    (λ version. ⊎_elim
    (λ range. record {
      size = eqb-true (length bytes) 197 size.0;
      mark = mark.0;
      version = version.0;
      store = value_of range.1;
    })
    (λ range. never range.1)
    (picked (in_range (store_in bytes)) version.1))
    (λ version. never version.1)
    (picked (versioned bytes) mark.1))
    (λ mark. never mark.1)
    (picked (marked bytes) size.1))
    (λ size. never size.1)
    (picked (eqb (length bytes) 197) h)

-- and writes back
module _ (bytes : List ℕ) (small : (k : ℕ) → get_or bytes k 0 < 256) (s : Store) (w : Whole bytes s) where
  version_is : get_or bytes 3 0 * 256 + get_or bytes 4 0 ≡ 1
  version_is = eqb-true (get_or bytes 3 0 * 256 + get_or bytes 4 0) 1 w.version

  header_at : (k : ℕ) → k < 5 → get_or header k 0 ≡ get_or bytes k 0
  header_at zero h = sym (eqb-true (get_or bytes 0 0) 77 (both_true (eqb (get_or bytes 0 0) 77) (eqb (get_or bytes 1 0) 67 && eqb (get_or bytes 2 0) 83) w.mark).0)
  header_at (suc zero) h = sym (eqb-true (get_or bytes 1 0) 67 (both_true (eqb (get_or bytes 1 0) 67) (eqb (get_or bytes 2 0) 83) (both_true (eqb (get_or bytes 0 0) 77) (eqb (get_or bytes 1 0) 67 && eqb (get_or bytes 2 0) 83) w.mark).1).0)
  header_at (suc (suc zero)) h = sym (eqb-true (get_or bytes 2 0) 83 (both_true (eqb (get_or bytes 1 0) 67) (eqb (get_or bytes 2 0) 83) (both_true (eqb (get_or bytes 0 0) 77) (eqb (get_or bytes 1 0) 67 && eqb (get_or bytes 2 0) 83) w.mark).1).1)
  header_at (suc (suc (suc zero))) h = let v = version_is in omega arith
  header_at (suc (suc (suc (suc zero)))) h = let v = version_is in omega arith
  header_at (suc (suc (suc (suc (suc k))))) h = absurd (omega arith)

  header_back : header ≡ take 5 bytes
  header_back =
      let n : 5 ≤ length bytes = let size = w.size in omega arith in
      ext_get_or 0 header (take 5 bytes) (sym (length-take-le 5 bytes n))
      (λ k h. header_at k h ∙ sym (get_or-take 5 bytes k 0 h))

  -- where a part ends the next begins
  next : (from size : ℕ) → part from size bytes ++ drop (from + size) bytes ≡ drop from bytes
  next from size = ap (λ (l : List ℕ). part from size bytes ++ l) (sym (drop-drop size from bytes)) ∙ take-append-drop size (drop from bytes)

  last : part 133 64 bytes ≡ drop 133 bytes
  last = take_all 64 (drop 133 bytes) (let size = w.size in simp length-drop (omega arith))

  words_kept : word_bytes (words_in (part 5 64 bytes)) ≡ part 5 64 bytes
  words_kept = bytes_back (part 5 64 bytes) (let size = w.size in length-take-le 64 (drop 5 bytes) (simp length-drop (omega arith))) (λ k h. rw (get_or-take 64 (drop 5 bytes) k 0 h, get_or-drop) (small (5 + k)))

  file_back : file_of s ≡ bytes
  unfolding file_of
  file_back =
      ap file_of (sym w.store)
      ∙ (λ i. header_back i ++ (words_kept i ++ (part 69 64 bytes ++ last i)))
      ∙ rw (next 69 64, next 5 64) (take-append-drop 5 bytes)

pub round_trip : RoundTrip
round_trip = record {
  written_reads = written_reads;
  read_writes = λ bytes small s h. file_back bytes small s (whole bytes s h);
}
