-- The file of a store, part by part.
-- Assumes nothing.
use Rattle.std.proofs.Common.{List, ◌++◌, append-nil, ◌≡◌, refl, ap, ◌∙◌, ℕ, ◌+◌, ◌≤◌, arith, length, take, drop, length-append, length-drop, drop_of_length-le, take_at, drop_at, take_all}
use borrow.Rule.Slice.PartMut.{put_mid}
use Rattle.storefile.specs.File.{part, header, word_bytes, file_of}
use Rattle.microcode.specs.declared.stores.Store.{Store}

module _ (s : Store) (first : length s.rom1 ≡ 64) (second : length s.rom2 ≡ 64) where
  abbrev roms : List ℕ
  roms = s.rom1 ++ s.rom2

  roms_length : length roms ≡ 128
  roms_length = length-append s.rom1 s.rom2 ∙ omega arith

  pub file_length : length (file_of s) ≡ 197
  unfolding file_of
  file_length =
      length-append header (word_bytes s.words ++ roms)
      ∙ ap (λ n. 5 + n) (length-append (word_bytes s.words) roms ∙ ap (λ n. 64 + n) roms_length)

  pub words_part : part 5 64 (file_of s) ≡ word_bytes s.words
  unfolding file_of
  words_part = refl

  pub rom1_part : part 69 64 (file_of s) ≡ s.rom1
  unfolding file_of
  rom1_part = take_at s.rom1 s.rom2 64 first

  pub rom2_part : part 133 64 (file_of s) ≡ s.rom2
  unfolding file_of
  rom2_part = ap (take 64) (drop_at s.rom1 s.rom2 64 first) ∙ take_all 64 s.rom2 (omega arith)

  -- a buffer into which the four parts are written, one after another
  pub written_parts : (l : List ℕ) → length l ≡ 197 → put_mid 133 64 (put_mid 69 64 (put_mid 5 64 (header ++ drop 5 l) (word_bytes s.words)) s.rom1) s.rom2 ≡ file_of s
  unfolding file_of
  written_parts l h =
      let q = drop 64 (drop 64 (drop 5 l)) in
      let short : length q ≤ 64 = simp length-drop (omega arith) in
      rw (take_at s.rom1 q 64 first, drop_at s.rom1 q 64 first, drop_of_length-le q short, append-nil)
