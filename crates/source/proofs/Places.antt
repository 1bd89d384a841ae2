-- The parts of a line, one after another.
-- Assumes nothing.
use mathlib.Core.Bool.{Bool, true, false, not}
use mathlib.Core.List.{List, [], ◌∷◌}
use mathlib.Core.Logic.{◌⊎◌, inl, inr}
use mathlib.Core.Path.{◌≡◌, refl, ap, sym, ◌∙◌}
use Prim.Native.Nat.{ℕ, suc, ◌<◌}
use native.Mathlib.Omega.{arith}
use lib.Dec.{eqb}
use native.Mathlib.Nat.{add-zero}
use lib.ListN.{length, take, drop, get_or, length-drop}
use lib.Seq.{get_or-drop}
use borrow.Author.Tests.{not-true}
use Rattle.std.specs.List.{prefix_len}
use Rattle.std.proofs.lemmas.List.Sums.{prefix_len-le-length, prefix_len_stops}
use Rattle.terms.proofs.Answers.{truth, or_false_left, or_false_right}
use Rattle.source.specs.Lines.{is_blank, is_mark, joins, goes_on, parts_of, on_first, line_length}

-- how many bytes a text begins with that pass a test are no more than it has
pub ruleset prefixes = (prefix_len-le-length)

-- a line's bytes are all but its newline
pub line_length_lem : (text : List ℕ) → prefix_len (λ byte. not (eqb byte 10)) text ≡ line_length text
unfolding line_length
line_length_lem [] = refl
line_length_lem (byte ∷ text) = by (truth (eqb byte 10)) (line_length_lem text)
  where
    by : (eqb byte 10 ≡ true) ⊎ (eqb byte 10 ≡ false) → prefix_len (λ b. not (eqb b 10)) text ≡ line_length text → prefix_len (λ b. not (eqb b 10)) (byte ∷ text) ≡ line_length (byte ∷ text)
    by (inl e) more = rw e
    by (inr e) more = rw e (omega arith)

prefix_more : (p : ℕ → Bool) (byte : ℕ) (l : List ℕ) → p byte ≡ true → prefix_len p (byte ∷ l) ≡ suc (prefix_len p l)
prefix_more p byte l e = rw e (omega arith)

prefix_none : (p : ℕ → Bool) (byte : ℕ) (l : List ℕ) → p byte ≡ false → prefix_len p (byte ∷ l) ≡ 0
prefix_none p byte l e = rw e refl

blanks_skipped : (l : List ℕ) → parts_of l ≡ parts_of (drop (prefix_len is_blank l) l)
unfolding parts_of
blanks_skipped [] = refl
blanks_skipped (byte ∷ l) = by (truth (is_blank byte)) (blanks_skipped l)
  where
    by : (is_blank byte ≡ true) ⊎ (is_blank byte ≡ false) → parts_of l ≡ parts_of (drop (prefix_len is_blank l) l) → parts_of (byte ∷ l) ≡ parts_of (drop (prefix_len is_blank (byte ∷ l)) (byte ∷ l))
    by (inl e) more = rw (prefix_more is_blank byte l e) (rw e more)
    by (inr e) more = ap (λ n. parts_of (drop n (byte ∷ l))) (sym (prefix_none is_blank byte l e))

mark_part : (byte : ℕ) (l : List ℕ) → is_blank byte ≡ false → is_mark byte ≡ true → parts_of (byte ∷ l) ≡ (byte ∷ []) ∷ parts_of l
unfolding parts_of
mark_part byte l e f = rw (e, f)

-- a byte that joins goes with what joins after it, or is alone
with_next : (byte : ℕ) (l : List ℕ) → joins byte ≡ true → goes_on l ≡ true → parts_of (byte ∷ l) ≡ on_first byte (parts_of l)
unfolding parts_of
with_next byte l e f = rw (or_false_left (is_blank byte) (is_mark byte) (not-true _ e), or_false_right (is_blank byte) (is_mark byte) (not-true _ e), f)

alone : (byte : ℕ) (l : List ℕ) → joins byte ≡ true → goes_on l ≡ false → parts_of (byte ∷ l) ≡ (byte ∷ []) ∷ parts_of l
unfolding parts_of
alone byte l e f = rw (or_false_left (is_blank byte) (is_mark byte) (not-true _ e), or_false_right (is_blank byte) (is_mark byte) (not-true _ e), f)

run_part : (byte : ℕ) (l : List ℕ) → joins byte ≡ true → parts_of (byte ∷ l) ≡ (byte ∷ take (prefix_len joins l) l) ∷ parts_of (drop (prefix_len joins l) l)
run_part byte [] e = alone byte [] e refl
run_part byte (after ∷ l) e = by (truth (joins after)) (run_part after l)
  where
    by : (joins after ≡ true) ⊎ (joins after ≡ false) → (joins after ≡ true → parts_of (after ∷ l) ≡ (after ∷ take (prefix_len joins l) l) ∷ parts_of (drop (prefix_len joins l) l)) → parts_of (byte ∷ after ∷ l) ≡ (byte ∷ take (prefix_len joins (after ∷ l)) (after ∷ l)) ∷ parts_of (drop (prefix_len joins (after ∷ l)) (after ∷ l))
    by (inl f) more =
        with_next byte (after ∷ l) e f
        ∙ ap (on_first byte) (more f)
        ∙ ap (λ n. (byte ∷ take n (after ∷ l)) ∷ parts_of (drop n (after ∷ l))) (sym (prefix_more joins after l f))
    by (inr f) more =
        alone byte (after ∷ l) e f
        ∙ ap (λ n. (byte ∷ take n (after ∷ l)) ∷ parts_of (drop n (after ∷ l))) (sym (prefix_none joins after l f))

-- the first part of a line, whose blanks at the start are passed over
module _ (line : List ℕ) {rest : List ℕ} (e : rest ≡ drop (prefix_len is_blank line) line) where
  skipped : parts_of line ≡ parts_of rest
  skipped = blanks_skipped line ∙ ap parts_of (sym e)

  pub part_none : length rest ≡ 0 → parts_of line ≡ []
  unfolding parts_of
  part_none h = skipped ∙ by rest h
    where
      by : (l : List ℕ) → length l ≡ 0 → parts_of l ≡ []
      by [] g = refl
      by (byte ∷ l) g = absurd (omega arith)

  module _ {byte : ℕ} {others : List ℕ} (f : rest ≡ byte ∷ others) where
    stops : is_blank byte ≡ false
    stops =
        let n = prefix_len is_blank line in
        let l : drop n line ≡ byte ∷ others = sym e ∙ f in
        let more : n < length line = (let k = ap length l ∙ refl in let d = length-drop n line in omega arith) in
        ap (λ m. is_blank (get_or m 0 0)) (sym l)
        ∙ ap is_blank (get_or-drop n line 0 0)
        ∙ ap (λ k. is_blank (get_or line k 0)) (add-zero n)
        ∙ prefix_len_stops is_blank line 0 more

    pub part_mark : is_mark byte ≡ true → parts_of line ≡ take 1 rest ∷ parts_of others
    part_mark m = skipped ∙ ap parts_of f ∙ mark_part byte others stops m ∙ ap (λ l. take 1 l ∷ parts_of others) (sym f)

    pub part_run : {n : ℕ} → is_mark byte ≡ false → n ≡ prefix_len joins rest → parts_of line ≡ take n rest ∷ parts_of (drop n rest)
    part_run {n} m g =
        let joined : joins byte ≡ true = rw (stops, m) in
        let size : n ≡ suc (prefix_len joins others) = g ∙ ap (prefix_len joins) f ∙ prefix_more joins byte others joined in
        skipped ∙ ap parts_of f ∙ run_part byte others joined
        ∙ ap (λ k. take k (byte ∷ others) ∷ parts_of (drop k (byte ∷ others))) (sym size)
        ∙ ap (λ l. take n l ∷ parts_of (drop n l)) (sym f)
