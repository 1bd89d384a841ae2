-- The first line of a text.
-- Assumes nothing.
use Rattle.std.proofs.Common.{◌≡◌, ℕ, suc, ◌<◌, ◌≤◌, true, false, eqb, ◌⊎◌, List, [], ◌∷◌, length, take, drop, sym, refl, ap, ◌∙◌, inl, inr, zero-le, add-one, arith}
use lib.Seq.{drop-drop}
use Rattle.terms.proofs.Answers.{truth}
use Rattle.source.specs.Lines.{on_first, lines_of, line_length, line_end}

pub length_within : (l : List ℕ) → line_length l ≤ length l
unfolding line_length
length_within [] = zero-le
length_within (byte ∷ l) = by (truth (eqb byte 10)) (length_within l)
  where
    by : (eqb byte 10 ≡ true) ⊎ (eqb byte 10 ≡ false) → line_length l ≤ length l → line_length (byte ∷ l) ≤ suc (length l)
    by (inl e) h = rw e zero-le
    by (inr e) h = rw e (omega arith)

-- a text begins with its first line
first_line : (byte : ℕ) (l : List ℕ) → lines_of (byte ∷ l) ≡ take (line_length (byte ∷ l)) (byte ∷ l) ∷ lines_of (drop (suc (line_length (byte ∷ l))) (byte ∷ l))
unfolding lines_of line_length
first_line byte [] = by (truth (eqb byte 10))
  where
    by : (eqb byte 10 ≡ true) ⊎ (eqb byte 10 ≡ false) → lines_of (byte ∷ []) ≡ take (line_length (byte ∷ [])) (byte ∷ []) ∷ lines_of (drop (suc (line_length (byte ∷ []))) (byte ∷ []))
    by (inl e) = rw e
    by (inr e) = rw e
first_line byte (after ∷ l) = by (truth (eqb byte 10)) (first_line after l)
  where
    by : (eqb byte 10 ≡ true) ⊎ (eqb byte 10 ≡ false) → lines_of (after ∷ l) ≡ take (line_length (after ∷ l)) (after ∷ l) ∷ lines_of (drop (suc (line_length (after ∷ l))) (after ∷ l)) → lines_of (byte ∷ after ∷ l) ≡ take (line_length (byte ∷ after ∷ l)) (byte ∷ after ∷ l) ∷ lines_of (drop (suc (line_length (byte ∷ after ∷ l))) (byte ∷ after ∷ l))
    by (inl e) more = rw e
    by (inr e) more = rw e (ap (on_first byte) more)

pub no_lines : (text : List ℕ) → length text ≡ 0 → lines_of text ≡ []
unfolding lines_of
no_lines [] h = refl
no_lines (byte ∷ l) h = absurd (omega arith)

pub some_lines : (text : List ℕ) → (length text ≡ 0 → ⊥) → 0 < length (lines_of text)
some_lines [] h = absurd (h refl)
some_lines (byte ∷ l) h = let some = ap length (first_line byte l) in omega arith

-- where the first line ends
module _ (text : List ℕ) (some : length text ≡ 0 → ⊥) {end : ℕ} (ends : end ≡ line_end text 0) where
  at : end ≡ line_length text
  at = omega arith

  pub end_within : end ≤ length text
  end_within = let w = length_within text in omega (arith, at)

  first : lines_of text ≡ take end text ∷ lines_of (drop (suc end) text)
  first = rw at (by text some)
    where
      by : (l : List ℕ) → (length l ≡ 0 → ⊥) → lines_of l ≡ take (line_length l) l ∷ lines_of (drop (suc (line_length l)) l)
      by [] h = absurd (h refl)
      by (byte ∷ l) h = first_line byte l

  rest : drop (suc end) text ≡ drop 1 (drop end text)
  rest = sym (drop-drop 1 end text ∙ ap (λ n. drop n text) (add-one end))

  pub ends_there : length (drop end text) ≡ 0 → lines_of text ≡ take end text ∷ lines_of (drop end text)
  ends_there h = first ∙ ap (λ l. take end text ∷ lines_of l) (rest ∙ by (drop end text) h)
    where
      by : (l : List ℕ) → length l ≡ 0 → drop 1 l ≡ l
      by [] e = refl
      by (byte ∷ l) e = absurd (omega arith)

  pub goes_on : {byte : ℕ} {behind : List ℕ} → drop end text ≡ byte ∷ behind → lines_of text ≡ take end text ∷ lines_of behind
  goes_on e = first ∙ ap (λ l. take end text ∷ lines_of l) (rest ∙ ap (drop 1) e)
