-- A part that is none of the names: by how many bytes it has, and which.
-- Assumes nothing.
use mathlib.Core.Bool.{false, ◌&&◌}
use mathlib.Core.List.{List, [], ◌∷◌}
use mathlib.Core.Logic.{◌≢◌}
use mathlib.Core.Path.{◌≡◌, refl, ap, ◌∙◌}
use Prim.Native.Nat.{ℕ, suc}
use native.Mathlib.Omega.{arith}
use lib.Dec.{eqb}
use lib.ListN.{length, get_or}
use borrow.Author.Tests.{ne_eqb}
use Rattle.std.specs.Prelude.{None}
use Rattle.std.proofs.Math.Bool.{and-false}
use Rattle.terms.specs.Texts.{ascii, same}
use Rattle.source.specs.Statements.{mnemonic}

-- of other lengths, or of other first bytes
apart : (part text : List ℕ) → length part ≢ length text → same part text ≡ false
apart [] [] h = absurd (h refl)
apart [] (b ∷ text) h = refl
apart (a ∷ part) [] h = refl
apart (a ∷ part) (b ∷ text) h = ap (λ s. eqb a b && s) (apart part text (λ e. h (ap suc e))) ∙ and-false (eqb a b)

module _ (part : List ℕ) where
  none : same part (ascii "add") ≡ false → same part (ascii "sub") ≡ false → same part (ascii "and") ≡ false → same part (ascii "or") ≡ false → same part (ascii "slt") ≡ false → same part (ascii "lw") ≡ false → same part (ascii "sw") ≡ false → same part (ascii "beq") ≡ false → same part (ascii "j") ≡ false → same part (ascii ".word") ≡ false → mnemonic part ≡ None
  unfolding mnemonic
  none a b c d e f g h i j = rw (a, b, c, d, e, f, g, h, i, j)

  -- of a length that no name has
  pub of_no_length : length part ≢ 1 → length part ≢ 2 → length part ≢ 3 → length part ≢ 5 → mnemonic part ≡ None
  of_no_length one two three five =
      none (apart part (ascii "add") three) (apart part (ascii "sub") three)
      (apart part (ascii "and") three) (apart part (ascii "or") two)
      (apart part (ascii "slt") three) (apart part (ascii "lw") two)
      (apart part (ascii "sw") two) (apart part (ascii "beq") three)
      (apart part (ascii "j") one) (apart part (ascii ".word") five)

-- of a name's length, with a byte that no name of that length has there
pub of_two : (part : List ℕ) → length part ≡ 2 → get_or part 0 0 ≢ 108 → get_or part 0 0 ≢ 111 → get_or part 0 0 ≢ 115 → mnemonic part ≡ None
unfolding mnemonic
of_two [] n l o s = absurd (omega arith)
of_two (x ∷ []) n l o s = absurd (omega arith)
of_two (x ∷ y ∷ []) n l o s = simp (and-false, ne_eqb x 108 l, ne_eqb x 111 o, ne_eqb x 115 s) refl
of_two (x ∷ y ∷ z ∷ part) n l o s = absurd (omega arith)

pub of_three : (part : List ℕ) → length part ≡ 3 → get_or part 0 0 ≢ 97 → get_or part 0 0 ≢ 98 → get_or part 0 0 ≢ 115 → mnemonic part ≡ None
unfolding mnemonic
of_three [] n a b s = absurd (omega arith)
of_three (x ∷ []) n a b s = absurd (omega arith)
of_three (x ∷ y ∷ []) n a b s = absurd (omega arith)
of_three (x ∷ y ∷ z ∷ []) n a b s = simp (and-false, ne_eqb x 97 a, ne_eqb x 98 b, ne_eqb x 115 s) refl
of_three (x ∷ y ∷ z ∷ w ∷ part) n a b s = absurd (omega arith)

pub of_s : (part : List ℕ) → length part ≡ 3 → get_or part 0 0 ≡ 115 → get_or part 1 0 ≢ 108 → get_or part 1 0 ≢ 117 → mnemonic part ≡ None
unfolding mnemonic
of_s [] n s l u = absurd (omega arith)
of_s (x ∷ []) n s l u = absurd (omega arith)
of_s (x ∷ y ∷ []) n s l u = absurd (omega arith)
of_s (x ∷ y ∷ z ∷ []) n s l u = rw s (simp (and-false, ne_eqb y 108 l, ne_eqb y 117 u) refl)
of_s (x ∷ y ∷ z ∷ w ∷ part) n s l u = absurd (omega arith)

pub of_five : (part : List ℕ) → length part ≡ 5 → get_or part 0 0 ≢ 46 → mnemonic part ≡ None
unfolding mnemonic
of_five [] n d = absurd (omega arith)
of_five (x ∷ []) n d = absurd (omega arith)
of_five (x ∷ y ∷ []) n d = absurd (omega arith)
of_five (x ∷ y ∷ z ∷ []) n d = absurd (omega arith)
of_five (x ∷ y ∷ z ∷ w ∷ []) n d = absurd (omega arith)
of_five (x ∷ y ∷ z ∷ w ∷ v ∷ part) n d = simp (and-false, ne_eqb x 46 d) refl

-- what the choice of a name cites
pub ruleset all = (of_no_length, of_two, of_three, of_s, of_five)
