-- A number written by digits, taken one digit after another.
-- Assumes nothing.
use Rattle.std.proofs.Common.{List, ◌≡◌, ap, sym, ◌∙◌, ℕ, suc, ◌+◌, ◌*◌, ◌^◌, ◌≤◌, ◌<◌, pow-suc, add-mul, mul_assoc, add_assoc, zero-mul, zero-add, add-zero, mul-one, le_of_suc-le-suc, add-one, arith, lit<, length, drop, get_or, drop_of_length-le, drop-cons, le-leb, nat_le, ⊎_elim, Option, Some, None}
use native.Mathlib.Nat.{pow-succ', pow-le-pow_right}
use borrow.Author.Tests.{lt-leb}
use Rattle.std.proofs.lemmas.Bool.{leb-true}
use Rattle.std.proofs.lemmas.Option.{same_Some, none-some}
use Rattle.terms.specs.Answers.{pick}
use Rattle.terms.proofs.Answers.{picked}
use Rattle.sheet.specs.Lines.{digit, digit_at, all_digits, value, word}

-- the word of a number that was taken, and of the digits that are left
abbrev pub after : ℕ → List ℕ → Option ℕ
after v rest = pick (all_digits rest) (Some (v * 16 ^ length rest + value rest)) None

places : (v d n x : ℕ) → v * 16 ^ suc n + (d * 16 ^ n + x) ≡ (v * 16 + d) * 16 ^ n + x
places v d n x =
    ap (λ p. v * p + (d * 16 ^ n + x)) (pow-succ' 16 n)
    ∙ ap (λ y. y + (d * 16 ^ n + x)) (sym (mul_assoc v 16 (16 ^ n)))
    ∙ sym (add_assoc (v * 16 * 16 ^ n) (d * 16 ^ n) x)
    ∙ ap (λ y. y + x) (sym (add-mul (v * 16) d (16 ^ n)))

-- one digit more
pub after_digit : (v : ℕ) (l : List ℕ) (i : ℕ) → i < length l → digit (get_or l i 0) ≤ 15 → after v (drop i l) ≡ after (v * 16 + digit (get_or l i 0)) (drop (i + 1) l)
after_digit v l i h d =
    rw (drop-cons l i 0 h, le-leb (digit (get_or l i 0)) 15 d, add-one i)
    (ap (λ n. pick (all_digits (drop (suc i) l)) (Some n) None) (places v (digit (get_or l i 0)) (length (drop (suc i) l)) (value (drop (suc i) l))))

-- a byte that is no digit
pub after_other : (v : ℕ) (l : List ℕ) (i : ℕ) → i < length l → 15 < digit (get_or l i 0) → after v (drop i l) ≡ None
after_other v l i h d = rw (drop-cons l i 0 h, lt-leb (digit (get_or l i 0)) 15 d)

-- none taken
pub after_none : (l : List ℕ) → after 0 l ≡ word l
unfolding word
after_none l = rw (zero-mul (16 ^ length l), zero-add (value l))

-- i digits write a number below 16 ^ i
pub below_more : (v d i : ℕ) → v < 16 ^ i → d ≤ 15 → v * 16 + d < 16 ^ (i + 1)
below_more v d i h g = rw (add-one i, pow-suc 16 i) (omega arith)

pub below_all : (v i : ℕ) → v < 16 ^ i → i < 8 → v < 2 ^ 28
below_all v i h g = let p : 16 ^ i ≤ 16 ^ 7 = pow-le-pow_right (lit< tt) (le_of_suc-le-suc g) in omega arith

-- all taken
pub after_all : (v : ℕ) (l : List ℕ) (i : ℕ) → length l ≤ i → after v (drop i l) ≡ Some v
after_all v l i h = rw (drop_of_length-le l h) (ap Some (add-zero (v * 1) ∙ mul-one v))

-- what is a digit is one of sixteen
pub digit_small : (byte d : ℕ) → digit_at byte ≡ Some d → d ≤ 15
digit_small byte d e =
    ⊎_elim
    (λ small. let n = leb-true (digit byte) 15 small.0 in let s : digit byte ≡ d = same_Some _ _ small.1 in omega arith)
    (λ large. absurd (none-some d large.1))
    (picked (nat_le (digit byte) 15) e)
