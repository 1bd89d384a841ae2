-- What was read in a shape fits the shape's field.
-- Assumes nothing.
use mathlib.Core.Bool.{true, false, ◌&&◌}
use mathlib.Core.List.{List, [], ◌∷◌}
use mathlib.Core.Logic.{◌⊎◌, inl, inr}
use mathlib.Core.Path.{◌≡◌}
use Prim.Native.Nat.{ℕ, ◌+◌, ◌-◌, ◌*◌, ◌%◌, ◌^◌, ◌≤◌, ◌<◌}
use native.Mathlib.Nat.{pow-zero, pow-succ', mul-le-mul_right, suc-mul, mod-lt}
use native.Mathlib.Omega.{arith}
use lib.Dec.{eqb, ltb, lit<}
use lib.ListN.{length, drop, get_or}
use borrow.Author.Tests.{ltb-true, eqb-true}
use Rattle.terms.specs.Answers.{answered, chain}
use Rattle.terms.proofs.Answers.{both_true, picked, chained, value_of, never}
use Rattle.operands.specs.Operands.{unreadable, digit, base, all_digits, value, number, decimal, register, offset, hexadecimal, mark, shaped}
use Rattle.operands.specs.declared.numbers.Digits.TheVariants.{Hexadecimal}
use Rattle.operands.specs.declared.numbers.Digits.{Digits}
use Rattle.operands.specs.declared.operands.Shape.TheVariants.{Register, Offset, Word, Comma, Colon, Open, Close}
use Rattle.operands.specs.declared.operands.Shape.{Shape}
use Rattle.operands.proofs.Spelled.{number_good}
use Rattle.operands.proofs.Written.{digit_below, decimal_most}

-- so many digits write a number below that power of the base
value_below : (kind : Digits) (l : List ℕ) → all_digits kind l ≡ true → value kind l < base kind ^ length l
value_below kind [] e = rw (pow-zero (base kind)) (lit< tt)
value_below kind (byte ∷ l) e =
    let e₀ = both_true (ltb (digit kind byte) 256) (all_digits kind l) e in
    let d = digit_below kind byte (ltb-true (digit kind byte) 256 e₀.0) in
    let more = value_below kind l e₀.1 in
    let room : digit kind byte * base kind ^ length l + base kind ^ length l ≤ base kind * base kind ^ length l = rw (← suc-mul (digit kind byte) (base kind ^ length l)) (mul-le-mul_right (base kind ^ length l) d) in
    rw (pow-succ' (base kind) (length l)) (omega arith)

-- what a shape's field holds
abbrev pub bound : Shape → ℕ
bound Register = 32
bound Offset = 2 ^ 16
bound Word = 2 ^ 32
bound Comma = 1
bound Colon = 1
bound Open = 1
bound Close = 1

mark_below : (byte : ℕ) (part : List ℕ) {v : ℕ} → mark byte part ≡ answered v → v < 1
unfolding mark
mark_below byte part {v} e = by (picked (eqb (length part) 1 && eqb (get_or part 0 0) byte) e)
  where
    by : {t f : Type 0} → (t × (answered 0 ≡ answered v)) ⊎ (f × (unreadable ≡ answered v)) → v < 1
    by (inl h) = let z = value_of h.1 in omega arith
    by (inr h) = never h.1

register_below : (part : List ℕ) {v : ℕ} → register part ≡ answered v → v < 32
unfolding register
register_below part {v} e = by (picked (eqb (get_or part 0 0) 0x24) e)
  where
    by : {t f : Type 0} → (t × (decimal 31 (drop 1 part) ≡ answered v)) ⊎ (f × (unreadable ≡ answered v)) → v < 32
    by (inl h) = let m = decimal_most 31 (drop 1 part) h.1 in omega arith
    by (inr h) = never h.1

offset_below : (part : List ℕ) {v : ℕ} → offset part ≡ answered v → v < 2 ^ 16
unfolding offset
offset_below part {v} e = by (picked (eqb (get_or part 0 0) 0x2d) e)
  where
    by : {t f : Type 0} → (t × (chain (decimal 32768 (drop 1 part)) (λ n. answered ((2 ^ 16 - n) % 2 ^ 16)) ≡ answered v)) ⊎ (f × (decimal 32767 part ≡ answered v)) → v < 2 ^ 16
    by (inl h) =
        let got = chained (decimal 32768 (drop 1 part)) _ h.1 in
        let s : (2 ^ 16 - got.0) % 2 ^ 16 ≡ v = value_of got.2 in
        rw (← s) (mod-lt (2 ^ 16 - got.0) (lit< tt))
    by (inr h) = let m = decimal_most 32767 part h.1 in omega arith

word_below : (part : List ℕ) {v : ℕ} → hexadecimal part ≡ answered v → v < 2 ^ 32
unfolding hexadecimal
word_below part {v} e = by (picked (eqb (length part) 8) e)
  where
    by : ((eqb (length part) 8 ≡ true) × (number Hexadecimal part ≡ answered v)) ⊎ ((eqb (length part) 8 ≡ false) × (unreadable ≡ answered v)) → v < 2 ^ 32
    by (inl h) =
        let g = number_good Hexadecimal part h.1 in
        let b = value_below Hexadecimal part g.0 in
        let b₈ = rw (eqb-true (length part) 8 h.0) at b in
        let s = g.1 in
        omega arith
    by (inr h) = never h.1

pub shaped_below : (shape : Shape) (part : List ℕ) {v : ℕ} → shaped shape part ≡ answered v → v < bound shape
shaped_below Register part e = register_below part e
shaped_below Offset part e = offset_below part e
shaped_below Word part e = word_below part e
shaped_below Comma part e = mark_below 0x2c part e
shaped_below Colon part e = mark_below 0x3a part e
shaped_below Open part e = mark_below 0x28 part e
shaped_below Close part e = mark_below 0x29 part e
