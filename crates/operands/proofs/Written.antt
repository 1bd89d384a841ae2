-- A part that writes a number, taken one digit after another.
-- Assumes nothing.
use mathlib.Core.Bool.{true, false, ◌&&◌}
use mathlib.Core.Logic.{◌⊎◌, inl, inr}
use mathlib.Core.List.{List}
use mathlib.Core.Path.{◌≡◌, ap}
use Prim.Native.Nat.{ℕ, suc, ◌+◌, ◌*◌, ◌^◌, ◌≤◌, ◌<◌}
use native.Mathlib.Nat.{pow-le-pow_left, pow-le-pow_right, mul-le-mul_left, zero-mul, zero-add}
use native.Mathlib.Numerals.{add-one}
use native.Mathlib.Omega.{arith}
use lib.Dec.{leb, ltb, lit<, lit≤}
use lib.ListN.{length, drop, get_or}
use lib.Seq.{drop-cons}
use borrow.Author.Tests.{leb-true, ltb-true, lt-ltb}
use Rattle.std.specs.Prelude.{Some, None}
use Rattle.std.proofs.lemmas.Option.{same_Some, none-some}
use Rattle.terms.specs.Answers.{Answer, answered, pick, chain}
use Rattle.terms.proofs.Answers.{truth, both_true, picked, chained, value_of, never}
use Rattle.terms.proofs.Digits.{shift}
use Rattle.operands.specs.Operands.{unreadable, within, digit, digit_read, base, all_digits, value, number, decimal_form, decimal}
use Rattle.operands.specs.declared.numbers.Digits.TheVariants.{Decimal, Hexadecimal, Letters}
use Rattle.operands.specs.declared.numbers.Digits.{Digits}

-- a byte of a range comes to a number below a bound, if those of the range do and the other does
below : (low high first byte other most : ℕ) → high + first < most + low → (other < 256 → other < most) → within low high first byte other < 256 → within low high first byte other < most
unfolding within
below low high first byte other most room later = by (truth (leb low byte && leb byte high))
  where
    by : ((leb low byte && leb byte high) ≡ true) ⊎ ((leb low byte && leb byte high) ≡ false) → within low high first byte other < 256 → within low high first byte other < most
    by (inl e) h =
        let e₁ = leb-true low byte (both_true (leb low byte) (leb byte high) e).0 in
        let e₂ = leb-true byte high (both_true (leb low byte) (leb byte high) e).1 in
        rw e (omega arith)
    by (inr e) h = rw e (later (rw e at h))

-- a byte that is a digit, and one that is none
pub digit_good : (kind : Digits) (byte : ℕ) {d : ℕ} → digit_read kind byte ≡ Some d → (digit kind byte ≡ d) × (digit kind byte < 256)
digit_good kind byte {d} e = by (picked (ltb (digit kind byte) 256) e)
  where
    by : ((ltb (digit kind byte) 256 ≡ true) × (Some (digit kind byte) ≡ Some d)) ⊎ ((ltb (digit kind byte) 256 ≡ false) × (None ≡ Some d)) → (digit kind byte ≡ d) × (digit kind byte < 256)
    by (inl h) = (same_Some (digit kind byte) d h.1, ltb-true (digit kind byte) 256 h.0)
    by (inr h) = absurd (none-some d h.1)

none : (most : ℕ) → 256 < 256 → 256 < most
none most h = absurd (omega arith)

-- a digit is below its base
pub digit_below : (kind : Digits) (byte : ℕ) → digit kind byte < 256 → digit kind byte < base kind
digit_below Decimal byte = below 0x30 0x39 0 byte 256 10 (lit< tt) (none 10)
digit_below Hexadecimal byte =
    below 0x30 0x39 0 byte (within 0x41 0x46 10 byte (within 0x61 0x66 10 byte 256)) 16 (lit< tt)
    (below 0x41 0x46 10 byte (within 0x61 0x66 10 byte 256) 16 (lit< tt) (below 0x61 0x66 10 byte 256 16 (lit< tt) (none 16)))
digit_below Letters byte = λ h. h

-- the number of what was taken, and of the digits that are left
abbrev pub after : Digits → ℕ → List ℕ → Answer ℕ
after kind v rest = pick (all_digits kind rest) (answered (v * base kind ^ length rest + value kind rest)) unreadable

module _ (kind : Digits) (v : ℕ) (part : List ℕ) (i : ℕ) where
  -- one digit more
  pub after_digit : i < length part → digit kind (get_or part i 0) < 256 → after kind v (drop i part) ≡ after kind (v * base kind + digit kind (get_or part i 0)) (drop (i + 1) part)
  after_digit h d =
      rw (drop-cons part i 0 h, lt-ltb (digit kind (get_or part i 0)) 256 d, add-one i)
      (ap (λ n. pick (all_digits kind (drop (suc i) part)) (answered n) unreadable)
      (shift (base kind) v (digit kind (get_or part i 0)) (length (drop (suc i) part)) (value kind (drop (suc i) part))))

-- none taken
pub after_none : (kind : Digits) (part : List ℕ) → after kind 0 part ≡ number kind part
unfolding number
after_none kind part = rw (zero-mul (base kind ^ length part), zero-add (value kind part))

base_fits : (kind : Digits) → base kind ≤ 256
base_fits Decimal = lit≤ tt
base_fits Hexadecimal = lit≤ tt
base_fits Letters = lit≤ tt

-- seven digits and one more write a number of 64 bits
pub fits : (kind : Digits) (v d i : ℕ) → v < base kind ^ i → i < 8 → d < 256 → v * base kind + d < 2 ^ 64
fits kind v d i h g e =
    let p : base kind ^ i ≤ 256 ^ i = pow-le-pow_left (base_fits kind) i in
    let q : 256 ^ i ≤ 256 ^ 7 = pow-le-pow_right (lit< tt) {j = 7} (omega arith) in
    let r : v * base kind ≤ v * 256 = mul-le-mul_left v (base_fits kind) in
    omega arith

-- a decimal is short
pub is_decimal_below : (part : List ℕ) → decimal_form part ≡ true → length part ≤ 8
unfolding decimal_form
is_decimal_below part e =
    let more = (both_true (leb 1 (length part)) _ e).1 in
    let five = leb-true (length part) 5 (both_true (leb (length part) 5) _ more).0 in
    omega arith

-- a decimal is within its range
pub decimal_most : (most : ℕ) (part : List ℕ) {n : ℕ} → decimal most part ≡ answered n → n ≤ most
unfolding decimal
decimal_most most part {n} e = by (picked (decimal_form part) e)
  where
    last : {m : ℕ} → ((leb m most ≡ true) × (answered m ≡ answered n)) ⊎ ((leb m most ≡ false) × (unreadable ≡ answered n)) → n ≤ most
    last {m} (inl h) = let same : m ≡ n = value_of h.1 in let le = leb-true m most h.0 in omega arith
    last (inr h) = never h.1

    by : ((decimal_form part ≡ true) × (chain (number Decimal part) (λ m. pick (leb m most) (answered m) unreadable) ≡ answered n)) ⊎ ((decimal_form part ≡ false) × (unreadable ≡ answered n)) → n ≤ most
    by (inl h) = let got = chained (number Decimal part) _ h.1 in last (picked (leb got.0 most) got.2)
    by (inr h) = never h.1
