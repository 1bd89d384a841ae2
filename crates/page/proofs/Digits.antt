-- Digits one after the other: before the first there is nothing, and at a place with so many after it stands what is
-- left of the number there.
-- Assumes nothing.
use Rattle.std.proofs.Common.{◌≡◌, ℕ, zero, suc, ◌+◌, ◌-◌, ◌*◌, ◌/◌, ◌^◌, ◌<◌, ◌≤◌, refl, sym, ap, ◌∙◌, add-one, arith, pow-add, mul_comm}
use Rattle.std.proofs.Math.Nat.{div-div-eq-div-mul, div-eq_of_lt, lt_of_lt_of_le, pow-le-pow_right, pow-suc}
use Rattle.page.specs.Numbers.{digits}
use Rattle.page.specs.Pages.{Page}

pub digits_zero : (f : ℕ → Page → Page) (base m : ℕ) (p : Page) → digits f base 0 m p ≡ p
unfolding digits
digits_zero f base m p = refl

module _ (f : ℕ → Page → Page) (base width n : ℕ) (p : Page) where
  pub digits_none : (m : ℕ) → digits f base (width - width) m p ≡ p
  unfolding digits
  digits_none m =
      let none : width - width ≡ 0 = omega arith in
      rw none

  pub digits_next : (i : ℕ) → i < width →
      digits f base (width - i) (n / base ^ i) p
      ≡ f (n / base ^ i) (digits f base (width - (i + 1)) (n / base ^ (i + 1)) p)
  unfolding digits
  digits_next i h =
      let one : width - i ≡ suc (width - (i + 1)) = omega arith in
      let rest : n / base ^ i / base ≡ n / base ^ (i + 1) =
      rw (add-one, pow-suc) (div-div-eq-div-mul n (base ^ i) base) in
      rw (one, rest)

-- for a loop over the places
pub ruleset steps = (digits_none, digits_zero, digits_next)

-- a number below a power of the base has nothing left at that place or a further one
pub dropped_all : (base limit places n : ℕ) → 1 < base → n < base ^ limit → limit ≤ places → 0 ≡ n / base ^ places
dropped_all base limit places n h below past =
    sym (div-eq_of_lt (lt_of_lt_of_le below (pow-le-pow_right (omega arith) past)))

pub no_bit : (n places : ℕ) → n < 4294967296 → 32 ≤ places → 0 ≡ n / 2 ^ places
no_bit n places below past = dropped_all 2 32 places n (omega arith) (omega arith) past

pub no_digit : (n places : ℕ) → n < 4294967296 → 10 ≤ places → 0 ≡ n / 10 ^ places
no_digit n places below past = dropped_all 10 10 places n (omega arith) (omega arith) past

-- for what is left of 32 bits
pub ruleset lefts = (no_bit, no_digit)

pub by_fours : (places : ℕ) → 2 ^ (4 * places) ≡ 16 ^ places
by_fours zero = refl
by_fours (suc k) =
    let fours : 4 * suc k ≡ 4 + 4 * k = omega arith in
    ap (λ n. 2 ^ n) fours ∙ pow-add 2 4 (4 * k) ∙ ap (λ n. 16 * n) (by_fours k) ∙ mul_comm 16 (16 ^ k)
    ∙ sym (pow-suc 16 k)

pub hexadecimal : (n places : ℕ) → n / 2 ^ (4 * places) ≡ n / 16 ^ places
hexadecimal n places = rw (by_fours places)
