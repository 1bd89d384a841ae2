-- A number written by digits of any base, taken one digit after another.
-- Assumes nothing.
use Rattle.std.proofs.Common.{◌≡◌, ℕ, suc, ◌+◌, ◌*◌, ◌^◌, ◌<◌, ◌≤◌, sym, ap, ◌∙◌, add_assoc, mul-le-mul_right, mul_assoc, suc-mul, add-mul, pow-suc, add-one, arith}
use native.Mathlib.Nat.{pow-succ'}

-- one digit more goes with the number before it
pub shift : (b v d n x : ℕ) → v * b ^ suc n + (d * b ^ n + x) ≡ (v * b + d) * b ^ n + x
shift b v d n x =
    ap (λ p. v * p + (d * b ^ n + x)) (pow-succ' b n)
    ∙ ap (λ y. y + (d * b ^ n + x)) (sym (mul_assoc v b (b ^ n)))
    ∙ sym (add_assoc (v * b * b ^ n) (d * b ^ n) x)
    ∙ ap (λ y. y + x) (sym (add-mul (v * b) d (b ^ n)))

-- i digits write a number below b ^ i
pub below_more : (b v d i : ℕ) → v < b ^ i → d < b → v * b + d < b ^ (i + 1)
below_more b v d i h g =
    let room : v * b + b ≤ b ^ i * b = rw (← suc-mul v b) (mul-le-mul_right b h) in
    rw (add-one i, pow-suc b i) (omega arith)
