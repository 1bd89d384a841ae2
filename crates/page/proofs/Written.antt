-- What is written step by step, one byte after the other: what stands at i comes next, and after the last there is
-- nothing.
-- Assumes nothing.
use Rattle.std.proofs.Common.{◌≡◌, ℕ, zero, suc, ◌+◌, ◌-◌, ◌<◌, ◌≤◌, List, length, get_or, drop, refl, add-one, arith, drop_of_length-le, drop-cons}
use Rattle.page.specs.Pages.{Page, put, write, spaces}

module _ (bytes : List ℕ) (i : ℕ) (p : Page) where
  pub write_next : i < length bytes → write (drop i bytes) p ≡ write (drop (i + 1) bytes) (put (get_or bytes i 0) p)
  unfolding write
  write_next h = rw (add-one, drop-cons bytes i 0)

  pub write_end : length bytes ≤ i → write (drop i bytes) p ≡ p
  unfolding write
  write_end h = rw (drop_of_length-le bytes h)

pub spaces_next : (k : ℕ) (p : Page) → 0 < k → spaces k p ≡ spaces (k - 1) (put 32 p)
unfolding spaces
spaces_next zero p h = absurd (omega arith)
spaces_next (suc k) p h =
    let e : suc k - 1 ≡ k = omega arith in
    rw e

pub spaces_end : (k : ℕ) (p : Page) → k ≤ 0 → spaces k p ≡ p
unfolding spaces
spaces_end zero p h = refl
spaces_end (suc k) p h = absurd (omega arith)

-- for a loop of blanks
pub ruleset space_steps = (spaces_next, spaces_end)
