-- The bits of some bytes, step by step: what stands at i comes next, and after the last there is nothing.
-- Assumes nothing.
use Rattle.std.proofs.Common.{◌≡◌, ℕ, ◌+◌, ◌<◌, ◌≤◌, List, length, get_or, drop, add-one, drop_of_length-le, drop-cons}
use Rattle.page.specs.Numbers.{bits}
use Rattle.page.specs.Pages.{Page}
use Rattle.dump.specs.Waves.{octets}

module _ (bytes : List ℕ) (i : ℕ) (p : Page) where
  pub octets_next : i < length bytes → octets (drop i bytes) p ≡ octets (drop (i + 1) bytes) (bits 8 (get_or bytes i 0) p)
  unfolding octets
  octets_next h = rw (add-one, drop-cons bytes i 0)

  pub octets_end : length bytes ≤ i → octets (drop i bytes) p ≡ p
  unfolding octets
  octets_end h = rw (drop_of_length-le bytes h)
