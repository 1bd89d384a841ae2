-- The bytes that have come, where there is room for 577: one more than 64 lines of nine have.
use Rattle.std.specs.Prelude.{List, ◌≡◌, ℕ, ◌≤◌, length, take, Option, IfSome}

-- a text has no more than there is room for; and where it is known what a reader gives, it is that, as far as there is
-- room
pub record Held (given : Option (List ℕ)) (text : List ℕ) : Type 0 where
  pub within : length text ≤ 577
  pub first : IfSome given (λ bytes. text ≡ take 577 bytes)
