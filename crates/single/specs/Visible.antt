-- "The single-cycle machine keeps registers and PC only." With the image, they are what the programmer sees.
use Rattle.std.specs.Prelude.{List, ℕ}

pub record Visible : Type 0 where
  pub registers : List ℕ
  pub pc : ℕ
  pub image : List ℕ

abbrev pub visible : List ℕ → ℕ → List ℕ → Visible
visible registers pc image = record { registers = registers; pc = pc; image = image }
