-- Tables: a choice by a number, the values of a rule at the numbers from 0 up, a test at each of them, and whether a
-- number is among some.
use Rattle.std.specs.Prelude.{ℕ, zero, suc, Bool, true, false, ◌&&◌, ◌||◌, List, [], ◌∷◌, ◌==◌}
use Rattle.terms.specs.Answers.{pick}

-- the value beside a number in a table, or the other where the number is not in it
abbrev pub choose : {A : Type 0} → List (ℕ × A) → A → ℕ → A
choose [] other n = other
choose (row ∷ table) other n = pick (n == row.0) row.1 (choose table other n)

-- the values of a rule at n numbers from i on
abbrev pub table_from : {A : Type 0} → ℕ → ℕ → (ℕ → A) → List A
table_from i zero f = []
table_from i (suc n) f = f i ∷ table_from (suc i) n f

-- the test f passes at each of n numbers from i on
abbrev pub all_from : ℕ → ℕ → (ℕ → Bool) → Bool
all_from i zero f = true
all_from i (suc n) f = f i && all_from (suc i) n f

-- a number is among these
unfoldable pub among : ℕ → List ℕ → Bool
among n [] = false
among n (m ∷ numbers) = n == m || among n numbers
