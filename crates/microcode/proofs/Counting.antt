-- Only one of the sixteen states counts on.
-- Assumes nothing.
use mathlib.Core.Bool.{Bool, true, false}
use mathlib.Core.List.{List}
use mathlib.Core.Path.{◌≡◌, refl, ap}
use Prim.Native.Nat.{ℕ, ◌+◌, ◌%◌}
use native.Mathlib.Nat.{mod-eq_of_lt}
use lib.Dec.{ltb}
use lib.ListN.{get_or}
use borrow.Author.Tests.{ltb-true}
use Rattle.signals.specs.Signals.{addr_ctl, one_of}
use Rattle.terms.specs.Answers.{pick}
use Rattle.microcode.specs.Sequencing.{word_of}

by_test : (b : Bool) (state word e f : ℕ) → ltb state 16 ≡ b → one_of (addr_ctl (pick b word 0)) 0 e f (state % 16 + 1) ≡ one_of (addr_ctl (pick b word 0)) 0 e f (state + 1)
by_test true state word e f h = ap (λ n. one_of (addr_ctl word) 0 e f (n + 1)) (mod-eq_of_lt (ltb-true state 16 h))
by_test false state word e f h = refl

pub counts_on : (words : List ℕ) (state e f : ℕ) → one_of (addr_ctl (word_of words state)) 0 e f (state % 16 + 1) ≡ one_of (addr_ctl (word_of words state)) 0 e f (state + 1)
counts_on words state e f = by_test (ltb state 16) state (get_or words state 0) e f refl
