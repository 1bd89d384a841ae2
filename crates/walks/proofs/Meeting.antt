-- A state on a walk: a walk has at most sixteen states, each below 16, and looking through its sixteen places finds them.
-- Assumes nothing.
use mathlib.Core.Bool.{Bool, true, false, ◌&&◌}
use mathlib.Core.List.{List, [], ◌∷◌}
use mathlib.Core.Logic.{◌⊎◌, inl, inr}
use mathlib.Core.Path.{◌≡◌, refl, ap, sym, ◌∙◌}
use Prim.Native.Nat.{ℕ, zero, suc, ◌+◌, ◌≤◌, ◌<◌, zero-le, suc-le-suc}
use native.Mathlib.Omega.{arith}
use lib.Dec.{ltb}
use lib.ListN.{length, get_or, set}
use borrow.Author.Tests.{ne_eqb, lt-ltb, le-ltb, ltb-true, ltb-false}
use Rattle.microcode.specs.Sequencing.{store_gives}
use Rattle.terms.specs.Tables.{among}
use Rattle.microcode.specs.declared.stores.Store.{Store}
use Rattle.terms.proofs.Answers.{both_true, order}
use Rattle.terms.specs.Answers.{pick}
use Rattle.walks.specs.Walk.{may_enter, Visit, visit, on_from, walk_from, walk_of, states_of, on_walk, padded, fresh}
use Rattle.rules.specs.declared.rules.Exit.TheVariants.{Onward, Back, Missing, Barred}
use Rattle.rules.specs.declared.rules.Exit.{Exit}
use Rattle.walks.proofs.Padding.{among_padded}
use Rattle.walks.proofs.Stepping.{onward_enters}

-- what holds of no visits, and of those from the state that a walk goes on to, holds of those after an exit
pub from_exit : (P : List Visit → Type 0) (from : ℕ → List Visit) (x : Exit) → P [] → ((k : ℕ) → x ≡ Onward k → P (from k)) → P (on_from x from)
from_exit P from (Onward k) none some = some k refl
from_exit P from Back none some = none
from_exit P from Missing none some = none
from_exit P from Barred none some = none

module _ (s : Store) (opcode : ℕ) where
  -- a walk has at most as many states as were unentered
  pub walk_length_lem : (n : ℕ) (unentered : List Bool) (state : ℕ) → length (walk_from n s opcode unentered state) ≤ n
  unfolding walk_from
  walk_length_lem zero u state = zero-le
  walk_length_lem (suc n) u state =
      suc-le-suc (from_exit (λ vs. length vs ≤ n) (λ k. walk_from n s opcode (set u state false) k) (visit s opcode u state).exit zero-le (λ k e. walk_length_lem n (set u state false) k))

  -- and each is one of the sixteen
  not_met : (n : ℕ) (u : List Bool) (state t : ℕ) → may_enter u state ≡ true → 16 ≤ t → among t (states_of (walk_from n s opcode u state)) ≡ false
  unfolding walk_from among
  not_met zero u state t h g = refl
  not_met (suc n) u state t h g =
      let small = ltb-true state 16 (both_true (ltb state 16) (get_or u state false) h).0 in
      rw (ne_eqb t state (λ e. omega arith))
      (from_exit (λ vs. among t (states_of vs) ≡ false) (λ k. walk_from n s opcode (set u state false) k) (visit s opcode u state).exit refl (λ k e. not_met n (set u state false) k t (onward_enters (set u state false) (store_gives s state opcode).next e) g))

  states_length : (vs : List Visit) → length (states_of vs) ≡ length vs
  states_length [] = refl
  states_length (v ∷ vs) = ap suc (states_length vs)

  -- in the sixteen places of the walk, a state below 16 is found where it is on the walk, and no other is on it
  module _ (state : ℕ) where
    pub shows : {states : List ℕ} → states ≡ padded (states_of (walk_of s opcode)) → (ltb state 16 && among state states) ≡ on_walk s opcode state
    shows {states} e = by (ltb state 16) refl
      where
        by : (b : Bool) → ltb state 16 ≡ b → (ltb state 16 && among state states) ≡ on_walk s opcode state
        by true h =
            let small = ltb-true state 16 h in
            let sixteen : length (states_of (walk_of s opcode)) ≤ 16 = rw (states_length (walk_of s opcode)) (walk_length_lem 16 fresh 0) in
            rw (h, e) (among_padded state (omega arith) (states_of (walk_of s opcode)) sixteen)
        by false h = rw h (sym (not_met 16 fresh 0 state refl (ltb-false state 16 h)))

-- with the walks of one opcode more followed
module _ (opcode code : ℕ) (on met : Bool) where
  pub met_here : code ≡ opcode → on ≡ (ltb opcode (code + 1) && on)
  met_here e = rw (lt-ltb opcode (code + 1) (omega arith))

  pub met_before : (code ≡ opcode → ⊥) → met ≡ (ltb opcode code && on) → met ≡ (ltb opcode (code + 1) && on)
  met_before n e = e ∙ ap (λ b. b && on) (by (order code opcode))
    where
      by : (code < opcode) ⊎ ((code ≡ opcode) ⊎ (opcode < code)) → ltb opcode code ≡ ltb opcode (code + 1)
      by (inl h) = rw (le-ltb opcode code (omega arith), le-ltb opcode (code + 1) (omega arith))
      by (inr (inl h)) = absurd (n h)
      by (inr (inr h)) = rw (lt-ltb opcode code h, lt-ltb opcode (code + 1) (omega arith))

-- with all 64 followed, the others are followed where they are asked for
pub met_all : (b : Bool) {met on r : Bool} → met ≡ (b && on) → r ≡ pick b met on → r ≡ on
met_all true e f = f ∙ e
met_all false e f = f
