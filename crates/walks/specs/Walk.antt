-- "The walk of an opcode starts in state 0 and follows AddrCtl with that opcode until it would enter 0 again, meets a
-- missing entry or breaks rule 6."
use Rattle.std.specs.Prelude.{Bool, true, false, ◌&&◌, List, [], ◌∷◌, ◌++◌, ℕ}
use Rattle.std.specs.Prelude.{zero, suc, replicate, take, nat_lt, slice_index_or, slice_set, ◌==◌}
use Rattle.microcode.specs.Sequencing.{store_gives}
use Rattle.terms.specs.Tables.{among}
use Rattle.microcode.specs.declared.stores.Store.{Store}
use Rattle.terms.specs.Answers.{pick}
use Rattle.rules.specs.declared.rules.Exit.TheVariants.{Onward, Back, Missing, Barred}
use Rattle.rules.specs.declared.rules.Exit.{Exit}
use Rattle.walks.specs.declared.following.Walked.{Walked}

-- "No state is entered twice, and state 15 never counts on": one of the sixteen states, and not yet entered
abbrev pub may_enter : List Bool → ℕ → Bool
may_enter unentered state = nat_lt state 16 && slice_index_or unentered state false

-- how the walk leaves a state for what the store gives next: by a missing entry, back to fetch, onward, or by a step
-- that rule 6 bars
abbrev pub exit_to : List Bool → ℕ → Exit
exit_to unentered next =
    pick (next == 255) Missing
    (pick (next == 0) Back
    (pick (may_enter unentered next) (Onward next) Barred))

-- a state on the walk, and how the walk leaves it
pub record Visit : Type 0 where
  pub state : ℕ
  pub exit : Exit

-- a state that is entered is not unentered any more
abbrev pub visit : Store → ℕ → List Bool → ℕ → Visit
visit s opcode unentered state =
    record { state = state; exit = exit_to (slice_set unentered state false) (store_gives s state opcode).next }

-- the visits after an exit
abbrev pub on_from : Exit → (ℕ → List Visit) → List Visit
on_from (Onward state) from = from state
on_from Back from = []
on_from Missing from = []
on_from Barred from = []

-- "The walk is followed by recursion on the states not yet entered": the visits from a state on, with so many unentered
unfoldable pub walk_from : ℕ → Store → ℕ → List Bool → ℕ → List Visit
walk_from zero s opcode unentered state = []
walk_from (suc left) s opcode unentered state =
    visit s opcode unentered state
    ∷ on_from (visit s opcode unentered state).exit
    (λ next. walk_from left s opcode (slice_set unentered state false) next)

-- all sixteen states unentered
abbrev pub fresh : List Bool
fresh = replicate 16 true

-- the walk of an opcode
abbrev pub walk_of : Store → ℕ → List Visit
walk_of s opcode = walk_from 16 s opcode fresh 0

-- its states, in order
abbrev pub states_of : List Visit → List ℕ
states_of [] = []
states_of (v ∷ walk) = v.state ∷ states_of walk

-- "a state on the walk"
abbrev pub on_walk : Store → ℕ → ℕ → Bool
on_walk s opcode state = among state (states_of (walk_of s opcode))

-- how the last of these states is left; by this exit, where there is none
abbrev pub end_of : Exit → List Visit → Exit
end_of exit [] = exit
end_of exit (v ∷ walk) = end_of v.exit walk

-- the states in order, then 255s, in sixteen places
abbrev pub padded : List ℕ → List ℕ
padded states = take 16 (states ++ replicate 16 255)

-- what `walk` answers: the walk of an opcode, to display
abbrev pub walked_of : Store → ℕ → Walked
walked_of s opcode =
    record { states = padded (states_of (walk_of s opcode)); end = end_of Back (walk_of s opcode) }
