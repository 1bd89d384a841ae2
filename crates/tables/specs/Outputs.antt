-- What the state table gives, and what a ROM or PLA word says.
use Rattle.std.specs.Prelude.{◌&&◌, ◌||◌, List, [], ◌∷◌, ℕ, ◌*◌, ◌/◌, ◌%◌, ◌==◌}
use Rattle.datapath.specs.declared.cycle.Control.{Control}
use Rattle.microcode.specs.Sequencing.{word_of, entry_of}
use Rattle.terms.specs.Answers.{pick}
use Rattle.terms.specs.Tables.{choose}

-- the control word and the number of the next state, 255 for none
abbrev pub control : ℕ → ℕ → Control
control word next = record { word = word; next = next }

-- the next state of each state (002): state 0 to 1, state 3 to 4, state 6 to 7, the others that do not dispatch to 0
abbrev pub onward : List (ℕ × ℕ)
onward = (0, 1) ∷ (3, 4) ∷ (6, 7) ∷ []

abbrev pub undispatched : ℕ → ℕ
undispatched state = choose onward 0 state

-- state 1 goes by dispatch 1, state 2 by dispatch 2
abbrev pub next_state : List ℕ → List ℕ → ℕ → ℕ → ℕ
next_state one two state opcode =
    pick (state == 1) (entry_of one opcode) (pick (state == 2) (entry_of two opcode) (undispatched state))

-- a state's word and its next state
abbrev pub tabled : List ℕ → List ℕ → List ℕ → ℕ → ℕ → Control
tabled words one two state opcode = control (word_of words state) (next_state one two state opcode)

-- "ROM and PLA words have the 16 control bits in 19-4 and the next state in 3-0." "the PLA sends an unknown opcode in
-- state 1 to state 0. No engine follows that": states 1 and 2 dispatch, and never to 0
abbrev pub from_entry : ℕ → ℕ → Control
from_entry state e =
    control (e / 16 * 4) (pick (e % 16 == 0 && (state == 1 || state == 2)) 255 (e % 16))
