-- "Bits 1-0: AddrCtl, 0 go to 0, 1 dispatch ROM 1, 2 dispatch ROM 2, 3 next number."
use Rattle.std.specs.Prelude.{List, ℕ, ◌+◌, nat_lt, slice_index}
use Rattle.datapath.specs.Cycle.{cycle}
use Rattle.datapath.specs.Machines.{MachineState}
use Rattle.signals.specs.Signals.{addr_ctl, one_of}
use Rattle.datapath.specs.declared.cycle.Control.{Control}
use Rattle.terms.specs.Answers.{Answer, pick}
use Rattle.words.specs.Fields.{opcode}
use Rattle.microcode.specs.declared.stores.Store.{Store}

-- the word of a state; there are sixteen states
abbrev pub word_of : List ℕ → ℕ → ℕ
word_of words state = pick (nat_lt state 16) (slice_index words state) 0

-- an entry, "a state 0 to 15 or 255 for none", at one of 64 opcodes
abbrev pub entry_of : List ℕ → ℕ → ℕ
entry_of rom code = pick (nat_lt code 64) (slice_index rom code) 255

-- the state that follows one by AddrCtl
abbrev pub follows : ℕ → List ℕ → List ℕ → ℕ → ℕ → ℕ
follows control one two state code = one_of control 0 (entry_of one code) (entry_of two code) (state + 1)

-- what the words and dispatch ROMs give in a state for an opcode
unfoldable pub sequence : List ℕ → List ℕ → List ℕ → ℕ → ℕ → Control
sequence words one two state code =
    record { word = word_of words state; next = follows (addr_ctl (word_of words state)) one two state code }

-- what a store gives
abbrev pub store_gives : Store → ℕ → ℕ → Control
store_gives s state code = sequence s.words s.rom1 s.rom2 state code

-- a clock cycle under a store: by the state, and the opcode in IR
abbrev pub store_cycle : Store → MachineState → Answer MachineState
store_cycle s m = cycle (store_gives s m.latches.state (opcode m.latches.ir)) m
