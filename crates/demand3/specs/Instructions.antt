-- Demand 3, of instructions: each fetched, and done in the cycles of its walk.
use Rattle.std.specs.Prelude.{Bool, true, false, List, [], ◌∷◌, ◌++◌, ◌≡◌, ℕ, ◌+◌, ◌-◌, ◌≤◌, length, replicate}
use Rattle.datapath.specs.Machines.{MachineState, fetching}
use Rattle.microcode.specs.Sequencing.{store_cycle}
use Rattle.microcode.specs.declared.stores.Store.{Store}
use Rattle.parts.specs.Image.{reading}
use Rattle.walks.specs.Walk.{walk_of}
use Rattle.terms.specs.Answers.{Answer, answered}
use Rattle.terms.specs.Going.{Goes}
use Rattle.words.specs.Fields.{opcode}

-- how many states the walk of an opcode has
abbrev pub walk_length : Store → ℕ → ℕ
walk_length s o = length (walk_of s o)

-- the word that a machine in state 0 fetches
abbrev pub fetched : MachineState → Answer ℕ
fetched m = reading m.image m.latches.pc.0

-- so many cycles, none of which comes back to fetch
abbrev pub away : ℕ → List Bool
away n = replicate n false

-- so many cycles, of which the last comes back to fetch, and none before
abbrev pub back : ℕ → List Bool
back n = away (n - 1) ++ (true ∷ [])

-- the machine goes through cycles under a store, by whether each of them comes back to fetch
abbrev pub Passes : Store → List Bool → MachineState → MachineState → Type 0
Passes s path m end = Goes (store_cycle s) fetching path m end

-- Instructions done one after the other, by the opcodes of the words fetched: each "comes back to
-- fetch in exactly as many cycles as its walk has states, never above 16"
pub data Completes (s : Store) : List ℕ → MachineState → MachineState → Type 0 where
  none : {m : MachineState} → Completes s [] m m
  one : {opcodes : List ℕ} {m mid end : MachineState} (word : ℕ)
      → fetched m ≡ answered word
      → Passes s (back (walk_length s (opcode word))) m mid
      → walk_length s (opcode word) ≤ 16
      → Completes s opcodes mid end
      → Completes s (opcode word ∷ opcodes) m end

-- the sum of their walks' lengths
unfoldable pub lengths : Store → List ℕ → ℕ
lengths s [] = 0
lengths s (o ∷ opcodes) = walk_length s o + lengths s opcodes
