-- What the check's verdict means: the statements of the theorems about it.
use Rattle.std.specs.Prelude.{Bool, true, false, ◌||◌, List, [], ◌∷◌, ◌++◌, ◌↔◌, ◌≡◌, ℕ, ◌<◌}
use Rattle.microcode.specs.Sequencing.{word_of}
use Rattle.microcode.specs.Stores.{in_range}
use Rattle.microcode.specs.declared.stores.Store.{Store}
use Rattle.walks.specs.Checking.{range, admitted, breach, kept, rules_at, checking}
use Rattle.rules.specs.Rules.{writes}
use Rattle.walks.specs.Walk.{Visit, walk_of}

-- whether one of these states has RegWrite or MemWrite
unfoldable pub written_in : Store → List Visit → Bool
written_in s [] = false
written_in s (v ∷ walk) = writes (word_of s.words v.state) || written_in s walk

-- every state of these keeps every rule
abbrev pub KeepRules : Store → List Visit → Type 0
KeepRules s walk =
    (earlier later : List Visit) (v : Visit) → walk ≡ earlier ++ (v ∷ later)
    → (rule : ℕ) → kept (rules_at s (written_in s earlier) v) rule ≡ true

-- "its 64 walks keep the six rules"
abbrev pub AllKeep : Store → Type 0
AllKeep s = (opcode : ℕ) → opcode < 64 → KeepRules s (walk_of s opcode)

-- "The breach named is the lowest opcode's, first state on its walk, lowest rule there."
pub record FirstBreach (s : Store) (opcode state rule : ℕ) : Type 0 where
  pub one_of_64 : opcode < 64
  pub lower_opcodes : (o : ℕ) → o < opcode → KeepRules s (walk_of s o)
  pub earlier : List Visit
  pub visit : Visit
  pub later : List Visit
  pub on_walk : walk_of s opcode ≡ earlier ++ (visit ∷ later)
  pub at_state : visit.state ≡ state
  pub earlier_states : KeepRules s earlier
  pub lower_rules : (r : ℕ) → r < rule → kept (rules_at s (written_in s earlier) visit) r ≡ true
  pub broken : kept (rules_at s (written_in s earlier) visit) rule ≡ false

-- the check says 12 exactly where a word or an entry is out of range, admits exactly where none is and the 64 walks
-- keep the six rules, and otherwise names the first breach, of which there is one
pub record Admission : Type 0 where
  pub ranges : (s : Store) → (checking s ≡ range) ↔ (in_range s ≡ false)
  pub admits : (s : Store) → (checking s ≡ admitted) ↔ ((in_range s ≡ true) × AllKeep s)
  pub names : (s : Store) (opcode state rule : ℕ)
      → (checking s ≡ breach opcode state rule) ↔ ((in_range s ≡ true) × FirstBreach s opcode state rule)
  pub one : (s : Store) (opcode state rule o t r : ℕ) → FirstBreach s opcode state rule → FirstBreach s o t r
      → (opcode ≡ o) × (state ≡ t) × (rule ≡ r)
