-- The states that an instruction's cycles enter, and what it costs.
use Rattle.std.specs.Prelude.{List, [], ◌∷◌, map, ◌≡◌, ℕ, zero, suc, ◌+◌, length, take}
use Rattle.control.specs.Units.{unit_cycle}
use Rattle.control.specs.declared.units.Unit.{Unit}
use Rattle.datapath.specs.Machines.{MachineState}
use Rattle.parts.specs.Image.{reading}
use Rattle.single.specs.Instruction.{instruction}
use Rattle.single.specs.Visible.{Visible, visible}
use Rattle.terms.specs.Answers.{No, answered, refused, fold}
use Rattle.terms.specs.Going.{Goes}
use Rattle.words.specs.Kinds.{kind_of}
use Rattle.words.specs.declared.kinds.Kind.TheVariants.{Add, Sub, And, Or, Slt, Lw, Sw, Beq, Jump}
use Rattle.words.specs.declared.kinds.Kind.TheVariants.{NoOpcode, NoFunction}
use Rattle.words.specs.declared.kinds.Kind.{Kind}

-- the states that the cycles of a word enter, the last of them 0; a word that is no instruction
-- gets to the state that refuses it
abbrev pub path_of : Kind → List ℕ
path_of Lw = 1 ∷ 2 ∷ 3 ∷ 4 ∷ 0 ∷ []
path_of Sw = 1 ∷ 2 ∷ 5 ∷ 0 ∷ []
path_of Add = 1 ∷ 6 ∷ 7 ∷ 0 ∷ []
path_of Sub = 1 ∷ 6 ∷ 7 ∷ 0 ∷ []
path_of And = 1 ∷ 6 ∷ 7 ∷ 0 ∷ []
path_of Or = 1 ∷ 6 ∷ 7 ∷ 0 ∷ []
path_of Slt = 1 ∷ 6 ∷ 7 ∷ 0 ∷ []
path_of Beq = 1 ∷ 8 ∷ 0 ∷ []
path_of Jump = 1 ∷ 9 ∷ 0 ∷ []
path_of NoOpcode = 1 ∷ []
path_of NoFunction = 1 ∷ 6 ∷ []

-- "at 5 cycles for lw, 4 sw, 4 R-format, 3 beq, 3 j": a cycle for each state entered
abbrev pub Costs : Type 0
Costs = map (λ kind. length (path_of kind)) (Lw ∷ Sw ∷ Add ∷ Sub ∷ And ∷ Or ∷ Slt ∷ Beq ∷ Jump ∷ [])
    ≡ 5 ∷ 4 ∷ 4 ∷ 4 ∷ 4 ∷ 4 ∷ 4 ∷ 3 ∷ 3 ∷ []

-- the path of the word at PC; none if the fetch is refused
abbrev pub path_at : Visible → List ℕ
path_at s = fold (λ word. path_of (kind_of word)) (λ r. []) (reading s.image s.pc)

-- as far as the state that refuses an instruction: lw and sw access memory in the third, 3 or 5
abbrev pub path_before : Visible → List ℕ
path_before s = take 3 (path_at s)

-- the cycles of the first n instructions, as far as the single-cycle machine does them
unfoldable pub cost_from : Visible → ℕ → ℕ
cost_from s zero = 0
cost_from s (suc n) = fold (λ after. length (path_at s) + cost_from after n) (λ r. 0) (instruction s)

-- registers, PC and memory of the multicycle machine
abbrev pub visible_in : MachineState → Visible
visible_in m = visible m.registers m.latches.pc.0 m.image

-- a unit's cycles, by the states that they enter
abbrev pub Enters : Unit → List ℕ → MachineState → MachineState → Type 0
Enters u path m end = Goes (unit_cycle u) (λ x. x.latches.state) path m end

-- The instruction at PC goes along its path, under a unit and from a fetch:
pub record OnPath (u : Unit) (m : MachineState) : Type 0 where
  -- where the single-cycle machine does it, all the way, to what that machine then shows,
  pub to_fetch : (s : Visible) → instruction (visible_in m) ≡ answered s
      → (end : MachineState) × Enters u (path_at (visible_in m)) m end × (visible_in end ≡ s)
  -- and where that refuses it, to the cycle that refuses it.
  pub to_refusal : (r : No) → instruction (visible_in m) ≡ refused r
      → (end : MachineState) × Enters u (path_before (visible_in m)) m end
      × (unit_cycle u end ≡ refused r)
