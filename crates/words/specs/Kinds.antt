-- Which of the nine instructions a word is, by its opcode and its function.
use Rattle.std.specs.Prelude.{ℕ, List, [], ◌∷◌}
use Rattle.terms.specs.Tables.{choose}
use Rattle.words.specs.Fields.{opcode, function}
use Rattle.words.specs.declared.kinds.Kind.TheVariants.{Add, Sub, And, Or, Slt, Lw}
use Rattle.words.specs.declared.kinds.Kind.TheVariants.{Sw, Beq, Jump, NoOpcode, NoFunction}
use Rattle.words.specs.declared.kinds.Kind.{Kind}

-- "function 32 add, 34 sub, 36 and, 37 or, 42 slt"
abbrev pub functions : List (ℕ × Kind)
functions = (32, Add) ∷ (34, Sub) ∷ (36, And) ∷ (37, Or) ∷ (42, Slt) ∷ []

unfoldable pub by_function : ℕ → Kind
by_function f = choose functions NoFunction f

-- "lw 35, sw 43"
abbrev pub accesses : List (ℕ × Kind)
accesses = (35, Lw) ∷ (43, Sw) ∷ []

-- "R-format: opcode 0 .. beq 4 .. j 2"
abbrev pub opcodes : ℕ → List (ℕ × Kind)
opcodes f = (0, by_function f) ∷ (2, Jump) ∷ (4, Beq) ∷ accesses

unfoldable pub by_opcode : ℕ → ℕ → Kind
by_opcode o f = choose (opcodes f) NoOpcode o

-- the kind of instruction that a word is
abbrev pub kind_of : ℕ → Kind
kind_of w = by_opcode (opcode w) (function w)
