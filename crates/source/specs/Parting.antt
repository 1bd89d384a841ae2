-- Inside the crate: a part of a line, and what was taken off a line. A private function of `assembler` speaks of the
-- lines that it takes off a text in the same words.
use Rattle.std.specs.Prelude.{List, [], ◌∷◌, ℕ, Option, Some, None}
use Rattle.std.specs.Borrow.{Bor}
use Rattle.terms.specs.Answers.{Answer, answered}
use Rattle.source.specs.Lines.{parts_of}
use Rattle.operands.specs.Operands.{unreadable}
use Rattle.operands.specs.declared.labels.Label.{Label}

-- the first piece of a text and those behind it, or none
abbrev pub pieces_as : (List ℕ → List (List ℕ)) → Option (Bor (List ℕ) × Bor (List ℕ)) → List (List ℕ)
pieces_as pieces_of (Some t) = t.0.now ∷ pieces_of t.1.now
pieces_as pieces_of None = []

-- what was taken, and the parts after it
abbrev pub taken_as : {A : Type 0} → Option (A × Bor (List ℕ)) → Answer (A × List (List ℕ))
taken_as (Some t) = answered (t.0, parts_of t.1.now)
taken_as None = unreadable

-- the label of a line, and the parts after its colon
abbrev pub lead_as : Option Label × Bor (List ℕ) → Option Label × List (List ℕ)
lead_as t = (t.0, parts_of t.1.now)
