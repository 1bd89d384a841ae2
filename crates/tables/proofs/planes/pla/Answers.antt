use Rattle.std.proofs.Common.{◌≡◌, ℕ, ◌+◌, refl, add-one, slice_index, slice_index_or, None}
use Rattle.std.proofs.lemmas.Nat.{or_comm}
use Rattle.std.specs.Int.Bits.{bit_or}
use Rattle.terms.proofs.Tables.{table_at}
use Rattle.tables.specs.Pla.{term, term_states, term_opcodes, term_asserts, plane}
use Rattle.tables.specs.declared.planes.Term.{Term}
use Rattle.tables.proofs.planes.pla.Goals as goal

-- the term of each place of the three lists
row : ℕ → Term
row t = record { 0 = slice_index term_states t; 1 = slice_index_or term_opcodes t None; 2 = slice_index term_asserts t }

-- one term more
more : (bits asserts t state opcode : ℕ) (x : Term) → bits ≡ plane t state opcode → asserts ≡ term x.0 x.1 x.2 state opcode → x ≡ row t → bit_or bits asserts ≡ plane (t + 1) state opcode
unfolding plane row
more bits asserts t state opcode x before fires is =
    rw (or_comm bits asserts, add-one t, before, fires, is)

pub loop-term-init : goal.loop-term-init
unfolding plane
loop-term-init c = refl

pub loop-term-preserved : goal.loop-term-preserved
unfolding term_states term_opcodes term_asserts row
loop-term-preserved c =
    let is = λ (d : Term). table_at row d 17 c.loop-term.term-index c.loop-term-test.true in
    more _ _ c.loop-term.term-index _ _ _ c.loop-term.invariant c.asserted-bits.ensures (is _)
