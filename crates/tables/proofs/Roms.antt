-- The ROM holds the PLA's word at each of its addresses, by one test over all of them.
-- Assumes nothing.
use Rattle.std.proofs.Common.{Bool, ◌≡◌, refl, ap₂, sym, ◌∙◌, ℕ, ◌+◌, ◌*◌, ◌/◌, ◌%◌, ◌<◌, mod-eq_of_lt, arith, T, eqb, eqb→eq}
use lib.Arith.{digits_div, digits_mod}
use Rattle.microcode.specs.Fixed.{ten_words, dispatch1, dispatch2, fixed_store}
use Rattle.terms.specs.Tables.{all_from}
use Rattle.terms.proofs.Tables.{table_at, all_at}
use Rattle.tables.specs.Pla.{term_states, term_opcodes, term_asserts, plane, plane_cells}
use Rattle.tables.specs.Rom.{entry, rom_entries, RomIsPla}

pub five_hundred_and_ten : plane_cells ≡ 510
unfolding term_states
five_hundred_and_ten = refl

agree : ℕ → ℕ → Bool
agree opcode state = eqb (plane 17 state opcode) (entry state opcode)

tested : T (all_from 0 64 (λ opcode. all_from 0 16 (agree opcode)))
unfolding agree plane entry fixed_store ten_words dispatch1 dispatch2 term_states term_opcodes term_asserts
tested = tt

pub entry_is_pla : (state opcode : ℕ) → state < 16 → opcode < 64 → plane 17 state opcode ≡ entry state opcode
unfolding agree
entry_is_pla state opcode hs ho =
    eqb→eq (plane 17 state opcode) (entry state opcode)
    (all_at 16 (agree opcode) (all_at 64 (λ o. all_from 0 16 (agree o)) tested opcode ho) state hs)

pub rom_is_pla : RomIsPla
unfolding rom_entries
rom_is_pla state opcode hs ho =
    let r : opcode * 16 + state < 1024 = omega arith in
    rw (mod-eq_of_lt hs, mod-eq_of_lt ho)
    (table_at (λ address. entry (address % 16) (address / 16)) 0 1024 (opcode * 16 + state) r
    ∙ ap₂ entry (digits_mod opcode hs) (digits_div opcode hs)
    ∙ sym (entry_is_pla state opcode hs ho))
