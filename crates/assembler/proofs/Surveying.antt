-- The lines of a text, entered one after another.
-- Assumes nothing.
use Rattle.std.proofs.Common.{◌≡◌, ℕ, ◌+◌, ◌<◌, ◌≤◌, Bool, true, false, List, [], ◌∷◌, ◌++◌, length, get_or, drop, lit≤, sym, refl, ap, ◌∙◌, zero-le, add-zero, add-one, arith}
use mir.Val.{bool_byte}
use lib.ListN.{length-drop}
use lib.Seq.{drop-drop, get_or-drop}
use Rattle.terms.specs.Running.{one_if}
use Rattle.source.specs.Lines.{lines_of}
use Rattle.source.specs.Statements.{label_of, has_word, Heads}
use Rattle.source.specs.declared.reading.Heading.{Heading}
use Rattle.assembler.specs.Labels.{line_at, words_above}
use Rattle.assembler.specs.Table.{Holds, Entered, Ready}
use Rattle.assembler.specs.declared.table.Entry.{Entry}
use Rattle.assembler.specs.declared.table.Table.{Table}
use Rattle.assembler.proofs.Tabling.{size, holds_more}

-- of lines, those from a place on: the first, and the others
module _ (lines : List (List ℕ)) (n : ℕ) {line : List ℕ} {others : List (List ℕ)} (left : drop n lines ≡ line ∷ others) where
  pub here : line_at lines n ≡ line
  here =
      ap (λ k. get_or lines k []) (sym (add-zero n))
      ∙ sym (get_or-drop n lines 0 [])
      ∙ ap (λ l. get_or l 0 []) left

  pub onward_lines : drop (n + 1) lines ≡ others
  onward_lines = sym (drop-drop 1 n lines) ∙ ap (drop 1) left

  pub not_last : n < length lines
  not_last = let l = length-drop n lines in let some = ap length left in omega arith

pub last : (lines : List (List ℕ)) (n : ℕ) → drop n lines ≡ [] → length lines ≤ n
last lines n left = let l = length-drop n lines in let none = ap length left in omega arith

one_if_small : (b : Bool) → one_if b ≤ 1
one_if_small true = lit≤ tt
one_if_small false = lit≤ tt

-- a truth value as a number
pub byte_one_if : (b : Bool) → bool_byte b ≡ one_if b
byte_one_if true = refl
byte_one_if false = refl

-- the lines so far are in the table
pub record Surveying (lines : List (List ℕ)) (entries : List Entry) (rest : List ℕ) (words : ℕ) : Type 0 where
  pub left : drop (length entries) lines ≡ lines_of rest
  pub few : length entries ≤ 4096
  pub within : length entries ≤ length lines
  pub counted : words ≡ words_above lines (length entries)
  pub words_few : words ≤ length entries
  pub holds : Holds lines entries

pub begin : (text : List ℕ) {entries : List Entry} → entries ≡ [] → Surveying (lines_of text) entries text 0
unfolding words_above
begin text e = rw e (record {
  left = refl;
  few = zero-le;
  within = zero-le;
  counted = refl;
  words_few = zero-le;
  holds = record { label = λ j b. absurd (omega arith); place = λ j b. absurd (omega arith) };
})

module _ (lines : List (List ℕ)) (table : Table) {rest : List ℕ} {words : ℕ} (s : Surveying lines table.lines rest words) where
  abbrev n : ℕ
  n = length table.lines

  -- where none is left, and where one is
  pub all_entered : lines_of rest ≡ [] → Ready lines table
  all_entered e =
      let l = last lines n (s.left ∙ e) in
      record {
        all = (let w = s.within in omega arith);
        few = (let f = s.few in omega arith);
        holds = s.holds;
      }

  pub not_all_entered : 0 < length (lines_of rest) → n < length lines
  not_all_entered some = let l = length-drop n lines in let left = ap length s.left in omega arith

  module _ {line : List ℕ} (behind : List ℕ) (next : line ∷ lines_of behind ≡ lines_of rest) where
    pub onward : {new : Table} {heading : Heading} → n < 4096 → Heads line heading → Entered heading.label words table new → Surveying lines new.lines behind (words + one_if heading.has_word)
    unfolding words_above
    onward {new} {heading} room read entered = rw entered.entries (record {
      left = rw more (onward_lines lines n (s.left ∙ sym next));
      few = rw more (omega arith);
      within = rw more (let m = not_last lines n (s.left ∙ sym next) in omega arith);
      counted = rw more counted_on;
      words_few = rw more (let o = one_if_small heading.has_word in let f = s.words_few in omega arith);
      holds = holds_more table.lines _ lines (read.named ∙ ap label_of (sym at)) s.counted s.holds;
    })
      where
        at : line_at lines (n) ≡ line
        at = here lines n (s.left ∙ sym next)

        more : length (table.lines ++ record { label = heading.label; words_above = words; next = entered.next } ∷ []) ≡ n + 1
        more = size table.lines _ ∙ sym (add-one (n))

        counted_on : words + one_if heading.has_word ≡ words_above lines (n + 1)
        counted_on = rw (add-one (n)) (ap (λ k. k + one_if heading.has_word) s.counted
            ∙ ap (λ b. words_above lines (n) + one_if b) (read.word ∙ ap has_word (sym at)))
