-- The words of the lines so far, and of those that are left.
-- Assumes nothing.
use Rattle.std.proofs.Common.{◌≡◌, ℕ, suc, ◌+◌, ◌-◌, ◌<◌, ◌≤◌, List, [], ◌∷◌, ◌++◌, Some, None, length, length-drop, drop, sym, refl, ap, ◌∙◌, append_assoc, append-nil, zero-le, add-one, arith}
use Rattle.std.specs.Prelude.{Option}
use Rattle.std.proofs.lemmas.List.{length-append}
use Rattle.terms.specs.Answers.{Answer, answered, refused, chain, fold}
use Rattle.source.specs.Lines.{lines_of}
use Rattle.placing.specs.Placing.{fault_number, written_as}
use Rattle.placing.specs.declared.placed.Fault.{Fault}
use Rattle.assembler.specs.Assembling.{placed_on, line_no, line_words, words_from}
use Rattle.assembler.proofs.Surveying.{not_last, onward_lines, last}

-- words, and the words of what is left
abbrev pub joined : List ℕ → Answer (List ℕ) → Answer (List ℕ)
joined words rest = chain rest (λ more. answered (words ++ more))

joined_twice : (a b : List ℕ) (rest : Answer (List ℕ)) → joined a (joined b rest) ≡ joined (a ++ b) rest
joined_twice a b (answered more) = ap (λ l. answered l) (sym (append_assoc a b more))
joined_twice a b (refused r) = refl

few : (w : Option ℕ) → length (written_as w) ≤ 1
few None = zero-le
few (Some x) = omega arith

-- the words so far, with those of the lines that are left, are the words of all lines
pub record Translating (given : ℕ) (lines : List (List ℕ)) (words rest : List ℕ) (number : ℕ) : Type 0 where
  pub left : drop number lines ≡ lines_of rest
  pub within : number ≤ length lines
  pub lines_few : length lines ≤ 4096
  pub words_few : length words ≤ number
  pub whole : joined words (words_from given lines (length lines - number) number) ≡ words_from given lines (length lines) 0

module _ (given : ℕ) where
  module _ (lines : List (List ℕ)) (words : List ℕ) {rest : List ℕ} (number : ℕ) (t : Translating given lines words rest number) where
    module _ {line : List ℕ} (behind : List ℕ) (next : line ∷ lines_of behind ≡ lines_of rest) where
      pub below : number < length lines
      below = not_last lines number (t.left ∙ sym next)

      abbrev others : Answer (List ℕ)
      others = words_from given lines (length lines - (number + 1)) (number + 1)

      -- the line that is next, and those after it
      step : words_from given lines (length lines - number) number ≡ chain (line_words given lines number) (λ ws. joined ws others)
      unfolding words_from
      step =
          let more : length lines - number ≡ suc (length lines - (number + 1)) = (let b = below in omega arith) in
          rw (more, add-one number)

      pub bad : (fault : Fault) → refused (record { number = fault_number fault; values = [] }) ≡ placed_on given lines number → words_from given lines (length lines) 0 ≡ refused (line_no (fault_number fault) (suc number))
      bad fault p =
          sym t.whole
          ∙ ap (joined words) (step ∙ ap (λ x. chain x (λ ws. joined ws others)) (ap (fold answered (λ r. refused (line_no r.number (suc number)))) (sym p)))

      pub onward : (w : Option ℕ) {words' : List ℕ} → answered (written_as w) ≡ placed_on given lines number → words' ≡ words ++ written_as w → Translating given lines words' behind (number + 1)
      onward w {words'} p e = rw e (record {
        left = onward_lines lines number (t.left ∙ sym next);
        within = (let b = below in omega arith);
        lines_few = t.lines_few;
        words_few = (let f = few w in let l = length-append words (written_as w) in let o = t.words_few in omega arith);
        whole =
            sym (joined_twice words (written_as w) others)
            ∙ ap (joined words) (sym (step ∙ ap (λ x. chain x (λ ws. joined ws others)) (ap (fold answered (λ r. refused (line_no r.number (suc number)))) (sym p))))
            ∙ t.whole;
      })

    -- there are few lines left
    pub left_few : number + length (lines_of rest) ≤ 4096
    left_few =
        let l = ap length (sym t.left) ∙ length-drop number lines in
        let w = t.within in
        let f = t.lines_few in
        omega arith

    pub ended : lines_of rest ≡ [] → words_from given lines (length lines) 0 ≡ answered words
    unfolding words_from
    ended e =
        let l = last lines number (t.left ∙ e) in
        let none : length lines - number ≡ 0 = (let w = t.within in omega arith) in
        sym t.whole
        ∙ ap (λ n. joined words (words_from given lines n number)) none
        ∙ ap (λ l. answered l) (append-nil words)
