-- What the table tells of a line and its labels.
-- Assumes nothing.
use Rattle.std.proofs.Common.{◌≡◌, ℕ, zero, suc, ◌+◌, ◌*◌, ◌%◌, ◌^◌, ◌<◌, Bool, true, false, ltb, ◌⊎◌, List, Some, None, length, sym, refl, ap, ◌∙◌, inl, inr, arith}
use borrow.Author.Tests.{ltb-true, ltb-false, le-ltb}
use Rattle.std.specs.Prelude.{Option}
use Rattle.std.specs.Option.{is_some, option_map}
use Rattle.std.proofs.lemmas.Option.{none-some, same_Some}
use Rattle.terms.specs.Answers.{Answer, answered, refused, pick, fold}
use Rattle.terms.proofs.Answers.{truth}
use Rattle.terms.specs.declared.counts.ByteAddress.{ByteAddress}
use Rattle.source.specs.Statements.{label_of}
use Rattle.operands.specs.declared.labels.Label.{Label}
use Rattle.source.specs.declared.statements.Statement.TheVariants.{Add, Sub, And, Or, Slt, Lw, Sw, Beq, Jump, Word}
use Rattle.source.specs.declared.statements.Statement.{Statement}
use Rattle.placing.specs.Placing.{placed, named, known_address}
use Rattle.assembler.specs.Assembling.{is_known}
use Rattle.assembler.specs.Chains.{entry_at}
use Rattle.assembler.specs.Labels.{line_at, address_of, same_label, first_from, line_of}
use Rattle.assembler.specs.Table.{below, found, above, precedes, target, target_as, Ready}
use Rattle.assembler.specs.declared.table.Table.{Table}

-- tests that agree have the same first number
first_alike : (f g : ℕ → Bool) (n k : ℕ) → ((j : ℕ) → j < k + n → f j ≡ g j) → first_from f n k ≡ first_from g n k
unfolding first_from
first_alike f g zero k e = refl
first_alike f g (suc n) k e =
    ap (λ b. pick b k (first_from f n (suc k))) (e k (omega arith))
    ∙ ap (λ m. pick (g k) k m) (first_alike f g n (suc k) (λ j h. e j (omega arith)))

first_never : (n k : ℕ) → first_from (λ j. false) n k ≡ k + n
unfolding first_from
first_never zero k = omega arith
first_never (suc n) k = first_never n (suc k) ∙ omega arith

-- a line that names no label is placed whatever the address
unnamed : (a k : Bool) (x t t' : ℕ) (r : Answer (Option Statement)) → fold named (λ _. None) r ≡ None → placed a k x t r ≡ placed a k x t' r
unfolding placed
unnamed a k x t t' (refused q) e = refl
unnamed a k x t t' (answered None) e = refl
unnamed a k x t t' (answered (Some (Add rd rs rt))) e = refl
unnamed a k x t t' (answered (Some (Sub rd rs rt))) e = refl
unnamed a k x t t' (answered (Some (And rd rs rt))) e = refl
unnamed a k x t t' (answered (Some (Or rd rs rt))) e = refl
unnamed a k x t t' (answered (Some (Slt rd rs rt))) e = refl
unnamed a k x t t' (answered (Some (Lw rt rs field))) e = refl
unnamed a k x t t' (answered (Some (Sw rt rs field))) e = refl
unnamed a k x t t' (answered (Some (Beq rs rt label))) e = absurd (none-some label (sym e))
unnamed a k x t t' (answered (Some (Jump label))) e = absurd (none-some label (sym e))
unnamed a k x t t' (answered (Some (Word word))) e = refl

-- and one whose label is not known is refused whatever it is
unknown : (a : Bool) (x t t' : ℕ) (r : Answer (Option Statement)) → placed a false x t r ≡ placed a false x t' r
unfolding placed
unknown a x t t' r = refl

module _ (lines : List (List ℕ)) (table : Table) (ready : Ready lines table) where
  found_line : (label : Label) → found table.lines label ≡ below (length lines) (line_of lines (Some label))
  found_line label =
      ap (below (length table.lines)) (first_alike _ (λ i. same_label (Some label) (label_of (line_at lines i))) (length table.lines) 0
      (λ j h. ap (same_label (Some label)) (ready.holds.label j (omega arith))))
      ∙ ap (λ n. below n (first_from (λ i. same_label (Some label) (label_of (line_at lines i))) n 0)) ready.all

  pub above_line : (label : Option Label) (i : ℕ) → i < length lines → above table.lines label i ≡ ltb (line_of lines label) i
  above_line None i h = sym (le-ltb (line_of lines None) i (let n = first_never (length lines) 0 in omega arith))
  above_line (Some label) i h = ap (λ o. precedes o i) (found_line label) ∙ by (truth (ltb (line_of lines (Some label)) (length lines)))
    where
      by : (ltb (line_of lines (Some label)) (length lines) ≡ true) ⊎ (ltb (line_of lines (Some label)) (length lines) ≡ false) → precedes (below (length lines) (line_of lines (Some label))) i ≡ ltb (line_of lines (Some label)) i
      by (inl t) = rw t refl
      by (inr f) = rw f (sym (le-ltb (line_of lines (Some label)) i (let l = ltb-false _ _ f in omega arith)))

  pub address : (given : ℕ) {i a : ℕ} → i < length lines → a ≡ (given + 4 * (entry_at table.lines i).words_above) % 2 ^ 32 → a ≡ address_of given lines i
  address given {i} h e = e ∙ ap (λ w. (given + 4 * w) % 2 ^ 32) (ready.holds.place i (let a = ready.all in omega arith))

  pub targeted : (a : Bool) (given x : ℕ) (label : Option Label) (t : Option ByteAddress) (r : Answer (Option Statement)) → target_as t ≡ target table.lines given label → fold named (λ _. None) r ≡ label → placed a (is_some t) x (known_address t) r ≡ placed a (is_known lines label) x (address_of given lines (line_of lines label)) r
  targeted a given x None None r e n = absurd (none-some _ e)
  targeted a given x None (Some b) r e n = unnamed a true x _ _ r n
  targeted a given x (Some label) t r e n = by (truth (ltb k (length lines)))
    where
      k : ℕ
      k = line_of lines (Some label)

      by : (ltb k (length lines) ≡ true) ⊎ (ltb k (length lines) ≡ false) → placed a (is_some t) x (known_address t) r ≡ placed a (ltb k (length lines)) x (address_of given lines k) r
      by (inl c) = rw c (at t (e ∙ ap (option_map (λ line. (given + 4 * (entry_at table.lines line).words_above) % 2 ^ 32)) (found_line label ∙ ap (λ b. pick b (Some k) None) c)))
        where
          at : (o : Option ByteAddress) → target_as o ≡ Some ((given + 4 * (entry_at table.lines k).words_above) % 2 ^ 32) → placed a (is_some o) x (known_address o) r ≡ placed a true x (address_of given lines k) r
          at None f = absurd (none-some _ f)
          at (Some b) f = ap (λ q. placed a true x q r) (address given (ltb-true _ _ c) (same_Some _ _ f))
      by (inr c) = rw c (at t (e ∙ ap (option_map (λ line. (given + 4 * (entry_at table.lines line).words_above) % 2 ^ 32)) (found_line label ∙ ap (λ b. pick b (Some k) None) c)))
        where
          at : (o : Option ByteAddress) → target_as o ≡ None → placed a (is_some o) x (known_address o) r ≡ placed a false x (address_of given lines k) r
          at None f = unknown a x _ _ r
          at (Some b) f = absurd (none-some _ (sym f))

pub placed_alike : {a a' k k' : Bool} {x x' t t' : ℕ} {r r' : Answer (Option Statement)} → a ≡ a' → k ≡ k' → x ≡ x' → t ≡ t' → r ≡ r' → placed a k x t r ≡ placed a' k' x' t' r'
placed_alike ea ek ex et er = rw (ea, ek, ex, et, er)
