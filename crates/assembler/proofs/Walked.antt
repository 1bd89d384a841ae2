-- A walk of the chain of a label.
-- Assumes nothing.
use Rattle.std.proofs.Common.{◌≡◌, ℕ, suc, ◌<◌, ◌≤◌, Bool, true, false, List, Some, None, length, get_or, sym, refl, ap, ◌∙◌, subst, arith, eqb-true}
use borrow.Author.Tests.{lt-ltb, le-ltb}
use Rattle.std.specs.Prelude.{Option}
use Rattle.std.specs.Bool.{then_some}
use Rattle.std.specs.Option.{option_or}
use Rattle.terms.specs.Answers.{pick}
use Rattle.operands.specs.declared.labels.Label.{Label}
use Rattle.assembler.specs.Labels.{same_label}
use Rattle.assembler.specs.Chains.{hash_of, last_below, link, entry_at, hashes, Chained}
use Rattle.assembler.specs.Table.{below}
use Rattle.assembler.specs.declared.table.Entry.{Entry}
use Rattle.assembler.proofs.Chains.{from, from_end, from_step, last_within, last_again, last_passes, skip, hash_below, same_hashes, number, number_link}

-- the lines that a label names, and those in its chain
abbrev pub has : Label → List Entry → ℕ → Bool
has label entries j = same_label (Some label) (entry_at entries j).label

abbrev pub chain : Label → List Entry → ℕ → Bool
chain label entries = hashes entries (hash_of (Some label))

-- the first of two lines where it is chosen, else the other
pub chosen : (b : Bool) (line : ℕ) (other : Option ℕ) → option_or (then_some b line) other ≡ pick b (Some line) other
chosen true line other = refl
chosen false line other = refl

-- a walk of a label's chain, as far as a link: the first line so far is the first from the link on
pub record Walked (label : Label) (entries : List Entry) (first link : Option ℕ) : Type 0 where
  pub within : number link ≤ length entries
  pub linked : last_below (chain label entries) (number link) ≡ number link
  pub so_far : first ≡ below (length entries) (from (has label entries) (length entries) (number link))

module _ {label : Label} {heads : List (Option ℕ)} {entries : List Entry} (chained : Chained heads entries) where
  pub begin : {l : Option ℕ} → l ≡ get_or heads (hash_of (Some label)) None → Walked label entries None l
  begin {l} e = record {
    within = rw at_head (last_within (chain label entries) (length entries));
    linked = rw at_head (last_again (chain label entries) (length entries));
    so_far = sym (ap (below (length entries)) (ap (from (has label entries) (length entries)) at_head
        ∙ skip (chain label entries) (has label entries) (same_hashes label entries) (length entries) (length entries) (omega arith)
        ∙ from_end (has label entries) (length entries))
        ∙ ap (λ b. pick b (Some (length entries)) None) (le-ltb (length entries) (length entries) (omega arith)));
  }
    where
      at_head : number l ≡ last_below (chain label entries) (length entries)
      at_head = ap number (e ∙ chained.head (hash_of (Some label)) (hash_below (Some label))) ∙ number_link _

  module _ {first at : Option ℕ} {j : ℕ} (walked : Walked label entries first at) (some : at ≡ Some j) where
    w : Walked label entries first (Some j)
    w = subst (λ k. Walked label entries first k) some walked

    in_chain : hash_of (entry_at entries j).label ≡ hash_of (Some label)
    in_chain = eqb-true _ _ (last_passes (chain label entries) j w.linked)

    next : {l : Option ℕ} → l ≡ (entry_at entries j).next → number l ≡ last_below (chain label entries) j
    next e =
        ap number (e ∙ chained.next j w.within ∙ ap (λ h. link (last_below (hashes entries h) j)) in_chain)
        ∙ number_link _

    step : (b : Bool) (k : ℕ) → below (length entries) (pick b j k) ≡ pick b (Some j) (below (length entries) k)
    step true k = ap (λ b. pick b (Some j) None) (lt-ltb j (length entries) w.within)
    step false k = refl

    pub onward : {l first' : Option ℕ} → l ≡ (entry_at entries j).next → first' ≡ pick (has label entries j) (Some j) first → Walked label entries first' l
    onward {l} {first'} e g = record {
      within = let m = last_within (chain label entries) j in let b = w.within in let n = next e in omega arith;
      linked = rw (next e) (last_again (chain label entries) j);
      so_far =
          g
          ∙ ap (pick (has label entries j) (Some j)) w.so_far
          ∙ sym (step (has label entries j) (from (has label entries) (length entries) (suc j)))
          ∙ ap (below (length entries)) (sym (from_step (has label entries) (length entries) j w.within)
          ∙ sym (skip (chain label entries) (has label entries) (same_hashes label entries) (length entries) j (let b = w.within in omega arith))
          ∙ ap (from (has label entries) (length entries)) (sym (next e)));
    }

    -- links fall
    pub falls : {l : Option ℕ} → l ≡ (entry_at entries j).next → number l < number at
    falls e = rw some (let m = last_within (chain label entries) j in let n = next e in omega arith)
