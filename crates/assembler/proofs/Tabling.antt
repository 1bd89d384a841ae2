-- A line more in the table.
-- Assumes nothing.
use Rattle.std.proofs.Common.{◌≡◌, ℕ, zero, suc, ◌<◌, ◌≤◌, Bool, true, false, eqb, ◌⊎◌, List, [], ◌∷◌, ◌++◌, Some, None, length, get_or, set, sym, refl, ap, ◌∙◌, inl, inr, le_refl, add-one, arith, get_or-set_other, get_or-set_same, eqb-true}
use lib.ListN.{get_or-replicate, get_or-append}
use lib.Seq.{get_or-append_seam}
use borrow.Author.Tests.{eqb-false}
use Rattle.std.specs.Prelude.{Option, replicate}
use Rattle.std.proofs.lemmas.List.{length-append}
use Rattle.terms.specs.Answers.{pick}
use Rattle.terms.proofs.Answers.{truth, order}
use Rattle.source.specs.Statements.{label_of}
use Rattle.assembler.specs.Labels.{line_at, words_above}
use Rattle.assembler.specs.Chains.{hash_of, last_below, link, blank, entry_at, hashes, Chained}
use Rattle.assembler.specs.Table.{Holds}
use Rattle.assembler.specs.declared.table.Entry.{Entry}
use Rattle.assembler.proofs.Chains.{hash_below}

-- tests that agree below n have the same last number there
last_alike : (f g : ℕ → Bool) (n : ℕ) → ((j : ℕ) → j < n → f j ≡ g j) → last_below f n ≡ last_below g n
unfolding last_below
last_alike f g zero e = refl
last_alike f g (suc n) e =
    ap (λ b. pick b (suc n) (last_below f n)) (e n (omega arith))
    ∙ ap (λ m. pick (g n) (suc n) m) (last_alike f g n (λ j h. e j (omega arith)))

-- no lines are chained
pub chained_none : Chained (replicate 4096 None) []
unfolding last_below
chained_none = record {
  head = λ h b. get_or-replicate 4096 h None None b;
  next = λ j b. absurd (omega arith);
}

module _ (entries : List Entry) (entry : Entry) where
  abbrev n : ℕ
  n = length entries

  abbrev more : List Entry
  more = entries ++ entry ∷ []

  pub size : length more ≡ suc n
  size = length-append entries (entry ∷ []) ∙ add-one n

  pub new_entry : entry_at more n ≡ entry
  new_entry = get_or-append_seam entries entry [] blank

  pub old_entry : (j : ℕ) → j < n → entry_at more j ≡ entry_at entries j
  old_entry j h = get_or-append entries (entry ∷ []) blank j h

  alike : (h m : ℕ) → m ≤ n → last_below (hashes more h) m ≡ last_below (hashes entries h) m
  alike h m b = last_alike (hashes more h) (hashes entries h) m (λ j g. ap (λ e. eqb (hash_of e.label) h) (old_entry j (omega arith)))

  module _ (heads : List (Option ℕ)) (sized : length heads ≡ 4096) (chained : Chained heads entries) (links : entry.next ≡ get_or heads (hash_of entry.label) None) where
    abbrev hash : ℕ
    hash = hash_of entry.label

    head : (h : ℕ) → h < 4096 → get_or (set heads hash (Some n)) h None ≡ link (last_below (hashes more h) (suc n))
    unfolding last_below
    head h b =
        by (truth (eqb hash h))
        ∙ ap (λ m. link (pick (eqb hash h) (suc n) m)) (sym (alike h n (le_refl n)))
        ∙ ap (λ e. link (pick (eqb (hash_of e.label) h) (suc n) (last_below (hashes more h) n))) (sym new_entry)
      where
        by : (eqb hash h ≡ true) ⊎ (eqb hash h ≡ false) → get_or (set heads hash (Some n)) h None ≡ link (pick (eqb hash h) (suc n) (last_below (hashes entries h) n))
        by (inl e) =
            let same = eqb-true hash h e in
            rw e (ap (λ k. get_or (set heads hash (Some n)) k None) (sym same) ∙ get_or-set_same heads hash (Some n) None (omega arith))
        by (inr e) = rw e (get_or-set_other heads hash h (Some n) None (λ same. eqb-false hash h e (sym same)) ∙ chained.head h b)

    next : (j : ℕ) → j < suc n → (entry_at more j).next ≡ link (last_below (hashes more (hash_of (entry_at more j).label)) j)
    next j b = by (order j n)
      where
        by : (j < n) ⊎ ((j ≡ n) ⊎ (n < j)) → (entry_at more j).next ≡ link (last_below (hashes more (hash_of (entry_at more j).label)) j)
        by (inl h) =
            rw (old_entry j h)
            (chained.next j h ∙ ap link (sym (alike (hash_of (entry_at entries j).label) j (omega arith))))
        by (inr (inl e)) =
            rw (e, new_entry)
            (links ∙ chained.head hash (hash_below entry.label) ∙ ap link (sym (alike hash n (le_refl n))))
        by (inr (inr h)) = absurd (omega arith)

    pub chained_more : Chained (set heads hash (Some n)) more
    chained_more = record {
      head = λ h b. rw size (head h b);
      next = λ j b. next j (omega (arith, size));
    }

  pub holds_more : (lines : List (List ℕ)) → entry.label ≡ label_of (line_at lines n) → entry.words_above ≡ words_above lines n → Holds lines entries → Holds lines more
  holds_more lines e w held = record { label = label_of_lem; place = place_of }
    where
      label_of_lem : (j : ℕ) → j < length more → (entry_at more j).label ≡ label_of (line_at lines j)
      label_of_lem j b = by (order j n)
        where
          by : (j < n) ⊎ ((j ≡ n) ⊎ (n < j)) → (entry_at more j).label ≡ label_of (line_at lines j)
          by (inl h) = rw (old_entry j h) (held.label j h)
          by (inr (inl same)) = rw (same, new_entry) e
          by (inr (inr h)) = absurd (omega (arith, size))

      place_of : (j : ℕ) → j < length more → (entry_at more j).words_above ≡ words_above lines j
      place_of j b = by (order j n)
        where
          by : (j < n) ⊎ ((j ≡ n) ⊎ (n < j)) → (entry_at more j).words_above ≡ words_above lines j
          by (inl h) = rw (old_entry j h) (held.place j h)
          by (inr (inl same)) = rw (same, new_entry) w
          by (inr (inr h)) = absurd (omega (arith, size))
