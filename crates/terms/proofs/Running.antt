-- Laws of a run.
-- Assumes nothing.
use Rattle.std.proofs.Common.{◌≡◌, ℕ, zero, suc, ◌+◌, ◌-◌, ◌<◌, ◌≤◌, Bool, true, false, sym, refl, ap, ◌∙◌, add-zero, add_assoc, suc-add, zero-add, one-add, arith, lit≤}
use Rattle.terms.specs.Answers.{No, Answer, answered, refused, fold}
use Rattle.terms.specs.Refusals.{Ended, spent, stopped}
use Rattle.terms.specs.Running.{Ran, ran, onto, one_if, running}

-- a step ends at most one instruction
pub one_at_most : (ended : Bool) → one_if ended ≤ 1
one_at_most true = lit≤ tt
one_at_most false = lit≤ tt

module _ {S : Type 0} where
  pub same_ran : {o p : Ended} {s t : S} {a b i j : ℕ} → o ≡ p → s ≡ t → a ≡ b → i ≡ j → ran o s a i ≡ ran p t b j
  same_ran p q r t = λ k. ran (p k) (q k) (r k) (t k)

  -- counts are added in any order
  pub onto_onto : (a b c d : ℕ) (r : Ran S) → onto a b (onto c d r) ≡ onto (a + c) (b + d) r
  onto_onto a b c d r = same_ran refl refl (sym (add_assoc a c r.steps)) (sym (add_assoc b d r.instructions))

  pub onto_none : (r : Ran S) → onto 0 0 r ≡ r
  onto_none r = same_ran refl refl (zero-add r.steps) (zero-add r.instructions)

  module _ (step : S → Answer S) (ends : S → Bool) where
    pub run_none : (s : S) → running step ends 0 s ≡ ran spent s 0 0
    unfolding running
    run_none s = refl

    -- a step that is done, and one that is refused
    pub run_done : (left : ℕ) (s : S) {after : S} → step s ≡ answered after → running step ends (suc left) s ≡ onto 1 (one_if (ends after)) (running step ends left after)
    unfolding running
    run_done left s e = rw e

    pub run_refused : (left : ℕ) (s : S) {r : No} → step s ≡ refused r → running step ends (suc left) s ≡ ran (stopped r) s 0 0
    unfolding running
    run_refused left s e = rw e

    -- the same, as a loop has it that has done so many steps
    module _ (budget done instructions : ℕ) (s : S) where
      pub turn_done : {after : S} → done < budget → step s ≡ answered after → onto done instructions (running step ends (budget - done) s) ≡ onto (done + 1) (instructions + one_if (ends after)) (running step ends (budget - (done + 1)) after)
      turn_done {after} h e =
          let n : budget - done ≡ suc (budget - (done + 1)) = omega arith in
          ap (λ k. onto done instructions (running step ends k s)) n
          ∙ ap (onto done instructions) (run_done (budget - (done + 1)) s e)
          ∙ onto_onto done instructions 1 (one_if (ends after)) (running step ends (budget - (done + 1)) after)

      pub turn_refused : {r : No} → done < budget → step s ≡ refused r → onto done instructions (running step ends (budget - done) s) ≡ ran (stopped r) s done instructions
      turn_refused h e =
          let n : budget - done ≡ suc (budget - (done + 1)) = omega arith in
          ap (λ k. onto done instructions (running step ends k s)) n
          ∙ ap (onto done instructions) (run_refused (budget - (done + 1)) s e)
          ∙ same_ran refl refl (add-zero done) (add-zero instructions)

      pub turn_spent : budget ≤ done → onto done instructions (running step ends (budget - done) s) ≡ ran spent s done instructions
      turn_spent h =
          let n : budget - done ≡ 0 = omega arith in
          ap (λ k. onto done instructions (running step ends k s)) n
          ∙ ap (onto done instructions) (run_none s)
          ∙ same_ran refl refl (add-zero done) (add-zero instructions)

    -- a run that is spent has done its budget's steps
    pub spent_steps : (budget : ℕ) (s : S) → (running step ends budget s).outcome ≡ spent → (running step ends budget s).steps ≡ budget
    unfolding running
    spent_steps zero s e = refl
    spent_steps (suc budget) s e = by (step s) (λ after h. spent_steps budget after h) e
      where
        by : (a : Answer S) → ((after : S) → (running step ends budget after).outcome ≡ spent → (running step ends budget after).steps ≡ budget) → (fold (λ after. onto 1 (one_if (ends after)) (running step ends budget after)) (λ r. ran (stopped r) s 0 0) a).outcome ≡ spent → (fold (λ after. onto 1 (one_if (ends after)) (running step ends budget after)) (λ r. ran (stopped r) s 0 0) a).steps ≡ suc budget
        by (answered after) more h = one-add (running step ends budget after).steps ∙ ap suc (more after h)
        by (refused r) more h = let z : ◌≡◌ {A = ℕ} 0 1 = cc in absurd (omega arith)

    -- a longer run goes on where a shorter one is spent, and ends as it does where it has stopped
    abbrev pub further : ℕ → Ended → Ran S → Ran S
    further more spent r = onto r.steps r.instructions (running step ends more r.state)
    further more (stopped q) r = r

    pub compose : (budget more : ℕ) (s : S) → running step ends (budget + more) s ≡ further more (running step ends budget s).outcome (running step ends budget s)
    unfolding running
    compose zero more s = ap (λ k. running step ends k s) (zero-add more) ∙ sym (onto_none (running step ends more s))
    compose (suc budget) more s = ap (λ k. running step ends k s) (suc-add budget more) ∙ by (step s) (compose budget more)
      where
        turned : (after : S) (o : Ended) (r : Ran S) → onto 1 (one_if (ends after)) (further more o r) ≡ further more o (onto 1 (one_if (ends after)) r)
        turned after spent r = onto_onto 1 (one_if (ends after)) r.steps r.instructions (running step ends more r.state)
        turned after (stopped q) r = refl

        by : (a : Answer S) → ((after : S) → running step ends (budget + more) after ≡ further more (running step ends budget after).outcome (running step ends budget after)) → fold (λ after. onto 1 (one_if (ends after)) (running step ends (budget + more) after)) (λ r. ran (stopped r) s 0 0) a ≡ further more (fold (λ after. onto 1 (one_if (ends after)) (running step ends budget after)) (λ r. ran (stopped r) s 0 0) a).outcome (fold (λ after. onto 1 (one_if (ends after)) (running step ends budget after)) (λ r. ran (stopped r) s 0 0) a)
        by (answered after) go = ap (onto 1 (one_if (ends after))) (go after) ∙ turned after (running step ends budget after).outcome (running step ends budget after)
        by (refused r) go = refl

  -- pointwise equal steps give equal runs
  pub same_steps : {step next : S → Answer S} (ends : S → Bool) → ((s : S) → step s ≡ next s) → (budget : ℕ) (s : S) → running step ends budget s ≡ running next ends budget s
  same_steps ends e budget s = λ i. running (λ x. e x i) ends budget s

  -- so do steps that are equal wherever the run comes
  module _ (step next : S → Answer S) (ends : S → Bool) (P : S → Type 0) (same : (s : S) → P s → step s ≡ next s) (kept : (s after : S) → P s → step s ≡ answered after → P after) where
    pub same_where : (budget : ℕ) (s : S) → P s → running step ends budget s ≡ running next ends budget s
    unfolding running
    same_where zero s p = refl
    same_where (suc budget) s p = by (λ after e. same_where budget after (kept s after p e)) (step s) refl ∙ ap (fold (λ after. onto 1 (one_if (ends after)) (running next ends budget after)) (λ r. ran (stopped r) s 0 0)) (same s p)
      where
        by : ((after : S) → step s ≡ answered after → running step ends budget after ≡ running next ends budget after) → (a : Answer S) → step s ≡ a → fold (λ after. onto 1 (one_if (ends after)) (running step ends budget after)) (λ r. ran (stopped r) s 0 0) (step s) ≡ fold (λ after. onto 1 (one_if (ends after)) (running next ends budget after)) (λ r. ran (stopped r) s 0 0) (step s)
        by more (answered after) e = rw e (ap (onto 1 (one_if (ends after))) (more after e))
        by more (refused r) e = rw e
