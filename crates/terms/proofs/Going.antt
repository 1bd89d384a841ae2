-- A run goes through the steps that a state goes through.
-- Assumes nothing.
use Rattle.std.proofs.Common.{◌≡◌, ℕ, suc, ◌+◌, Bool, List, [], ◌∷◌, ◌++◌, length, sym, refl, ap, ◌∙◌, add-zero, suc-add, zero-add, one-add}
use Rattle.terms.specs.Answers.{No, Answer, refused}
use Rattle.terms.specs.Going.{Goes, here, then}
use Rattle.terms.specs.Refusals.{stopped}
use Rattle.terms.specs.Running.{ran, onto, one_if, running}
use Rattle.terms.proofs.Running.{onto_onto, onto_none, run_done, run_refused, same_ran}

-- how many of the states seen end an instruction
abbrev pub ended : {L : Type 0} → (L → Bool) → List L → ℕ
ended ends [] = 0
ended ends (l ∷ path) = one_if (ends l) + ended ends path

module _ {S L : Type 0} (step : S → Answer S) (seen : S → L) where
  -- one way after another
  pub go_on : {p q : List L} {s mid end : S} → Goes step seen p s mid → Goes step seen q mid end → Goes step seen (p ++ q) s end
  go_on here g = g
  go_on (then e rest) g = then e (go_on rest g)

  pub run_through : (ends : L → Bool) {path : List L} {s end : S} → Goes step seen path s end → (more : ℕ) → running step (λ x. ends (seen x)) (length path + more) s ≡ onto (length path) (ended ends path) (running step (λ x. ends (seen x)) more end)
  run_through ends {end = end} here more =
      ap (λ k. running step (λ x. ends (seen x)) k end) (zero-add more) ∙ sym (onto_none (running step (λ x. ends (seen x)) more end))
  run_through ends {end = end} (then {path = path} {s = s} {mid = mid} e rest) more =
      ap (λ k. running step (λ x. ends (seen x)) k s) (suc-add (length path) more)
      ∙ run_done step (λ x. ends (seen x)) (length path + more) s e
      ∙ ap (onto 1 (one_if (ends (seen mid)))) (run_through ends rest more)
      ∙ onto_onto 1 (one_if (ends (seen mid))) (length path) (ended ends path) (running step (λ x. ends (seen x)) more end)
      ∙ ap (λ k. onto k (one_if (ends (seen mid)) + ended ends path) (running step (λ x. ends (seen x)) more end)) (one-add (length path))

  -- through to a step that is refused
  pub run_to_refusal : (ends : L → Bool) {path : List L} {s end : S} {r : No} → Goes step seen path s end → step end ≡ refused r → (more : ℕ) → running step (λ x. ends (seen x)) (length path + suc more) s ≡ ran (stopped r) end (length path) (ended ends path)
  run_to_refusal ends {path} {s} {end} g e more =
      run_through ends g (suc more)
      ∙ ap (onto (length path) (ended ends path)) (run_refused step (λ x. ends (seen x)) more end e)
      ∙ same_ran refl refl (add-zero (length path)) (add-zero (ended ends path))
