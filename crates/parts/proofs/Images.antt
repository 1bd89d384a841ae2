-- What an access finds.
-- Assumes nothing.
use Rattle.std.proofs.Common.{◌≡◌, ℕ, ◌%◌, ◌<◌, ◌≤◌, eqb, ltb, sym, refl, ⊎_elim, ltb-true, le-ltb, lt-ltb, eq-eqb, ne_eqb}
use Rattle.terms.specs.Answers.{No, Answer, answered, refused, no}
use Rattle.terms.specs.Counts.{word_at}
use Rattle.terms.proofs.Answers.{picked, never}
use Rattle.terms.specs.declared.refusals.AccessKind.{AccessKind}
use Rattle.parts.specs.Image.{accessing, located}

-- an access that is not refused says no more than it said
pub unlocated : {A : Type 0} (address : ℕ) (kind : AccessKind) (x : Answer A) {a : A}
    → located address kind x ≡ answered a
    → x ≡ answered a
unlocated address kind (answered v) e = e
unlocated address kind (refused r) e = never e

-- and one that is refused was refused
pub located_refused : {A : Type 0} (address : ℕ) (kind : AccessKind) (x : Answer A) {r : No}
    → located address kind x ≡ refused r
    → (q : No) × (x ≡ refused q)
located_refused address kind (answered v) e = never (sym e)
located_refused address kind (refused q) e = (q, refl)

module _ (words address : ℕ) where
  pub misaligned : (address % 4 ≡ 0 → ⊥) → accessing words address ≡ refused (no 1)
  unfolding accessing
  misaligned h = simp (ne_eqb (address % 4) 0 h)

  pub outside : address % 4 ≡ 0 → words ≤ word_at address → accessing words address ≡ refused (no 2)
  unfolding accessing
  outside h o = simp (eq-eqb (address % 4) 0 h, le-ltb (word_at address) words o)

  pub inside : address % 4 ≡ 0 → word_at address < words → accessing words address ≡ answered (word_at address)
  unfolding accessing
  inside h o = simp (eq-eqb (address % 4) 0 h, lt-ltb (word_at address) words o)

  -- an access that is not refused goes to the address's word, within the image
  pub accessed : {k : ℕ} → accessing words address ≡ answered k → (word_at address ≡ k) × (k < words)
  unfolding accessing
  accessed {k} e =
      ⊎_elim
      (λ h.
      ⊎_elim
      (λ g. let q : word_at address ≡ k = cc g.1 in (q, rw q at (ltb-true (word_at address) words g.0)))
      (λ g. never g.1)
      (picked (ltb (word_at address) words) h.1))
      (λ h. never h.1)
      (picked (eqb (address % 4) 0) e)
