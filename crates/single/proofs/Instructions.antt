-- What an instruction comes to, by the word at PC and what it decodes to, and how long it leaves the image.
-- Assumes nothing.
use mathlib.Core.List.{List}
use mathlib.Core.Path.{◌≡◌, refl, ap, sym, ◌∙◌}
use Prim.Native.Nat.{ℕ}
use lib.ListN.{length, length-set}
use Rattle.terms.specs.Answers.{No, answered, refused}
use Rattle.terms.specs.Going.{Goes, here, then}
use Rattle.terms.specs.Refusals.{no_at}
use Rattle.terms.specs.declared.refusals.AccessKind.TheVariants.{Fetch, Load, Store}
use Rattle.terms.proofs.Answers.{value_of, chained}
use Rattle.words.specs.Decoding.{decoding}
use Rattle.words.specs.declared.instructions.Instruction.TheVariants.{Add, Sub, And, Or, Slt, Lw, Sw, Beq, Jump}
use Rattle.words.specs.declared.instructions.Instruction.{Instruction}
use Rattle.parts.specs.Image.{reading, accessing, located}
use Rattle.parts.proofs.Images.{unlocated}
use Rattle.single.specs.Instruction.{holds, address_of, writing, storing, performing, executing, instruction}
use Rattle.single.specs.Visible.{Visible}

module _ (s : Visible) where
  pub unfetched : {r : No}
      → reading s.image s.pc ≡ refused r
      → instruction s ≡ refused (no_at r.number s.pc Fetch)
  unfolding instruction
  unfetched f = rw f

  module _ {w : ℕ} (f : reading s.image s.pc ≡ answered w) where
    pub undecoded : {r : No} → decoding w ≡ refused r → instruction s ≡ refused r
    unfolding instruction
    undecoded d = rw (f, d)

    pub executed : {i : Instruction} → decoding w ≡ answered i → instruction s ≡ executing i s
    unfolding instruction
    executed d = rw (f, d)

  -- an instruction that is done was fetched, decoded and executed
  pub fetched_and_done : {t : Visible} → instruction s ≡ answered t → (w : ℕ) × (reading s.image s.pc ≡ answered w) × ((i : Instruction) × (decoding w ≡ answered i) × (executing i s ≡ answered t))
  unfolding instruction
  fetched_and_done e =
      let at_pc = reading s.image s.pc in
      let word = chained (located s.pc Fetch at_pc) (λ w. performing w s) e in
      let read = unlocated s.pc Fetch at_pc word.1 in
      (word.0, read, chained (decoding word.0) (λ i. executing i s) word.2)

  same_length : {a t : Visible} → length a.image ≡ length s.image → answered a ≡ answered t → length t.image ≡ length s.image
  same_length h e = ap (λ (v : Visible). length v.image) (sym (value_of e)) ∙ h

  executing_length : (i : Instruction) {t : Visible} → executing i s ≡ answered t → length t.image ≡ length s.image
  unfolding executing
  executing_length (Add rd rs rt) e = same_length refl e
  executing_length (Sub rd rs rt) e = same_length refl e
  executing_length (And rd rs rt) e = same_length refl e
  executing_length (Or rd rs rt) e = same_length refl e
  executing_length (Slt rd rs rt) e = same_length refl e
  executing_length (Lw rt rs field) e =
      let at = address_of (holds s rs) field in
      let word = chained (located at Load (reading s.image at)) (λ value. answered (writing s rt value)) e in
      same_length refl word.2
  executing_length (Sw rt rs field) e =
      let at = address_of (holds s rs) field in
      let word = chained (located at Store (accessing (length s.image) at)) (λ k. answered (storing s k (holds s rt))) e in
      same_length (length-set s.image word.0 (holds s rt)) word.2
  executing_length (Beq rs rt field) e = same_length refl e
  executing_length (Jump field) e = same_length refl e

  -- an instruction leaves the image as long as it was
  pub image_length_kept : {t : Visible} → instruction s ≡ answered t → length t.image ≡ length s.image
  image_length_kept e =
      let done = fetched_and_done e in
      executing_length done.2.0 done.2.2

-- and so do several
pub image_length_kept_through : {L : Type 0} {seen : Visible → L} {path : List L} {s t : Visible} → Goes instruction seen path s t → length t.image ≡ length s.image
image_length_kept_through here = refl
image_length_kept_through (then {s = s} e rest) = image_length_kept_through rest ∙ image_length_kept s e
