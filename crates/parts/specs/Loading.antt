-- "Loading copies the program into the part of the image that starts at its base word; it answers 6 before 2 and
-- touches no other word."
use Rattle.std.specs.Prelude.{◌≡◌, ℕ, ◌+◌, List, ◌++◌, length, take, drop, nat_le, Result}
use Rattle.terms.specs.Answers.{No, no, pick, refused}
use Rattle.terms.specs.Counts.{past_words}
use Rattle.terms.specs.Refusals.{Consent, yes, no_at, reply_of}
use Rattle.terms.specs.declared.refusals.AccessKind.TheVariants.{Loader}
use Rattle.terms.specs.declared.refusals.Refusal.{Refusal}
use Rattle.parts.specs.Image.{sized}

-- what the loader answers, and the image as it leaves it
pub record Loading : Type 0 where
  pub answer : Consent
  pub image : List ℕ

-- the image with the program at its base word
abbrev pub placed : List ℕ → ℕ → List ℕ → List ℕ
placed program base image = take base image ++ (program ++ drop (base + length program) image)

-- "the loader gives the first byte address past the image, under a fourth kind"
abbrev pub no_room : List ℕ → No
no_room image = no_at 2 (past_words (length image)) Loader

-- 6 image size, then 2 program does not fit at its base; "a refusal by .. loader .. writes nothing"
unfoldable pub loading : List ℕ → ℕ → List ℕ → Loading
loading program base image =
    pick (sized (length image))
    (pick (nat_le (base + length program) (length image))
    (record { answer = yes; image = placed program base image })
    (record { answer = refused (no_room image); image = image }))
    (record { answer = refused (no 6); image = image })

-- what `load` promises of its answer and of the image as it is left
abbrev pub Loads : List ℕ → ℕ → List ℕ → Result (Unit {0}) Refusal → List ℕ → Type 0
Loads program base image r left =
    ◌≡◌ {A = Loading} (record { answer = reply_of r; image = left }) (loading program base image)
