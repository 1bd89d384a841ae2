-- "into a zeroed 64-word image": line k is word k. "Other input" is no sheet.
use Rattle.std.specs.Prelude.{List, ◌≡◌, ℕ, replicate, Option, Some, None}
use Rattle.std.proofs.lemmas.List.Edits.{sets}
use Rattle.sheet.specs.Lines.{lines}

unfoldable pub zeroed : List ℕ
zeroed = replicate 64 0

-- the words of the lines put into an image, one after another from word k on
abbrev pub into : List ℕ → ℕ → Option (List ℕ) → Option (List ℕ)
into image k (Some words) = Some (sets image k words)
into image k None = None

unfoldable pub sheet_of : List ℕ → Option (List ℕ)
sheet_of text = into zeroed 0 (lines 64 text)

-- what `parse` promises
abbrev pub Parses : List ℕ → Option (List ℕ) → Type 0
Parses text r = r ≡ sheet_of text
