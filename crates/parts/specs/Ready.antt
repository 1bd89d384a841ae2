-- "Before a run: 6, 7, ..": what every run asks first, of an image of so many words and of a budget that is
-- allowed or not.
use Rattle.std.specs.Prelude.{ℕ, Bool}
use Rattle.terms.specs.Answers.{pick, refused, no}
use Rattle.terms.specs.Refusals.{Consent, yes}
use Rattle.parts.specs.Image.{sized}

abbrev pub asking : ℕ → Bool → Consent
asking words allowed = pick (sized words) (pick allowed yes (refused (no 7))) (refused (no 6))
