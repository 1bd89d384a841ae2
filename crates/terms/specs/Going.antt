-- Going through steps, from one state to another, by what is seen of each state entered.
use Rattle.std.specs.Prelude.{◌≡◌, List, [], ◌∷◌}
use Rattle.terms.specs.Answers.{Answer, answered}

pub data Goes {S L : Type 0} (step : S → Answer S) (seen : S → L) : List L → S → S → Type 0 where
  here : {s : S} → Goes step seen [] s s
  then : {path : List L} {s mid end : S}
      → step s ≡ answered mid
      → Goes step seen path mid end
      → Goes step seen (seen mid ∷ path) s end
