-- Inside the crate: what the machine decides to do, and then does, as the code has it.
use Rattle.std.specs.Prelude.{List, ◌≡◌, ℕ, slice_set, Result, Ok, Err}
use Rattle.terms.specs.Answers.{Answer, answered, refused}
use Rattle.terms.specs.Refusals.{refusal_of}
use Rattle.terms.specs.declared.refusals.Refusal.{Refusal}
use Rattle.parts.specs.Registers.{written}
use Rattle.single.specs.Visible.{Visible, visible}
use Rattle.single.specs.declared.effects.Effect.TheVariants.{Writes, Stores, Transfers}
use Rattle.single.specs.declared.effects.Effect.{Effect}

-- what is visible once an effect is carried out on registers and image
abbrev pub effect_of : Effect → List ℕ → List ℕ → Visible
effect_of (Writes register value pc) cells image = visible (written cells register value) pc.0 image
effect_of (Stores word value pc) cells image = visible cells pc.0 (slice_set image word.0 value)
effect_of (Transfers pc) cells image = visible cells pc.0 image

-- what is decided, where that is visible
abbrev pub decided_as : Result Effect Refusal → Visible → Answer Visible
decided_as (Ok effect) s = answered (effect_of effect s.registers s.image)
decided_as (Err r) s = refused (refusal_of r)

-- what a function promises that decides what to do
abbrev pub Decides : (Visible → Answer Visible) → Visible → Result Effect Refusal → Type 0
Decides what s r = decided_as r s ≡ what s
