-- "The program `bench` .. runs the sequencer from PC 0 and zero registers with budget 1,000, and prints one line:
-- cycles, instructions, refusal (0 if spent), PC, in decimal. Other input prints `bad input`."
use Rattle.std.specs.Prelude.{List, [], ◌∷◌, ◌≡◌, ℕ, Option}
use Rattle.std.specs.Option.{option_map}
use Rattle.control.specs.Running.{unit_run}
use Rattle.control.specs.declared.units.Unit.TheVariants.{Sequencer}
use Rattle.datapath.specs.Machines.{MachineState, with_image, at_reset}
use Rattle.sheet.specs.Sheets.{sheet_of}
use Rattle.terms.specs.Refusals.{end_number}
use Rattle.terms.specs.Running.{Ran}
use Rattle.bench.specs.declared.trial.Line.{Line}

-- "cycles, instructions, refusal (0 if spent), PC"
abbrev pub numbers : Ran MachineState → List ℕ
numbers r = r.steps ∷ r.instructions ∷ end_number r.outcome ∷ r.state.latches.pc.0 ∷ []

-- the four numbers of the line, or none for other input
unfoldable pub trial : List ℕ → Option (List ℕ)
trial text = option_map (λ image. numbers (unit_run Sequencer (with_image at_reset image) 1000)) (sheet_of text)

abbrev pub printed_as : Option Line → Option (List ℕ)
printed_as line = option_map (λ (l : Line). l.cycles.0 ∷ l.instructions.0 ∷ l.refusal ∷ l.pc.0 ∷ []) line

-- what `answer` promises
abbrev pub Prints : List ℕ → Option Line → Type 0
Prints text r = printed_as r ≡ trial text
