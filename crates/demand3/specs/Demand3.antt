-- Demand 3, of a check and of a run under a store.
use Rattle.std.specs.Prelude.{true, false, ◌↔◌, ◌≡◌, ℕ, length}
use Rattle.datapath.specs.Machines.{MachineState}
use Rattle.microcode.specs.Stores.{in_range}
use Rattle.microcode.specs.declared.stores.Store.{Store}
use Rattle.parts.specs.Image.{sized}
use Rattle.walks.specs.Admission.{AllKeep, FirstBreach}
use Rattle.walks.specs.Checking.{Verdict, range, admitted, breach}
use Rattle.terms.specs.Counts.{allowed}
use Rattle.terms.specs.Running.{Ran}
use Rattle.demand3.specs.Runs.{Runs}

abbrev pub Check : Type 0
Check = Store → Verdict

abbrev pub RunUnder : Type 0
RunUnder = Store → MachineState → ℕ → Ran MachineState

-- a store that the check admits, a machine about to fetch, image and budget within their limits
pub record Taken (check : Check) (s : Store) (m : MachineState) (budget : ℕ) : Type 0 where
  pub admits : check s ≡ admitted
  pub fetches : m.latches.state ≡ 0
  pub fits : sized (length m.image) ≡ true
  pub allows : allowed budget ≡ true

pub record Demand3 (check : Check) (run : RunUnder) : Type 0 where
  -- 12: "store word of 2^18 or more, or entry 16 to 254"
  pub ranges : (s : Store) → (check s ≡ range) ↔ (in_range s ≡ false)
  -- "A store is admitted exactly when its 64 walks keep the six rules";
  pub admits : (s : Store) → (check s ≡ admitted) ↔ ((in_range s ≡ true) × AllKeep s)
  -- otherwise "the breach named is the lowest opcode's, first state on its walk, lowest rule there"
  pub names : (s : Store) (opcode state rule : ℕ)
      → (check s ≡ breach opcode state rule)
      ↔ ((in_range s ≡ true) × FirstBreach s opcode state rule)
  -- "an admitted store then never hangs: it comes back to fetch in exactly as many cycles as its
  -- walk has states, never above 16, or stops with refusal 1 to 4 and registers and memory as at
  -- that fetch", unless the budget ends first
  pub runs : (s : Store) (m : MachineState) (budget : ℕ) → Taken check s m budget
      → Runs s m budget (run s m budget)
