-- Inside the crate: a cycle taken apart, as the code does it: what it decides, and what carrying that out makes of
-- the machine.
use Rattle.std.specs.Prelude.{List, ℕ, length, slice_index, slice_set, Option, Some, None, Result, Ok, Err}
use Rattle.parts.specs.Registers.{read_of, written}
use Rattle.parts.specs.Image.{bad_number}
use Rattle.parts.specs.declared.image.BadAddress.{BadAddress}
use Rattle.terms.specs.Answers.{No, no, Answer, answered, refused, pick, chain}
use Rattle.terms.specs.Refusals.{no_at}
use Rattle.words.specs.Fields.{rs, rt}
use Rattle.datapath.specs.Cycle.{address, access_kind, access, operating}
use Rattle.datapath.specs.Cycle.{next_pc, next_mdr, next_ir, destination, entered}
use Rattle.datapath.specs.Machines.{MachineState, machine_state, latched}
use Rattle.signals.specs.Signals.{mem_write, memto_reg, reg_write}
use Rattle.datapath.specs.declared.cycle.Control.{Control}
use Rattle.datapath.specs.declared.effects.Effect.{Effect}
use Rattle.datapath.specs.declared.effects.Fault.TheVariants as Fault'
use Rattle.datapath.specs.declared.effects.Fault.{Fault}
use Rattle.datapath.specs.declared.machine.Latches.{Latches}
use Rattle.datapath.specs.declared.memory.Port.{Port}

-- memory's port: the word accessed, and MDR and IR as the cycle leaves them
pub record Shown : Type 0 where
  pub word : ℕ
  pub mdr : ℕ
  pub ir : ℕ

abbrev pub shown : ℕ → Latches → List ℕ → ℕ → Shown
shown w l image k =
    record { word = k; mdr = next_mdr w l (slice_index image k); ir = next_ir w l (slice_index image k) }

abbrev pub latching : ℕ → Latches → List ℕ → ℕ → Answer Shown
latching w l image k = answered (shown w l image k)

abbrev pub showing : ℕ → Latches → List ℕ → Answer Shown
showing w l image = chain (access w l (length image)) (λ k. latching w l image k)

-- what the port shows, or why memory does not take the access
abbrev pub shown_as : Port → Shown
shown_as p = record { word = p.word.0; mdr = p.mdr; ir = p.ir }

abbrev pub port_as : ℕ → Latches → Result Port BadAddress → Answer Shown
port_as w l (Ok p) = answered (shown_as p)
port_as w l (Err b) = refused (no_at (bad_number b) (address w l) (access_kind w))

-- the latches, and the whole effect, at the end of a cycle
abbrev pub latches_after : ℕ → Latches → List ℕ → ℕ → ℕ → ℕ → ℕ → Latches
latches_after w l cells mdr ir result state =
    latched (next_pc w result l) ir mdr (read_of cells (rs l.ir)) (read_of cells (rt l.ir)) result state

abbrev pub effect_after : ℕ → Latches → List ℕ → ℕ → ℕ → ℕ → ℕ → ℕ → Effect
effect_after w l cells k mdr ir result state =
    record {
      latches = latches_after w l cells mdr ir result state;
      register = pick (reg_write w) (destination w l.ir) 0;
      value = pick (memto_reg w) l.mdr l.aluout;
      stores = mem_write w;
      word = record { 0 = k };
      stored = l.b;
    }

-- what an effect makes of register file and image
abbrev pub carried_out : Effect → List ℕ → List ℕ → MachineState
carried_out e cells image =
    machine_state
    (written cells e.register e.value)
    e.latches
    (pick e.stores (slice_set image e.word.0 e.stored) image)

-- what a decision says, under a control word and at the latches of the cycle's start
abbrev pub fault_of : ℕ → Latches → Fault → No
fault_of w l (Fault'.Address b) = no_at (bad_number b) (address w l) (access_kind w)
fault_of w l Fault'.UnknownFunction = no 4
fault_of w l Fault'.NoEntry = no 3

-- the ALU's result, or 4; the state entered, or 3
abbrev pub operated_as : Option ℕ → Answer ℕ
operated_as (Some v) = answered v
operated_as None = refused (no 4)

abbrev pub entered_as : Option ℕ → Answer ℕ
entered_as (Some s) = answered s
entered_as None = refused (no 3)

abbrev pub decision_as : ℕ → Latches → Result Effect Fault → Answer Effect
decision_as w l (Ok e) = answered e
decision_as w l (Err f) = refused (fault_of w l f)

-- the decision, refusal by refusal
abbrev pub deciding : Control → Latches → List ℕ → List ℕ → Answer Effect
deciding c l cells image =
    chain (showing c.word l image) (λ shown.
    chain (operating c.word l) (λ result.
    chain (entered c.next) (λ state.
    answered (effect_after c.word l cells shown.word shown.mdr shown.ir result state))))
