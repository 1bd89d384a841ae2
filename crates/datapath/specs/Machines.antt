-- "Latches: PC, IR, MDR, A, B, ALUOut, state number." With the register file and the image, they are the machine
-- state: all that a clock cycle reads and writes.
use Rattle.std.specs.Prelude.{Bool, List, ℕ, replicate, ◌==◌}
use Rattle.datapath.specs.declared.machine.Latches.{Latches}
use Rattle.datapath.specs.declared.machine.Machine.{Machine}

pub record MachineState : Type 0 where
  pub registers : List ℕ
  pub latches : Latches
  pub image : List ℕ

abbrev pub machine_state : List ℕ → Latches → List ℕ → MachineState
machine_state registers latches image = record { registers = registers; latches = latches; image = image }

-- a machine with an image
abbrev pub with_image : Machine → List ℕ → MachineState
with_image m image = machine_state m.registers m.latches image

-- the latches, by their numbers
abbrev pub latched : ℕ → ℕ → ℕ → ℕ → ℕ → ℕ → ℕ → Latches
latched pc ir mdr a b aluout state =
    record { pc = record { 0 = pc }; ir = ir; mdr = mdr; a = a; b = b; aluout = aluout; state = state }

-- about to fetch at address 0, with zero in every register and latch
abbrev pub at_reset : Machine
at_reset = record { registers = replicate 32 0; latches = latched 0 0 0 0 0 0 0 }

-- in state 0, about to fetch: "Instructions counted are the completed cycles that enter state 0."
abbrev pub fetching : MachineState → Bool
fetching m = m.latches.state == 0
