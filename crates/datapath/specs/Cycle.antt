-- "One clock cycle": what a control word makes of the machine. "All reads use values at the start of the cycle; all
-- writes land at its end."
use Rattle.std.specs.Prelude.{Bool, ◌&&◌, ◌||◌, List, [], ◌∷◌, ℕ, ◌*◌, ◌%◌, ◌^◌, length, slice_index, slice_set, ◌==◌}
use Rattle.std.specs.Int.Bits.{bit_and, bit_or}
use Rattle.parts.specs.Alu.{sum, difference, less_than}
use Rattle.parts.specs.Image.{accessing, located}
use Rattle.parts.specs.Registers.{read_of, written}
use Rattle.terms.specs.Answers.{No, no, Answer, answered, refused, pick, chain}
use Rattle.terms.specs.Refusals.{no_at}
use Rattle.terms.specs.Tables.{choose}
use Rattle.terms.specs.declared.refusals.AccessKind.TheVariants.{Fetch, Load, Store}
use Rattle.terms.specs.declared.refusals.AccessKind.{AccessKind}
use Rattle.words.specs.Fields.{rs, rt, rd, function, field, target, sign_extend}
use Rattle.words.specs.Targets.{upper_and}
use Rattle.datapath.specs.Machines.{MachineState, machine_state, latched}
use Rattle.signals.specs.Signals.{pc_write, pc_write_cond, ior_d, mem_read, mem_write, ir_write, memto_reg}
use Rattle.signals.specs.Signals.{pc_source, alu_op, alu_src_b, alu_src_a, reg_write, reg_dst, one_of}
use Rattle.datapath.specs.declared.cycle.Control.{Control}
use Rattle.datapath.specs.declared.machine.Latches.{Latches}

-- "Memory address: PC, or ALUOut if IorD."
abbrev pub address : ℕ → Latches → ℕ
address w l = pick (ior_d w) l.aluout l.pc.0

-- "A read with IRWrite is a fetch, any other a load"; a cycle with MemWrite makes a store
abbrev pub access_kind : ℕ → AccessKind
access_kind w = pick (mem_write w) Store (pick (ir_write w) Fetch Load)

-- the word of the image that the cycle reads or writes, or 1 or 2 with the address and the kind; a cycle without
-- MemRead and MemWrite uses none
abbrev pub access : ℕ → Latches → ℕ → Answer ℕ
access w l words =
    pick (mem_read w || mem_write w)
    (located (address w l) (access_kind w) (accessing words (address w l)))
    (answered 0)

-- "ALU first input: PC, or A if ALUSrcA."
abbrev pub first : ℕ → Latches → ℕ
first w l = pick (alu_src_a w) l.a l.pc.0

-- "Second by ALUSrcB: 0 B, 1 the constant 4, 2 sign-extended field, 3 that times four."
abbrev pub second : ℕ → ℕ → ℕ → ℕ
second w b extended = one_of (alu_src_b w) b 4 extended (extended * 4 % 2 ^ 32)

-- "function 32 add, 34 sub, 36 and, 37 or, 42 slt"; 4 unknown function
abbrev pub function_results : ℕ → ℕ → List (ℕ × Answer ℕ)
function_results x y =
    (32, answered (sum x y))
    ∷ (34, answered (difference x y))
    ∷ (36, answered (bit_and x y))
    ∷ (37, answered (bit_or x y))
    ∷ (42, answered (less_than x y))
    ∷ []

unfoldable pub function_result : ℕ → ℕ → ℕ → Answer ℕ
function_result f x y = choose (function_results x y) (refused (no 4)) f

-- "ALUOp 0 adds, 1 subtracts, 2 goes by function, the low eleven bits of the starting IR."
abbrev pub operations : ℕ → ℕ → List (ℕ × Answer ℕ)
operations x y = (0, answered (sum x y)) ∷ (1, answered (difference x y)) ∷ []

unfoldable pub operation : ℕ → ℕ → ℕ → ℕ → Answer ℕ
operation op f x y = choose (operations x y) (function_result f x y) op

-- the ALU result, or 4
abbrev pub operating : ℕ → Latches → Answer ℕ
operating w l =
    operation (alu_op w) (function l.ir) (first w l) (second w l.b (sign_extend (field l.ir)))

-- "PC is written if PCWrite, or if PCWriteCond and the ALU result is 0."
abbrev pub pc_written : ℕ → ℕ → Bool
pc_written w result = pc_write w || (pc_write_cond w && result == 0)

-- "PCSource: 0 ALU result, 1 ALUOut, 2 jump target from the current PC."
abbrev pub pc_taken : ℕ → ℕ → Latches → ℕ
pc_taken w result l =
    one_of (pc_source w) result l.aluout (upper_and l.pc.0 (target l.ir)) (upper_and l.pc.0 (target l.ir))

abbrev pub next_pc : ℕ → ℕ → Latches → ℕ
next_pc w result l = pick (pc_written w result) (pc_taken w result l) l.pc.0

-- "MemRead puts the word in MDR, also in IR if IRWrite; without MemRead both keep their values."
abbrev pub next_mdr : ℕ → Latches → ℕ → ℕ
next_mdr w l word = pick (mem_read w) word l.mdr

abbrev pub next_ir : ℕ → Latches → ℕ → ℕ
next_ir w l word = pick (mem_read w && ir_write w) word l.ir

-- "register rt, or rd if RegDst"
abbrev pub destination : ℕ → ℕ → ℕ
destination w ir = pick (reg_dst w) (rd ir) (rt ir)

-- "RegWrite: register rt, or rd if RegDst, takes ALUOut, or MDR if MemtoReg."
abbrev pub write_back : ℕ → Latches → List ℕ → List ℕ
write_back w l registers =
    pick (reg_write w)
    (written registers (destination w l.ir) (pick (memto_reg w) l.mdr l.aluout))
    registers

-- "MemWrite stores B."
abbrev pub stored : ℕ → Latches → ℕ → List ℕ → List ℕ
stored w l k image = pick (mem_write w) (slice_set image k l.b) image

-- the machine at the end of the cycle, from the word k that it accessed, the ALU result and the next state: "A and B
-- take registers rs and rt of the starting IR, every cycle. ALUOut takes the ALU result, every cycle."
abbrev pub after : ℕ → MachineState → ℕ → ℕ → ℕ → MachineState
after w m k result state =
    machine_state
    (write_back w m.latches m.registers)
    (latched
    (next_pc w result m.latches)
    (next_ir w m.latches (slice_index m.image k))
    (next_mdr w m.latches (slice_index m.image k))
    (read_of m.registers (rs m.latches.ir))
    (read_of m.registers (rt m.latches.ir))
    result
    state)
    (stored w m.latches k m.image)

-- the next state that a control gives; 3 opcode without an entry at a dispatch
abbrev pub entered : ℕ → Answer ℕ
entered next = pick (next == 255) (refused (no 3)) (answered next)

-- "Within a cycle: 1, 2, 4, 3."
unfoldable pub cycle : Control → MachineState → Answer MachineState
cycle c m =
    chain (access c.word m.latches (length m.image)) (λ k.
    chain (operating c.word m.latches) (λ result.
    chain (entered c.next) (λ state. answered (after c.word m k result state))))

-- what a clock cycle can refuse: 1 and 2 at any address, of a fetch, a load or a store; 3; 4
pub data Refusable : No → Type 0 where
  misaligned : (address w : ℕ) → Refusable (no_at 1 address (access_kind w))
  outside : (address w : ℕ) → Refusable (no_at 2 address (access_kind w))
  no_entry : Refusable (no 3)
  no_function : Refusable (no 4)
