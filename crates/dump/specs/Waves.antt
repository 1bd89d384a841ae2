-- A run as a value change dump (IEEE 1364).
use Rattle.std.specs.Prelude.{ℕ, Bool, true, not, Option, None, Some, List, [], ◌∷◌, replicate, ◌==◌}
use Rattle.std.specs.Option.{option_map}
use Rattle.signals.specs.Signals as of
use Rattle.datapath.specs.declared.machine.Latches.{Latches}
use Rattle.terms.specs.Answers.{pick}
use Rattle.terms.specs.Counts.{one_more}
use Rattle.names.specs.Mnemonics.{instruction_text}
use Rattle.page.specs.Numbers.{decimal, bits}
use Rattle.page.specs.Pages.{Page, page, put, say}
use Rattle.dump.specs.declared.values.Change.{Change}
use Rattle.dump.specs.declared.waves.Sample.{Sample}

-- each name with its width and the letter that stands for it
unfoldable pub latch_names : Page → Page
latch_names p =
    say "$var reg 160 t instruction $end\n"
    (say "$var reg 32 b B $end\n$var reg 32 o ALUOut $end\n"
    (say "$var reg 32 m MDR $end\n$var reg 32 a A $end\n"
    (say "$var reg 32 p PC $end\n$var reg 32 i IR $end\n"
    (say "$var wire 1 c clock $end\n$var reg 4 s state $end\n"
    (say "$timescale 1 ns $end\n$scope module machine $end\n" p)))))

unfoldable pub signal_names : Page → Page
signal_names p =
    say "$var wire 1 M RegDst $end\n"
    (say "$var wire 1 K ALUSrcA $end\n$var wire 1 L RegWrite $end\n"
    (say "$var wire 2 I ALUOp $end\n$var wire 2 J ALUSrcB $end\n"
    (say "$var wire 1 G MemtoReg $end\n$var wire 2 H PCSource $end\n"
    (say "$var wire 1 E MemWrite $end\n$var wire 1 F IRWrite $end\n"
    (say "$var wire 1 C IorD $end\n$var wire 1 D MemRead $end\n"
    (say "$var wire 1 A PCWrite $end\n$var wire 1 B PCWriteCond $end\n" p))))))

unfoldable pub address_control : Bool → Page → Page
address_control sequenced p = pick sequenced (say "$var wire 2 N AddrCtl $end\n" p) p

unfoldable pub declarations : Bool → Page → Page
declarations sequenced p =
    say "$upscope $end\n$enddefinitions $end\n" (address_control sequenced (signal_names (latch_names p)))

-- the change of what is read of a value
abbrev pub mapped : {A B : Type 0} → (A → B) → Change A → Change B
mapped read change = record { old = option_map read change.old; new = read change.new }

-- whether a value is written: at the start, or where it is another than before
abbrev pub is_new : Option ℕ → ℕ → Bool
is_new None new = true
is_new (Some old) new = not (old == new)

-- a value of some bits, after `b`, 98
unfoldable pub vector : Change ℕ → ℕ → ℕ → Page → Page
vector change width letter p =
    pick (is_new change.old change.new) (put 10 (put letter (put 32 (bits width change.new (put 98 p))))) p

abbrev pub level : Bool → ℕ
level on = pick on 1 0

-- a signal of one bit
unfoldable pub wire : Change Bool → ℕ → Page → Page
wire change letter p =
    let shown = mapped level change in
    pick (is_new shown.old shown.new) (put 10 (put letter (bits 1 shown.new p))) p

unfoldable pub octets : List ℕ → Page → Page
octets [] p = p
octets (byte ∷ bytes) p = octets bytes (bits 8 byte p)

-- the text of an instruction, as the bits of 20 bytes
unfoldable pub spelled : Change ℕ → Page → Page
spelled change p =
    pick (is_new change.old change.new)
    (say " t\n" (octets (instruction_text change.new (page (replicate 20 32) 0)).bytes (put 98 p)))
    p

unfoldable pub fetch_changes : Change Latches → Page → Page
fetch_changes change p =
    vector (mapped (λ (l : Latches). l.mdr) change) 32 109
    (vector (mapped (λ (l : Latches). l.ir) change) 32 105
    (vector (mapped (λ (l : Latches). l.pc.0) change) 32 112
    (vector (mapped (λ (l : Latches). l.state) change) 4 115 p)))

unfoldable pub latch_changes : Change Latches → Page → Page
latch_changes change p =
    spelled (mapped (λ (l : Latches). l.ir) change)
    (vector (mapped (λ (l : Latches). l.aluout) change) 32 111
    (vector (mapped (λ (l : Latches). l.b) change) 32 98
    (vector (mapped (λ (l : Latches). l.a) change) 32 97 (fetch_changes change p))))

-- the letters `A` to `N` are 65 to 78
unfoldable pub upper_changes : Change ℕ → Page → Page
upper_changes word p =
    wire (mapped of.mem_read word) 68
    (wire (mapped of.ior_d word) 67 (wire (mapped of.pc_write_cond word) 66 (wire (mapped of.pc_write word) 65 p)))

unfoldable pub middle_changes : Change ℕ → Page → Page
middle_changes word p =
    vector (mapped of.pc_source word) 2 72
    (wire (mapped of.memto_reg word) 71 (wire (mapped of.ir_write word) 70 (wire (mapped of.mem_write word) 69 p)))

unfoldable pub alu_changes : Change ℕ → Page → Page
alu_changes word p =
    wire (mapped of.alu_src_a word) 75 (vector (mapped of.alu_src_b word) 2 74 (vector (mapped of.alu_op word) 2 73 p))

unfoldable pub lower_changes : Change ℕ → Bool → Page → Page
lower_changes word sequenced p =
    let shown = wire (mapped of.reg_dst word) 77 (wire (mapped of.reg_write word) 76 p) in
    pick sequenced (vector (mapped of.addr_ctl word) 2 78 shown) shown

-- all of them, with AddrCtl where it is shown
abbrev pub signal_changes : Change ℕ → Bool → Page → Page
signal_changes word sequenced p =
    lower_changes word sequenced (alu_changes word (middle_changes word (upper_changes word p)))

-- what is new in a sample
unfoldable pub news : Change Sample → Page → Page
news change p =
    signal_changes (mapped (λ (s : Sample). s.word) change) change.new.sequenced
    (latch_changes (mapped (λ (s : Sample). s.latches) change) p)

-- the names, and all that stands before the first clock
unfoldable pub opening : Sample → Page → Page
opening sample p =
    say "$end\n#5\n0c\n"
    (news (record { old = None; new = sample }) (say "#0\n$dumpvars\n1c\n" (declarations sample.sequenced p)))

-- a time: some tens, and a last digit
unfoldable pub time : ℕ → ℕ → Page → Page
time tens last p = put 10 (put last (decimal tens (put 35 p)))

-- the clock that ends a cycle, and what changes at it; 48 is `0`, 53 `5`
unfoldable pub changes : ℕ → Sample → Sample → Page → Page
changes done old new p =
    say "0c\n" (time done 53 (news (record { old = Some old; new = new }) (say "1c\n" (time done 48 p))))

unfoldable pub closing : ℕ → Page → Page
closing done p = time (one_more done) 48 p
