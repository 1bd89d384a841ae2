-- The table of a run: its head, a row a cycle, and its last lines.
use Rattle.std.specs.Prelude.{ℕ, ◌+◌, ◌%◌, ◌^◌, Bool, List, ◌==◌}
use Rattle.datapath.specs.Cycle.{address, destination}
use Rattle.signals.specs.Signals as of
use Rattle.datapath.specs.declared.machine.Latches.{Latches}
use Rattle.parts.specs.Image.{reading}
use Rattle.parts.specs.Registers.{read_of}
use Rattle.terms.specs.Answers.{pick, fold}
use Rattle.terms.specs.Counts.{word_at}
use Rattle.terms.specs.Refusals.{outcome_of, end_number}
use Rattle.terms.specs.declared.refusals.Outcome.{Outcome}
use Rattle.terms.specs.declared.refusals.Refusal.{Refusal}
use Rattle.names.specs.Controls.{asserted}
use Rattle.meanings.specs.Meanings.{refusal_text}
use Rattle.names.specs.Mnemonics.{register, instruction_text}
use Rattle.page.specs.Numbers.{decimal, hex, places}
use Rattle.page.specs.Pages.{Page, put, say, up_to}
use Rattle.screen.specs.declared.rows.Cycle.{Cycle}

-- the two lines over the table
unfoldable pub head : Page → Page
head p =
    say "           signals asserted\n"
    (say "ALUOut   instruction in IR    register        memory\n"
    (say "  cycle st PC       IR       MDR      A        B        " p))

-- a word in its column, after a blank
unfoldable pub column : ℕ → Page → Page
column w p = hex w (put 32 p)

unfoldable pub latch_columns : Latches → Page → Page
latch_columns l p =
    column l.aluout
    (column l.b (column l.a (column l.mdr (column l.ir (column l.pc.0 p)))))

-- what a register took; a write to register 0 is dropped
unfoldable pub taken : ℕ → List ℕ → Page → Page
taken number cells p =
    pick (number == 0)
    (say " dropped" (register number p))
    (hex (read_of cells number) (say " = " (register number p)))

-- the word at an address, and what it holds
unfoldable pub held : ℕ → List ℕ → Page → Page
held at image p =
    let word = decimal (word_at at) (say "word " p) in
    fold (λ value. hex value (say " = " word)) (λ _. word) (reading image at)

-- the column at a place after a row's start
abbrev pub column_at : ℕ → ℕ → ℕ
column_at start width = (start + width) % 2 ^ 64

-- what the cycle wrote, in its columns
unfoldable pub register_column : ℕ → ℕ → ℕ → List ℕ → Page → Page
register_column start w ir cells p =
    pick (of.reg_write w) (taken (destination w ir) cells (up_to (column_at start 86) p)) p

unfoldable pub memory_column : ℕ → ℕ → Latches → List ℕ → Page → Page
memory_column start w l image p =
    pick (of.mem_write w) (held (address w l) image (up_to (column_at start 102) p)) p

-- the number of a cycle, and the state that it is in
unfoldable pub stage : ℕ → ℕ → Page → Page
stage number state p = places 2 state (put 32 (places 7 number p))

-- the line of signals below a cycle
unfoldable pub signal_line : ℕ → Bool → Page → Page
signal_line w sequenced p =
    let from = say "          " p in
    let shown = asserted w sequenced from in
    pick (shown.place == from.place) (say " none\n" shown) (put 10 shown)

-- the row of a cycle that was done, with its line of signals
unfoldable pub row : Cycle → List ℕ → List ℕ → Page → Page
row c cells image p =
    signal_line c.word c.sequenced
    (put 10
    (memory_column p.place c.word c.before image
    (register_column p.place c.word c.before.ir cells
    (instruction_text c.after.ir
    (put 32 (latch_columns c.after (stage c.number.0 c.before.state p)))))))

-- the row of a cycle that was refused
unfoldable pub refused : Cycle → Refusal → Page → Page
refused c refusal p =
    signal_line c.word c.sequenced
    (put 10 (refusal_text refusal (say " refused with " (stage c.number.0 c.before.state p))))

-- a run as `bench` prints it
unfoldable pub totals : ℕ → ℕ → Outcome → ℕ → Page → Page
totals cycles instructions outcome pc p =
    decimal pc
    (put 32 (decimal (end_number (outcome_of outcome)) (put 32 (decimal instructions (put 32 (decimal cycles p))))))
