-- The signals that a control word asserts, by name.
use Rattle.std.specs.Prelude.{ℕ, Bool, List, ◌==◌}
use Rattle.signals.specs.Signals as of
use Rattle.terms.specs.Answers.{pick}
use Rattle.page.specs.Numbers.{decimal}
use Rattle.page.specs.Pages.{Page, put, write, ascii}

-- a signal of one bit, after a blank, where it is set
unfoldable pub one : Bool → List ℕ → Page → Page
one on name p = pick on (write name (put 32 p)) p

-- a signal of two bits with its value after `=`, where that is not 0
unfoldable pub two : ℕ → List ℕ → Page → Page
two value name p = pick (value == 0) p (decimal value (put 61 (write name (put 32 p))))

-- bits 17 to 14, 13 to 9 and 8 to 2
unfoldable pub upper_signals : ℕ → Page → Page
upper_signals w p =
    one (of.mem_read w) (ascii "MemRead")
    (one (of.ior_d w) (ascii "IorD")
    (one (of.pc_write_cond w) (ascii "PCWriteCond") (one (of.pc_write w) (ascii "PCWrite") p)))

unfoldable pub middle_signals : ℕ → Page → Page
middle_signals w p =
    two (of.pc_source w) (ascii "PCSource")
    (one (of.memto_reg w) (ascii "MemtoReg")
    (one (of.ir_write w) (ascii "IRWrite") (one (of.mem_write w) (ascii "MemWrite") p)))

unfoldable pub lower_signals : ℕ → Page → Page
lower_signals w p =
    one (of.reg_dst w) (ascii "RegDst")
    (one (of.reg_write w) (ascii "RegWrite")
    (one (of.alu_src_a w) (ascii "ALUSrcA")
    (two (of.alu_src_b w) (ascii "ALUSrcB") (two (of.alu_op w) (ascii "ALUOp") p))))

-- all of them, with AddrCtl where the control is a sequencer
unfoldable pub asserted : ℕ → Bool → Page → Page
asserted w sequenced p =
    let shown = lower_signals w (middle_signals w (upper_signals w p)) in
    pick sequenced (two (of.addr_ctl w) (ascii "AddrCtl") shown) shown
