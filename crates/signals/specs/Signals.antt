-- "Word bits 17 to 2, in order: PCWrite, PCWriteCond, IorD, MemRead, MemWrite, IRWrite, MemtoReg, PCSource (2),
-- ALUOp (2), ALUSrcB (2), ALUSrcA, RegWrite, RegDst. Bits 1-0: AddrCtl."
use Rattle.std.specs.Prelude.{Bool, ℕ, ◌/◌, ◌%◌, ◌^◌, ◌==◌}
use Rattle.terms.specs.Answers.{pick}

abbrev pub bit : ℕ → ℕ → Bool
bit w k = w / 2 ^ k % 2 == 1

abbrev pub two_bits : ℕ → ℕ → ℕ
two_bits w k = w / 2 ^ k % 4

abbrev pub pc_write : ℕ → Bool
pc_write w = bit w 17

abbrev pub pc_write_cond : ℕ → Bool
pc_write_cond w = bit w 16

abbrev pub ior_d : ℕ → Bool
ior_d w = bit w 15

abbrev pub mem_read : ℕ → Bool
mem_read w = bit w 14

abbrev pub mem_write : ℕ → Bool
mem_write w = bit w 13

abbrev pub ir_write : ℕ → Bool
ir_write w = bit w 12

abbrev pub memto_reg : ℕ → Bool
memto_reg w = bit w 11

abbrev pub pc_source : ℕ → ℕ
pc_source w = two_bits w 9

abbrev pub alu_op : ℕ → ℕ
alu_op w = two_bits w 7

abbrev pub alu_src_b : ℕ → ℕ
alu_src_b w = two_bits w 5

abbrev pub alu_src_a : ℕ → Bool
alu_src_a w = bit w 4

abbrev pub reg_write : ℕ → Bool
reg_write w = bit w 3

abbrev pub reg_dst : ℕ → Bool
reg_dst w = bit w 2

abbrev pub addr_ctl : ℕ → ℕ
addr_ctl w = w % 4

-- one of four, by a number of two bits
abbrev pub one_of {ℓ} : {A : Type ℓ} → ℕ → A → A → A → A → A
one_of n a b c d = pick (n == 0) a (pick (n == 1) b (pick (n == 2) c d))
