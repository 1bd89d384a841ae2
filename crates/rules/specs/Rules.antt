-- The six rules, of a state on a walk: its number, its word, whether a state before it on the walk writes, and how the
-- walk leaves it.
use Rattle.std.specs.Prelude.{Bool, true, false, ◌&&◌, ◌||◌, not, List, [], ◌∷◌, ℕ, ◌==◌}
use Rattle.signals.specs.Signals.{ior_d, mem_read, mem_write, ir_write, pc_source, alu_op, reg_write, addr_ctl}
use Rattle.terms.specs.Answers.{pick}
use Rattle.rules.specs.declared.rules.Exit.TheVariants.{Onward, Back, Missing, Barred}
use Rattle.rules.specs.declared.rules.Exit.{Exit}

abbrev pub is_missing : Exit → Bool
is_missing (Onward state) = false
is_missing Back = false
is_missing Missing = true
is_missing Barred = false

abbrev pub is_barred : Exit → Bool
is_barred (Onward state) = false
is_barred Back = false
is_barred Missing = false
is_barred Barred = true

-- "a state with RegWrite or MemWrite"
abbrev pub writes : ℕ → Bool
writes w = reg_write w || mem_write w

-- "1. State 0 has MemRead and IRWrite, not IorD, and AddrCtl 3."
unfoldable pub rule1 : ℕ → ℕ → Bool
rule1 state w = pick (state == 0) ((mem_read w && ir_write w) && (not (ior_d w) && addr_ctl w == 3)) true

-- "2. No other state on it has IRWrite."
unfoldable pub rule2 : ℕ → ℕ → Bool
rule2 state w = pick (state == 0) true (not (ir_write w))

-- "3. No state has MemRead with MemWrite."
unfoldable pub rule3 : ℕ → Bool
rule3 w = not (mem_read w && mem_write w)

-- "4. ALUOp and PCSource are never 3."
unfoldable pub rule4 : ℕ → Bool
rule4 w = not (alu_op w == 3) && not (pc_source w == 3)

-- "5. After a state with RegWrite or MemWrite, no later state has MemRead, MemWrite or ALUOp 2, or takes a missing
-- entry."
unfoldable pub rule5 : Bool → ℕ → Exit → Bool
rule5 written w exit = not (written && ((mem_read w || mem_write w) || (alu_op w == 2 || is_missing exit)))

-- "6. No state is entered twice, and state 15 never counts on.": "rule 6 is charged to the state being left"
unfoldable pub rule6 : Exit → Bool
rule6 exit = not (is_barred exit)

abbrev pub rules : ℕ → ℕ → Bool → Exit → List Bool
rules state w written exit =
    rule1 state w ∷ rule2 state w ∷ rule3 w ∷ rule4 w ∷ rule5 written w exit ∷ rule6 exit ∷ []
