-- No second answer meets the promises of `decode` and `encode`.
-- Assumes nothing.
use Rattle.std.proofs.Common.{◌≡◌, ℕ, eqb, List, [], ◌∷◌, Result, Ok, Err, sym, refl, ap}
use Rattle.terms.specs.Answers.{pick, OneAnswer}
use Rattle.terms.proofs.One.{one_answer, result_one, Made, of_value, of_refusal}
use Rattle.words.specs.Decoding.{Decodes, decoded_as, instruction_as}
use Rattle.words.specs.Encoding.{Encodes}
use Rattle.terms.specs.declared.refusals.Refusal.{Refusal}
use Rattle.words.specs.declared.instructions.Instruction.TheVariants.{Add, Sub, And, Or, Slt, Lw, Sw, Beq, Jump}
use Rattle.words.specs.declared.instructions.Instruction.{Instruction}

-- an instruction is known by its numbers
instruction_from : List ℕ → Instruction
instruction_from (o ∷ rs ∷ rt ∷ rd ∷ f ∷ more) =
    pick (eqb f 32) (Add rd rs rt)
    (pick (eqb f 34) (Sub rd rs rt) (pick (eqb f 36) (And rd rs rt) (pick (eqb f 37) (Or rd rs rt) (Slt rd rs rt))))
instruction_from (o ∷ rs ∷ rt ∷ field ∷ []) =
    pick (eqb o 35) (Lw rt rs field) (pick (eqb o 43) (Sw rt rs field) (Beq rs rt field))
instruction_from (o ∷ rs ∷ rt ∷ []) = Jump 0
instruction_from (o ∷ field ∷ []) = Jump field
instruction_from (o ∷ []) = Jump 0
instruction_from [] = Jump 0

instruction_undone : (i : Instruction) → instruction_from (instruction_as i) ≡ i
unfolding instruction_from
instruction_undone (Add rd rs rt) = refl
instruction_undone (Sub rd rs rt) = refl
instruction_undone (And rd rs rt) = refl
instruction_undone (Or rd rs rt) = refl
instruction_undone (Slt rd rs rt) = refl
instruction_undone (Lw rt rs field) = refl
instruction_undone (Sw rt rs field) = refl
instruction_undone (Beq rs rt field) = refl
instruction_undone (Jump field) = refl

pub decode_one : (w : ℕ) → OneAnswer (Decodes w)
decode_one w = one_answer decoded_as (λ l. Ok (instruction_from l)) Err made
  where
    made : (x : Result Instruction Refusal) → Made decoded_as (λ l. Ok (instruction_from l)) Err x
    made (Ok i) = of_value (instruction_as i) (ap Ok (sym (instruction_undone i))) refl
    made (Err r) = of_refusal r refl refl

pub encode_one : (i : Instruction) → OneAnswer (Encodes i)
encode_one i = result_one
