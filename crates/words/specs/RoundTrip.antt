-- Decoding and encoding undo each other, so that nothing but the encoded instructions decodes.
use Rattle.std.specs.Prelude.{◌≡◌, ℕ, ◌^◌, ◌<◌}
use Rattle.terms.specs.Answers.{answered}
use Rattle.words.specs.Decoding.{decoding}
use Rattle.words.specs.Encoding.{encoding}
use Rattle.words.specs.declared.instructions.Instruction.TheVariants.{Add, Sub, And, Or, Slt, Lw, Sw, Beq, Jump}
use Rattle.words.specs.declared.instructions.Instruction.{Instruction}

-- the 16-bit fields of an instruction are of 16 bits, as its type has them
abbrev pub HasWidths : Instruction → Type 0
HasWidths (Add rd rs rt) = Unit {0}
HasWidths (Sub rd rs rt) = Unit {0}
HasWidths (And rd rs rt) = Unit {0}
HasWidths (Or rd rs rt) = Unit {0}
HasWidths (Slt rd rs rt) = Unit {0}
HasWidths (Lw rt rs field) = field < 2 ^ 16
HasWidths (Sw rt rs field) = field < 2 ^ 16
HasWidths (Beq rs rt field) = field < 2 ^ 16
HasWidths (Jump field) = Unit {0}

pub record RoundTrip : Type 0 where
  -- What decodes encodes back to the same word.
  pub decoded_encodes : (w : ℕ) → w < 2 ^ 32 → (i : Instruction) → decoding w ≡ answered i
      → encoding i ≡ answered w
  -- What encodes decodes back to the same instruction.
  pub encoded_decodes : (i : Instruction) (w : ℕ) → HasWidths i → encoding i ≡ answered w
      → decoding w ≡ answered i
