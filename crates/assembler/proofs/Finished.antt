-- The words that were made, given room for them.
-- Assumes nothing.
use Rattle.std.proofs.Common.{◌≡◌, ℕ, ◌%◌, ◌^◌, ◌<◌, ◌≤◌, List, ◌++◌, length, drop, ap, ◌∙◌, mod-eq_of_lt, arith, eq-eqb, ne_eqb, le-leb}
use borrow.Author.Tests.{lt-leb}
use Rattle.std.specs.Prelude.{Ok, Err}
use Rattle.terms.specs.Answers.{answered, refused}
use Rattle.terms.specs.declared.counts.WordIndex.{WordIndex}
use Rattle.source.specs.Lines.{lines_of}
use Rattle.assembler.specs.Assembling.{no_of, words_from, assembled, Assembles}
use Rattle.assembler.specs.declared.answers.AssemblyError.TheVariants.{Misaligned, NoRoom, TooManyLines}
use Rattle.assembler.specs.declared.answers.AssemblyError.{AssemblyError}

-- the ways in which it ends
module _ (text output : List ℕ) (given : ℕ) where
  pub too_many : 4096 < length (lines_of text) → Assembles text given output (Err TooManyLines) output
  unfolding assembled
  too_many h = record {
    answers = rw (lt-leb (length (lines_of text)) 4096 h);
    leaves = rw (lt-leb (length (lines_of text)) 4096 h);
  }

  module _ (few : length (lines_of text) ≤ 4096) where
    pub misaligned : (given % 4 ≡ 0 → ⊥) → Assembles text given output (Err Misaligned) output
    unfolding assembled
    misaligned g = record {
      answers = rw (le-leb (length (lines_of text)) 4096 few, ne_eqb (given % 4) 0 g);
      leaves = rw (le-leb (length (lines_of text)) 4096 few, ne_eqb (given % 4) 0 g);
    }

    module _ (aligned : given % 4 ≡ 0) where
      pub refused_line_lem : {error : AssemblyError} → refused (no_of error) ≡ words_from given (lines_of text) (length (lines_of text)) 0 → Assembles text given output (Err error) output
      unfolding assembled
      refused_line_lem e = record {
        answers = rw (le-leb (length (lines_of text)) 4096 few, eq-eqb (given % 4) 0 aligned, ← e);
        leaves = rw (le-leb (length (lines_of text)) 4096 few, eq-eqb (given % 4) 0 aligned, ← e);
      }

      module _ {words : List ℕ} (e : answered words ≡ words_from given (lines_of text) (length (lines_of text)) 0) where
        pub no_room : length output < length words → Assembles text given output (Err NoRoom) output
        unfolding assembled
        no_room h = record {
          answers = rw (le-leb (length (lines_of text)) 4096 few, eq-eqb (given % 4) 0 aligned, ← e, lt-leb (length words) (length output) h);
          leaves = rw (le-leb (length (lines_of text)) 4096 few, eq-eqb (given % 4) 0 aligned, ← e, lt-leb (length words) (length output) h);
        }

        pub written : {index : WordIndex} {left : List ℕ} → length words ≤ length output → length words ≤ 4096 → index.0 ≡ length words % 2 ^ 32 → left ≡ words ++ drop (length words) output → Assembles text given output (Ok index) left
        unfolding assembled
        written h fits i l = record {
          answers = rw (le-leb (length (lines_of text)) 4096 few, eq-eqb (given % 4) 0 aligned, ← e, le-leb (length words) (length output) h)
              (ap (λ k. answered k) (i ∙ mod-eq_of_lt (omega arith)));
          leaves = rw (le-leb (length (lines_of text)) 4096 few, eq-eqb (given % 4) 0 aligned, ← e, le-leb (length words) (length output) h) l;
        }
