-- Inside the crate: the words of the lines.
use Rattle.std.specs.Prelude.{⊤, ℕ, List, Result, Ok, Err}
use Rattle.terms.specs.Answers.{Answer, answered, refused}
use Rattle.assembler.specs.Assembling.{no_of}
use Rattle.assembler.specs.declared.answers.AssemblyError.{AssemblyError}

-- the words that were put, or the refusal
abbrev pub translated_as : Result ⊤ AssemblyError → List ℕ → Answer (List ℕ)
translated_as (Ok done) words = answered words
translated_as (Err error) words = refused (no_of error)
