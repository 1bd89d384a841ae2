-- No second answer, store or buffer meets the promises of `read_file` and `write_file`.
-- Assumes nothing.
use Rattle.std.proofs.Common.{List, ap, ℕ}
use Rattle.terms.specs.Answers.{OneAnswer, OneWith}
use Rattle.terms.proofs.One.{one_value, result_one, reply_one}
use Rattle.storefile.specs.File.{FileWritten, ReadsFile, WritesFile}
use Rattle.microcode.specs.declared.stores.Store.{Store}

pub read_file_one : (bytes : List ℕ) → OneAnswer (ReadsFile bytes)
read_file_one bytes = result_one

pub write_file_one : (store : Store) (buffer : List ℕ) → OneWith (WritesFile store buffer)
write_file_one store buffer r s a b p q = (
  reply_one r s (ap (λ (x : FileWritten). x.answer) p) (ap (λ (x : FileWritten). x.answer) q),
  one_value (ap (λ (x : FileWritten). x.buffer) p) (ap (λ (x : FileWritten). x.buffer) q),
)
