-- No second answer meets the promise of `check` or of `survey`. What `walk` promises is its answer.
-- Assumes nothing.
use mathlib.Core.Path.{sym, ◌∙◌}
use Prim.Native.Nat.{ℕ}
use Rattle.microcode.specs.declared.stores.Store.{Store}
use Rattle.terms.proofs.One.{reply_one}
use Rattle.terms.specs.Answers.{OneAnswer}
use Rattle.walks.specs.Checking.{Checks, Surveys}

pub check_one : (s : Store) → OneAnswer (Checks s)
check_one s = reply_one

pub survey_one : (s : Store) (opcode state : ℕ) → OneAnswer (Surveys s opcode state)
survey_one s opcode state r q p e =
    let reply = reply_one r.reply q.reply p.reply e.reply in
    let met = p.met ∙ sym e.met in
    λ i. record { reply = reply i; met = met i }
