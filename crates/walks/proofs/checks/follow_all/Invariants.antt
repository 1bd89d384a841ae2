-- What is found so far, and else what the walks of the opcodes left break, is what all 64 break; the state is met where
-- the opcode was tried and its walk has it.
use Rattle.std.proofs.Common.{◌≡◌, ◌-◌, ◌&&◌, ltb}
use Rattle.terms.specs.Answers.{chain}
use Rattle.terms.specs.Refusals.{reply_of}
use Rattle.walks.specs.Checking.{consent_of, first_from, verdict_on}
use Rattle.walks.specs.Walk.{on_walk}
use Rattle.walks.proofs.checks.follow_all.Given as goal

abbrev pub invariant-loop-code : goal.invariant-loop-code
invariant-loop-code l = record {
  reply :
      chain (reply_of l.reply) (λ _. consent_of (first_from l.code (64 - l.code) (verdict_on l.store)))
      ≡ consent_of (first_from 0 64 (verdict_on l.store));
  met : l.met ≡ (ltb l.opcode l.code && on_walk l.store l.opcode l.state);
}
