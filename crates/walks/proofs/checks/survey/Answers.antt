-- The ranges come before the walks; the state was looked for on the way, or on its own walk.
use Rattle.std.proofs.Common.{ap, ◌∙◌, ltb}
use Rattle.terms.specs.Answers.{no, refused, pick}
use Rattle.terms.specs.Refusals.{yes, reply_of}
use Rattle.walks.proofs.First.{check_reply, reply_and}
use Rattle.walks.proofs.Meeting.{met_all}
use Rattle.walks.proofs.checks.survey.Goals as goal

pub returns : goal.returns
returns c =
    let range = c.only_if-ranged.ensures ∙ ap (λ b. pick b yes (refused (no 12))) c.in_range.ensures in
    let ranged = c.only_if-ranged.result in
    let walked = c.follow_all-walked.result.reply in
    record {
      reply = check_reply c.args.store.now ranged walked c.and-reply.result range c.follow_all-walked.ensures.reply (ap reply_of c.and-reply.ensures ∙ reply_and ranged walked);
      met = met_all (ltb c.args.opcode 64) c.follow_all-walked.ensures.met c.on_walk-met.ensures;
    }
