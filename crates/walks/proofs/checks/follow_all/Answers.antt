-- One walk more is followed, charged, and looked through where it is the opcode's own.
use Rattle.std.proofs.Common.{◌≡◌, ◌&&◌, ltb, false, sym, ap, ◌∙◌, arith}
use Rattle.terms.specs.Answers.{chain}
use Rattle.terms.specs.Refusals.{reply_of}
use Rattle.walks.specs.Checking.{consent_of, verdict_on}
use Rattle.walks.specs.Following.{Follows}
use Rattle.walks.specs.Walk.{walk_of, on_walk}
use Rattle.rules.specs.declared.rules.Exit.TheVariants.{Back}
use Rattle.walks.proofs.First.{try_more, try_end, reply_and}
use Rattle.walks.proofs.Meeting.{shows, met_here, met_before}
use Rattle.walks.proofs.checks.follow_all.Goals as goal
use Rattle.walks.proofs.checks.follow_all.Goals.{then-from-opcode, else-from-opcode}

pub loop-code-preserved : goal.loop-code-preserved
loop-code-preserved c =
    let s = c.args.store.now in
    let code = c.loop-code.code in
    let found = c.loop-code.reply in
    let shown : Follows s code false Back (walk_of s code) c.follow-followed.result = rw c.from.ensures at c.follow-followed.ensures in
    let on = on_walk s c.args.opcode c.args.state in
    let charged = ap reply_of c.and-reply.ensures ∙ reply_and found c.charge.result ∙ ap (λ r. chain (reply_of found) (λ _. r)) (c.charge.ensures ∙ ap consent_of shown.breach) in
    record {
      reply = try_more (verdict_on s) 64 code (reply_of found) c.loop-code-test.true charged ∙ c.loop-code.invariant.reply;
      met = elim c.if-from-opcode.branch [
        | then-from-opcode w ↦
            (let same : code ≡ c.args.opcode = sym c.from-in-loop-code.ensures ∙ w.if-from-opcode.true in
            w.met-is ∙ w.is_among-met.ensures ∙ shows s code c.args.state shown.states ∙ ap (λ o. on_walk s o c.args.state) same ∙ met_here c.args.opcode code on c.loop-code.met same)
        | else-from-opcode w ↦
            met_before c.args.opcode code on c.if-from-opcode.met (λ e. w.if-from-opcode.false (c.from-in-loop-code.ensures ∙ e)) (w.met-is ∙ c.loop-code.invariant.met)
      ];
    }

pub returns : goal.returns
returns c =
    let s = c.args.store.now in
    let last : c.loop-code.code ≡ 64 = omega arith in
    record {
      reply = sym (try_end (verdict_on s) 64 c.loop-code.code (reply_of c.loop-code.reply) c.loop-code-test.false) ∙ c.loop-code.invariant.reply;
      met = c.loop-code.invariant.met ∙ ap (λ n. ltb c.args.opcode n && on_walk s c.args.opcode c.args.state) last;
    }
