-- What is shown of a state and of the rest of its walk is shown of both.
use Rattle.std.proofs.Common.{◌≡◌, ℕ, ◌||◌, ◌<◌, false, refl, sym, ap, ◌∙◌, subst, set}
use Rattle.microcode.specs.Sequencing.{store_gives}
use Rattle.walks.specs.Following.{count}
use Rattle.walks.specs.declared.following.Seen.{Seen}
use Rattle.walks.proofs.Stepping.{fewer, onward_enters, not_onward, follows_last, follows_next}
use Rattle.walks.proofs.following.+follow_from.Goals as goal

pub returns-in_default : goal.returns-in_default
returns-in_default t c =
    let s = c.args.store.now in
    follows_last s c.args.opcode c.args.unentered c.args.written c.args.state c.requires c.nothing.result c.visit.result
    (ap (λ (g : Seen). g.word) c.see-seen.ensures) (ap (λ (g : Seen). g.exit) c.see-seen.ensures) c.visit.ensures
    (not_onward c.see-seen.result.exit c.in_default.not-Onward) c.nothing.ensures

pub follow_from-rest-requires : goal.follow_from-rest-requires
follow_from-rest-requires t c =
    let s = c.args.store.now in
    let left : c.see-seen.result.left ≡ set c.args.unentered c.args.state false = ap (λ (g : Seen). g.left) c.see-seen.ensures in
    let exit = ap (λ (g : Seen). g.exit) c.see-seen.ensures in
    rw left (
      subst (λ (n : ℕ). count (set c.args.unentered c.args.state false) < n) c.decreases (fewer s c.args.opcode c.args.unentered c.args.state c.requires),
      onward_enters (set c.args.unentered c.args.state false) (store_gives s c.args.state c.args.opcode).next (sym exit ∙ c.in-Onward.is),
    )

pub returns : goal.returns
returns t c =
    let s = c.args.store.now in
    let left : c.see-seen.result.left ≡ set c.args.unentered c.args.state false = ap (λ (g : Seen). g.left) c.see-seen.ensures in
    follows_next s c.args.opcode c.args.unentered c.args.written c.args.state c.requires c.follow_from-rest.result c.visit-2.result
    (ap (λ (g : Seen). g.word) c.see-seen.ensures) (sym c.in-Onward.is ∙ ap (λ (g : Seen). g.exit) c.see-seen.ensures) c.visit-2.ensures
    refl (ap (λ b. c.args.written || b) c.writes.ensures) (rw left at c.follow_from-rest.ensures)
