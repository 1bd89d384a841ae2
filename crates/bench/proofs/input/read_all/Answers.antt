use Rattle.std.proofs.Common.{◌≡◌, ◌+◌, ◌-◌, length-take-le, take-take, length-take, length-drop, ◌∙◌, arith}
use Rattle.std.proofs.KnownBytes.{Consumes-trans}
use Rattle.bench.proofs.Kept.{read_more, room_kept, front_kept, held_full, held_ended}
use Rattle.bench.proofs.input.read_all.Goals as goal
use Rattle.bench.proofs.input.read_all.Goals.{else-loop-held-test, then-loop-held-test+in_ok-n+then-n-eq0}

pub loop-held-preserved : goal.loop-held-preserved
loop-held-preserved g c =
    let some = c.in_ok-n.ensures.bound.0 in
    let h = c.loop-held in
    let k = h.held + 4096 - h.held in
    let size = room_kept h.held k h.room c.read.new.buf (omega arith) c.read.auto.buf in
    record {
      room = size ∙ h.invariant.room;
      within = rw size omega (arith, simp (length-take, length-drop) at c.read.auto.buf);
      taken =
          rw (read_more h.held c.in_ok-n.n k h.room c.read.new.buf h.invariant.within some)
          (Consumes-trans _ _ _ _ _ h.invariant.taken c.in_ok-n.ensures.bytes.0);
    }

pub returns : goal.returns
returns g c = elim c.loop-held-test.branch [
  | else-loop-held-test w ↦
      let full : c.min.result ≡ 577 = omega arith in
      let h = c.loop-held in
      let size = length-take-le h.held h.room h.invariant.within in
      rw (w.room-is, full, ← take-take 577 h.held h.room w.loop-held-test.false)
      (held_full _ _ _ h.invariant.taken (rw size w.loop-held-test.false))
  | then-loop-held-test+in_ok-n+then-n-eq0 w ↦
      let h = c.loop-held in
      let all : c.min.result ≡ h.held = omega arith in
      let none = rw w.if-n-eq0.true at w.in_ok-n.ensures.bytes.0 in
      let size = simp (length-take, length-drop) at w.read.auto.buf in
      rw (w.room-is, all, front_kept h.held (h.held + 4096 - h.held) h.room w.read.new.buf h.invariant.within)
      (held_ended _ _ _ _ h.invariant.taken none (w.in_ok-n.ensures.bytes.1 w.if-n-eq0.true (omega arith))
      (simp length-take (omega arith)))
]
