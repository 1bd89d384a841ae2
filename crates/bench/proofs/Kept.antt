-- Bytes that are read one part after another, as far as there is room.
-- Assumes nothing.
use Rattle.std.proofs.Common.{List, ◌++◌, [], append-nil, ◌≡◌, sym, ap, ◌∙◌, ℕ, ◌+◌, ◌≤◌, length, take, take_all, length-take-le, length-append, length-take, length-drop, IfSome, Option, Some, None, arith}
use Rattle.std.specs.Io.KnownBytes.{Consumes, IsAtEnd}
use Rattle.std.proofs.KnownBytes.{Consumes-trans}
use Rattle.std.proofs.Math.Seq.{take-append-add}
use Rattle.std.proofs.lemmas.List.{take-append-le}
use Rattle.std.proofs.lemmas.Slice.{take-put_mid_below}
use borrow.Rule.Slice.PartMut.{put_mid, mid_of}
use Rattle.bench.specs.Texts.{Held}

-- n bytes more
pub read_more : (held n k : ℕ) (room part : List ℕ) → held ≤ length room → n ≤ length part → take (held + n) (put_mid held k room part) ≡ take held room ++ take n part
read_more held n k room part h g =
    let m = length-take-le held room h in
    let at : held + n ≡ length (take held room) + n = omega arith in
    rw (at, take-append-add (take held room) _ n, take-append-le n part _ g)

-- the text is full: it is the first 577 of what has come
pub held_full : (given left : Option (List ℕ)) (come : List ℕ) → Consumes given left come → 577 ≤ length come → Held given (take 577 come)
held_full given left come taken full = record { within = rw (length-take-le 577 come full) omega arith; first = by given left taken }
  where
    by : (given left : Option (List ℕ)) → Consumes given left come → IfSome given (λ bytes. take 577 come ≡ take 577 bytes)
    by None left taken = tt
    by (Some bytes) None taken = absurd taken
    by (Some bytes) (Some more) taken = sym (ap (take 577) taken ∙ take-append-le 577 come more full)

-- the reader has ended: its last read brought none
pub held_ended : (given mid left : Option (List ℕ)) (text : List ℕ) → Consumes given mid text → Consumes mid left [] → IsAtEnd left → length text ≤ 577 → Held given text
held_ended given mid left text taken none ended short = record {
  within = short;
  first = by given left (Consumes-trans given mid left text [] taken none) ended;
}
  where
    by : (given left : Option (List ℕ)) → Consumes given left (text ++ []) → IsAtEnd left → IfSome given (λ bytes. text ≡ take 577 bytes)
    by None left taken ended = tt
    by (Some bytes) None taken ended = absurd taken
    by (Some bytes) (Some more) taken ended =
        sym (ap (take 577) (rw (append-nil text, ended, append-nil text) at taken) ∙ take_all 577 text short)

-- the room keeps its length
pub room_kept : (held k : ℕ) (room part : List ℕ) → held + k ≤ length room → length part ≡ length (mid_of held k room) → length (put_mid held k room part) ≡ length room
room_kept held k room part h p = simp (length-append, length-take, length-drop) (let q = simp (length-take, length-drop) at p in omega arith)

-- and its front
pub front_kept : (held k : ℕ) (room part : List ℕ) → held ≤ length room → take held (put_mid held k room part) ≡ take held room
front_kept held k room part h = take-put_mid_below held k room part held (omega arith) h
