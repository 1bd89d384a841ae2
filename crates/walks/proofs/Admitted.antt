-- The check admits a store exactly when 12 does not apply and every walk keeps the rules, and else names the first breach.
-- Assumes nothing.
use mathlib.Core.Bool.{Bool, true, false, ◌||◌, or-false, or_assoc, false≢true}
use mathlib.Core.List.{List, [], ◌∷◌, ◌++◌}
use mathlib.Core.Logic.{◌⊎◌, inl, inr, ⊎_elim}
use mathlib.Core.Path.{◌≡◌, refl, ap, sym, ◌∙◌}
use Prim.Native.Nat.{ℕ, zero, suc, ◌+◌, ◌≤◌, ◌<◌}
use native.Mathlib.Omega.{arith}
use lib.ListN.{length, get_or-eq_default}
use Rattle.microcode.specs.Sequencing.{word_of}
use Rattle.microcode.specs.Stores.{in_range}
use Rattle.microcode.specs.declared.stores.Store.{Store}
use Rattle.terms.proofs.Answers.{picked, order}
use Rattle.terms.specs.Answers.{pick}
use Rattle.walks.specs.Admission.{written_in, KeepRules, AllKeep, FirstBreach, Admission}
use Rattle.walks.specs.Checking.{Verdict, range, admitted, breach, or_else, first_from, kept, lowest, rules_at, verdict_at, verdict_in, verdict_on, checking}
use Rattle.rules.specs.Rules.{writes}
use Rattle.walks.specs.Walk.{Visit, walk_of}
use Rattle.walks.proofs.Ordered.{both_admit, one_breaks, each_admits, all_admit, Found, first_found, found_first}

-- At a state: the lowest rule.

module _ (opcode state : ℕ) (l : List Bool) where
  abbrev judged : ℕ → Verdict
  judged rule = pick (kept l rule) admitted (breach opcode state rule)

  admits_kept : (rule : ℕ) → judged rule ≡ admitted → kept l rule ≡ true
  admits_kept rule h = ⊎_elim (λ g. g.0) (λ g. absurd (let e = g.1 in let z : ◌≡◌ {A = ℕ} 0 1 = cc in omega arith)) (picked (kept l rule) h)

  breaks_rule : (rule o t r : ℕ) → judged rule ≡ breach o t r → (opcode ≡ o) × (state ≡ t) × (rule ≡ r) × (kept l rule ≡ false)
  breaks_rule rule o t r h = ⊎_elim (λ g. absurd (let e = g.1 in let z : ◌≡◌ {A = ℕ} 0 1 = cc in omega arith)) (λ g. let e = g.1 in (cc, cc, cc, g.0)) (picked (kept l rule) h)

-- the six rules, by their numbers
module _ (opcode state : ℕ) (l : List Bool) (six : length l ≡ 6) where
  no_seventh : (rule : ℕ) → 7 ≤ rule → kept l rule ≡ true
  no_seventh rule h = get_or-eq_default (true ∷ l) true {n = rule} (omega arith)

  lowest_admits : lowest opcode state l ≡ admitted → (rule : ℕ) → kept l rule ≡ true
  lowest_admits h zero = refl
  lowest_admits h (suc rule) = by (order (suc rule) 7)
    where
      by : (suc rule < 7) ⊎ ((suc rule ≡ 7) ⊎ (7 < suc rule)) → kept l (suc rule) ≡ true
      by (inl g) = admits_kept opcode state l (suc rule) (each_admits (judged opcode state l) 1 6 h (suc rule) (omega arith) g)
      by (inr (inl g)) = no_seventh (suc rule) (omega arith)
      by (inr (inr g)) = no_seventh (suc rule) (omega arith)

  admits_lowest : ((rule : ℕ) → kept l rule ≡ true) → lowest opcode state l ≡ admitted
  admits_lowest h = all_admit (judged opcode state l) 1 6 (λ k a b. rw (h k))

  lowest_breaks : (o t r : ℕ) → lowest opcode state l ≡ breach o t r → (opcode ≡ o) × (state ≡ t) × (kept l r ≡ false) × ((q : ℕ) → q < r → kept l q ≡ true)
  lowest_breaks o t r h =
      let f = first_found (judged opcode state l) 1 6 h in
      let p = breaks_rule opcode state l f.at o t r f.found in
      (p.0, p.1, rw p.2 at p.3, λ q g. lower f q (rw p.2 g))
    where
      lower : (f : Found (judged opcode state l) 1 6 o t r) (q : ℕ) → q < f.at → kept l q ≡ true
      lower f zero g = refl
      lower f (suc q) g = admits_kept opcode state l (suc q) (f.lower (suc q) (omega arith) g)

  breaks_lowest : (r : ℕ) → kept l r ≡ false → ((q : ℕ) → q < r → kept l q ≡ true) → lowest opcode state l ≡ breach opcode state r
  breaks_lowest zero h lower = absurd (false≢true (sym h))
  breaks_lowest (suc r) h lower =
      found_first (judged opcode state l) 1 6 (suc r) (omega arith) (below (order (suc r) 7)) (λ q a b. rw (lower q b)) (rw h)
    where
      below : (suc r < 7) ⊎ ((suc r ≡ 7) ⊎ (7 < suc r)) → suc r < 7
      below (inl g) = g
      below (inr (inl g)) = absurd (false≢true (sym h ∙ no_seventh (suc r) (omega arith)))
      below (inr (inr g)) = absurd (false≢true (sym h ∙ no_seventh (suc r) (omega arith)))

-- On a walk: the first state.

module _ (s : Store) (o : ℕ) where
  abbrev word : Visit → ℕ
  word v = word_of s.words v.state

  none_at : (a b : List Visit) (v : Visit) (w : Bool) → verdict_in s o w (a ++ (v ∷ b)) ≡ admitted → verdict_at s o (w || written_in s a) v ≡ admitted
  unfolding verdict_in written_in
  none_at [] b v w h = rw (or-false w) (both_admit (verdict_at s o w v) (verdict_in s o (w || writes (word v)) b) h).0
  none_at (u ∷ a) b v w h =
      rw (← or_assoc w (writes (word u)) (written_in s a))
      (none_at a b v (w || writes (word u)) (both_admit (verdict_at s o w u) (verdict_in s o (w || writes (word u)) (a ++ (v ∷ b))) h).1)

  none_in : (vs : List Visit) (w : Bool) → ((a b : List Visit) (v : Visit) → vs ≡ a ++ (v ∷ b) → verdict_at s o (w || written_in s a) v ≡ admitted) → verdict_in s o w vs ≡ admitted
  unfolding verdict_in written_in
  none_in [] w h = refl
  none_in (u ∷ vs) w h =
      let here : verdict_at s o w u ≡ admitted = rw (or-false w) at (h [] vs u refl) in
      rw here (none_in vs (w || writes (word u)) (λ a b v e. rw (or_assoc w (writes (word u)) (written_in s a)) (h (u ∷ a) b v (ap (λ l. u ∷ l) e))))

  keep_admits : (vs : List Visit) → KeepRules s vs → verdict_in s o false vs ≡ admitted
  keep_admits vs h = none_in vs false (λ a b v e. admits_lowest o v.state (rules_at s (written_in s a) v) refl (h a b v e))

  admits_keep : (vs : List Visit) → verdict_in s o false vs ≡ admitted → KeepRules s vs
  admits_keep vs h a b v e = lowest_admits o v.state (rules_at s (written_in s a) v) refl (none_at a b v false (sym (ap (verdict_in s o false) e) ∙ h))

  -- the first breach on a walk stands after states that break nothing
  record Parted (w : Bool) (vs : List Visit) (p u q : ℕ) : Type 0 where
    earlier : List Visit
    visit : Visit
    later : List Visit
    split : vs ≡ earlier ++ (visit ∷ later)
    before : verdict_in s o w earlier ≡ admitted
    found : verdict_at s o (w || written_in s earlier) visit ≡ breach p u q

  parted_in : (vs : List Visit) (w : Bool) (p u q : ℕ) → verdict_in s o w vs ≡ breach p u q → Parted w vs p u q
  unfolding verdict_in written_in
  parted_in [] w p u q h = absurd (let z : ◌≡◌ {A = ℕ} 0 1 = cc in omega arith)
  parted_in (x ∷ vs) w p u q h = by (one_breaks (verdict_at s o w x) (verdict_in s o (w || writes (word x)) vs) h) (parted_in vs (w || writes (word x)) p u q)
    where
      by : (verdict_at s o w x ≡ breach p u q) ⊎ ((verdict_at s o w x ≡ admitted) × (verdict_in s o (w || writes (word x)) vs ≡ breach p u q)) → (verdict_in s o (w || writes (word x)) vs ≡ breach p u q → Parted (w || writes (word x)) vs p u q) → Parted w (x ∷ vs) p u q
      by (inl e) more = record { earlier = []; visit = x; later = vs; split = refl; before = refl; found = rw (or-false w) e }
      by (inr e) more =
          let f = more e.1 in
          record {
            earlier = x ∷ f.earlier;
            visit = f.visit;
            later = f.later;
            split = ap (λ l. x ∷ l) f.split;
            before = rw e.0 f.before;
            found = rw (← or_assoc w (writes (word x)) (written_in s f.earlier)) f.found;
          }

  in_parted : (a b : List Visit) (v : Visit) (w : Bool) (p u q : ℕ) → verdict_in s o w a ≡ admitted → verdict_at s o (w || written_in s a) v ≡ breach p u q → verdict_in s o w (a ++ (v ∷ b)) ≡ breach p u q
  unfolding verdict_in written_in
  in_parted [] b v w p u q h e = rw (rw (or-false w) at e)
  in_parted (x ∷ a) b v w p u q h e =
      let g = both_admit (verdict_at s o w x) (verdict_in s o (w || writes (word x)) a) h in
      rw g.0 (in_parted a b v (w || writes (word x)) p u q g.1 (rw (or_assoc w (writes (word x)) (written_in s a)) e))

-- No walk is out of range.

not_range_or : (a b : Verdict) → (a ≡ range → ⊥) → (b ≡ range → ⊥) → or_else a b ≡ range → ⊥
not_range_or range b p q h = p refl
not_range_or admitted b p q h = q h
not_range_or (breach o t r) b p q h = p h

not_range_first : (f : ℕ → Verdict) → ((k : ℕ) → f k ≡ range → ⊥) → (i n : ℕ) → first_from i n f ≡ range → ⊥
unfolding first_from
not_range_first f p i zero h = let z : ◌≡◌ {A = ℕ} 0 1 = cc in omega arith
not_range_first f p i (suc n) h = not_range_or (f i) (first_from (suc i) n f) (p i) (not_range_first f p (suc i) n) h

not_range_rule : (b : Bool) (o t r : ℕ) → pick b admitted (breach o t r) ≡ range → ⊥
not_range_rule true o t r h = let z : ◌≡◌ {A = ℕ} 0 1 = cc in omega arith
not_range_rule false o t r h = let z : ◌≡◌ {A = ℕ} 0 1 = cc in omega arith

not_range_walk : (s : Store) (o : ℕ) (vs : List Visit) (w : Bool) → verdict_in s o w vs ≡ range → ⊥
unfolding verdict_in
not_range_walk s o [] w h = let z : ◌≡◌ {A = ℕ} 0 1 = cc in omega arith
not_range_walk s o (v ∷ vs) w h =
    not_range_or (verdict_at s o w v) (verdict_in s o (w || writes (word_of s.words v.state)) vs)
    (not_range_first (judged o v.state (rules_at s w v)) (λ rule. not_range_rule (kept (rules_at s w v) rule) o v.state rule) 1 6)
    (not_range_walk s o vs (w || writes (word_of s.words v.state))) h

-- On the walks of all 64 opcodes.

module _ (s : Store) where
  all_keep : first_from 0 64 (verdict_on s) ≡ admitted → AllKeep s
  all_keep h opcode g = admits_keep s opcode (walk_of s opcode) (each_admits (verdict_on s) 0 64 h opcode (omega arith) (omega arith))

  keep_all : AllKeep s → first_from 0 64 (verdict_on s) ≡ admitted
  keep_all h = all_admit (verdict_on s) 0 64 (λ k a b. keep_admits s k (walk_of s k) (h k (omega arith)))

  breach_found : (opcode state rule : ℕ) → first_from 0 64 (verdict_on s) ≡ breach opcode state rule → FirstBreach s opcode state rule
  breach_found opcode state rule h =
      let f = first_found (verdict_on s) 0 64 h in
      let g = parted_in s f.at (walk_of s f.at) false opcode state rule f.found in
      let p = lowest_breaks f.at g.visit.state (rules_at s (written_in s g.earlier) g.visit) refl opcode state rule g.found in
      let n : f.at ≡ opcode = p.0 in
      let b : f.at < 0 + 64 = f.below in
      record {
        one_of_64 = omega arith;
        lower_opcodes = λ o a. admits_keep s o (walk_of s o) (f.lower o (omega arith) (omega arith));
        earlier = g.earlier;
        visit = g.visit;
        later = g.later;
        on_walk = ap (walk_of s) (sym n) ∙ g.split;
        at_state = p.1;
        earlier_states = admits_keep s f.at g.earlier g.before;
        lower_rules = p.3;
        broken = p.2;
      }

  found_breach : (opcode state rule : ℕ) → FirstBreach s opcode state rule → first_from 0 64 (verdict_on s) ≡ breach opcode state rule
  found_breach opcode state rule f =
      let n : opcode < 64 = f.one_of_64 in
      let low : verdict_at s opcode (written_in s f.earlier) f.visit ≡ breach opcode f.visit.state rule = breaks_lowest opcode f.visit.state (rules_at s (written_in s f.earlier) f.visit) refl rule f.broken f.lower_rules in
      found_first (verdict_on s) 0 64 opcode (omega arith) (omega arith) (λ k a b. keep_admits s k (walk_of s k) (f.lower_opcodes k b))
      (ap (verdict_in s opcode false) f.on_walk ∙ in_parted s opcode f.earlier f.later f.visit false opcode state rule (keep_admits s opcode f.earlier f.earlier_states) (low ∙ ap (λ t. breach opcode t rule) f.at_state))

  -- how the check came out
  checked : {v : Verdict} → checking s ≡ v → ((in_range s ≡ true) × (first_from 0 64 (verdict_on s) ≡ v)) ⊎ ((in_range s ≡ false) × (range ≡ v))
  unfolding checking
  checked h = picked (in_range s) h

  out_of_range : in_range s ≡ false → checking s ≡ range
  unfolding checking
  out_of_range h = rw h

  checks : {v : Verdict} → in_range s ≡ true → first_from 0 64 (verdict_on s) ≡ v → checking s ≡ v
  unfolding checking
  checks h e = rw h e

  in_walks : first_from 0 64 (verdict_on s) ≡ range → ⊥
  in_walks = not_range_first (verdict_on s) (λ o. not_range_walk s o (walk_of s o) false) 0 64

pub admission : Admission
admission =
    record {
      ranges = λ s. (
        λ h. ⊎_elim (λ g. absurd (in_walks s g.1)) (λ g. g.0) (checked s h),
        out_of_range s,
      );
      admits = λ s. (
        λ h. ⊎_elim (λ g. (g.0, all_keep s g.1)) (λ g. absurd (let e = g.1 in let z : ◌≡◌ {A = ℕ} 0 1 = cc in omega arith)) (checked s h),
        λ h. checks s h.0 (keep_all s h.1),
      );
      names = λ s opcode state rule. (
        λ h. ⊎_elim (λ g. (g.0, breach_found s opcode state rule g.1)) (λ g. absurd (let e = g.1 in let z : ◌≡◌ {A = ℕ} 0 1 = cc in omega arith)) (checked s h),
        λ h. checks s h.0 (found_breach s opcode state rule h.1),
      );
      one = λ s opcode state rule o t r f g.
          let e : breach opcode state rule ≡ breach o t r = sym (found_breach s opcode state rule f) ∙ found_breach s o t r g in
          (cc, cc, cc);
    }

-- an admitted store, state by state: what a walk's first state keeps, and that the rest breaks nothing
pub admitted_on : (s : Store) → checking s ≡ admitted → (opcode : ℕ) → opcode < 64 → verdict_on s opcode ≡ admitted
admitted_on s h opcode g = keep_admits s opcode (walk_of s opcode) (((admission.admits s).0 h).1 opcode g)

module _ (s : Store) (o : ℕ) (w : Bool) (v : Visit) (vs : List Visit) (h : verdict_in s o w (v ∷ vs) ≡ admitted) where
  head_tail : (verdict_at s o w v ≡ admitted) × (verdict_in s o (w || writes (word_of s.words v.state)) vs ≡ admitted)
  unfolding verdict_in
  head_tail = both_admit (verdict_at s o w v) (verdict_in s o (w || writes (word_of s.words v.state)) vs) h

  pub head_keeps : (rule : ℕ) → kept (rules_at s w v) rule ≡ true
  head_keeps = lowest_admits o v.state (rules_at s w v) refl head_tail.0

  pub tail_keeps : verdict_in s o (w || writes (word_of s.words v.state)) vs ≡ admitted
  tail_keeps = head_tail.1
