-- A walk state by state: the number of unentered states falls, and what is shown of a state and of the rest is shown of both.
-- Assumes nothing.
use mathlib.Core.Bool.{Bool, true, false, ◌||◌, false≢true}
use mathlib.Core.List.{List, [], ◌∷◌}
use mathlib.Core.Logic.{⊎_elim}
use mathlib.Core.Path.{◌≡◌, refl, ap, sym, ◌∙◌}
use Prim.Native.Nat.{ℕ, zero, suc, ◌<◌}
use native.Mathlib.Nat.{le_refl}
use native.Mathlib.Omega.{arith}
use lib.Dec.{eqb, ltb}
use lib.ListN.{get_or, set, replicate}
use Rattle.microcode.specs.Sequencing.{word_of, store_gives}
use Rattle.microcode.specs.declared.stores.Store.{Store}
use Rattle.terms.proofs.Answers.{picked, both_true}
use Rattle.walks.specs.Checking.{verdict_in}
use Rattle.walks.specs.Following.{count, walking, Visits, Follows}
use Rattle.rules.specs.Rules.{writes}
use Rattle.walks.specs.Walk.{may_enter, exit_to, Visit, visit, on_from, walk_from, states_of, end_of}
use Rattle.std.specs.Prelude.{None}
use Rattle.rules.specs.declared.rules.Exit.TheVariants.{Onward, Back, Missing, Barred}
use Rattle.rules.specs.declared.rules.Exit.{Exit}
use Rattle.walks.specs.declared.following.Followed.{Followed}
use Rattle.walks.proofs.Padding.{put_before}

-- a state that is entered is one less to enter
pub count_enter : (unentered : List Bool) (state : ℕ) → get_or unentered state false ≡ true → count unentered ≡ suc (count (set unentered state false))
count_enter [] state h = absurd (false≢true h)
count_enter (true ∷ l) zero h = refl
count_enter (false ∷ l) zero h = absurd (false≢true h)
count_enter (true ∷ l) (suc k) h = ap suc (count_enter l k h)
count_enter (false ∷ l) (suc k) h = count_enter l k h

-- a state that a walk goes on to may be entered
pub onward_enters : (unentered : List Bool) (next : ℕ) {t : ℕ} → exit_to unentered next ≡ Onward t → may_enter unentered t ≡ true
onward_enters unentered next {t} e =
    ⊎_elim (λ h. absurd (let p = h.1 in let z : ◌≡◌ {A = ℕ} 0 1 = cc in omega arith)) (λ h.
    ⊎_elim (λ g. absurd (let p = g.1 in let z : ◌≡◌ {A = ℕ} 0 1 = cc in omega arith)) (λ g.
    ⊎_elim (λ k. let p = k.1 in let q : next ≡ t = cc in rw q at k.0) (λ k. absurd (let p = k.1 in let z : ◌≡◌ {A = ℕ} 0 1 = cc in omega arith))
    (picked (may_enter unentered next) g.1))
    (picked (eqb next 0) h.1))
    (picked (eqb next 255) e)

-- a walk that does not go on has no further state
pub not_onward : (x : Exit) → ((t : ℕ) → x ≡ Onward t → ⊥) → (from : ℕ → List Visit) → on_from x from ≡ []
not_onward (Onward t) h from = absurd (h t refl)
not_onward Back h from = refl
not_onward Missing h from = refl
not_onward Barred h from = refl

module _ (s : Store) (opcode : ℕ) (unentered : List Bool) (state : ℕ) (enters : may_enter unentered state ≡ true) where
  counted : count unentered ≡ suc (count (set unentered state false))
  counted = count_enter unentered state (both_true (ltb state 16) (get_or unentered state false) enters).1

  pub fewer : count (set unentered state false) < count unentered
  fewer = rw counted (le_refl (suc (count (set unentered state false))))

  pub walk_visit : walking s opcode unentered state ≡ visit s opcode unentered state ∷ on_from (visit s opcode unentered state).exit (λ next. walking s opcode (set unentered state false) next)
  unfolding walk_from
  walk_visit = rw counted

  -- how it leaves the last of its states is its own
  pub own_end : (written : Bool) (exit : Exit) (r : Followed) → Follows s opcode written Back (walking s opcode unentered state) r → Follows s opcode written exit (walking s opcode unentered state) r
  own_end written exit r f =
      record { breach = f.breach; states = f.states; end = f.end ∙ ap (end_of Back) walk_visit ∙ sym (ap (end_of exit) walk_visit) }

-- a state and the rest, from what the code has of them
module _ (s : Store) (opcode : ℕ) (unentered : List Bool) (written : Bool) (state : ℕ) (enters : may_enter unentered state ≡ true) (rest r : Followed) where
  abbrev v : Visit
  v = visit s opcode unentered state

  abbrev from : ℕ → List Visit
  from next = walking s opcode (set unentered state false) next

  abbrev word : ℕ
  word = word_of s.words state

  follows_on : Visits state word written v.exit rest r → Follows s opcode (written || writes word) v.exit (on_from v.exit from) rest → Follows s opcode written Back (walking s opcode unentered state) r
  unfolding verdict_in
  follows_on shown f =
      let walked = walk_visit s opcode unentered state enters in
      record {
        breach = shown.breach opcode ∙ rw (f.breach, walked);
        states = shown.states ∙ rw (f.states, walked) (put_before state (states_of (on_from v.exit from)));
        end = shown.end ∙ f.end ∙ rw walked;
      }

  module _ {given : ℕ} {exit : Exit} (is_word : given ≡ word) (is_exit : exit ≡ v.exit) (shown : Visits state given written exit rest r) where
    -- no further state shows nothing
    pub follows_last : ((from : ℕ → List Visit) → on_from exit from ≡ []) → rest ≡ record { breach = None; walk = record { states = replicate 16 255; end = exit } } → Follows s opcode written Back (walking s opcode unentered state) r
    unfolding verdict_in
    follows_last none e =
        let later : on_from v.exit from ≡ [] = ap (λ x. on_from x from) (sym is_exit) ∙ none from in
        follows_on (rw (is_word, is_exit) at shown) (rw (later, e) (record { breach = refl; states = refl; end = is_exit }))

    pub follows_next : {next : ℕ} {since : Bool} → exit ≡ Onward next → since ≡ (written || writes given) → Follows s opcode since Back (walking s opcode (set unentered state false) next) rest → Follows s opcode written Back (walking s opcode unentered state) r
    follows_next {next} {since} e w f =
        let later : on_from v.exit from ≡ from next = ap (λ x. on_from x from) (sym is_exit ∙ e) in
        let may : may_enter (set unentered state false) next ≡ true = onward_enters (set unentered state false) (store_gives s state opcode).next (sym is_exit ∙ e) in
        let f' : Follows s opcode (written || writes word) Back (from next) rest = rw (w, is_word) at f in
        follows_on (rw (is_word, is_exit) at shown) (rw later (own_end s opcode (set unentered state false) next may (written || writes word) v.exit rest f'))
