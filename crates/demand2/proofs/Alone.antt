-- The single-cycle machine alone: the instructions that it does, at what they cost, and what its runs say of them.
-- Assumes nothing.
use mathlib.Core.Bool.{Bool, true, false}
use mathlib.Core.Path.{◌≡◌, refl, ap, sym, subst, ◌∙◌}
use Prim.Native.Nat.{ℕ, zero, suc, ◌+◌, ◌≤◌, ◌<◌}
use native.Mathlib.Nat.{add-zero, zero-add}
use native.Mathlib.Numerals.{one-add, add-one}
use native.Mathlib.Omega.{arith}
use lib.ListN.{length}
use Rattle.parts.specs.Image.{sized}
use Rattle.single.specs.Instruction.{instruction}
use Rattle.single.specs.Running.{single_run}
use Rattle.single.specs.Visible.{Visible}
use Rattle.single.proofs.Instructions.{fetched_and_done}
use Rattle.terms.specs.Answers.{No, no, Answer, answered, refused, fold}
use Rattle.terms.specs.Counts.{allowed}
use Rattle.terms.specs.Refusals.{spent, stopped}
use Rattle.terms.specs.Running.{Ran, ran, onto, running}
use Rattle.terms.proofs.Answers.{value_of}
use Rattle.terms.proofs.Running.{onto_onto, onto_none, run_none, run_done, run_refused, same_ran}
use Rattle.words.specs.Kinds.{kind_of}
use Rattle.words.specs.declared.kinds.Kind.TheVariants.{Add, Sub, And, Or, Slt, Lw, Sw, Beq, Jump, NoOpcode, NoFunction}
use Rattle.words.specs.declared.kinds.Kind.{Kind}
use Rattle.demand2.specs.Paths.{path_of, path_at, cost_from}

-- what an instruction costs
abbrev pub cost : Visible → ℕ
cost s = length (path_at s)

some_cost_of : (k : Kind) → 1 ≤ length (path_of k)
some_cost_of Add = omega arith
some_cost_of Sub = omega arith
some_cost_of And = omega arith
some_cost_of Or = omega arith
some_cost_of Slt = omega arith
some_cost_of Lw = omega arith
some_cost_of Sw = omega arith
some_cost_of Beq = omega arith
some_cost_of Jump = omega arith
some_cost_of NoOpcode = omega arith
some_cost_of NoFunction = omega arith

-- an instruction that is done costs something
pub some_cost : (s : Visible) {after : Visible} → instruction s ≡ answered after → 1 ≤ cost s
some_cost s e = let f = fetched_and_done s e in rw f.1 (some_cost_of (kind_of f.0))

-- n instructions, at c cycles, from s to t
pub data Does : ℕ → ℕ → Visible → Visible → Type 0 where
  none : {s : Visible} → Does 0 0 s s
  more : {n c : ℕ} {s mid t : Visible} → instruction s ≡ answered mid → Does n c mid t → Does (1 + n) (cost s + c) s t

pub some_cycles : {n c : ℕ} {s t : Visible} → Does n c s t → n ≤ c
some_cycles none = omega arith
some_cycles (more {s = s} e d) = let h = some_cycles d in let g = some_cost s e in omega arith

pub costs : {n c : ℕ} {s t : Visible} → Does n c s t → cost_from s n ≡ c
unfolding cost_from
costs none = refl
costs (more {n = n} {s = s} e d) = ap (cost_from s) (one-add n) ∙ rw e (ap (λ c. cost s + c) (costs d))

-- of two counts from one start, they are the same or one has an instruction to go that the other has done
pub data Compared (n c : ℕ) (t : Visible) (n' c' : ℕ) (t' : Visible) : Type 0 where
  same : n ≡ n' → c ≡ c' → t ≡ t' → Compared n c t n' c' t'
  fewer : {after : Visible} → n < n' → instruction t ≡ answered after → c + cost t ≤ c' → Compared n c t n' c' t'
  further : {after : Visible} → n' < n → instruction t' ≡ answered after → c' + cost t' ≤ c → Compared n c t n' c' t'

one_more_lem : (k : ℕ) {n c n' c' : ℕ} {t t' : Visible} → Compared n c t n' c' t' → Compared (1 + n) (k + c) t (1 + n') (k + c') t'
one_more_lem k (same p q r) = same (ap (λ n. 1 + n) p) (ap (λ c. k + c) q) r
one_more_lem k (fewer p e q) = fewer (omega arith) e (omega arith)
one_more_lem k (further p e q) = further (omega arith) e (omega arith)

pub compare : {n c n' c' : ℕ} {s t t' : Visible} → Does n c s t → Does n' c' s t' → Compared n c t n' c' t'
compare none none = same refl refl refl
compare none (more e d) = fewer (omega arith) e (omega arith)
compare (more e d) none = further (omega arith) e (omega arith)
compare (more {s = s} {mid = mid} e d) (more {n = n'} {c = c'} {t = t'} e' d') =
    one_more_lem (cost s) (compare d (subst (λ x. Does n' c' x t') (sym (value_of (sym e ∙ e'))) d'))

-- The instructions that a run does.

abbrev runs : ℕ → Visible → Ran Visible
runs n s = running instruction (λ _. true) n s

-- how a run of n comes out
data Account (n : ℕ) (s : Visible) (q : Ran Visible) : Type 0 where
  all_done : {c : ℕ} → Does q.instructions c s q.state → q.outcome ≡ spent → q.instructions ≡ n → Account n s q
  cut : {c : ℕ} {r : No} → Does q.instructions c s q.state → q.outcome ≡ stopped r → instruction q.state ≡ refused r → q.instructions < n → Account n s q

account : (n : ℕ) (s : Visible) → Account n s (runs n s)
unfolding running
account zero s = all_done none refl refl
account (suc n) s = by (λ after. account n after) (instruction s) refl
  where
    later : {after : Visible} (q : Ran Visible) → instruction s ≡ answered after → Account n after q → Account (suc n) s (onto 1 1 q)
    later q e (all_done d o i) = all_done (more e d) o (omega arith)
    later q e (cut d o i h) = cut (more e d) o i (omega arith)

    by : ((after : Visible) → Account n after (runs n after)) → (a : Answer Visible) → instruction s ≡ a → Account (suc n) s (fold (λ after. onto 1 1 (runs n after)) (λ r. ran (stopped r) s 0 0) a)
    by go (answered after) e = later (runs n after) e (go after)
    by go (refused r) e = cut none refl e (omega arith)

-- a run that does n instructions goes on from there
runs_on : {n c : ℕ} {s t : Visible} → Does n c s t → (left : ℕ) → runs (n + left) s ≡ onto n n (runs left t)
runs_on {s = s} none left = ap (λ k. runs k s) (zero-add left) ∙ sym (onto_none (runs left s))
runs_on (more {n = n} {s = s} {mid = mid} {t = t} e d) left =
    let k : 1 + n + left ≡ suc (n + left) = omega arith in
    ap (λ j. runs j s) k
    ∙ run_done instruction (λ _. true) (n + left) s e
    ∙ ap (onto 1 1) (runs_on d left)
    ∙ onto_onto 1 1 n n (runs left t)

-- The same of the run that the single-cycle machine promises.

module _ (s : Visible) (fits : sized (length s.image) ≡ true) where
  started : (n : ℕ) → allowed n ≡ true → single_run s n ≡ runs n s
  unfolding single_run
  started n ok = rw (fits, ok)

  spent_allowed : (n : ℕ) → (single_run s n).outcome ≡ spent → allowed n ≡ true
  unfolding single_run
  spent_allowed n o = by (allowed n) refl
    where
      by : (b : Bool) → allowed n ≡ b → allowed n ≡ true
      by true e = e
      by false e =
          let q : (single_run s n).outcome ≡ stopped (no 7) = rw (fits, e) in
          let z : ◌≡◌ {A = ℕ} 0 1 = cc in
          absurd (omega arith)

  -- what a run of n has done that is spent, or that has stopped
  pub alone_spent : (n : ℕ) → (single_run s n).outcome ≡ spent → Does n (cost_from s n) s (single_run s n).state × ((single_run s n).instructions ≡ n)
  alone_spent n o =
      subst (λ q. q.outcome ≡ spent → Does n (cost_from s n) s q.state × (q.instructions ≡ n)) (sym (started n (spent_allowed n o)))
      (by (runs n s) (account n s)) o
    where
      by : (q : Ran Visible) → Account n s q → q.outcome ≡ spent → Does n (cost_from s n) s q.state × (q.instructions ≡ n)
      by q (all_done d o i) p = let e : Does n _ s q.state = rw i at d in (rw (costs e) e, i)
      by q (cut d o i h) p = let z : ◌≡◌ {A = ℕ} 0 1 = cc in absurd (omega arith)

  pub alone_stopped : (n : ℕ) {r : No} → allowed n ≡ true → (single_run s n).outcome ≡ stopped r → Does (single_run s n).instructions (cost_from s (single_run s n).instructions) s (single_run s n).state × (instruction (single_run s n).state ≡ refused r) × ((single_run s n).instructions < n)
  alone_stopped n {r} ok o =
      subst (λ q. q.outcome ≡ stopped r → Does q.instructions (cost_from s q.instructions) s q.state × (instruction q.state ≡ refused r) × (q.instructions < n)) (sym (started n ok))
      (by (runs n s) (account n s)) o
    where
      by : (q : Ran Visible) → Account n s q → q.outcome ≡ stopped r → Does q.instructions (cost_from s q.instructions) s q.state × (instruction q.state ≡ refused r) × (q.instructions < n)
      by q (all_done d o i) p = let z : ◌≡◌ {A = ℕ} 0 1 = cc in absurd (omega arith)
      by q (cut {r = r'} d o i h) p = let e : r' ≡ r = cc in (rw (costs d) d, i ∙ ap refused e, h)

  -- and the other way round
  pub does_alone : {n c : ℕ} {t : Visible} → allowed n ≡ true → Does n c s t → single_run s n ≡ ran spent t n n
  does_alone {n} {t = t} ok d =
      started n ok ∙ ap (λ k. runs k s) (sym (add-zero n)) ∙ runs_on d 0 ∙ ap (onto n n) (run_none instruction (λ _. true) t)
      ∙ same_ran refl refl (add-zero n) (add-zero n)

  pub refused_alone : {n c : ℕ} {t : Visible} {r : No} → allowed (suc n) ≡ true → Does n c s t → instruction t ≡ refused r → single_run s (suc n) ≡ ran (stopped r) t n n
  refused_alone {n} {t = t} ok d e =
      started (suc n) ok ∙ ap (λ k. runs k s) (sym (add-one n)) ∙ runs_on d 1 ∙ ap (onto n n) (run_refused instruction (λ _. true) 0 t e)
      ∙ same_ran refl refl (add-zero n) (add-zero n)
