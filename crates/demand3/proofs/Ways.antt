-- Ways through cycles: away from fetch, and back to it.
-- Assumes nothing.
use mathlib.Core.Bool.{Bool, true, false}
use mathlib.Core.List.{List, [], ◌∷◌, ◌++◌}
use mathlib.Core.Path.{◌≡◌, refl, sym, ap, subst, ◌∙◌}
use Prim.Native.Nat.{ℕ, zero, suc, ◌+◌, ◌-◌, ◌≤◌, ◌<◌}
use native.Mathlib.Omega.{arith}
use lib.ListN.{length, length-replicate, length-append}
use Rattle.datapath.specs.Machines.{MachineState, fetching}
use Rattle.microcode.specs.Sequencing.{store_cycle}
use Rattle.microcode.specs.declared.stores.Store.{Store}
use Rattle.walks.specs.Walk.{walk_from}
use Rattle.terms.proofs.Going.{ended, go_on}
use Rattle.terms.specs.Answers.{answered}
use Rattle.terms.specs.Going.{here, then}
use Rattle.demand3.specs.Instructions.{walk_length, away, back, Passes, Completes, none, one, lengths}

-- every walk has a state
pub walk_some : (s : Store) (o : ℕ) → 1 ≤ walk_length s o
unfolding walk_from
walk_some s o = omega arith

pub back_more : (n : ℕ) → 1 ≤ n → back (suc n) ≡ false ∷ back n
back_more n h =
    let a : suc n - 1 ≡ suc (n - 1) = omega arith in
    ap (λ k. away k ++ (true ∷ [])) a

pub back_length : (n : ℕ) → 1 ≤ n → length (back n) ≡ n
back_length n h =
    let a = length-append (away (n - 1)) (true ∷ []) in
    let b = length-replicate (n - 1) false in
    omega (arith, a, b)

-- how many instructions end on a way
pub ended_more : (p q : List Bool) → ended (λ b. b) (p ++ q) ≡ ended (λ b. b) p + ended (λ b. b) q
ended_more [] q = omega arith
ended_more (b ∷ p) q = let e = ended_more p q in omega (arith, e)

pub ended_away : (n : ℕ) → ended (λ b. b) (away n) ≡ 0
ended_away zero = refl
ended_away (suc n) = let e = ended_away n in omega (arith, e)

ended_back : (n : ℕ) → ended (λ b. b) (back n) ≡ 1
ended_back n = let a = ended_more (away (n - 1)) (true ∷ []) in let b = ended_away (n - 1) in omega (arith, a, b)

away_more : (b n : ℕ) → b ≤ n → away n ≡ away b ++ away (n - b)
away_more zero n h = let e : n ≡ n - 0 = omega arith in ap away e
away_more (suc b) zero h = absurd (omega arith)
away_more (suc b) (suc n) h =
    let e : n - b ≡ suc n - suc b = omega arith in
    ap (λ l. false ∷ l) (away_more b n (omega arith) ∙ ap (λ k. away b ++ away k) e)

module _ (s : Store) where
  -- a cycle away from fetch, and one back to it
  pub step_away : {path : List Bool} {m mid end : MachineState} → store_cycle s m ≡ answered mid → fetching mid ≡ false → Passes s path mid end → Passes s (false ∷ path) m end
  step_away {path} {m} {mid} {end} e f g = subst (λ b. Passes s (b ∷ path) m end) f (then e g)

  pub step_back : {m end : MachineState} → store_cycle s m ≡ answered end → fetching end ≡ true → Passes s (back 1) m end
  step_back {m} {end} e f = subst (λ b. Passes s (b ∷ []) m end) f (then e here)

  -- what is seen last is seen of the end
  no_way : {p : List Bool} {m end : MachineState} → Passes s p m end → p ≡ [] → m ≡ end
  no_way here h = refl
  no_way (then e g) h = let z : ◌≡◌ {A = ℕ} 0 1 = cc in absurd (omega arith)

  pub last_seen : {p : List Bool} {b : Bool} {m end : MachineState} → Passes s p m end → p ≡ b ∷ [] → fetching end ≡ b
  last_seen here h = let z : ◌≡◌ {A = ℕ} 0 1 = cc in absurd (omega arith)
  last_seen {b = b} (then {path = path} {mid = mid} e g) h =
      let rest : path ≡ [] = cc in
      let seen : fetching mid ≡ b = cc in
      ap fetching (sym (no_way g rest)) ∙ seen

  -- part of a way
  pub parted : (p : List Bool) {q : List Bool} {m end : MachineState} → Passes s (p ++ q) m end → (mid : MachineState) × Passes s p m mid × Passes s q mid end
  parted [] {m = m} g = (m, here, g)
  parted (b ∷ p) (then e g) = let r = parted p g in (r.0, then e r.1, r.2)

  -- fewer cycles of a way are away from fetch
  pub away_part : {n : ℕ} {m end : MachineState} (b : ℕ) → b ≤ n → Passes s (away n) m end → (now : MachineState) × Passes s (away b) m now
  away_part {n} {m} {end} b h g = let r = parted (away b) (subst (λ p. Passes s p m end) (away_more b n h) g) in (r.0, r.1)

  pub back_part : {n : ℕ} {m end : MachineState} (b : ℕ) → b < n → Passes s (back n) m end → (now : MachineState) × Passes s (away b) m now
  back_part {n} {m} {end} b h g = let r = parted (away (n - 1)) g in away_part {n = n - 1} b (omega arith) r.1

  -- the way of completed instructions
  abbrev pub trail : List ℕ → List Bool
  trail [] = []
  trail (o ∷ opcodes) = back (walk_length s o) ++ trail opcodes

  pub completes_passes : {opcodes : List ℕ} {m end : MachineState} → Completes s opcodes m end → Passes s (trail opcodes) m end
  completes_passes none = here
  completes_passes (one word e way short rest) = go_on (store_cycle s) fetching way (completes_passes rest)

  pub trail_length : (opcodes : List ℕ) → length (trail opcodes) ≡ lengths s opcodes
  unfolding lengths
  trail_length [] = refl
  trail_length (o ∷ opcodes) =
      let a = length-append (back (walk_length s o)) (trail opcodes) in
      let b = back_length (walk_length s o) (walk_some s o) in
      let c = trail_length opcodes in
      omega (arith, a, b, c)

  pub trail_ended : (opcodes : List ℕ) → ended (λ b. b) (trail opcodes) ≡ length opcodes
  trail_ended [] = refl
  trail_ended (o ∷ opcodes) =
      let a = ended_more (back (walk_length s o)) (trail opcodes) in
      let b = ended_back (walk_length s o) in
      let c = trail_ended opcodes in
      omega (arith, a, b, c)
