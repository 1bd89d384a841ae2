-- Inside the crate: a walk and the check taken apart, as the code does them.
use Rattle.std.specs.Prelude.{Bool, true, false, ◌&&◌, List, [], ◌∷◌, ◌≡◌}
use Rattle.std.specs.Prelude.{ℕ, suc, take, nat_lt, slice_set, Option, Some, None}
use Rattle.microcode.specs.Sequencing.{word_of}
use Rattle.microcode.specs.declared.stores.Store.{Store}
use Rattle.terms.specs.Refusals.{reply_of}
use Rattle.walks.specs.Checking.{Verdict, admitted, breach, consent_of, or_else}
use Rattle.walks.specs.Checking.{first_from, lowest, verdict_in, verdict_on}
use Rattle.rules.specs.Rules.{rules}
use Rattle.walks.specs.Walk.{Visit, visit, walk_from, states_of, end_of, padded, on_walk}
use Rattle.walks.specs.declared.checks.Surveyed.{Surveyed}
use Rattle.walks.specs.declared.breaches.Breach.{Breach}
use Rattle.rules.specs.declared.rules.Exit.{Exit}
use Rattle.walks.specs.declared.following.Followed.{Followed}
use Rattle.walks.specs.declared.following.Seen.{Seen}

-- the breach on the walk of an opcode
abbrev pub breach_as : ℕ → Option Breach → Verdict
breach_as opcode None = admitted
breach_as opcode (Some b) = breach opcode b.state b.rule

-- how many states are not yet entered
abbrev pub count : List Bool → ℕ
count [] = 0
count (true ∷ unentered) = suc (count unentered)
count (false ∷ unentered) = count unentered

-- the walk from a state on, with the states not yet entered
abbrev pub walking : Store → ℕ → List Bool → ℕ → List Visit
walking s opcode unentered state = walk_from (count unentered) s opcode unentered state

-- what a state on a walk gives
abbrev pub seen_of : Store → ℕ → List Bool → ℕ → Seen
seen_of s opcode unentered state =
    record {
      word = word_of s.words state;
      left = slice_set unentered state false;
      exit = (visit s opcode unentered state).exit;
    }

-- a state of a walk, with what the rest of the walk shows
pub record Visits (state word : ℕ) (written : Bool) (exit : Exit) (rest r : Followed) : Type 0 where
  pub breach : (opcode : ℕ) → breach_as opcode r.breach ≡ or_else
      (lowest opcode state (rules state word written exit)) (breach_as opcode rest.breach)
  pub states : r.walk.states ≡ state ∷ take 15 rest.walk.states
  pub end : r.walk.end ≡ rest.walk.end

-- what following these visits of a walk shows, after states of which one writes or none, the last left by this exit
pub record Follows (s : Store) (opcode : ℕ) (written : Bool) (exit : Exit) (walk : List Visit) (r : Followed)
    : Type 0 where
  pub breach : breach_as opcode r.breach ≡ verdict_in s opcode written walk
  pub states : r.walk.states ≡ padded (states_of walk)
  pub end : r.walk.end ≡ end_of exit walk

-- what following all 64 walks shows
pub record FollowsAll (s : Store) (opcode state : ℕ) (r : Surveyed) : Type 0 where
  pub reply : reply_of r.reply ≡ consent_of (first_from 0 64 (verdict_on s))
  pub met : r.met ≡ nat_lt opcode 64 && on_walk s opcode state
