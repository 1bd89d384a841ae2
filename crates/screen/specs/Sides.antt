-- The single-cycle machine beside the other one.
use Rattle.std.specs.Prelude.{ℕ, suc, ◌+◌, ◌%◌, ◌^◌, List, [], ◌∷◌, ◌==◌, nat_lt}
use Rattle.single.specs.declared.machine.SingleCycle.{SingleCycle}
use Rattle.terms.specs.Answers.{pick}
use Rattle.terms.specs.Counts.{one_more}
use Rattle.terms.specs.Refusals.{number_of}
use Rattle.terms.specs.declared.refusals.Outcome.TheVariants as Outcome'
use Rattle.terms.specs.declared.refusals.Outcome.{Outcome}
use Rattle.page.specs.Numbers.{decimal, hex}
use Rattle.page.specs.Pages.{Page, put, write, ascii, say}
use Rattle.screen.specs.declared.sides.Side.{Side}

-- two lists gone through side by side: f of each place, and of what stands there
unfoldable pub along : {A : Type 0} → (ℕ → ℕ → ℕ → A → A) → ℕ → List ℕ → List ℕ → A → A
along f k [] ys a = a
along f k (x ∷ xs) [] a = a
along f k (x ∷ xs) (y ∷ ys) a = along f (suc k) xs ys (f k x y a)

-- one more, modulo 2^32, where two numbers differ
abbrev pub counted : ℕ → ℕ → ℕ → ℕ
counted count ours theirs = pick (ours == theirs) count (one_more count)

-- how many of the numbers at the same place differ
abbrev pub counted_at : ℕ → ℕ → ℕ → ℕ → ℕ
counted_at place ours theirs count = counted count ours theirs

abbrev pub differing : List ℕ → List ℕ → ℕ
differing ours theirs = along counted_at 0 ours theirs 0

-- a place by name where two numbers differ, if there is room up to a place of the page
unfoldable pub name_place : ℕ → List ℕ → ℕ → ℕ → ℕ → Page → Page
name_place to name index ours theirs p =
    pick (ours == theirs) p (pick (nat_lt to p.place) p (decimal (index % 2 ^ 32) (write name p)))

unfoldable pub name_pc : ℕ → ℕ → Page → Page
name_pc ours theirs p = pick (ours == theirs) p (say " PC" p)

-- the places at which two machines with their images differ, by name
unfoldable pub names : ℕ → SingleCycle → List ℕ → SingleCycle → List ℕ → Page → Page
names to ours image theirs other p =
    along (name_place to (ascii " word ")) 0 image other
    (along (name_place to (ascii " $")) 0 ours.registers theirs.registers
    (name_pc ours.pc.0 theirs.pc.0 p))

-- and how many there are
unfoldable pub places : SingleCycle → List ℕ → SingleCycle → List ℕ → ℕ
places ours image theirs other =
    (((counted 0 ours.pc.0 theirs.pc.0 + differing ours.registers theirs.registers) % 2 ^ 32)
    + differing image other) % 2 ^ 32

-- how the single-cycle machine stopped, if it did
abbrev pub stopped : Outcome → Page → Page
stopped Outcome'.Spent p = p
stopped (Outcome'.Stopped r) p = decimal (number_of r) (say ", stopped with " p)

unfoldable pub side_text : Side → Page → Page
side_text side p =
    stopped side.outcome
    (hex side.machine.pc.0
    (say ": single-cycle machine at PC "
    (decimal side.instructions.0 (say "        -- instruction " p))))

unfoldable pub told : ℕ → Page → Page
told count p = put 58 (decimal count (say ", differs in " p))

-- the line at a return to fetch: the single-cycle machine after as many instructions, and where it differs
unfoldable pub beside : SingleCycle → List ℕ → Side → List ℕ → Page → Page
beside ours image side other p =
    let count = places ours image side.machine other in
    pick (count == 0)
    (say ", no difference\n" (side_text side p))
    (put 10
    (names ((p.place + 112) % 2 ^ 64) ours image side.machine other (told count (side_text side p))))
