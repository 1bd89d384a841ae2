-- No second answer: what a function here leaves in the buffer, and the next place, are those of one page.
-- Assumes nothing.
use Rattle.std.proofs.Common.{◌≡◌, ℕ, sym, ap, ◌∙◌}
use Rattle.terms.specs.Answers.{OneWith}
use Rattle.page.specs.Lent.{Becomes, seen}
use Rattle.page.specs.Pages.{Page, page}
use Rattle.page.specs.declared.marks.Page.{Page as Held}

pub page_one : (p : Page) → OneWith (λ place bytes. page bytes place ≡ p)
page_one p r s a b first second =
    let same = first ∙ sym second in
    (ap (λ (q : Page). q.place) same, ap (λ (q : Page). q.bytes) same)

-- of a page that is put on a loan: a second has the same place, and the same bytes on the same loan
pub at_one : (loan : ℕ) (p : Page) (a b : Held) →
    a.bytes.ghost_name ≡ loan → seen a ≡ p → b.bytes.ghost_name ≡ loan → seen b ≡ p →
    (a.place ≡ b.place) × (a.bytes.now ≡ b.bytes.now) × (a.bytes.ghost_name ≡ b.bytes.ghost_name)
unfolding seen
at_one loan p a b lent first lent' second =
    let same = page_one p a.place b.place a.bytes.now b.bytes.now first second in
    (same.0, same.1, lent ∙ sym lent')

-- and of what becomes of a page
pub becomes_one : (f : Page → Page) (old a b : Held) → Becomes old a f → Becomes old b f →
    (a.place ≡ b.place) × (a.bytes.now ≡ b.bytes.now) × (a.bytes.ghost_name ≡ b.bytes.ghost_name)
becomes_one f old a b first second =
    at_one old.bytes.ghost_name (f (seen old)) a b first.0 first.1 second.0 second.1
