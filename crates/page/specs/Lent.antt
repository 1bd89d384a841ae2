-- A page on a lent buffer, as the code holds it. A buffer's loan has a name, and who lent the buffer has it back as the
-- last page under that name left it.
use Rattle.std.specs.Prelude.{◌≡◌}
use Rattle.page.specs.Pages.{page}
use Rattle.page.specs.Pages as of
use Rattle.page.specs.declared.marks.Page.{Page}

-- the page that stands there: what the buffer holds, and the next place
unfoldable pub seen : Page → of.Page
seen p = page p.bytes.now p.place

-- what f makes of the page stands there, on the same loan of the same buffer
abbrev pub Becomes : Page → Page → (of.Page → of.Page) → Type 0
Becomes old new f = (new.bytes.ghost_name ≡ old.bytes.ghost_name) × (seen new ≡ f (seen old))
