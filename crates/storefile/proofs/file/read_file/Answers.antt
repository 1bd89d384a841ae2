use Rattle.std.proofs.Common.{◌≡◌, sym, ap, ◌∙◌, eq-eqb, false}
use Rattle.microcode.specs.Stores.{in_range}
use Rattle.storefile.specs.File.{file_read, store_in}
use Rattle.storefile.proofs.file.read_file.Goals as goal

pub returns-then-not-in_range : goal.returns-then-not-in_range
unfolding file_read
returns-then-not-in_range c =
    let size = eq-eqb _ _ c.if-bytes-ne197.false in
    let range : in_range (store_in c.args.bytes.now) ≡ false = ap in_range (sym c.store_in-store.ensures) ∙ sym c.if-not-in_range.ensures in
    rw (size, sym c.if-not-is_marked.ensures, sym c.if-not-is_versioned.ensures, range)

pub returns : goal.returns
unfolding file_read
returns c =
    let size = eq-eqb _ _ c.if-bytes-ne197.false in
    rw (size, sym c.if-not-is_marked.ensures, sym c.if-not-is_versioned.ensures, ← c.store_in-store.ensures, sym c.if-not-in_range.ensures)
