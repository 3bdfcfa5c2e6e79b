-- `fits_one` tests the number of records and their sizes.
-- Assumes nothing.
use Prim.Native.Nat.{ℕ}
use mathlib.Core.Path.{ap, ◌∙◌}
use native.Mathlib.Omega.{arith}
use lib.ListN.{length}
use lib.Dec.{leb}
use borrow.Author.Tests.{le-leb, lt-leb}
use Rattle.page.specs.Layout.{slot_count}
use Rattle.tree_edit.specs.Steps.{made_by}
use Rattle.tree_edit.proofs.Sized.{made-listed}
use Rattle.tree_edit.proofs.split.fits_one.Goals as goal

pub returns-then-made_count-le28 : goal.returns-then-made_count-le28
returns-then-made_count-le28 c =
    rw (le-leb (length (made_by c.args.new c.args.value.now c.args.page.bytes.now)) slot_count (omega (arith, made-listed c.requires, c.made_count.ensures))) (ap (λ (n : ℕ). leb n 960) c.total_made.ensures)

pub returns-else-made_count-le28 : goal.returns-else-made_count-le28
returns-else-made_count-le28 c =
    let many = lt-leb (length (made_by c.args.new c.args.value.now c.args.page.bytes.now)) slot_count (omega (arith, made-listed c.requires, c.made_count.ensures)) in
    lt-leb c.made_count.result slot_count c.if-made_count-le28.false ∙ rw many
