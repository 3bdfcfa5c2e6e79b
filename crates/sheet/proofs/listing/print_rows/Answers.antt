-- `print_rows`: what is left to print is the rest of the listing.
-- Assumes nothing.
use native.Mathlib.Omega.{arith}
use mathlib.Core.Path.{sym, ◌∙◌}
use Rattle.sheet.proofs.Printing.{listed-first, listed-last, listed-row, listed-over, listed-next}
use Rattle.sheet.proofs.listing.print_rows.Goals as goal

pub loop-row-init : goal.loop-row-init
loop-row-init c = let d = c.default-last.ensures in listed-first c.args.image.now c.requires _ d.0 d.1.0 d.1.1.0

pub returns : goal.returns
returns c = listed-last c.args.image.now c.requires _ _ c.loop-row.invariant (sym c.in_default.is ∙ c.row_after.ensures)

pub print_row-requires : goal.print_row-requires
print_row-requires c = listed-row c.args.image.now c.requires _ _ c.loop-row.invariant _ (sym c.in-Some.is ∙ c.row_after.ensures)

pub loop-row-smaller : goal.loop-row-smaller
loop-row-smaller c =
    let i = c.loop-row.invariant in
    let k = listed-over c.args.image.now c.requires _ _ i c.in-Some.row (sym c.in-Some.is ∙ c.row_after.ensures) in
    omega (arith, i.below)

pub loop-row-preserved : goal.loop-row-preserved
loop-row-preserved c = listed-next c.args.image.now c.requires _ _ c.loop-row.invariant _ (sym c.in-Some.is ∙ c.row_after.ensures)
