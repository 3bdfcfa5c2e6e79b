-- `small_tape`: each test on the way is one of the definition's.
-- Assumes nothing.
use Rattle.std.specs.Prelude.{Err, Ok}
use mathlib.Core.Path.{◌≡◌, sym, ap, ◌∙◌}
use mathlib.Core.Bool.{true}
use native.Mathlib.Omega.{arith}
use lib.ListN.{length}
use borrow.Author.Tests.{not-true, not-false}
use Rattle.device.specs.Calls.{is_image_size}
use Rattle.device.proofs.Calls.{scanned-none, scanned-some}
use Rattle.cuts.specs.Says.{bad-size, bad-tape, long-tape}
use Rattle.cuts.proofs.Calls.{not-small, is-small}
use Rattle.cuts.proofs.small_tape.Goals as goal
use Rattle.cuts.proofs.small_tape.Goals.{Else-not-is_image_size}

-- the image has a right size
sized : (c : Else-not-is_image_size) → is_image_size (length c.args.image.now) ≡ true
sized c = sym c.is_image_size.ensures ∙ not-false _ c.if-not-is_image_size.false-raw

pub returns-then-not-is_image_size : goal.returns-then-not-is_image_size
returns-then-not-is_image_size c = ap Err c.of.ensures ∙ sym (not-small _ _ 1 (bad-size (sym c.is_image_size.ensures ∙ not-true _ c.if-not-is_image_size.true-raw)))

pub returns-then-count-gt12 : goal.returns-then-count-gt12
returns-then-count-gt12 c =
    let found = scanned-some _ _ (sym c.in-Some.ensures) in
    ap Err c.of-then-count-gt12.ensures ∙ sym (not-small _ _ 17 (long-tape (sized (goal.at.returns-then-count-gt12 c).Else-not-is_image_size) found.0 (omega (arith, found.1))))

pub returns-in_default : goal.returns-in_default
returns-in_default c = ap Err c.of-in_default.ensures ∙ sym (not-small _ _ 14 (bad-tape (sized (goal.at.returns-in_default c).Else-not-is_image_size) (scanned-none _ (sym c.in_default.ensures))))

pub returns : goal.returns
returns c =
    let found = scanned-some _ _ (sym c.in-Some.ensures) in
    ap Ok found.1 ∙ sym (is-small _ _ (record { size = sized (goal.at.returns c).Else-not-is_image_size; formed = found.0; few = omega (arith, found.1) }))
