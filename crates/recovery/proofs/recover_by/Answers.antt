-- `recover_by` answers and leaves what `recover_call` says: the two sizes, page 0, and then by the mark.
-- Assumes nothing.
use mathlib.Core.Path.{sym, ◌∙◌}
use borrow.Author.Tests.{not-true, not-false}
use Rattle.recovery.proofs.Shown.{size-shows, work-shows, wrong-shows}
use Rattle.recovery.proofs.recover_by.Goals as goal

pub returns-then-not-is_image_size : goal.returns-then-not-is_image_size
returns-then-not-is_image_size c = let whole =
    size-shows c.args.way c.args.image.now c.args.work.now c.args.tape.now (sym c.is_image_size.ensures ∙ not-true _ c.if-not-is_image_size.true-raw) _ c.of.ensures in record { value = whole.0; work_after = whole.1.0; tape_after = whole.1.1 }

pub returns-then-work-n : goal.returns-then-work-n
returns-then-work-n c = let whole =
    work-shows c.args.way c.args.image.now c.args.work.now c.args.tape.now (sym c.is_image_size.ensures ∙ not-false _ c.if-not-is_image_size.false-raw) c.if-work-n.true _ c.of-then-work-n.ensures in record { value = whole.0; work_after = whole.1.0; tape_after = whole.1.1 }

pub returns-in-Wrong : goal.returns-in-Wrong
returns-in-Wrong c = let whole =
    wrong-shows c.args.way c.args.image.now c.args.work.now c.args.tape.now (sym c.is_image_size.ensures ∙ not-false _ c.if-not-is_image_size.false-raw) c.if-work-n.false (sym c.page_zero.ensures ∙ c.in-Wrong.is) _ c.of-in-Wrong.ensures in record { value = whole.0; work_after = whole.1.0; tape_after = whole.1.1 }
