-- `transact` answers and leaves what `transaction_call` says: the two sizes, the check, and then the list.
-- Assumes nothing.
use Rattle.std.proofs.lemmas.Result.{err_from_is_err_and}
use mathlib.Core.Path.{sym, ◌∙◌}
use borrow.Author.Tests.{not-true, not-false}
use Rattle.image.proofs.Answers.{check_sound}
use Rattle.transaction.proofs.Shown.{size-shows, work-shows, unsound-shows, checked-shows}
use Rattle.transaction.proofs.transact.Goals as goal

pub returns-then-not-is_image_size : goal.returns-then-not-is_image_size
returns-then-not-is_image_size c = let whole =
    size-shows c.args.way c.args.image.now c.args.work.now c.args.tape.now c.args.edits.now (sym c.is_image_size.ensures ∙ not-true _ c.if-not-is_image_size.true-raw) _ c.of.ensures in record { value = whole.0; work_after = whole.1.0; tape_after = whole.1.1 }

pub returns-then-work-n : goal.returns-then-work-n
returns-then-work-n c = let whole =
    work-shows c.args.way c.args.image.now c.args.work.now c.args.tape.now c.args.edits.now (sym c.is_image_size.ensures ∙ not-false _ c.if-not-is_image_size.false-raw) c.if-work-n.true _ c.of-then-work-n.ensures in record { value = whole.0; work_after = whole.1.0; tape_after = whole.1.1 }

pub judge_list-requires : goal.judge_list-requires
judge_list-requires c = (check_sound c.args.image.now (sym c.check.ensures ∙ c.in_ok-check.was), c.if-work-n.false)

pub returns-in_err-check : goal.returns-in_err-check
returns-in_err-check c =
    let p = err_from_is_err_and c.from_residual.result c.from_residual.ensures.1 in
    let whole =
    unsound-shows c.args.way c.args.image.now c.args.work.now c.args.tape.now c.args.edits.now (sym c.is_image_size.ensures ∙ not-false _ c.if-not-is_image_size.false-raw) c.if-work-n.false _ (sym c.check.ensures ∙ c.in_err-check.was) in record { value = rw (p.1, p.2) whole.0; work_after = whole.1.0; tape_after = whole.1.1 }

pub returns : goal.returns
returns c = let whole =
    checked-shows c.args.way c.args.image.now c.args.work.now c.args.tape.now c.args.edits.now (sym c.is_image_size.ensures ∙ not-false _ c.if-not-is_image_size.false-raw) c.if-work-n.false (sym c.check.ensures ∙ c.in_ok-check.was) _ (c.judge_list.ensures.value, (c.judge_list.ensures.work_after, c.judge_list.ensures.tape_after)) in record { value = whole.0; work_after = whole.1.0; tape_after = whole.1.1 }
