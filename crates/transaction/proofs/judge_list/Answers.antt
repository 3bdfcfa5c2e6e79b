-- `judge_list`: a faulty list refuses; else its edits are made.
-- Assumes nothing.
use Rattle.std.proofs.lemmas.Result.{err_from_is_err_and}
use mathlib.Core.Path.{sym, ◌∙◌}
use Rattle.edit.specs.EditList.{edit_list}
use Rattle.edit.proofs.Judging.{good-listed}
use Rattle.transaction.proofs.Shown.{faulty-shows, listed-shows}
use Rattle.transaction.proofs.judge_list.Goals as goal

pub make_edits-requires : goal.make_edits-requires
make_edits-requires c =
    (c.requires.0, c.requires.1, good-listed (edit_list c.args.list.now) (sym c.judge.ensures ∙ c.in_ok-judge.was))

pub returns-in_err-judge : goal.returns-in_err-judge
returns-in_err-judge c =
    let p = err_from_is_err_and c.from_residual.result c.from_residual.ensures.1 in
    let whole = faulty-shows c.args.way c.args.image.now c.args.work.now c.args.tape.now (edit_list c.args.list.now) _ (sym c.judge.ensures ∙ c.in_err-judge.was) in
    record { value = rw (p.1, p.2) whole.0; work_after = whole.1.0; tape_after = whole.1.1 }

pub returns : goal.returns
returns c = let whole =
    listed-shows c.args.way c.args.image.now c.args.work.now c.args.tape.now (edit_list c.args.list.now) (good-listed (edit_list c.args.list.now) (sym c.judge.ensures ∙ c.in_ok-judge.was)) _ (c.make_edits.ensures.value, (c.make_edits.ensures.work_after, c.make_edits.ensures.tape_after)) in record { value = whole.0; work_after = whole.1.0; tape_after = whole.1.1 }
