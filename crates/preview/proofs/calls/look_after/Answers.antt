-- `look_after`: a faulty list refuses; else the keys are judged.
-- Assumes nothing.
use Rattle.std.proofs.lemmas.Result.{err_from_is_err_and}
use Rattle.std.specs.Prelude.{Err}
use mathlib.Core.Path.{sym, ap, ◌∙◌}
use Rattle.image.specs.Descent.{records_for}
use Rattle.edit.specs.EditList.{edit_list}
use Rattle.edit.proofs.Judging.{good-listed, faulty-listed}
use Rattle.preview.specs.Calls.{stored_after, list_of}
use Rattle.preview.proofs.calls.look_after.Goals as goal

pub look-requires : goal.look-requires
look-requires c = (good-listed (edit_list c.args.edits.now) (sym c.judge.ensures ∙ c.in_ok-judge.was), c.requires)

pub returns-in_err-judge : goal.returns-in_err-judge
unfolding list_of
returns-in_err-judge c =
    let p = err_from_is_err_and c.from_residual.result c.from_residual.ensures.1 in
    let f = faulty-listed (edit_list c.args.edits.now) _ (sym c.judge.ensures ∙ c.in_err-judge.was) in
    rw (p.1, p.2, f.2) (ap Err (sym f.3))

pub returns : goal.returns
unfolding list_of
returns c =
    c.look.ensures ∙ ap (list_of (records_for c.args.index.now.image.now c.args.index.now.root) (stored_after c.args.index.now.image.now c.args.index.now.root c.args.key) c.args.key) (sym (good-listed (edit_list c.args.edits.now) (sym c.judge.ensures ∙ c.in_ok-judge.was)))
