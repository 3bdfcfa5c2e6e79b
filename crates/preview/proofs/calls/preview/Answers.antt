-- `preview`: page 0 and the index, then the list.
-- Assumes nothing.
use Rattle.std.proofs.lemmas.Result.{err_from_is_err_and}
use mathlib.Core.Path.{◌∙◌}
use Rattle.preview.specs.Calls.{opened_of, preview_call}
use Rattle.preview.proofs.Judging.{marked-same}
use Rattle.preview.proofs.calls.preview.Goals as goal

pub returns-in_err-index_in : goal.returns-in_err-index_in
unfolding preview_call opened_of
returns-in_err-index_in c =
    let p = err_from_is_err_and c.from_residual.result c.from_residual.ensures.1 in
    rw (p.1, p.2, c.in_err-index_in.ensures.value)

pub look_after-requires : goal.look_after-requires
look_after-requires c =
    let x = c.in_ok-index_in.ensures.value in
    marked-same x.0 (c.in_ok-index_in.ensures.marks_after _ x.1)

pub returns : goal.returns
unfolding preview_call opened_of
returns c =
    let x = c.in_ok-index_in.ensures.value in
    c.look_after.ensures ∙ rw (x.1, x.0)
