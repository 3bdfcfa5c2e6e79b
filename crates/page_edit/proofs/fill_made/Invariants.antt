-- `fill_made`: what is left to be filled in, filled in over what is there, is the whole.
-- Assumes nothing.
use Rattle.page.specs.Layout.{rec_of}
use Rattle.page.specs.Page.{records}
use Rattle.page.specs.Operations.{made, between}
use Rattle.page_edit.proofs.Filled.{Left}
use Rattle.page_edit.proofs.fill_made.Given as goal

abbrev pub invariant-loop-k : goal.invariant-loop-k
invariant-loop-k l =
    let rs = made l.ins l.i (rec_of l.key l.value) (records l.old) in
    Left l.initial.h l.initial.page (between rs l.from l.to) l.h l.page (between rs l.k l.to)
