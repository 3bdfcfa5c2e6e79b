-- `put_back`: page by page, those below p are done.
-- Assumes nothing.
use Rattle.tree_edit.proofs.Back.{Done}
use Rattle.tree_edit.proofs.ends.put_back.Given as goal

abbrev pub invariant-loop-p : goal.invariant-loop-p
invariant-loop-p l = Done l.image l.initial.work l.marks l.work l.p
