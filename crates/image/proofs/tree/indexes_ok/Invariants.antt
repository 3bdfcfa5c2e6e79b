-- `indexes_ok`: what is left to test of the index pages from the i-th on is the whole test.
-- Assumes nothing.
use Rattle.page.specs.Page.{records}
use Rattle.image.proofs.CodeTree.{Checking}
use Rattle.image.proofs.tree.indexes_ok.Given as goal

abbrev pub invariant-loop-i : goal.invariant-loop-i
invariant-loop-i l = Checking l.image l.root (records l.page.bytes.now) l.i l.from l.marks
