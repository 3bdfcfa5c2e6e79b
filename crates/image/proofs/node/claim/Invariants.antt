-- `claim`: what is left to be marked of the pages from the i-th on, with the marks, is the whole.
-- Assumes nothing.
use Rattle.page.specs.Page.{records}
use Rattle.image.proofs.CodeMarks.{Claiming}
use Rattle.image.proofs.node.claim.Given as goal

abbrev pub invariant-loop-i : goal.invariant-loop-i
invariant-loop-i l = Claiming l.n l.initial.marks (records l.page.bytes.now) l.i l.marks
