-- `leaves_of`: what is left of the pages that the index pages name, behind those that are put, is the whole.
-- Assumes nothing.
use Rattle.page.specs.Page.{records}
use Rattle.image.specs.Image.{names_of}
use Rattle.image.proofs.CodeTree.{Putting}
use Rattle.image.proofs.tree.leaves_of.Given as goal

abbrev pub invariant-loop-i : goal.invariant-loop-i
invariant-loop-i l = Putting (λ y. names_of l.image y) l.initial.leaves (records l.page.bytes.now) l.i l.leaves
