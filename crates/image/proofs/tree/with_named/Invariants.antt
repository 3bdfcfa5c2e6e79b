-- `with_named`: what is left of the pages that are named, behind those that are put, is the whole.
-- Assumes nothing.
use Rattle.page.specs.Page.{records}
use Rattle.image.specs.Image.{itself}
use Rattle.image.proofs.CodeTree.{Putting}
use Rattle.image.proofs.tree.with_named.Given as goal

abbrev pub invariant-loop-i : goal.invariant-loop-i
invariant-loop-i l = Putting itself l.initial.leaves (records l.page.bytes.now) l.i l.leaves
