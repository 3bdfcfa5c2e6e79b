-- `marks_of`: the marks, with those under the index pages that are left, are those of all reached pages.
-- Assumes nothing.
use mathlib.Core.Path.{◌≡◌}
use lib.ListN.{drop, replicate}
use Rattle.page.specs.Page.{records}
use Rattle.page.specs.PageFormat.{format1}
use Rattle.image.specs.Image.{joined, pages_in, reached}
use Rattle.tree_edit.specs.Steps.{marked}
use Rattle.tree_edit.proofs.ends.marks_of.Given as goal

abbrev pub invariant-loop-i : goal.invariant-loop-i
invariant-loop-i l = marked (joined (λ x. pages_in format1 l.image 1 x) (drop l.i (records l.page.bytes.now))) l.marks ≡ marked (reached l.image l.root) (replicate 64 0)
