-- `mark_page`: the marks, with those that are left, are those of the page and of all that it names.
-- Assumes nothing.
use mathlib.Core.Path.{◌≡◌}
use mathlib.Core.List.{map}
use lib.ListN.{length, drop}
use Rattle.page.specs.Page.{records}
use Rattle.page.specs.PageFormat.{format1}
use Rattle.image.specs.Image.{child_of, pages_in}
use Rattle.tree_edit.specs.Steps.{marked}
use Rattle.tree_edit.proofs.ends.mark_page.Given as goal

abbrev pub invariant-loop-i : goal.invariant-loop-i
invariant-loop-i l =
    (length l.marks ≡ 64) × (marked (map child_of (drop l.i (records l.page.bytes.now))) l.marks ≡ marked (pages_in format1 l.image 1 l.q) l.fn.marks)
