-- `child_of`: the routed slot, where the range of its page starts, and the page.
-- Assumes nothing.
use mathlib.Core.Path.{◌∙◌}
use Rattle.tree_edit.proofs.Places.{names-read, slot-less, slot-two, child-is, low_first, low-other}
use Rattle.tree_edit.proofs.edits.child_of.Goals as goal

pub laid_page-page-requires : goal.laid_page-page-requires
laid_page-page-requires c = names-read c.requires

pub route-slot-requires : goal.route-slot-requires
route-slot-requires c = rw c.laid_page-page.ensures c.requires.rise

pub child_at-named-requires : goal.child_at-named-requires
child_at-named-requires c =
    (slot-less c.requires _ c.laid_page-page.ensures _ _ c.route-slot.ensures, slot-two c.requires _ c.laid_page-page.ensures _ _ c.route-slot.ensures)

pub returns-then-slot-eq0 : goal.returns-then-slot-eq0
returns-then-slot-eq0 c =
    child-is c.requires _ c.laid_page-page.ensures _ _ c.route-slot.ensures _ _ _ (low_first _ _ _ c.if-slot-eq0.true) c.child_at-named.ensures c.args.above.slot

pub key_at-low-requires : goal.key_at-low-requires
key_at-low-requires c = slot-less c.requires _ c.laid_page-page.ensures _ _ c.route-slot.ensures

pub returns-else-slot-eq0 : goal.returns-else-slot-eq0
returns-else-slot-eq0 c =
    child-is c.requires _ c.laid_page-page.ensures _ _ c.route-slot.ensures _ _ _ (c.key_at-low.ensures ∙ low-other _ _ _ c.if-slot-eq0.false) c.child_at-named.ensures c.args.above.slot
