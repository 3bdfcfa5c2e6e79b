-- `size_at`: by the length that the record's slot leads to.
-- Assumes nothing.
use Rattle.std.proofs.Common.{◌∙◌, arith}
use Rattle.page.proofs.Facts.{ok-is}
use Rattle.page.proofs.AtSlots.{length-in, length-small, size-here}
use Rattle.page.proofs.laid.Page.size_at.Goals as goal

pub overflow_add-slot_at : goal.overflow_add-slot_at
overflow_add-slot_at c =
    omega (arith, length-in _ c.args.self.laid _ c.requires _ c.slot_at.ensures, (ok-is _ c.args.self.laid).body.whole)

pub number_at-requires : goal.number_at-requires
number_at-requires c = length-in _ c.args.self.laid _ c.requires _ c.slot_at.ensures

pub size_of-requires : goal.size_of-requires
size_of-requires c = length-small _ c.args.self.laid _ c.requires _ c.slot_at.ensures _ c.number_at.ensures.0

pub returns : goal.returns
returns c = c.size_of.ensures ∙ size-here _ c.args.self.laid _ c.requires _ c.slot_at.ensures _ c.number_at.ensures.0
