-- `slot_at` reads the i-th slot of the header line.
-- Assumes nothing.
use Rattle.std.proofs.Common.{◌∙◌, arith}
use Rattle.page.proofs.Listed.{slot_at}
use Rattle.page.proofs.AtSlots.{slot-in}
use Rattle.page.proofs.laid.Page.slot_at.Goals as goal

pub overflow_mul-i : goal.overflow_mul-i
overflow_mul-i c = omega (arith, slot-in _ c.args.self.laid _ c.requires)

pub overflow_add-i : goal.overflow_add-i
overflow_add-i c = omega (arith, slot-in _ c.args.self.laid _ c.requires)

pub number_at-requires : goal.number_at-requires
number_at-requires c = omega (arith, slot-in _ c.args.self.laid _ c.requires)

pub returns : goal.returns
returns c = c.number_at.ensures.0 ∙ slot_at _ _ c.requires
