-- `Header::read`: each field is what stands in its place of the line.
-- Assumes nothing.
use Rattle.page.specs.Layout.{raw_header}
use Rattle.page.proofs.header.Header.read.Goals as goal

pub returns : goal.returns
unfolding raw_header
returns c = cc (c.slots_at-slots.ensures, c.number_at.ensures.0, c.number_at-2.ensures.0, c.number_at-3.ensures.0)
