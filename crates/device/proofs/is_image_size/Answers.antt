-- `is_image_size`: each test on the way is one of the definition's.
-- Assumes nothing.
use borrow.Author.Tests.{le-leb}
use Rattle.device.proofs.is_image_size.Goals as goal

pub returns : goal.returns
returns c = simp (le-leb _ _ c.if-n-lt8192.false, le-leb _ _ c.if-n-gt65536.false)
