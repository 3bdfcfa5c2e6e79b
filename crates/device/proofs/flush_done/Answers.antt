-- `flush_done`: the test is the definition's.
-- Assumes nothing.
use native.Mathlib.Omega.{arith}
use lib.ListN.{get_or}
use borrow.Author.Tests.{lt-leb}
use Rattle.device.proofs.flush_done.Goals as goal

pub returns : goal.returns
returns c = let a = c.args in rw (lt-leb (get_or a.flushes.now a.line 0) a.fence (omega (arith, c.if-last-fence.false)))
