-- `is_kept`: each test on the way is one of the contract's.
-- Assumes nothing.
use mathlib.Core.Path.{sym}
use native.Mathlib.Omega.{arith}
use lib.ListN.{get_or}
use borrow.Author.Tests.{lt-ltb, le-ltb}
use Rattle.device.specs.Counts.{flush_done}
use Rattle.device.proofs.is_kept.Goals as goal

pub returns : goal.returns
returns c =
    let a = c.args in
    let e = le-ltb a.at (flush_done a.flushes.now a.fence a.line) (omega (arith, c.if-at-flush_done.false, c.flush_done.ensures)) in
    let f = lt-ltb 0 (get_or a.left.now a.line 0) (omega arith) in
    record { value = sym (rw (e, f)); left_after = sym (rw e) }
