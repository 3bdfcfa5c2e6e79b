-- `page_ok`: what is left to be shown of the records that are left is as much as of all.
-- Assumes nothing.
use Rattle.std.proofs.Common.{◌+◌, ◌*◌, ◌^◌}
use Rattle.page.proofs.CheckPage.{Pass}
use Rattle.page.proofs.check.page_ok.Given as goal

abbrev pub invariant-loop-i : goal.invariant-loop-i
invariant-loop-i l = Pass l.kind l.page l.low (l.marks.high * 2 ^ 64 + l.marks.low) l.i
