-- `is_there`: as the last edit that is noted for the key leaves it, else as the image has it.
-- Assumes nothing.
use borrow.Author.Tests.{eq-eqb, ne_eqb}
use Rattle.preview.proofs.Judging.{looked-noted}
use Rattle.preview.proofs.keys.is_there.Goals as goal

pub returns-in-Some-eq3 : goal.returns-in-Some-eq3
returns-in-Some-eq3 c = looked-noted c.args.key _ _ c.in-Some-eq3.ensures _ (rw (eq-eqb _ 3 c.in-Some-eq3.field-0-test))

pub returns-in-Some : goal.returns-in-Some
returns-in-Some c = looked-noted c.args.key _ _ c.in-Some.ensures _ (rw (ne_eqb _ 3 c.in-Some.field-0-test.1))
