-- `key_fault`: 8 for an insert of a key that is there, 9 for another edit of one that is not.
-- Assumes nothing.
use borrow.Author.Tests.{eq-eqb, ne_eqb}
use Rattle.preview.specs.Noted.{fault_by}
use Rattle.preview.proofs.keys.key_fault.Goals as goal

pub returns-then-kind-eq1 : goal.returns-then-kind-eq1
unfolding fault_by
returns-then-kind-eq1 c = rw (c.if-there.true, eq-eqb _ 1 c.if-kind-eq1.true)

pub returns-then-there : goal.returns-then-there
unfolding fault_by
returns-then-there c = rw (c.if-there.true, ne_eqb _ 1 c.if-kind-eq1.false)

pub returns-then-kind-eq1-2 : goal.returns-then-kind-eq1-2
unfolding fault_by
returns-then-kind-eq1-2 c = rw (c.if-there.false, eq-eqb _ 1 c.if-kind-eq1-2.true)

pub returns : goal.returns
unfolding fault_by
returns c = rw (c.if-there.false, ne_eqb _ 1 c.if-kind-eq1-2.false)
