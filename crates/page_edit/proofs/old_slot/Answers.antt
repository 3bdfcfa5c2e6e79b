-- `old_slot`: each way to a return is a case of the definition.
-- Assumes nothing.
use borrow.Author.Tests.{le-ltb, lt-ltb}
use Rattle.page_edit.proofs.old_slot.Goals as goal

pub returns-then-k-i : goal.returns-then-k-i
returns-then-k-i c =
    rw (c.if-ins.true, lt-ltb c.args.k c.args.i c.if-k-i.true)

pub returns-then-ins : goal.returns-then-ins
returns-then-ins c =
    rw (c.if-ins.true, le-ltb c.args.k c.args.i c.if-k-i.false)
