-- `group_bytes`: nothing without a flush, else four bytes a flush and four for the barrier.
-- Assumes nothing.
use borrow.Author.Tests.{eq-eqb, ne_eqb}
use Rattle.tape_write.specs.Sizes.{group_bytes}
use Rattle.tape_write.proofs.sizes.group_bytes.Goals as goal

pub returns-then-n-eq0 : goal.returns-then-n-eq0
unfolding group_bytes
returns-then-n-eq0 c = rw (eq-eqb c.args.n 0 c.if-n-eq0.true)

pub returns : goal.returns
unfolding group_bytes
returns c = rw (ne_eqb c.args.n 0 c.if-n-eq0.false)
