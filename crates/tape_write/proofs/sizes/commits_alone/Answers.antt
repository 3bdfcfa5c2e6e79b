-- `commits_alone`, by the way.
-- Assumes nothing.
use borrow.Author.Tests.{eq-eqb, ne_eqb}
use Rattle.tape_write.specs.Sizes.{commits_alone}
use Rattle.tape_write.proofs.sizes.commits_alone.Goals as goal

pub returns-then-k-eq1 : goal.returns-then-k-eq1
unfolding commits_alone
returns-then-k-eq1 c = rw (c.in-ByLine.is, eq-eqb c.args.k 1 c.if-k-eq1.true)

pub returns-else-k-eq1 : goal.returns-else-k-eq1
unfolding commits_alone
returns-else-k-eq1 c = rw (c.in-ByLine.is, ne_eqb c.args.k 1 c.if-k-eq1.false)

pub returns-in-ByWords : goal.returns-in-ByWords
unfolding commits_alone
returns-in-ByWords c = rw c.in-ByWords.is
