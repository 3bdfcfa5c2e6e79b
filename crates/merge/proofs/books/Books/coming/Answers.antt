-- `coming`: the book with the smaller key.
-- Assumes nothing.
use native.Mathlib.Omega.{arith}
use Rattle.merge.proofs.Stepping.{first-comes, second-comes}
use Rattle.merge.proofs.books.Books.coming.Goals as goal

pub returns-then-at : goal.returns-then-at
returns-then-at c = first-comes c.requires.0 (omega (arith, c.if-at.true))

pub returns-else-at : goal.returns-else-at
returns-else-at c = second-comes c.requires.0 c.requires.1 (omega (arith, c.if-at.false))
