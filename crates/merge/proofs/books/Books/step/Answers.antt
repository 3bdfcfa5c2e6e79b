-- `step`: past the record that comes next, in its book.
-- Assumes nothing.
use native.Mathlib.Omega.{arith}
use Rattle.merge.proofs.Stepping.{first-comes, first-passed, second-comes, second-passed}
use Rattle.merge.proofs.books.Books.step.Goals as goal

pub advance-first-requires : goal.advance-first-requires
advance-first-requires c =
    let k = first-comes c.requires.0 (omega (arith, c.if-at.true)) in
    (k.stands, k.some)

pub returns-then-at : goal.returns-then-at
returns-then-at c = first-passed c.requires.0 (omega (arith, c.if-at.true)) _ c.advance-first.ensures

pub advance-second-requires : goal.advance-second-requires
advance-second-requires c =
    let k = second-comes c.requires.0 c.requires.1 (omega (arith, c.if-at.false)) in
    (k.stands, k.some)

pub returns : goal.returns
returns c = second-passed c.requires.0 c.requires.1 (omega (arith, c.if-at.false)) _ c.advance-second.ensures
