-- `is_page` tests what `is_page` says.
-- Assumes nothing.
use borrow.Author.Tests.{le-leb, lt-leb}
use Rattle.image.specs.PageZero.{is_page}
use Rattle.image.proofs.page_zero.is_page.Goals as goal

pub returns-then-p-lt1 : goal.returns-then-p-lt1
unfolding is_page
returns-then-p-lt1 c = rw (lt-leb _ _ c.if-p-lt1.true)

pub returns : goal.returns
unfolding is_page
returns c = rw (le-leb _ _ c.if-p-lt1.false)
