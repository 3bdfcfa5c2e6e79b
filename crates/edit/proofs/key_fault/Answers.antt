-- `key_fault`: each bound by itself.
-- Assumes nothing.
use borrow.Author.Tests.{le-leb, lt-leb}
use Rattle.image.specs.Calls.{key_ok}
use Rattle.edit.proofs.key_fault.Goals as goal

pub returns-then-key-lt1 : goal.returns-then-key-lt1
unfolding key_ok
returns-then-key-lt1 c = rw (lt-leb _ _ c.if-key-lt1.true)

pub returns-then-key-gt999999999999 : goal.returns-then-key-gt999999999999
unfolding key_ok
returns-then-key-gt999999999999 c = rw (le-leb 1 _ c.if-key-lt1.false, lt-leb _ _ c.if-key-gt999999999999.true)

pub returns : goal.returns
unfolding key_ok
returns c = rw (le-leb 1 _ c.if-key-lt1.false, le-leb _ _ c.if-key-gt999999999999.false)
