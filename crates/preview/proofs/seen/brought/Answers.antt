-- `brought`: nothing for a delete, else the value's part of the list.
-- Assumes nothing.
use borrow.Author.Tests.{eq-eqb, ne_eqb}
use Rattle.preview.proofs.seen.brought.Goals as goal

pub returns-in-3 : goal.returns-in-3
returns-in-3 c = rw (eq-eqb _ 3 c.in-3.is)

pub returns-in_default : goal.returns-in_default
returns-in_default c = rw (ne_eqb _ 3 c.in_default.in_default-own.rest.1)
