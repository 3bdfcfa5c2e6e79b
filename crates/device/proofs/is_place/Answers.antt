-- `is_place`: each test on the way is one of the definition's.
-- Assumes nothing.
use borrow.Author.Tests.{eq-eqb, ne_eqb}
use Rattle.device.specs.Tape.{unit, place_ok}
use Rattle.device.proofs.is_place.Goals as goal

pub returns-then-head-eq4 : goal.returns-then-head-eq4
unfolding place_ok
returns-then-head-eq4 c = rw (eq-eqb _ 4 c.if-head-eq4.true)

pub returns-then-head-eq1 : goal.returns-then-head-eq1
unfolding place_ok unit
returns-then-head-eq1 c = rw (ne_eqb _ 4 c.if-head-eq4.false, eq-eqb _ 1 c.if-head-eq1.true)

pub returns : goal.returns
unfolding place_ok unit
returns c = rw (ne_eqb _ 4 c.if-head-eq4.false, ne_eqb _ 1 c.if-head-eq1.false)
