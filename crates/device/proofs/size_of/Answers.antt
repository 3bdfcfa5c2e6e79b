-- `size_of`: each arm is one of the definition's.
-- Assumes nothing.
use borrow.Author.Tests.{ne_eqb}
use Rattle.device.specs.Counts.{size_of}
use Rattle.device.proofs.size_of.Goals as goal

pub returns-in-1 : goal.returns-in-1
unfolding size_of
returns-in-1 c = rw c.in-1.is

pub returns-in-2 : goal.returns-in-2
unfolding size_of
returns-in-2 c = rw c.in-2.is

pub returns-in-3 : goal.returns-in-3
unfolding size_of
returns-in-3 c = rw c.in-3.is

pub returns-in-4 : goal.returns-in-4
unfolding size_of
returns-in-4 c = rw c.in-4.is

pub returns-in_default : goal.returns-in_default
unfolding size_of
returns-in_default c =
    rw (ne_eqb _ 1 c.in_default.in_default-own.rest.0.0.0.1, ne_eqb _ 2 c.in_default.in_default-own.rest.0.0.1, ne_eqb _ 3 c.in_default.in_default-own.rest.0.1, ne_eqb _ 4 c.in_default.in_default-own.rest.1)
