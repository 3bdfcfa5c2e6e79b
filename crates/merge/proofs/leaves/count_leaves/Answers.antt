-- `count_leaves`: the last leaf so far and what is left of both make as many leaves as there are.
-- Assumes nothing.
use Rattle.std.specs.Prelude.{Err}
use mathlib.Core.Path.{sym, ap, ◌∙◌}
use native.Mathlib.Omega.{arith}
use Rattle.merge.proofs.Coming.{passed-less}
use Rattle.merge.proofs.Counting.{count-starts, small, next_small, count-takes, count-closes, count-twice, count-ends}
use Rattle.merge.proofs.leaves.count_leaves.Goals as goal

pub loop-at-init : goal.loop-at-init
loop-at-init c = count-starts (c.args.books.now.first.is_sound, c.args.books.now.second.is_sound) c.begin-at.ensures

pub takes-requires : goal.takes-requires
takes-requires c =
    let inv = c.loop-at.invariant in
    (omega (arith, small inv), omega (arith, next_small inv c.loop-at-test.true c.next_size-z.ensures))

pub overflow_add-s : goal.overflow_add-s
overflow_add-s c =
    let inv = c.loop-at.invariant in
    omega (arith, small inv, next_small inv c.loop-at-test.true c.next_size-z.ensures)

pub loop-at-smaller-then-takes : goal.loop-at-smaller-then-takes
loop-at-smaller-then-takes c = passed-less c.loop-at.invariant.ready c.loop-at-test.true c.step-at.ensures

pub loop-at-preserved-then-takes : goal.loop-at-preserved-then-takes
loop-at-preserved-then-takes c =
    count-takes c.loop-at.invariant c.loop-at-test.true c.next_size-z.ensures c.step-at.ensures
    (sym c.takes.ensures ∙ c.if-takes.true)

pub loop-at-smaller : goal.loop-at-smaller
loop-at-smaller c = passed-less c.loop-at.invariant.ready c.loop-at-test.true c.step-at.ensures

pub loop-at-preserved : goal.loop-at-preserved
loop-at-preserved c =
    count-closes c.loop-at.invariant c.loop-at-test.true c.next_size-z.ensures c.step-at.ensures
    (sym c.takes.ensures ∙ c.if-takes.false)

pub returns-then-at-lt-KEYS_END : goal.returns-then-at-lt-KEYS_END
returns-then-at-lt-KEYS_END c = ap Err c.of.ensures ∙ count-twice c.loop-at.invariant c.loop-at-test.false (omega (arith, c.if-at-lt-KEYS_END.true))

pub returns : goal.returns
returns c = count-ends c.loop-at.invariant c.loop-at-test.false (omega (arith, c.if-at-lt-KEYS_END.false))
