-- `put_numbers`: the numbers in front of what stands behind them, or nothing.
-- Assumes nothing.
use mathlib.Core.Path.{ap}
use mathlib.Core.List.{◌++◌}
use native.Mathlib.Omega.{arith}
use native.Mathlib.Nat.{zero-add}
use lib.ListN.{length, drop}
use lib.Seq.{sets-eq}
use borrow.Author.Tests.{le-leb, lt-leb}
use Rattle.store.specs.Numbers.{lent}
use Rattle.store.proofs.put_numbers.Goals as goal

pub returns-then-answer-n : goal.returns-then-answer-n
unfolding lent
returns-then-answer-n c = rw (lt-leb _ _ c.if-answer-n.true)

pub returns : goal.returns
unfolding lent
returns c =
    let a = c.args in
    rw (le-leb _ _ c.if-answer-n.false, sets-eq a.numbers.now a.answer.now 0 (omega arith), zero-add) (ap (λ l. l ++ drop (length a.numbers.now) a.answer.now) c.copy_from_slice.ensures.after)
