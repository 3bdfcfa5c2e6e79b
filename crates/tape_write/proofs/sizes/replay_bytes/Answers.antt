-- `replay_bytes`, with the root word or without.
-- Assumes nothing.
use native.Mathlib.Omega.{arith}
use Rattle.tape_write.proofs.Encoding.{group-few}
use Rattle.tape_write.proofs.LineBytes.{lines-most}
use Rattle.tape_write.proofs.Choosing.{replay-same, replay-other}
use Rattle.tape_write.proofs.sizes.replay_bytes.Goals as goal

pub overflow_add-lines : goal.overflow_add-lines
overflow_add-lines c =
    omega (arith, c.lines_bytes.ensures, c.group_bytes.ensures, lines-most c.args.way c.args.headers, group-few c.args.headers)

pub overflow_add-result : goal.overflow_add-result
overflow_add-result c =
    omega (arith, c.lines_bytes.ensures, c.group_bytes.ensures, lines-most c.args.way c.args.headers, group-few c.args.headers)

pub returns-then-same : goal.returns-then-same
returns-then-same c =
    omega (arith, c.lines_bytes.ensures, c.group_bytes.ensures, replay-same c.args.way c.args.headers c.args.same c.if-same.true)

pub overflow_add-result-2 : goal.overflow_add-result-2
overflow_add-result-2 c =
    omega (arith, c.lines_bytes.ensures, c.group_bytes.ensures, lines-most c.args.way c.args.headers, group-few c.args.headers)

pub returns : goal.returns
returns c =
    omega (arith, c.lines_bytes.ensures, c.group_bytes.ensures, replay-other c.args.way c.args.headers c.args.same c.if-same.false)
