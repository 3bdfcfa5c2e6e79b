-- `end_bytes`, case by case.
-- Assumes nothing.
use mathlib.Core.Path.{sym, ◌∙◌}
use native.Mathlib.Omega.{arith}
use Rattle.tape_write.specs.Sizes.{log_bytes}
use Rattle.tape_write.proofs.Encoding.{group-few}
use Rattle.tape_write.proofs.LineBytes.{lines-most}
use Rattle.tape_write.proofs.Choosing.{bytes_one, bytes-none, bytes-log, replay-few}
use Rattle.tape_write.proofs.sizes.end_bytes.Goals as goal

pub returns-then-k-eq0 : goal.returns-then-k-eq0
returns-then-k-eq0 c = sym (bytes-none c.args.way c.args.k c.args.same c.if-k-eq0.true).0

pub returns-then-commits_alone : goal.returns-then-commits_alone
returns-then-commits_alone c =
    sym (bytes_one c.args.way c.args.k c.args.same c.if-k-eq0.false (sym c.commits_alone.ensures ∙ c.if-commits_alone.true)).0

pub overflow_add-result : goal.overflow_add-result
overflow_add-result c =
    omega (arith, c.lines_bytes.ensures, c.group_bytes.ensures, lines-most c.args.way c.args.k, group-few c.args.k)

pub overflow_add-result-2 : goal.overflow_add-result-2
overflow_add-result-2 c =
    omega (arith, c.lines_bytes.ensures, c.group_bytes.ensures, lines-most c.args.way c.args.k, group-few c.args.k)

pub overflow_add-result-3 : goal.overflow_add-result-3
overflow_add-result-3 c =
    omega (arith, c.lines_bytes.ensures, c.group_bytes.ensures, c.replay_bytes.ensures, lines-most c.args.way c.args.k, group-few c.args.k, replay-few c.args.way c.args.k c.args.same c.requires)

pub returns : goal.returns
unfolding log_bytes
returns c =
    let log = (bytes-log c.args.way c.args.k c.args.same c.if-k-eq0.false (sym c.commits_alone.ensures ∙ c.if-commits_alone.false)).0 in
    omega (arith, c.lines_bytes.ensures, c.group_bytes.ensures, c.replay_bytes.ensures, log)
