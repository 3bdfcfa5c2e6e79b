-- `end_flushes`, case by case.
-- Assumes nothing.
use mathlib.Core.Path.{sym, ◌∙◌}
use Rattle.tape_write.proofs.Choosing.{bytes_one, bytes-none, bytes-log}
use Rattle.tape_write.proofs.sizes.end_flushes.Goals as goal

pub returns-then-k-eq0 : goal.returns-then-k-eq0
returns-then-k-eq0 c = sym (bytes-none c.args.way c.args.k c.args.same c.if-k-eq0.true).1

pub returns-then-commits_alone : goal.returns-then-commits_alone
returns-then-commits_alone c =
    sym (bytes_one c.args.way c.args.k c.args.same c.if-k-eq0.false (sym c.commits_alone.ensures ∙ c.if-commits_alone.true)).1

pub returns : goal.returns
returns c =
    sym (bytes-log c.args.way c.args.k c.args.same c.if-k-eq0.false (sym c.commits_alone.ensures ∙ c.if-commits_alone.false)).1
