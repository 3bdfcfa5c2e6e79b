-- `emit_by_log`: the headers stand in the log's lines of work, from which the tape is written.
-- Assumes nothing.
use mathlib.Core.Path.{refl}
use Rattle.journal.specs.Tape.{by_log}
use Rattle.tape_write.proofs.Choosing.{log-tape}
use Rattle.tape_write.proofs.ends.emit_by_log.Goals as goal

pub returns : goal.returns
unfolding by_log
returns c =
    record { work_after = c.log_headers.ensures; tape_after = log-tape c.args.work.now c.args.tape.now _ c.args.at c.args.way _ c.long_at-root.result _ c.args.pages.now c.args.same c.log_headers.ensures refl c.long_at-root.ensures c.requires.3 c.requires.1 c.requires.2 c.emit_log.ensures }
