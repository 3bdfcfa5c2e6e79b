-- `log_headers`: the headers that are left, over what is written, are the whole; past page 0 nothing changes.
-- Assumes nothing.
use Prim.Native.Nat.{◌+◌, ◌*◌}
use mathlib.Core.Path.{◌≡◌}
use lib.ListN.{drop}
use lib.Seq.{sets}
use Rattle.page.specs.Layout.{page_size}
use Rattle.journal.specs.Tape.{new_headers, join_lines}
use Rattle.tape_write.proofs.headers.log_headers.Given as goal

abbrev pub invariant-loop-i : goal.invariant-loop-i
invariant-loop-i l = (drop page_size l.work ≡ drop page_size l.initial.work) × (sets l.work (64 * l.i + 64) (join_lines (new_headers l.initial.work (drop l.i l.pages))) ≡ sets l.initial.work 64 (join_lines (new_headers l.initial.work l.pages)))
