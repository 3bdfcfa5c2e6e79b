-- `put_headers`: the headers that are left, written over what is there, are the whole.
-- Assumes nothing.
use Prim.Native.Nat.{◌+◌, ◌-◌, ◌/◌}
use mathlib.Core.Path.{◌≡◌}
use lib.ListN.{length}
use Rattle.page.specs.Layout.{page_size}
use Rattle.journal.specs.Recovery.{lines_from, logged, with_headers}
use Rattle.journal.proofs.Headers.{Inside}
use Rattle.tape_write.proofs.redo.put_headers.Given as goal

abbrev pub invariant-loop-i : goal.invariant-loop-i
invariant-loop-i l = Inside (length l.image / page_size) (lines_from (l.headers - l.i) (l.i + 1) l.image) × (with_headers (lines_from (l.headers - l.i) (l.i + 1) l.image) l.work ≡ with_headers (logged l.headers l.image) l.initial.work)
