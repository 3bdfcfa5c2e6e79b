-- `changed_headers`: the pages that are collected and those still to come are the whole.
-- Assumes nothing.
use Prim.Native.Nat.{◌-◌, ◌<◌}
use Rattle.journal.specs.Changes.{changed_from, changed_pages}
use Rattle.tape_write.specs.Calls.{reached_in}
use Rattle.tape_write.proofs.Collecting.{Collects}
use Rattle.tape_write.proofs.headers.changed_headers.Given as goal

abbrev pub invariant-loop-p : goal.invariant-loop-p
invariant-loop-p l = (l.k < l.p) × Collects l.pages l.k (changed_from (reached_in l.image) (reached_in l.work) l.image l.work (l.count - l.p) l.p) l.initial.pages 0 (changed_pages l.image l.work)
