-- `put_slots`: what is left to write, stored over what is there, is the whole.
-- Assumes nothing.
use Rattle.std.proofs.Common.{◌≡◌, ◌+◌, ◌*◌, drop}
use lib.Seq.{sets}
use Rattle.page.specs.Layout.{slot_bytes}
use Rattle.page.proofs.header.put_slots.Given as goal

abbrev pub invariant-loop-i : goal.invariant-loop-i
invariant-loop-i l = sets l.page (8 + 2 * l.i) (slot_bytes (drop l.i l.slot-items)) ≡ sets l.initial.page 8 (slot_bytes l.slot-items)
