-- `emit_flushes`: the flushes that are left, over what is written, are the whole.
-- Assumes nothing.
use Prim.Native.Nat.{◌+◌, ◌*◌}
use mathlib.Core.Path.{◌≡◌}
use mathlib.Core.List.{map}
use lib.ListN.{length, drop}
use lib.Seq.{sets}
use Rattle.device.specs.Tape.{tape_bytes, flush}
use Rattle.tape_write.specs.Words.{lines_past}
use Rattle.tape_write.proofs.words.emit_flushes.Given as goal

abbrev pub invariant-loop-k : goal.invariant-loop-k
invariant-loop-k l = (l.to + 4 * length (lines_past l.last (drop l.k-index l.words)) ≡ l.at + 4 * length (lines_past 0 l.words)) × (sets l.tape l.to (tape_bytes (map flush (lines_past l.last (drop l.k-index l.words)))) ≡ sets l.initial.tape l.at (tape_bytes (map flush (lines_past 0 l.words))))
