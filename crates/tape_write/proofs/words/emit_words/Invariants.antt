-- `emit_words`: the stores that are left, over what is written, are the whole.
-- Assumes nothing.
use Prim.Native.Nat.{◌+◌, ◌*◌}
use mathlib.Core.Path.{◌≡◌}
use mathlib.Core.List.{map}
use lib.ListN.{drop}
use lib.Seq.{sets}
use Rattle.device.specs.Tape.{tape_bytes}
use Rattle.tape_write.specs.Words.{word_store}
use Rattle.tape_write.proofs.words.emit_words.Given as goal

abbrev pub invariant-loop-i : goal.invariant-loop-i
invariant-loop-i l = sets l.tape (l.at + 12 * l.i) (tape_bytes (map (word_store l.work) (drop l.i l.words))) ≡ sets l.initial.tape l.at (tape_bytes (map (word_store l.work) l.words))
