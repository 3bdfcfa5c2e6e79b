-- `emit_eight`: the words that are left, over what is written, are the whole line.
-- Assumes nothing.
use Prim.Native.Nat.{◌+◌, ◌-◌, ◌*◌}
use mathlib.Core.Path.{◌≡◌}
use lib.ListN.{drop}
use lib.Seq.{sets}
use Rattle.codec.specs.Lists.{part}
use Rattle.device.specs.Tape.{tape_bytes}
use Rattle.page.specs.Layout.{line_size}
use Rattle.journal.specs.Way.{words_of, line_by}
use Rattle.journal.specs.declared.Way.TheVariants.{ByWords}
use Rattle.tape_write.proofs.lines.emit_eight.Given as goal

abbrev pub invariant-loop-i : goal.invariant-loop-i
invariant-loop-i l = sets l.tape (l.at + 12 * l.i) (tape_bytes (words_of (8 - l.i) (line_size * l.line + 8 * l.i) (drop (8 * l.i) (part l.src l.from 64)))) ≡ sets l.initial.tape l.at (tape_bytes (line_by ByWords (line_size * l.line) (part l.src l.from 64)))
