-- `emit_line`, by the way.
-- Assumes nothing.
use mathlib.Core.Path.{ap}
use native.Mathlib.Omega.{arith}
use Rattle.journal.specs.declared.Way.{Way}
use Rattle.tape_write.specs.Sizes.{lines_bytes}
use Rattle.tape_write.proofs.LineBytes.{by-line}
use Rattle.tape_write.proofs.lines.emit_line.Goals as goal

pub emit_line-requires : goal.emit_line-requires
unfolding lines_bytes
emit_line-requires c =
    (omega (arith, c.requires.0, ap (λ (v : Way). lines_bytes v 1) c.in-ByLine.is), c.requires.1)

pub emit_eight-requires : goal.emit_eight-requires
unfolding lines_bytes
emit_eight-requires c =
    (omega (arith, c.requires.0, ap (λ (v : Way). lines_bytes v 1) c.in-ByWords.is), c.requires.1, c.requires.2)

pub returns-in-ByLine : goal.returns-in-ByLine
unfolding lines_bytes
returns-in-ByLine c =
    rw c.in-ByLine.is (by-line c.args.src.now c.args.from c.args.line c.requires.1 c.args.tape.now _ c.args.at (omega (arith, c.requires.0, ap (λ (v : Way). lines_bytes v 1) c.in-ByLine.is)) c.emit_line.ensures)
