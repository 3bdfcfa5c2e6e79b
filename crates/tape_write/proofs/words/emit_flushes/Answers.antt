-- `emit_flushes`: the flushes that are left, over what is written, are the whole.
-- Assumes nothing.
use Prim.Native.Nat.{ℕ, ◌+◌, ◌/◌}
use mathlib.Core.Path.{refl, sym, ap, ◌∙◌}
use mathlib.Core.List.{List, map}
use native.Mathlib.Omega.{arith}
use lib.ListN.{length}
use lib.Seq.{sets}
use Rattle.device.specs.Tape.{tape_bytes, flush}
use Rattle.tape_write.proofs.Encoding.{flush-next, tape-none}
use Rattle.tape_write.proofs.StageTape.{lines_end, line_same, line_other}
use Rattle.tape_write.proofs.words.emit_flushes.Goals as goal
use Rattle.tape_write.proofs.words.emit_flushes.Goals.{then-line-last, else-line-last}

pub emit_flush-requires : goal.emit_flush-requires
emit_flush-requires c =
    omega (arith, ap length (line_other c.args.words.now c.loop-k.k-index c.wide16-line.result c.loop-k-test.true c.wide16-line.ensures.0 c.loop-k.last c.if-line-last.true))

pub loop-k-preserved : goal.loop-k-preserved
loop-k-preserved c =
    let ks = c.args.words.now in
    let loop = c.loop-k in
    elim c.if-line-last.branch [
      | then-line-last w ↦
          let e = line_other ks loop.k-index c.wide16-line.result c.loop-k-test.true c.wide16-line.ensures.0 loop.last w.if-line-last.true in
          rw (w.tape-is, w.to-is, w.last-is) (
            omega (arith, ap length e),
            flush-next loop.tape _ loop.to (loop.to + 4) _ (c.wide16-line.result / 8) w.emit_flush.ensures refl (omega (arith, ap length e))
                ∙ ap (λ (ls : List ℕ). sets loop.tape loop.to (tape_bytes (map flush ls))) (sym e) ∙ loop.invariant.1,
          )
      | else-line-last w ↦
          let e = line_same ks loop.k-index c.wide16-line.result c.loop-k-test.true c.wide16-line.ensures.0 loop.last w.if-line-last.false in
          rw (w.tape-is, w.to-is, w.last-is) (
            omega (arith, ap length e),
            ap (λ (ls : List ℕ). sets loop.tape loop.to (tape_bytes (map flush ls))) (sym e) ∙ loop.invariant.1,
          )
    ]

pub returns : goal.returns
returns c =
    sym (ap (λ (ls : List ℕ). sets c.loop-k.tape c.loop-k.to (tape_bytes (map flush ls))) (lines_end c.args.words.now c.loop-k.last c.loop-k.k-index c.loop-k-test.false) ∙ tape-none c.loop-k.tape c.loop-k.to) ∙ c.loop-k.invariant.1
