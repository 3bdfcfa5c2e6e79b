-- `redo`: the size is known before anything is written; then the image is replayed and the tape written.
-- Assumes nothing.
use mathlib.Core.Path.{◌∙◌}
use native.Mathlib.Omega.{arith}
use Rattle.tape_write.proofs.Redoing.{root-same, redo-short, redo-done}
use Rattle.tape_write.proofs.redo.redo.Goals as goal

pub returns-then-tape-bytes : goal.returns-then-tape-bytes
returns-then-tape-bytes c =
    let r = redo-short c.args.way c.args.image.now c.args.tape.now c.args.headers c.args.root _ c.requires.log (root-same c.args.image.now (λ i. omega (arith, c.type_inv.image i)) (omega (arith, c.requires.log)) c.long_at.result c.args.root c.long_at.ensures (omega (arith, c.ranges.root))) (omega (arith, c.if-tape-bytes.true, c.replay_bytes-bytes.ensures)) in
    record { value = r.0; work_after = c.copy_all.ensures ∙ r.1.0; tape_after = r.1.1 }

pub returns : goal.returns
returns c = let whole =
    redo-done c.args.way c.args.image.now c.args.tape.now c.args.headers c.args.root _ c.requires.log (root-same c.args.image.now (λ i. omega (arith, c.type_inv.image i)) (omega (arith, c.requires.log)) c.long_at.result c.args.root c.long_at.ensures (omega (arith, c.ranges.root))) (omega (arith, c.if-tape-bytes.false, c.replay_bytes-bytes.ensures)) _ _ _ c.replay_bytes-bytes.ensures c.replay.ensures c.emit_replay.ensures in record { value = whole.0; work_after = whole.1.0; tape_after = whole.1.1 }
