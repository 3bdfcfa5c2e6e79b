-- `emit_header`: the line store, and the flush and the barrier behind it.
-- Assumes nothing.
use Prim.Native.Nat.{ℕ, ◌+◌, ◌*◌}
use mathlib.Core.Path.{◌≡◌, refl, ap, ◌∙◌}
use mathlib.Core.List.{[], ◌∷◌}
use native.Mathlib.Omega.{arith}
use lib.Seq.{sets}
use Rattle.codec.specs.Lists.{part}
use Rattle.codec.proofs.Lists.{length_part}
use Rattle.device.specs.Tape.{tape_bytes, store, flush}
use Rattle.device.specs.Cut.{with_barrier}
use Rattle.page.specs.Layout.{page_size}
use Rattle.journal.specs.Changes.{header_line}
use Rattle.tape_write.proofs.Encoding.{line-next}
use Rattle.tape_write.proofs.ends.emit_header.Goals as goal

pub returns : goal.returns
unfolding header_line
returns c =
    let e : 64 * (16 * c.args.page) ≡ page_size * c.args.page = omega arith in
    let n = length_part c.args.work.now (page_size * c.args.page) 64 (omega (arith, c.requires.1.1)) in
    c.emit_wait.ensures
    ∙ line-next c.args.tape.now _ c.args.at (c.args.at + 68) (with_barrier (flush (16 * c.args.page) ∷ [])) (16 * c.args.page) (part c.args.work.now (page_size * c.args.page) 64) c.emit_line.ensures n refl (omega arith)
    ∙ ap (λ (p : ℕ). sets c.args.tape.now c.args.at (tape_bytes (store p (part c.args.work.now (page_size * c.args.page) 64) ∷ with_barrier (flush (16 * c.args.page) ∷ [])))) e
