-- `put_headers`: the headers that are left, written over what is there, are the whole.
-- Assumes nothing.
use Prim.Native.Nat.{◌/◌}
use mathlib.Core.Path.{sym, ◌∙◌}
use native.Mathlib.Omega.{arith}
use lib.ListN.{length}
use Rattle.page.specs.Layout.{page_size}
use Rattle.image.proofs.Zero.{is_page-true}
use Rattle.journal.specs.Recovery.{logged}
use Rattle.journal.proofs.Headers.{logged-inside}
use Rattle.tape_write.proofs.Encoding.{start-at}
use Rattle.tape_write.proofs.Redoing.{with-next, with-end, inside-next}
use Rattle.tape_write.proofs.redo.put_headers.Goals as goal

pub loop-i-init : goal.loop-i-init
unfolding logged
loop-i-init c =
    (rw (start-at 0 0 c.args.headers).1 (logged-inside (length c.args.image.now / page_size) _ c.requires.image_value), rw (start-at 0 0 c.args.headers).1)

pub copy_line-requires : goal.copy_line-requires
copy_line-requires c =
    let loop = c.loop-i in
    (omega (arith, is_page-true (length c.args.image.now / page_size) c.number_at-page.result (inside-next c.args.image.now c.args.headers loop.i (length c.args.image.now / page_size) c.number_at-page.result c.loop-i-test.true c.number_at-page.ensures.0 loop.invariant.0).0, c.requires.headers_in_bounds.1), omega arith)

pub loop-i-preserved : goal.loop-i-preserved
loop-i-preserved c =
    let more = c.loop-i-test.true in
    let loop = c.loop-i in
    ((inside-next c.args.image.now c.args.headers loop.i (length c.args.image.now / page_size) c.number_at-page.result more c.number_at-page.ensures.0 loop.invariant.0).1, with-next c.args.image.now c.args.headers loop.i loop.work _ c.number_at-page.result more c.number_at-page.ensures.0 c.copy_line.ensures ∙ loop.invariant.1)

pub returns : goal.returns
returns c =
    sym (with-end c.args.image.now c.args.headers c.loop-i.i c.loop-i.work c.loop-i-test.false) ∙ c.loop-i.invariant.1
