-- `logged_ok`: what the marks leave to be tested of the headers from the i-th on is the whole test.
-- Assumes nothing.
use Prim.Native.Nat.{◌/◌}
use mathlib.Core.Path.{sym, ap, ◌∙◌}
use mathlib.Core.List.{map}
use native.Mathlib.Omega.{arith}
use lib.ListN.{length}
use Rattle.page.specs.Layout.{page_size}
use Rattle.image.specs.Marks.{claims}
use Rattle.image.proofs.CodeMarks.{claims-on, claims-past, claims-twice, claims-none}
use Rattle.journal.specs.Log.{own_page}
use Rattle.journal.specs.Recovery.{lines_from, logged, logged_ok}
use Rattle.tape_write.proofs.Encoding.{start-at}
use Rattle.tape_write.proofs.Redoing.{claims-pages, owns-next, owns-end}
use Rattle.tape_write.proofs.redo.logged_ok.Goals as goal
use Rattle.tape_write.proofs.redo.logged_ok.Goals.{then-n-page-via-then-n-page, then-n-page-via-else-n-page+then-marks-page-ne0}

pub loop-i-init : goal.loop-i-init
unfolding logged_ok logged
loop-i-init c = rw (start-at 0 0 c.args.headers).1 (claims-pages (length c.args.image.now / page_size) (omega arith) (map own_page (lines_from c.args.headers 1 c.args.image.now)))

pub returns-then-n-page : goal.returns-then-n-page
returns-then-n-page c =
    let n = length c.args.image.now / page_size in
    let loop = c.loop-i in
    let next = ap (claims n loop.marks) (owns-next c.args.image.now c.args.headers loop.i c.number_at-page.result c.loop-i-test.true c.number_at-page.ensures.0) in
    elim c.then-n-page.branch [
      | then-n-page-via-then-n-page w ↦ sym (next ∙ claims-past n loop.marks c.number_at-page.result _ w.if-n-page.true) ∙ loop.invariant
      | then-n-page-via-else-n-page+then-marks-page-ne0 w ↦ sym (next ∙ claims-twice n loop.marks c.number_at-page.result _ w.if-n-page.false w.if-marks-page-ne0.true) ∙ loop.invariant
    ]

pub loop-i-preserved : goal.loop-i-preserved
loop-i-preserved c =
    let n = length c.args.image.now / page_size in
    let loop = c.loop-i in
    let next = ap (claims n loop.marks) (owns-next c.args.image.now c.args.headers loop.i c.number_at-page.result c.loop-i-test.true c.number_at-page.ensures.0) in
    sym (next ∙ claims-on n loop.marks c.number_at-page.result _ c.if-n-page.false c.if-marks-page-ne0.false) ∙ loop.invariant

pub returns : goal.returns
returns c =
    let n = length c.args.image.now / page_size in
    sym (ap (claims n c.loop-i.marks) (owns-end c.args.image.now c.args.headers c.loop-i.i c.loop-i-test.false) ∙ claims-none n c.loop-i.marks) ∙ c.loop-i.invariant
