-- `changed_headers`: the pages that are collected and those still to come are the whole.
-- Assumes nothing.
use Prim.Native.Nat.{◌/◌, ◌<◌}
use mathlib.Core.Path.{sym, ◌∙◌}
use native.Mathlib.Omega.{arith}
use lib.ListN.{length}
use Rattle.page.specs.Layout.{page_size}
use Rattle.journal.specs.Changes.{header_line, changed_pages}
use Rattle.tape_write.specs.Calls.{reached_in}
use Rattle.tape_write.proofs.Collecting.{collects-start, collects-as, collects-one, collects-first}
use Rattle.tape_write.proofs.HeaderPages.{mark-none, mark-some, changed-end, changed-before, changed-after, changed-same, changed-page}
use Rattle.tape_write.proofs.headers.changed_headers.Goals as goal
use Rattle.tape_write.proofs.headers.changed_headers.Goals.{then-before-p-ne0+then-after-p-ne0+then-not-same_words, else-before-p-ne0, else-before-p-ne0-via-then-before-p-ne0+then-after-p-ne0+else-not-same_words, else-before-p-ne0-via-then-before-p-ne0+else-after-p-ne0, else-before-p-ne0-via-else-before-p-ne0}

pub loop-p-init : goal.loop-p-init
unfolding changed_pages
loop-p-init c = (omega arith, collects-start _ _ _)

pub loop-p-preserved : goal.loop-p-preserved
unfolding header_line
loop-p-preserved c =
    let a = c.args.image.now in
    let v = c.args.work.now in
    let loop = c.loop-p in
    let low : loop.p < 64 = omega (arith, c.requires.0.images.high) in
    elim c.if-before-p-ne0.branch [
      | then-before-p-ne0+then-after-p-ne0+then-not-same_words w ↦ (
        omega arith,
        rw (w.pages-is, w.k-is) (collects-one (collects-as (changed-page (reached_in a) (reached_in v) a v (length a / page_size) loop.p c.loop-p-test.true (mark-some c.requires.0.was loop.p low w.if-before-p-ne0.true) (mark-some c.requires.0.stays loop.p low w.if-after-p-ne0.true) (sym w.same_words.ensures ∙ w.if-not-same_words.true)) loop.invariant.1)),
      )
      | else-before-p-ne0 w ↦ (
        omega arith,
        rw (w.pages-is, w.k-is) (elim w.else-before-p-ne0.branch [
          | else-before-p-ne0-via-then-before-p-ne0+then-after-p-ne0+else-not-same_words u ↦ collects-as (changed-same (reached_in a) (reached_in v) a v (length a / page_size) loop.p c.loop-p-test.true (sym u.same_words.ensures ∙ u.if-not-same_words.false)) loop.invariant.1
          | else-before-p-ne0-via-then-before-p-ne0+else-after-p-ne0 u ↦ collects-as (changed-after (reached_in a) (reached_in v) a v (length a / page_size) loop.p c.loop-p-test.true (mark-none c.requires.0.stays loop.p low u.if-after-p-ne0.false)) loop.invariant.1
          | else-before-p-ne0-via-else-before-p-ne0 u ↦ collects-as (changed-before (reached_in a) (reached_in v) a v (length a / page_size) loop.p c.loop-p-test.true (mark-none c.requires.0.was loop.p low u.if-before-p-ne0.false)) loop.invariant.1
        ]),
      )
    ]

pub returns : goal.returns
returns c =
    let h = collects-first (collects-as (changed-end (reached_in c.args.image.now) (reached_in c.args.work.now) c.args.image.now c.args.work.now (length c.args.image.now / page_size) c.loop-p.p c.loop-p-test.false) c.loop-p.invariant.1) (omega (arith, c.requires.0.images.low, c.requires.0.images.high)) in
    record { value = h.0; pages_first = h.1 }
