-- `changed_words`: the words that are collected and those of the pages still to come are the whole.
-- Assumes nothing.
use Prim.Native.Nat.{◌+◌, ◌-◌, ◌*◌, ◌/◌}
use mathlib.Core.Path.{refl}
use native.Mathlib.Omega.{arith}
use lib.ListN.{length}
use Rattle.page.specs.Layout.{page_size}
use Rattle.journal.specs.Changes.{page_words}
use Rattle.tape_write.specs.Words.{differing}
use Rattle.tape_write.specs.Calls.{reached_in}
use Rattle.tape_write.proofs.Collecting.{collects-start, collects-as, collects-some, collects-first, differ-length}
use Rattle.tape_write.proofs.StageWords.{stored_next, stored_last, stage-start, mark-few}
use Rattle.tape_write.proofs.Skipped.{differ-kept}
use Rattle.tape_write.proofs.words.changed_words.Goals as goal

pub loop-p-init : goal.loop-p-init
loop-p-init c = (omega arith, collects-as (stage-start c.args.image.now c.args.work.now c.requires.0.images) (collects-start _ _ _))

pub collect_changed-n-requires : goal.collect_changed-n-requires
collect_changed-n-requires c =
    let loop = c.loop-p in
    let few = mark-few c.requires.0.was loop.p (omega arith) in (
      omega arith,
      omega arith,
      omega arith,
      omega arith,
      omega (arith, c.requires.1, c.requires.0.images.whole),
      λ z. differ-kept c.args.image.now c.args.work.now c.args.before.now c.args.after.now c.requires.0 loop.p _ _ loop.auto.p (omega arith) (omega arith) refl z,
    )

pub loop-p-preserved : goal.loop-p-preserved
loop-p-preserved c =
    let loop = c.loop-p in
    let rs = reached_in c.args.image.now in
    let m = c.requires.0.was.mark loop.p (omega (arith, c.requires.0.images.high)) in
    let from = page_words * loop.p + 8 * c.wide.result in
    let to = page_words * loop.p + page_words in
    let few = differ-length c.args.image.now c.args.work.now (to - from) from in (
      omega (arith, c.collect_changed-n.ensures.value),
      collects-some (differing c.args.image.now c.args.work.now (to - from) from) _ c.collect_changed-n.ensures.words_after c.collect_changed-n.ensures.value
          (collects-as (stored_next rs c.args.image.now c.args.work.now (length c.args.image.now / page_size) loop.p from to loop.auto.p c.loop-p-test.true (omega (arith, c.wide.ensures.0)) refl) loop.invariant.1),
    )

pub returns : goal.returns
returns c =
    let h = collects-first (collects-as (stored_last (reached_in c.args.image.now) c.args.image.now c.args.work.now (length c.args.image.now / page_size) c.loop-p.p c.loop-p-test.false) c.loop-p.invariant.1) (omega (arith, c.requires.1, c.requires.0.images.low, c.requires.0.images.whole)) in
    record { value = h.0; words_first = h.1 }
