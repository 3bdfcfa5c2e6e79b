-- `replay`: what is kept of the commands left, made over what is there, is what is kept of all.
-- Assumes nothing.
use Prim.Native.Nat.{◌+◌, ◌-◌, ◌/◌, ◌<◌}
use mathlib.Core.Path.{◌≡◌, sym, ◌∙◌}
use native.Mathlib.Omega.{arith}
use lib.ListN.{length}
use Rattle.device.proofs.Turns.{replaying-start, replaying-more, replaying-head, replaying-word, replaying-line, replaying-other, replaying-store, replaying-quiet, replaying-end}
use Rattle.device.proofs.replay.Goals as goal
use Rattle.device.proofs.replay.Goals.{then-kind-eq1, then-is_kept, else-is_kept, else-kind-eq1+then-kind-eq2, then-is_kept-2, else-is_kept-2, else-kind-eq1+else-kind-eq2}

pub loop-done-init : goal.loop-done-init
loop-done-init c =
    let a = c.args in
    replaying-start (length a.work.now) a.tape.now _ a.flushes.now a.fence a.c _ a.work.now a.left.now (omega arith) c.requires.tape_value.0 c.requires.tape_value.1 c.requires.tells

pub bounds-tape-at : goal.bounds-tape-at
bounds-tape-at c = replaying-more c.loop-done.invariant (omega arith)

pub number_at-place-requires : goal.number_at-place-requires
number_at-place-requires c = omega (arith, replaying-head c.loop-done.invariant (omega arith))

pub is_kept-requires : goal.is_kept-requires
is_kept-requires c =
    let k = replaying-word c.loop-done.invariant (omega arith) _ c.number_at-place.ensures.0 c.if-kind-eq1.true in
    (omega (arith, k.in_image), omega (arith, k.in_image))

pub copy_word-requires : goal.copy_word-requires
copy_word-requires c =
    let k = replaying-word c.loop-done.invariant (omega arith) _ c.number_at-place.ensures.0 c.if-kind-eq1.true in
    (omega (arith, k.in_image), omega (arith, k.in_tape))

pub is_kept-requires-then-kind-eq2 : goal.is_kept-requires-then-kind-eq2
is_kept-requires-then-kind-eq2 c =
    let k = replaying-line c.loop-done.invariant (omega arith) _ c.number_at-place.ensures.0 c.if-kind-eq2.true in
    (omega (arith, k.in_image), omega (arith, k.in_image))

pub copy_line-requires : goal.copy_line-requires
copy_line-requires c =
    let k = replaying-line c.loop-done.invariant (omega arith) _ c.number_at-place.ensures.0 c.if-kind-eq2.true in
    (omega (arith, k.in_image), omega (arith, k.in_tape))

pub loop-done-preserved : goal.loop-done-preserved
loop-done-preserved c =
    let R = c.loop-done.invariant in
    let some : 0 < c.args.c - c.loop-done._done = omega arith in
    let place = c.number_at-place.ensures.0 in
    let next : c.args.c - (c.loop-done._done + 1) ≡ c.args.c - c.loop-done._done - 1 = omega arith in
    elim c.if-kind-eq1.branch [
      | then-kind-eq1 w ↦
          let k = replaying-word R some _ place w.if-kind-eq1.true in
          replaying-store R some _ next _ _ _ _ _ k w.at-is (c.number_at-place.result / 8) (omega arith) (omega arith) (omega (arith, k.in_image)) (omega (arith, k.in_image)) (record { made = elim w.if-is_kept.branch [ then-is_kept v ↦ w.work-is ∙ v.work-is ∙ rw (sym w.is_kept.ensures.value ∙ v.if-is_kept.true) v.copy_word.ensures | else-is_kept v ↦ w.work-is ∙ v.work-is ∙ rw (sym w.is_kept.ensures.value ∙ v.if-is_kept.false) ]; counted = w.left-is ∙ w.is_kept.ensures.left_after })
      | else-kind-eq1+then-kind-eq2 w ↦
          let k = replaying-line R some _ place w.if-kind-eq2.true in
          replaying-store R some _ next _ _ _ _ _ k w.at-is c.number_at-place.result (omega arith) (omega arith) (omega (arith, k.in_image)) (omega (arith, k.in_image)) (record { made = elim w.if-is_kept-2.branch [ then-is_kept-2 v ↦ w.work-is ∙ v.work-is ∙ rw (sym w.is_kept-then-kind-eq2.ensures.value ∙ v.if-is_kept-2.true) v.copy_line.ensures | else-is_kept-2 v ↦ w.work-is ∙ v.work-is ∙ rw (sym w.is_kept-then-kind-eq2.ensures.value ∙ v.if-is_kept-2.false) ]; counted = w.left-is ∙ w.is_kept-then-kind-eq2.ensures.left_after })
      | else-kind-eq1+else-kind-eq2 w ↦
          replaying-quiet R some _ next _ _ _ _ (replaying-other R some _ place w.if-kind-eq1.false w.if-kind-eq2.false) w.at-is w.work-is w.left-is
    ]

pub returns : goal.returns
returns c = replaying-end c.loop-done.invariant (omega arith)
