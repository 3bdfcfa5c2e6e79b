-- `collect`: the words that are collected and those still to come are the whole.
-- Assumes nothing.
use Prim.Native.Nat.{◌*◌}
use mathlib.Core.Path.{sym, ap, ◌∙◌}
use native.Mathlib.Omega.{arith}
use lib.ListN.{length-set}
use Rattle.codec.specs.Numbers.{number}
use Rattle.tape_write.proofs.Collecting.{collects-as, collects-one, collects-done, word_same, differ-end, differ_same, differ-other}
use Rattle.tape_write.proofs.words.collect.Goals as goal
use Rattle.tape_write.proofs.words.collect.Goals.{then-long_at, else-long_at}

pub loop-k-preserved : goal.loop-k-preserved
loop-k-preserved c =
    let a = c.args.image.now in
    let v = c.args.work.now in
    let loop = c.loop-k in
    let more = c.loop-k-test.true in
    elim c.if-long_at.branch [
      | then-long_at w ↦
          rw (w.words-is, w.n-is) (
            simp length-set (omega arith),
            collects-one (collects-as (differ-other a v loop.k c.args.to more (λ e. w.if-long_at.true (c.long_at.ensures ∙ ap number e ∙ sym c.long_at-in-loop-k.ensures))) loop.invariant.1),
          )
      | else-long_at w ↦
          let same = word_same a v (λ i. omega (arith, c.type_inv.image i)) (λ i. omega (arith, c.type_inv.work i)) (8 * loop.k) (omega arith) (omega arith) (sym c.long_at.ensures ∙ w.if-long_at.false ∙ c.long_at-in-loop-k.ensures) in
          rw (w.words-is, w.n-is) (omega arith, collects-as (differ_same a v loop.k c.args.to more same) loop.invariant.1)
    ]

pub returns : goal.returns
returns c =
    let whole = collects-done (collects-as (differ-end c.args.image.now c.args.work.now c.loop-k.k c.args.to c.loop-k-test.false) c.loop-k.invariant.1) in
    record { value = whole.0; words_after = whole.1 }
