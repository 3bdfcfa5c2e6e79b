-- `same_words`: what differed so far, with what is left to compare, tells as much as the whole.
-- Assumes nothing.
use Prim.Native.Nat.{◌+◌, ◌*◌}
use mathlib.Core.Path.{sym, ap, ◌∙◌}
use mathlib.Core.Bool.{Bool, ◌&&◌, and-true}
use native.Mathlib.Omega.{arith}
use lib.Dec.{eqb}
use Rattle.codec.specs.Numbers.{number}
use Rattle.tape_write.proofs.Collecting.{word_same}
use Rattle.tape_write.proofs.HeaderPages.{compare-end, compare-joined}
use Rattle.tape_write.proofs.headers.same_words.Goals as goal

pub loop-i-preserved : goal.loop-i-preserved
loop-i-preserved c =
    let loop = c.loop-i in
    let o = c.args.at + 8 * loop.i in
    compare-joined c.args.a.now c.args.b.now c.args.at c.args.n loop.i c.loop-i-test.true (omega arith) (omega arith) loop.differ c.long_at.result c.long_at-in-loop-i.result
    (λ e. word_same c.args.a.now c.args.b.now (λ i. omega (arith, c.type_inv.a i)) (λ i. omega (arith, c.type_inv.b i)) o (omega arith) (omega arith) (sym c.long_at.ensures ∙ e ∙ c.long_at-in-loop-i.ensures))
    (λ e. c.long_at.ensures ∙ ap number e ∙ sym c.long_at-in-loop-i.ensures) ∙ loop.invariant

pub returns : goal.returns
returns c =
    sym (and-true (eqb c.loop-i.differ 0)) ∙ ap (λ (t : Bool). eqb c.loop-i.differ 0 && t) (sym (compare-end c.args.a.now c.args.b.now c.args.at c.args.n c.loop-i.i c.loop-i-test.false)) ∙ c.loop-i.invariant
