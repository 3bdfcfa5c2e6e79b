-- `page_ok`: what is left to be shown of the records that are left is as much as of all; each test is a part of it.
-- Assumes nothing.
use Rattle.std.proofs.Common.{◌≡◌, ◌+◌, ◌*◌, ◌^◌, sym, ap, ◌∙◌, arith, eq-eqb, ne_eqb}
use lib.Bits.{bit_or}
use Rattle.page.specs.Layout.{leaf_kind}
use Rattle.page.proofs.Listed.{count_at, below_count}
use Rattle.page.proofs.CheckHeader.{count-is, head-headed}
use Rattle.page.proofs.CheckPage.{least, units-are, head-stop, pass-start, pass-end, pass-stop, pass-next, tested, not-next, may-next, taken}
use Rattle.page.proofs.check.page_ok.Goals as goal
use Rattle.page.proofs.check.page_ok.Goals.{then-kind-eq-LEAF, else-kind-eq-LEAF}

pub returns-then-not-head_ok : goal.returns-then-not-head_ok
returns-then-not-head_ok c = sym (head-stop _ _ _ (sym c.head_ok.ensures ∙ c.if-not-head_ok.true))

pub number_at-count-requires : goal.number_at-count-requires
number_at-count-requires c =
    let k = head-headed _ _ _ (sym c.head_ok.ensures ∙ c.if-not-head_ok.false) in
    omega (arith, k.whole)

pub number_at-start-requires : goal.number_at-start-requires
number_at-start-requires c =
    let k = head-headed _ _ _ (sym c.head_ok.ensures ∙ c.if-not-head_ok.false) in
    omega (arith, k.whole)

pub loop-i-init : goal.loop-i-init
loop-i-init c =
    let low : c.if-kind-eq-LEAF.low ≡ least c.args.kind =
    elim c.if-kind-eq-LEAF.branch [
      | then-kind-eq-LEAF w ↦ w.low-is ∙ sym (rw (eq-eqb c.args.kind leaf_kind w.if-kind-eq-LEAF.true))
      | else-kind-eq-LEAF w ↦ w.low-is ∙ sym (rw (ne_eqb c.args.kind leaf_kind w.if-kind-eq-LEAF.false))
    ] in
    pass-start _ _ _ _ low c.none-marks.ensures

pub number_at-at-requires : goal.number_at-at-requires
number_at-at-requires c =
    let k = head-headed _ _ _ (sym c.head_ok.ensures ∙ c.if-not-head_ok.false) in
    omega (arith, c.loop-i-test.true, c.number_at-count.ensures.0, count-is c.args.page.now, k.head.few, k.whole)

pub record_ok-requires : goal.record_ok-requires
record_ok-requires c =
    let k = head-headed _ _ _ (sym c.head_ok.ensures ∙ c.if-not-head_ok.false) in
    (k.whole, c.number_at-at.ensures.1)

pub returns-then-not-record_ok : goal.returns-then-not-record_ok
returns-then-not-record_ok c =
    let less = below_count _ _ _ c.loop-i-test.true c.number_at-count.ensures.0 in
    sym (pass-stop _ _ _ _ _ _ c.loop-i.invariant _ c.number_at-at.ensures.0 less
    (not-next _ _ _ _ _ c.number_at-start.ensures.0 c.record_ok.ensures _ _ c.if-not-record_ok.true))

pub long_at-key-requires : goal.long_at-key-requires
long_at-key-requires c =
    let k = head-headed _ _ _ (sym c.head_ok.ensures ∙ c.if-not-head_ok.false) in
    let t = tested _ _ _ _ _ c.number_at-start.ensures.0 c.record_ok.ensures k.whole c.if-not-record_ok.false in
    omega (arith, t.numbers.inside, k.whole)

pub returns-then-key-low : goal.returns-then-key-low
returns-then-key-low c =
    let k = head-headed _ _ _ (sym c.head_ok.ensures ∙ c.if-not-head_ok.false) in
    let t = tested _ _ _ _ _ c.number_at-start.ensures.0 c.record_ok.ensures k.whole c.if-not-record_ok.false in
    let less = below_count _ _ _ c.loop-i-test.true c.number_at-count.ensures.0 in
    sym (pass-stop _ _ _ _ _ _ c.loop-i.invariant _ c.number_at-at.ensures.0 less
    (λ n. omega (arith, n.above, c.if-key-low.true, c.long_at-key.ensures, t.numbers.key)))

pub long_at-n-requires : goal.long_at-n-requires
long_at-n-requires c =
    let k = head-headed _ _ _ (sym c.head_ok.ensures ∙ c.if-not-head_ok.false) in
    let t = tested _ _ _ _ _ c.number_at-start.ensures.0 c.record_ok.ensures k.whole c.if-not-record_ok.false in
    omega (arith, t.numbers.inside, k.whole)

pub overflow_add-n : goal.overflow_add-n
overflow_add-n c =
    let k = head-headed _ _ _ (sym c.head_ok.ensures ∙ c.if-not-head_ok.false) in
    let t = tested _ _ _ _ _ c.number_at-start.ensures.0 c.record_ok.ensures k.whole c.if-not-record_ok.false in
    omega (arith, t.numbers.few, c.long_at-n.ensures)

pub run-units-requires : goal.run-units-requires
run-units-requires c =
    let k = head-headed _ _ _ (sym c.head_ok.ensures ∙ c.if-not-head_ok.false) in
    let t = tested _ _ _ _ _ c.number_at-start.ensures.0 c.record_ok.ensures k.whole c.if-not-record_ok.false in
    omega (arith, t.numbers.few, t.numbers.high, c.long_at-n.ensures, t.held.low, k.head.low)

pub returns-then-not-apart : goal.returns-then-not-apart
returns-then-not-apart c =
    let k = head-headed _ _ _ (sym c.head_ok.ensures ∙ c.if-not-head_ok.false) in
    let t = tested _ _ _ _ _ c.number_at-start.ensures.0 c.record_ok.ensures k.whole c.if-not-record_ok.false in
    let less = below_count _ _ _ c.loop-i-test.true c.number_at-count.ensures.0 in
    let mine = c.run-units.ensures ∙ units-are _ _ _ (c.long_at-n.ensures ∙ t.numbers.word) in
    sym (pass-stop _ _ _ _ _ _ c.loop-i.invariant _ c.number_at-at.ensures.0 less (taken _ _ _ _ _ _ _ t mine c.apart.ensures c.if-not-apart.true))

pub overflow_add-low : goal.overflow_add-low
overflow_add-low c =
    let k = head-headed _ _ _ (sym c.head_ok.ensures ∙ c.if-not-head_ok.false) in
    let t = tested _ _ _ _ _ c.number_at-start.ensures.0 c.record_ok.ensures k.whole c.if-not-record_ok.false in
    omega (arith, t.numbers.small, c.long_at-key.ensures)

pub loop-i-preserved : goal.loop-i-preserved
loop-i-preserved c =
    let k = head-headed _ _ _ (sym c.head_ok.ensures ∙ c.if-not-head_ok.false) in
    let t = tested _ _ _ _ _ c.number_at-start.ensures.0 c.record_ok.ensures k.whole c.if-not-record_ok.false in
    let less = below_count _ _ _ c.loop-i-test.true c.number_at-count.ensures.0 in
    let mine = c.run-units.ensures ∙ units-are _ _ _ (c.long_at-n.ensures ∙ t.numbers.word) in
    let n = may-next _ _ _ _ _ _ _ t mine c.apart.ensures c.loop-i.invariant.above (omega (arith, c.if-key-low.false, c.long_at-key.ensures)) c.if-not-apart.false in
    let marks = c.loop-i.marks.high * 2 ^ 64 + c.loop-i.marks.low in
    pass-next _ c.args.own _ _ _ _ c.loop-i.invariant _ c.number_at-at.ensures.0 less n _ _ (omega (arith, c.long_at-key.ensures, t.numbers.key)) (c.with-marks.ensures ∙ ap (bit_or marks) mine)

pub returns : goal.returns
returns c =
    let k = head-headed _ _ _ (sym c.head_ok.ensures ∙ c.if-not-head_ok.false) in
    sym (pass-end _ _ _ _ _ _ c.loop-i.invariant k (omega (arith, c.loop-i-test.false, c.number_at-count.ensures.0, count_at c.args.page.now)))
