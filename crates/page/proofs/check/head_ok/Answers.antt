-- `head_ok`: each test is a fact of a right header, and after them the slots past the count decide.
-- Assumes nothing.
use Rattle.std.proofs.Common.{ℕ, ◌%◌, sym, ap, ◌∙◌, arith}
use Rattle.page.proofs.CheckHeader.{count-is, start_is, kind-is, own_is, line-facts, not-headed, head-blank}
use Rattle.page.proofs.check.head_ok.Goals as goal

pub returns-then-page-ne-PAGE : goal.returns-then-page-ne-PAGE
returns-then-page-ne-PAGE c = sym (not-headed c.args.kind c.args.own c.args.page.now (λ k. c.if-page-ne-PAGE.true k.whole))

pub returns-then-count-gt-SLOTS : goal.returns-then-count-gt-SLOTS
returns-then-count-gt-SLOTS c = sym (not-headed c.args.kind c.args.own c.args.page.now (λ k. omega (arith, k.head.few, c.if-count-gt-SLOTS.true, c.number_at-count.ensures.0, count-is c.args.page.now)))

pub returns-then-start-ne0 : goal.returns-then-start-ne0
returns-then-start-ne0 c = sym (not-headed c.args.kind c.args.own c.args.page.now (λ k. c.if-start-ne0.true (ap (λ (n : ℕ). n % 8) (c.number_at-start.ensures.0 ∙ sym (start_is _)) ∙ k.head.even)))

pub returns-then-start-lt-LINE : goal.returns-then-start-lt-LINE
returns-then-start-lt-LINE c = sym (not-headed c.args.kind c.args.own c.args.page.now (λ k. omega (arith, k.head.low, c.if-start-lt-LINE.true, c.number_at-start.ensures.0, start_is c.args.page.now)))

pub returns-then-start-gt-PAGE : goal.returns-then-start-gt-PAGE
returns-then-start-gt-PAGE c = sym (not-headed c.args.kind c.args.own c.args.page.now (λ k. omega (arith, k.head.high, c.if-start-gt-PAGE.true, c.number_at-start.ensures.0, start_is c.args.page.now)))

pub returns-then-page-kind : goal.returns-then-page-kind
returns-then-page-kind c = sym (not-headed c.args.kind c.args.own c.args.page.now (λ k. c.if-page-kind.true (sym (kind-is c.args.page.now) ∙ k.kind)))

pub returns-then-page-ne0 : goal.returns-then-page-ne0
returns-then-page-ne0 c = sym (not-headed c.args.kind c.args.own c.args.page.now (λ k. c.if-page-ne0.true (line-facts c.args.page.now (λ i. omega (arith, c.type_inv.page i)) c.if-page-ne-PAGE.false _ c.number_at-count.ensures.0 c.if-count-gt-SLOTS.false k.line).0))

pub returns-then-number_at-own : goal.returns-then-number_at-own
returns-then-number_at-own c = sym (not-headed c.args.kind c.args.own c.args.page.now (λ k. c.if-number_at-own.true (c.number_at.ensures.0 ∙ sym (own_is _) ∙ k.own)))

pub returns : goal.returns
returns c =
    let a = c.args in
    c.blank.ensures
    ∙ head-blank a.kind a.own a.page.now (λ i. omega (arith, c.type_inv.page i)) c.if-page-ne-PAGE.false _ c.number_at-count.ensures.0 c.if-count-gt-SLOTS.false
    (ap (λ (n : ℕ). n % 8) (sym c.number_at-start.ensures.0) ∙ c.if-start-ne0.false) (omega (arith, c.if-start-lt-LINE.false)) (omega (arith, c.if-start-gt-PAGE.false)) c.if-page-kind.false c.if-page-ne0.false (sym c.number_at.ensures.0 ∙ c.if-number_at-own.false)
