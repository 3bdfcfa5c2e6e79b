-- `record_ok`: each test is a fact of a record that is laid out, and after them the padding decides.
-- Assumes nothing.
use Rattle.std.proofs.Common.{◌≡◌, ◌≤◌, true, sym, ap, ◌∙◌, arith}
use mathlib.Core.Bool.{false≢true}
use Rattle.page.specs.Layout.{value_most, up8}
use Rattle.page.proofs.CheckRecord.{length_b, length-few, length-fitting, fitting-length, held-numbers, not-record, record-blank}
use Rattle.page.proofs.check.record_ok.Goals as goal
use Rattle.page.proofs.check.record_ok.Goals.{Else-not-length_ok}

pub returns-then-at-start : goal.returns-then-at-start
returns-then-at-start c = sym (not-record c.args.kind c.args.page.now c.args.start c.args.at (λ k f. omega (arith, k.low, c.if-at-start.true)))

pub returns-then-at-ne0 : goal.returns-then-at-ne0
returns-then-at-ne0 c = sym (not-record c.args.kind c.args.page.now c.args.start c.args.at (λ k f. c.if-at-ne0.true k.even))

pub overflow_add-at : goal.overflow_add-at
overflow_add-at c = omega arith

pub returns-then-at-gt-PAGE : goal.returns-then-at-gt-PAGE
returns-then-at-gt-PAGE c = sym (not-record c.args.kind c.args.page.now c.args.start c.args.at (λ k f. omega (arith, c.if-at-gt-PAGE.true, (held-numbers _ _ _ c.requires.0 k).inside)))

pub returns-then-not-length_ok : goal.returns-then-not-length_ok
returns-then-not-length_ok c =
    let kind = c.args.kind in
    sym (not-record c.args.kind c.args.page.now c.args.start c.args.at (λ k f. false≢true (sym (c.if-not-length_ok.true) ∙ c.length_ok.ensures
    ∙ ap (length_b kind) (c.long_at-n.ensures ∙ (held-numbers _ _ _ c.requires.0 k).word) ∙ fitting-length kind _ k.ok.few f)))

-- the length is one of the kind's
good : (c : Else-not-length_ok) → length_b c.args.kind c.long_at-n.result ≡ true
good c = sym c.length_ok.ensures ∙ c.if-not-length_ok.false

few : (c : Else-not-length_ok) → c.long_at-n.result ≤ value_most
few c = length-few c.args.kind c.long_at-n.result (good c)

pub overflow_add-end-2 : goal.overflow_add-end-2
overflow_add-end-2 c = omega (arith, few (goal.at.overflow_add-end-2 c).Else-not-length_ok)

pub overflow_mul-end : goal.overflow_mul-end
overflow_mul-end c = omega (arith, few (goal.at.overflow_mul-end c).Else-not-length_ok)

pub overflow_add-end-3 : goal.overflow_add-end-3
overflow_add-end-3 c = omega (arith, few (goal.at.overflow_add-end-3 c).Else-not-length_ok)

pub returns-then-end-gt-PAGE : goal.returns-then-end-gt-PAGE
returns-then-end-gt-PAGE c = sym (not-record c.args.kind c.args.page.now c.args.start c.args.at (λ k f. omega (arith, c.if-end-gt-PAGE.true, c.long_at-n.ensures, (held-numbers _ _ _ c.requires.0 k).high)))

pub returns-then-long_at-gt-TOP_KEY : goal.returns-then-long_at-gt-TOP_KEY
returns-then-long_at-gt-TOP_KEY c = sym (not-record c.args.kind c.args.page.now c.args.start c.args.at (λ k f. omega (arith, c.if-long_at-gt-TOP_KEY.true, c.long_at.ensures, (held-numbers _ _ _ c.requires.0 k).small)))

pub returns : goal.returns
unfolding up8
returns c =
    let a = c.args in
    let n = c.long_at-n.result in
    c.blank.ensures
    ∙ record-blank a.page.now (λ i. omega (arith, c.type_inv.page i)) c.requires.0 a.at n c.long_at-n.ensures (few (goal.at.returns c).Else-not-length_ok) (omega (arith, c.if-end-gt-PAGE.false))
    a.kind a.start (length-fitting a.kind n (good (goal.at.returns c).Else-not-length_ok)) c.if-at-start.false c.if-at-ne0.false (omega (arith, c.if-long_at-gt-TOP_KEY.false, c.long_at.ensures))
