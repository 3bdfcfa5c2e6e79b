-- `page_zero` answers what page 0 says: each return cites the law of the tests that led there.
-- Assumes nothing.
use Prim.Native.Nat.{ℕ, ◌/◌, ◌%◌}
use mathlib.Core.Path.{◌≡◌, sym, ap, ◌∙◌}
use mathlib.Core.Bool.{true≢false}
use native.Mathlib.Omega.{arith}
use lib.ListN.{length}
use borrow.Author.Tests.{not-true, not-false}
use Rattle.codec.specs.Lists.{part}
use Rattle.codec.specs.Numbers.{number}
use Rattle.page.proofs.CheckBytes.{Bytes}
use Rattle.image.specs.PageZero.{is_page, root_of, page_count, page_zero}
use Rattle.image.specs.declared.PageZero.TheVariants.{Wrong}
use Rattle.image.proofs.Zero.{size-true}
use Rattle.image.proofs.CodeZero.{Past, Mark, zero-wrong, zero-ready, zero-waits, zero-bad-mark}
use Rattle.image.proofs.page_zero.page_zero.Goals as goal
use Rattle.image.proofs.page_zero.page_zero.Goals.{After-shared_slice_known-1, Else-mark-eq0, Else-not-zero_words}

bytes : (c : After-shared_slice_known-1) → Bytes c.args.image.now
bytes c = λ i. omega (arith, c.type_inv.image i)

pub long_at-root-requires : goal.long_at-root-requires
long_at-root-requires c = let fits = size-true (length c.args.image.now) c.requires in omega arith

pub returns-then-not-is_page : goal.returns-then-not-is_page
unfolding root_of
returns-then-not-is_page c = sym (zero-wrong _ (bytes (goal.at.returns-then-not-is_page c).After-shared_slice_known-1) (size-true _ c.requires) (λ l. true≢false (sym l.root ∙ ap (is_page _) (sym c.long_at-root.ensures) ∙ sym c.is_page.ensures ∙ not-true _ c.if-not-is_page.true-raw)))

pub long_at-requires : goal.long_at-requires
long_at-requires c =
    let fits = size-true (length c.args.image.now) c.requires in omega arith

pub returns-then-long_at-n : goal.returns-then-long_at-n
unfolding root_of
returns-then-long_at-n c = sym (zero-wrong _ (bytes (goal.at.returns-then-long_at-n c).After-shared_slice_known-1) (size-true _ c.requires) (λ l. c.if-long_at-n.true (c.long_at.ensures ∙ l.second)))

pub zero_words-requires : goal.zero_words-requires
zero_words-requires c =
    let fits = size-true (length c.args.image.now) c.requires in omega arith

pub returns-then-not-zero_words : goal.returns-then-not-zero_words
unfolding root_of
returns-then-not-zero_words c = sym (zero-wrong _ (bytes (goal.at.returns-then-not-zero_words c).After-shared_slice_known-1) (size-true _ c.requires) (λ l. true≢false (sym l.rest ∙ sym c.zero_words.ensures ∙ not-true _ c.if-not-zero_words.true-raw)))

pub long_at-mark-requires : goal.long_at-mark-requires
long_at-mark-requires c =
    let fits = size-true (length c.args.image.now) c.requires in omega arith

past : (c : Else-not-zero_words) → Past c.args.image.now
unfolding root_of
past c =
    record {
      root = ap (is_page (page_count c.args.image.now)) (sym c.long_at-root.ensures) ∙ sym c.is_page.ensures ∙ not-false _ c.if-not-is_page.false-raw;
      second = sym c.long_at.ensures ∙ c.if-long_at-n.false;
      rest = sym c.zero_words.ensures ∙ not-false _ c.if-not-zero_words.false-raw;
    }

pub returns-then-mark-eq0 : goal.returns-then-mark-eq0
unfolding root_of
returns-then-mark-eq0 c = rw c.long_at-root.ensures (sym (zero-ready _ (bytes (goal.at.returns-then-mark-eq0 c).After-shared_slice_known-1) (size-true _ c.requires) (past (goal.at.returns-then-mark-eq0 c).Else-not-zero_words) (sym c.long_at-mark.ensures ∙ c.if-mark-eq0.true)))

no-mark : (c : Else-mark-eq0) →
    (Bytes c.args.image.now) → (Past c.args.image.now) → let a = c.args in
    (Mark (page_count a.image.now) (number (part a.image.now 0 8)) → ⊥) → Wrong ≡ page_zero a.image.now
no-mark c bytes past h = sym (zero-bad-mark _ bytes (size-true _ c.requires) past (λ e. c.if-mark-eq0.false (c.long_at-mark.ensures ∙ e)) h)

pub returns-then-mark-ne1 : goal.returns-then-mark-ne1
returns-then-mark-ne1 c = no-mark (goal.at.returns-then-mark-ne1 c).Else-mark-eq0 (bytes (goal.at.returns-then-mark-ne1 c).After-shared_slice_known-1) (past (goal.at.returns-then-mark-ne1 c).Else-not-zero_words) (λ k. c.if-mark-ne1.true (ap (λ (m : ℕ). m % 256) c.long_at-mark.ensures ∙ k.one))

pub returns-then-headers-lt1 : goal.returns-then-headers-lt1
returns-then-headers-lt1 c = no-mark (goal.at.returns-then-headers-lt1 c).Else-mark-eq0 (bytes (goal.at.returns-then-headers-lt1 c).After-shared_slice_known-1) (past (goal.at.returns-then-headers-lt1 c).Else-not-zero_words) (λ k. omega (arith, c.if-headers-lt1.true, c.long_at-mark.ensures, k.some))

pub returns-then-headers-gt15 : goal.returns-then-headers-gt15
returns-then-headers-gt15 c = no-mark (goal.at.returns-then-headers-gt15 c).Else-mark-eq0 (bytes (goal.at.returns-then-headers-gt15 c).After-shared_slice_known-1) (past (goal.at.returns-then-headers-gt15 c).Else-not-zero_words) (λ k. omega (arith, c.if-headers-gt15.true, c.long_at-mark.ensures, k.few))

pub returns-then-not-is_page-2 : goal.returns-then-not-is_page-2
returns-then-not-is_page-2 c = no-mark (goal.at.returns-then-not-is_page-2 c).Else-mark-eq0 (bytes (goal.at.returns-then-not-is_page-2 c).After-shared_slice_known-1) (past (goal.at.returns-then-not-is_page-2 c).Else-not-zero_words) (λ k. true≢false (sym k.page ∙ ap (λ (m : ℕ). is_page (page_count c.args.image.now) (m / 65536)) (sym c.long_at-mark.ensures) ∙ sym c.is_page-2.ensures ∙ not-true _ c.if-not-is_page-2.true-raw))

pub returns : goal.returns
returns c =
    let e = c.long_at-mark.ensures in
    let k : Mark (page_count c.args.image.now) c.long_at-mark.result = record { one = c.if-mark-ne1.false; some = c.if-headers-lt1.false; few = c.if-headers-gt15.false; page = sym c.is_page-2.ensures ∙ not-false _ c.if-not-is_page-2.false-raw } in
    rw e (sym (zero-waits _ (bytes (goal.at.returns c).After-shared_slice_known-1) (size-true _ c.requires) (past (goal.at.returns c).Else-not-zero_words) (rw e at k)))
