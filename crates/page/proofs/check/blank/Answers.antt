-- `blank`: the joined words are 0 only if the bytes passed are, and are 0 if all bytes are.
-- Assumes nothing.
use Rattle.std.proofs.Common.{ℕ, sym, ap, ◌∙◌, arith}
use Rattle.std.specs.declared.slice.ChunksExact.{ChunksExact}
use Rattle.codec.specs.Lists.{part}
use Rattle.page.proofs.CheckBytes.{blank-test}
use Rattle.page.proofs.CheckBlank.{words-first, words-next, words-end}
use Rattle.page.proofs.check.blank.Goals as goal

pub returns-then-end-at : goal.returns-then-end-at
returns-then-end-at c =
    sym (blank-test c.args.page.now c.args.at c.args.end c.requires.0 c.requires.1 (λ i h k. omega (arith, c.if-end-at.true)))

pub loop-word-init : goal.loop-word-init
unfolding part
loop-word-init c =
    let made = c.into_iter-word-iterator.ensures.into_iter_gives in
    let size = ap (λ (s : ChunksExact ℕ). s.size) made ∙ c.chunks_exact-word-items.ensures.size in
    let rest = ap (λ (s : ChunksExact ℕ). s.rest.now) made ∙ c.chunks_exact-word-items.ensures.rest in
    (size, words-first _ (λ i. omega (arith, c.type_inv.page i)) _ _ c.requires.2 c.requires.1 _ c.if-end-at.false c.long_at.ensures _ rest)

pub loop-word-preserved : goal.loop-word-preserved
loop-word-preserved c =
    let k = c.loop-word.invariant in
    let step = c.in-Some.ensures.steps in
    (step.0 ∙ k.0, words-next _ (λ i. omega (arith, c.type_inv.page i)) _ _ c.requires.2 c.requires.1 _ _ _ _ _ k.1 step.1.0 (step.1.1 ∙ k.0) c.long_at-joined.ensures)

pub returns : goal.returns
returns c =
    let k = c.loop-word.invariant in
    words-end _ (λ i. omega (arith, c.type_inv.page i)) _ _ c.requires.2 c.requires.1 _ _ c.requires.0 k.1 (omega (arith, c.in-None.ensures.steps, k.0))
