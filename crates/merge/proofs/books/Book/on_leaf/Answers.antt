-- `on_leaf`: an empty leaf is the last, so that nothing is left there.
-- Assumes nothing.
use Prim.Native.Nat.{ℕ}
use mathlib.Core.Path.{◌≡◌, refl, ap, ◌∙◌}
use mathlib.Core.List.{List, []}
use native.Mathlib.Omega.{arith}
use lib.ListN.{length, get_or}
use Rattle.page.specs.Layout.{rec_of}
use Rattle.page.specs.Page.{records}
use Rattle.page.specs.Operations.{page_of}
use Rattle.merge.proofs.Standing.{leaf-count, leaf-here, leaf-fits, leaf-laid, empty-last, left-none, left-leaf, stands-end, stands_at}
use Rattle.merge.proofs.books.Book.on_leaf.Goals as goal
use Rattle.merge.proofs.books.Book.on_leaf.Goals.{After-count}

pub bounds-self-leaf : goal.bounds-self-leaf
bounds-self-leaf c = let b = c.args.self.now in omega (arith, c.requires, leaf-count _ _ b.is_sound b.listed)

listed : (c : After-count) → c.count.result ≡ length (records (page_of c.args.self.now.image.now (get_or c.args.self.now.leaves.now c.args.leaf 0)))
listed c = c.count.ensures ∙ ap (λ (p : List ℕ). length (records p)) c.laid_page-p.ensures

pub laid_page-p-requires : goal.laid_page-p-requires
laid_page-p-requires c =
    let b = c.args.self.now in
    let f = leaf-here _ _ b.is_sound b.listed c.requires in
    (leaf-fits f, leaf-laid f)

pub returns-then-count-eq0 : goal.returns-then-count-eq0
returns-then-count-eq0 c =
    let b = c.args.self.now in
    let f = leaf-here _ _ b.is_sound b.listed c.requires in
    let n = listed (goal.at.returns-then-count-eq0 c).After-count in
    (stands-end f 0 _ refl (left-none f 0 _ (omega (arith, n, c.if-count-eq0.true)) (empty-last f (omega (arith, n, c.if-count-eq0.true)))), left-leaf f _)

pub key_at-key-requires : goal.key_at-key-requires
key_at-key-requires c = omega (arith, c.count.ensures, c.if-count-eq0.false)

pub returns-else-count-eq0 : goal.returns-else-count-eq0
returns-else-count-eq0 c =
    let b = c.args.self.now in
    let f = leaf-here _ _ b.is_sound b.listed c.requires in
    (stands_at f 0 _ (omega (arith, listed (goal.at.returns-else-count-eq0 c).After-count, c.if-count-eq0.false)) (c.key_at-key.ensures ∙ ap (λ (p : List ℕ). (get_or (records p) 0 (rec_of 0 [])).key) c.laid_page-p.ensures), left-leaf f _)
