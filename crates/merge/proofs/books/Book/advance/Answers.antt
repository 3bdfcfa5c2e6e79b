-- `advance`: the record after it in the leaf, else the first of the leaf after, else none.
-- Assumes nothing.
use Prim.Native.Nat.{ℕ, ◌+◌, ◌≤◌}
use mathlib.Core.Path.{◌≡◌, refl, sym, ap, ◌∙◌}
use mathlib.Core.List.{List, []}
use native.Mathlib.Omega.{arith}
use lib.ListN.{length, get_or, drop}
use Rattle.page.specs.Layout.{rec_of}
use Rattle.page.specs.Page.{records}
use Rattle.page.specs.Operations.{page_of}
use Rattle.page.proofs.Listed.{few-listed}
use Rattle.merge.specs.Leaves.{leaf_pages}
use Rattle.merge.proofs.LeafPages.{few-leaves}
use Rattle.merge.proofs.Standing.{leaf-count, stands-leaf, leaf-fits, left-past, left-none, stands-end, stands_at, left-next, page-laid, slot-less}
use Rattle.merge.proofs.books.Book.advance.Goals as goal
use Rattle.merge.proofs.books.Book.advance.Goals.{After-count, Else-slot-count}

pub laid_page-p-requires : goal.laid_page-p-requires
laid_page-p-requires c =
    (leaf-fits (stands-leaf c.requires.0), page-laid c.requires.0 c.requires.1 _ refl)

-- ---- in the leaf

pub overflow_add-slot : goal.overflow_add-slot
overflow_add-slot c =
    omega (arith, slot-less c.requires.0 c.requires.1 _ c.laid_page-p.ensures, few-listed _ c.laid_page-p.result.laid)

pub key_at-key-requires : goal.key_at-key-requires
key_at-key-requires c = omega (arith, c.if-slot-count.true, c.count.ensures)

listed : (c : After-count) → c.count.result ≡ length (records (page_of c.args.self.now.image.now c.args.at.page))
listed c = c.count.ensures ∙ ap (λ (p : List ℕ). length (records p)) c.laid_page-p.ensures

pub returns-then-slot-count : goal.returns-then-slot-count
returns-then-slot-count c = (
  stands_at (stands-leaf c.requires.0) _ _ (omega (arith, c.if-slot-count.true, listed (goal.at.returns-then-slot-count c).After-count))
      (c.key_at-key.ensures ∙ ap (λ (p : List ℕ). (get_or (records p) (c.args.at.slot + 1) (rec_of 0 [])).key) c.laid_page-p.ensures),
  sym (ap (drop 1) (left-next c.requires.0 c.requires.1 _)),
)

-- ---- past it

past : (c : Else-slot-count) → (c.count.result ≡ length (records (page_of c.args.self.now.image.now c.args.at.page))) → length (records (page_of c.args.self.now.image.now c.args.at.page)) ≤ c.args.at.slot + 1
past c listed = omega (arith, c.if-slot-count.false, listed)

pub overflow_add-leaf : goal.overflow_add-leaf
overflow_add-leaf c = omega (arith, c.requires.0.leaf, few-leaves c.args.self.now.image.now c.args.self.now.is_sound)

-- the leaf after
pub on_leaf-requires : goal.on_leaf-requires
on_leaf-requires c = let b = c.args.self.now in omega (arith, c.if-leaf-self.true, leaf-count _ _ b.is_sound b.listed)

pub returns-then-leaf-self : goal.returns-then-leaf-self
returns-then-leaf-self c = (
  c.on_leaf.ensures.0,
  c.on_leaf.ensures.1 ∙ sym (ap (drop 1) (left-next c.requires.0 c.requires.1 0) ∙ left-past (stands-leaf c.requires.0) _ 0 (past (goal.at.returns-then-leaf-self c).Else-slot-count (listed (goal.at.returns-then-leaf-self c).After-count))),
)

-- no leaf after
pub returns : goal.returns
returns c =
    let b = c.args.self.now in
    let f = stands-leaf c.requires.0 in
    let last : length (leaf_pages b.image.now) ≤ c.args.at.leaf + 1 = omega (arith, c.if-leaf-self.false, leaf-count _ _ b.is_sound b.listed) in
    (stands-end f _ _ refl (left-none f _ _ (past (goal.at.returns c).Else-slot-count (listed (goal.at.returns c).After-count)) last), sym (ap (drop 1) (left-next c.requires.0 c.requires.1 _)))
