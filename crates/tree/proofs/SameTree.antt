-- The pages of a sound state; and an image in which the pages that the state reaches are the same: the same tree, with the same pages and table.
-- Assumes nothing.
use Prim.Native.Nat.{ℕ, suc, ◌≤◌}
use mathlib.Core.Path.{◌≡◌, refl}
use mathlib.Core.Bool.{true}
use mathlib.Core.List.{List}
use lib.ListN.{length}
use Rattle.page.specs.Layout.{top_key}
use Rattle.page.specs.Operations.{page_of}
use Rattle.page.specs.PageFormat.{PageFormat, Rules}
use Rattle.image.specs.Facts.{TreeIn}
use Rattle.image.specs.Image.{height_in, pages_in, count}
use Rattle.image.specs.Table.{table_in}
use Rattle.image.proofs.Alike.{Agree, alike, like, page-first, tree-alike, under-pages}
use Rattle.image.proofs.Apart.{All-among}
use Rattle.image.proofs.Times.{among-count, count-among}
use Rattle.tree.specs.Good.{GoodIn}
use Rattle.tree.specs.State.{State}
use Rattle.tree.proofs.Height.{pages_at, table_at}
use Rattle.tree.proofs.Outcomes.{good-tree}

module _ (Pg : PageFormat) where
  -- the root's page says its height
  pub same-height : (img w : List ℕ) (r : ℕ) → page_of w r ≡ page_of img r → height_in Pg w r ≡ height_in Pg img r
  unfolding height_in
  same-height img w r e = rw e refl

  -- a page is among those under it
  pub own-page : (img : List ℕ) (h q : ℕ) → 1 ≤ count q (pages_in Pg img h q)
  own-page img h q = among-count q (pages_in Pg img h q) (page-first Pg img h q)

  -- "Pages not reached at the end hold the bytes they held before": the tree of st in the image w
  pub record SameTree (st : State) (w : List ℕ) : Type 0 where
    pub pages : pages_in Pg w (height_in Pg w st.root) st.root ≡ pages_at Pg st
    pub table : table_in Pg w (height_in Pg w st.root) st.root ≡ table_at Pg st
    pub tree : TreeIn Pg w (height_in Pg w st.root) st.root

  module _ (n : ℕ) (st : State) (G : GoodIn Pg n st) where
    -- the pages that a sound state reaches are laid out
    pub pages-laid : Rules Pg → (x : ℕ) → 1 ≤ count x (pages_at Pg st) → Pg.laid (page_of st.image x) ≡ true
    pages-laid rules x k =
        let P : ℕ → Type 0 = λ y. Pg.laid (page_of st.image y) ≡ true in
        All-among P (pages_at Pg st)
        (under-pages Pg st.image P (λ j lo hi y f. (rules.reads.ok-true (suc j) y (page_of st.image y) f.page).laid) (height_in Pg st.image st.root) 0 (suc top_key) st.root G.under) x
        (count-among x (pages_at Pg st) k)

    pub same-tree : (w : List ℕ) → length st.image ≡ length w → ((x : ℕ) → 1 ≤ count x (pages_at Pg st) → page_of w x ≡ page_of st.image x) → SameTree st w
    same-tree w long same =
        let h = height_in Pg st.image st.root in
        let agree : Agree Pg st.image w (pages_at Pg st) = λ x k. like Pg (page_of st.image x) (page_of w x) (same x (among-count x (pages_at Pg st) k)) in
        let A = alike Pg st.image w h st.root agree in
        let e = same-height st.image w st.root (same st.root (own-page st.image h st.root)) in
        record { pages = rw e A.pages; table = rw e A.table; tree = rw e (tree-alike Pg st.image w h st.root long agree (good-tree Pg n st G)) }
