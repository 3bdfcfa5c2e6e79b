-- The height of a root, which its kind tells. What the laws know of the greatest height stands here alone.
-- Assumes nothing.
use Prim.Native.Nat.{ℕ, zero, suc, ◌+◌, ◌-◌, ◌*◌, ◌≤◌, ◌<◌}
use mathlib.Core.Path.{◌≡◌}
use mathlib.Core.Logic.{◌⊎◌}
use mathlib.Core.Bool.{◌&&◌}
use mathlib.Core.List.{List}
use native.Mathlib.Omega.{arith}
use lib.ListN.{length}
use lib.Dec.{leb}
use borrow.Author.Tests.{le-leb, leb-true}
use Rattle.codec.specs.Lists.{All}
use Rattle.codec.proofs.Tests.{first, second}
use Rattle.page.specs.Layout.{Rec, page_size, top_key}
use Rattle.page.specs.Operations.{page_of}
use Rattle.page.specs.PageFormat.{PageFormat, ReadRules}
use Rattle.image.specs.Facts.{Nonempty, Under}
use Rattle.image.specs.Image.{height_in, leaves_in, pages_in, tallest, count}
use Rattle.image.specs.Table.{table_in}
use Rattle.edit.proofs.General.{by-test}
use Rattle.tree.specs.Good.{GoodIn, inside}
use Rattle.tree.specs.State.{State}

-- ---- all that the laws know of the greatest height

pub tallest-top : 2 ≤ tallest
tallest-top = omega arith

-- the kind of a page is a byte
pub tallest-kind : suc tallest < 256
tallest-kind = omega arith

-- ---- a root of a page format

module _ (Pg : PageFormat) where
  -- the table of a state, and the pages that it reaches
  abbrev pub table_at : State → List Rec
  table_at st = table_in Pg st.image (height_in Pg st.image st.root) st.root

  abbrev pub pages_at : State → List ℕ
  pages_at st = pages_in Pg st.image (height_in Pg st.image st.root) st.root

  pub height-range : (img : List ℕ) (q : ℕ) → (1 ≤ height_in Pg img q) × (height_in Pg img q ≤ tallest)
  unfolding height_in
  height-range img q =
      let h = Pg.kind_of (page_of img q) - 1 in
      by-test (λ (k : ℕ). (1 ≤ k) × (k ≤ tallest)) (leb 1 h && leb h tallest)
      (λ e. (leb-true 1 h (first (leb 1 h) (leb h tallest) e), leb-true h tallest (second (leb 1 h) (leb h tallest) e)))
      (λ e. (omega arith, omega (arith, tallest-top)))

  -- a root of height h says so
  pub height-is : ReadRules Pg → (img : List ℕ) (h lo hi q : ℕ) → 1 ≤ h → h ≤ tallest → Under Pg img h lo hi q → height_in Pg img q ≡ h
  unfolding height_in
  height-is reads img zero lo hi q least most u = absurd (omega arith)
  height-is reads img (suc h) lo hi q least most u =
      let e : Pg.kind_of (page_of img q) - 1 ≡ suc h = omega (arith, (reads.ok-true (suc (suc h)) q (page_of img q) u.0.page).kind) in
      rw (e, le-leb 1 (suc h) least, le-leb (suc h) tallest most)

  -- a state with a root of height h
  pub good-from : ReadRules Pg → (n : ℕ) (t : State) (h : ℕ) → 1 ≤ h → h ≤ tallest → n ≤ 64 → length t.image ≡ page_size * n → Under Pg t.image h 0 (suc top_key) t.root →
      (length (leaves_in Pg t.image h t.root) ≡ 1) ⊎ All (Nonempty Pg t.image) (leaves_in Pg t.image h t.root) →
      ((x : ℕ) → count x (pages_in Pg t.image h t.root) + count x t.free ≤ inside n x) → GoodIn Pg n t
  good-from reads n t h least most few size u full apart =
      let e : height_in Pg t.image t.root ≡ h = height-is reads t.image h 0 (suc top_key) t.root least most u in
      record { few = few; size = size; under = rw e u; full = rw e full; apart = rw e apart }
