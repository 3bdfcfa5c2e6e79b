-- A record dropped from a page, which then stays or, left empty and not the only one, goes, as `dropped` says.
-- Assumes nothing.
use Prim.Native.Nat.{ℕ, ◌+◌, ◌*◌, ◌≤◌}
use mathlib.Core.Path.{◌≡◌, refl, sym, ap, ◌∙◌}
use mathlib.Core.Bool.{Bool, true, false, ◌&&◌, not}
use mathlib.Core.List.{List}
use lib.ListN.{length}
use lib.Dec.{eqb}
use borrow.Author.Tests.{eq-eqb, ne_eqb}
use Rattle.codec.specs.Lists.{pick}
use Rattle.page.specs.Layout.{page_size}
use Rattle.page.specs.Page.{records, laid_out}
use Rattle.page.specs.Operations.{delete, page_of, put_page}
use Rattle.page.specs.PageFormat.{format1}
use Rattle.page.proofs.Images.{put_same}
use Rattle.page.proofs.Placed.{laid-length, delete-shows}
use Rattle.tree.specs.Edits.{now, kept, gone, dropped}

only_keeps : (b : Bool) → pick (b && not true) gone kept ≡ kept
only_keeps true = refl
only_keeps false = refl

module _ (work : List ℕ) (page j : ℕ) (fits : page_size * page + page_size ≤ length work) (laid : laid_out (page_of work page) ≡ true) (w : List ℕ)
    (x : w ≡ put_page work page (delete (page_of work page) j)) where
  abbrev left : List ℕ
  left = delete (page_of work page) j

  left_laid : laid_out left ≡ true
  left_laid = (delete-shows (page_of work page) laid j).laid

  here : page_of w page ≡ left
  here = ap (λ (i : List ℕ). page_of i page) x ∙ put_same work left page (laid-length left left_laid) fits

  pub drop-only : (only : Bool) → only ≡ true → (root : ℕ) (f : List ℕ) →
      now kept (record { image = w; root = root; free = f }) ≡ dropped format1 only j page (record { image = work; root = root; free = f })
  unfolding dropped
  drop-only only z root f = rw (z, only_keeps (eqb (length (records (delete (page_of work page) j))) 0), ← x)

  pub left-ok : laid_out (page_of w page) ≡ true
  left-ok = rw here left_laid

  -- ---- the page y, with c records left

  module _ (y : List ℕ) (is : y ≡ page_of w page) where
    module _ (c : ℕ) (some : c ≡ length (records y)) (only : Bool) (z : only ≡ false) (root : ℕ) (f : List ℕ) where
      records-left : length (records left) ≡ c
      records-left = sym (some ∙ ap (λ (p : List ℕ). length (records p)) (is ∙ here))

      pub drop-goes : c ≡ 0 → now gone (record { image = w; root = root; free = f }) ≡ dropped format1 only j page (record { image = work; root = root; free = f })
      unfolding dropped
      drop-goes e = rw (z, records-left, eq-eqb c 0 e, ← x)

      pub drop-stays : (c ≡ 0 → ⊥) → now kept (record { image = w; root = root; free = f }) ≡ dropped format1 only j page (record { image = work; root = root; free = f })
      unfolding dropped
      drop-stays e = rw (z, records-left, ne_eqb c 0 e, ← x)
