-- A record put into a page: in place, or moved with the others to one new page or two, as `put` and `moved` say.
-- Assumes nothing.
use Prim.Native.Nat.{ℕ, ◌+◌}
use mathlib.Core.Path.{◌≡◌, sym, ap, ◌∙◌}
use mathlib.Core.Bool.{Bool, true, false}
use mathlib.Core.List.{List}
use native.Mathlib.Omega.{arith}
use lib.ListN.{length}
use Rattle.page.specs.Layout.{Rec, up8, size}
use Rattle.page.specs.Operations.{in_place, fits_page, page_of, put_page}
use Rattle.page.specs.PageFormat.{format1}
use Rattle.page.proofs.Totals.{one-page}
use Rattle.tree.specs.State.{State}
use Rattle.tree.specs.Edits.{now, stops, kept, no_keep, is_full, copied, split, moved, put}
use Rattle.tree.specs.Good.{Fits}
use Rattle.tree.proofs.Split.{halves}
use Rattle.tree_edit.specs.Steps.{rec_by, made_by}
use Rattle.tree_edit.specs.Asked.{CanTake, CanSplit}
use Rattle.tree_edit.specs.declared.Put.{Put}
use Rattle.tree_edit.proofs.Sized.{made-few, made-small}
use Rattle.tree_edit.proofs.Copied.{made-good}

module _ {n : ℕ} {st : State} {page : ℕ} {new : Put} {v : List ℕ} (can : CanTake n st page new v) where
  abbrev old : List ℕ
  old = page_of st.image page

  abbrev rs : List Rec
  rs = made_by new v old

  -- ---- moved

  module _ (one : Bool) (x : List ℕ) (e : x ≡ page_of st.image page) (test : one ≡ fits_page (made_by new v x)) where
    tested : fits_page rs ≡ one
    tested = sym (test ∙ ap (λ (p : List ℕ). fits_page (made_by new v p)) e)

    pub one-fits : one ≡ true → Fits (made_by new v (page_of st.image page))
    one-fits z = let o = one-page rs (tested ∙ z) in record { some = omega (arith, can.put.place); few = o.few; room = omega (arith, o.small) }

    pub two-fit : one ≡ false → CanSplit (made_by new v (page_of st.image page))
    two-fit z = let h = halves rs (made-good can) (made-few can.put) (made-small can.put) (tested ∙ z) in record { left = h.0; right = h.1 }

    module _ (kind : ℕ) (full : Bool) where
      pub moved-one : one ≡ true → copied format1 kind (made_by new v (page_of st.image page)) st ≡ moved format1 kind full (made_by new v (page_of st.image page)) st
      unfolding moved
      moved-one z = rw (tested ∙ z)

      pub moved-full : one ≡ false → full ≡ true → stops 10 ≡ moved format1 kind full (made_by new v (page_of st.image page)) st
      unfolding moved
      moved-full z y = rw (tested ∙ z, y)

      pub moved-two : one ≡ false → full ≡ false → split format1 kind (made_by new v (page_of st.image page)) st ≡ moved format1 kind full (made_by new v (page_of st.image page)) st
      unfolding moved
      moved-two z y = rw (tested ∙ z, y)

  -- ---- put

  module _ (no : Bool) (x : List ℕ) (e : x ≡ page_of st.image page) (s : ℕ) (bytes : s ≡ 16 + up8 (length v)) (test : no ≡ is_full format1 tt new.ins s x) where
    fullness : is_full format1 tt new.ins (size (rec_by new v)) old ≡ no
    unfolding size
    fullness = sym (test ∙ ap (is_full format1 tt new.ins s) e ∙ ap (λ (k : ℕ). is_full format1 tt new.ins k old) bytes)

    pub put-room : no ≡ false → is_full format1 tt new.ins (size (rec_by new v)) (page_of st.image page) ≡ false
    put-room z = fullness ∙ z

    module _ (kind : ℕ) (full : Bool) where
      pub put-moved : no ≡ true → moved format1 kind full (made_by new v (page_of st.image page)) st ≡ put format1 no_keep kind full new.ins new.at (rec_by new v) page st
      unfolding put
      put-moved z = rw (fullness ∙ z)

      pub put-placed : no ≡ false → (w : List ℕ) → w ≡ put_page st.image page (in_place new.ins new.at (rec_by new v) (page_of st.image page)) →
          now kept (record { image = w; root = st.root; free = st.free }) ≡ put format1 no_keep kind full new.ins new.at (rec_by new v) page st
      unfolding put
      put-placed z w y = rw (fullness ∙ z, ← y)
