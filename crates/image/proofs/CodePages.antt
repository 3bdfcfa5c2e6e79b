-- The i-th record of a page, read where its slot says.
-- Assumes nothing.
use Prim.Native.Nat.{ℕ, suc, ◌+◌, ◌<◌}
use mathlib.Core.Path.{◌≡◌, sym, ap, ◌∙◌}
use mathlib.Core.Bool.{true}
use mathlib.Core.List.{List, ◌∷◌}
use native.Mathlib.Numerals.{add-one}
use lib.ListN.{length, get_or, drop}
use lib.Seq.{drop-cons}
use Rattle.codec.specs.Lists.{part}
use Rattle.codec.specs.Numbers.{number}
use Rattle.page.specs.Layout.{Rec}
use Rattle.page.specs.Page.{records, laid_out, page_ok, form_ok}
use Rattle.page.proofs.Facts.{page_ok-true, index-form}
use Rattle.page.proofs.Listed.{All-at}
use Rattle.page.proofs.AtSlots.{slot, value-here}
use Rattle.image.specs.Image.{child_of}

-- ---- lists in general: what codec's laws lack

pub drop-next : {A : Type 0} (l : List A) (i : ℕ) (d : A) → i < length l → drop i l ≡ get_or l i d ∷ drop (i + 1) l
drop-next l i d h = rw add-one (drop-cons l i d h)

-- ---- the i-th record

module _ (p : List ℕ) (ok : laid_out p ≡ true) (i : ℕ) (less : i < length (records p)) where
  pub child-here : (d : Rec) → length (get_or (records p) i d).value ≡ 2 → number (part p (slot p i + 16) 2) ≡ child_of (get_or (records p) i d)
  unfolding child_of
  child-here d two = ap number (sym (value-here p ok i less d ∙ ap (part p (slot p i + 16)) two))

-- an index record's value is "a 2-byte page number", under a top page too
pub child-two : (h own : ℕ) (p : List ℕ) (i : ℕ) (d : Rec) → page_ok (suc (suc h)) own p ≡ true → i < length (records p) → length (get_or (records p) i d).value ≡ 2
child-two h own p i d ok less =
    index-form h (get_or (records p) i d) (All-at (λ (r : Rec). form_ok (suc (suc h)) r ≡ true) (records p) i d (page_ok-true (suc (suc h)) own p ok).forms less)
