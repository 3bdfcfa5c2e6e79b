-- `name_page`: the page's number is written as a value of two bytes.
-- Assumes nothing.
use Prim.Native.Nat.{ℕ}
use mathlib.Core.Path.{◌≡◌, sym, subst}
use mathlib.Core.List.{[], ◌∷◌}
use lib.ListN.{length-replicate}
use Rattle.page.specs.Layout.{Rec, rec_of}
use Rattle.page.specs.Page.{RecOk}
use Rattle.page_edit.specs.Filling.{Room, Filled}
use Rattle.image.specs.Image.{index_rec}
use Rattle.image.proofs.IndexRecords.{index_ok}
use Rattle.merge.proofs.Indexed.{named-rec}
use Rattle.merge.proofs.leaves.name_page.Goals as goal
use Rattle.merge.proofs.leaves.name_page.Goals.{After-put_number}

-- what is appended
the-rec : (c : After-put_number) → let a = c.args in rec_of a.sep c.put_number.new.s ≡ index_rec a.sep a.k
the-rec c = named-rec _ _ _ _ (length-replicate {A = ℕ} 2 0) c.put_number.ensures

pub append_new-requires : goal.append_new-requires
append_new-requires c =
    let e = sym (the-rec (goal.at.append_new-requires c).After-put_number) in
    (c.requires.0, subst RecOk e (index_ok _ _ c.requires.1), subst (λ (r : Rec). Room c.args.h (r ∷ [])) e c.requires.2)

pub returns : goal.returns
returns c =
    subst (λ (r : Rec). Filled c.args.h c.args.page.now (r ∷ []) c.append_new.result c.append_new.new.page) (the-rec (goal.at.returns c).After-put_number) c.append_new.ensures
