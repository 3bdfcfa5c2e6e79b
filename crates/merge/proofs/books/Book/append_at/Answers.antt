-- `append_at`: the record that comes next stands in the leaf's page, where its slot says.
-- Assumes nothing.
use mathlib.Core.Path.{◌≡◌, refl, subst}
use mathlib.Core.List.{[], ◌∷◌}
use lib.ListN.{take}
use Rattle.page.specs.Layout.{record_at}
use Rattle.page_edit.specs.Filling.{Room}
use Rattle.merge.specs.Cursors.{left_at}
use Rattle.merge.proofs.Standing.{stands-leaf, leaf-fits, page-laid, page-whole, slot-less, next-stands, next_one}
use Rattle.merge.proofs.books.Book.append_at.Goals as goal
use Rattle.merge.proofs.books.Book.append_at.Goals.{After-slot_at}

pub laid_page-p-requires : goal.laid_page-p-requires
laid_page-p-requires c =
    (leaf-fits (stands-leaf c.requires.1), page-laid c.requires.1 c.requires.2 _ refl)

pub slot_at-requires : goal.slot_at-requires
slot_at-requires c = slot-less c.requires.1 c.requires.2 _ c.laid_page-p.ensures

-- the one record
one : (c : After-slot_at) →
    take 1 (left_at c.args.self.now.image.now c.args.at) ≡ record_at c.laid_page-p.result.bytes.now c.slot_at.result ∷ []
one c = next_one c.requires.1 c.requires.2 _ c.laid_page-p.ensures _ c.slot_at.ensures

pub append_copy-requires : goal.append_copy-requires
append_copy-requires c =
    (c.requires.0, page-whole c.requires.1 c.requires.2 _ c.laid_page-p.ensures, next-stands c.requires.1 c.requires.2 _ c.laid_page-p.ensures _ c.slot_at.ensures, subst (Room c.args.h) (one (goal.at.append_copy-requires c).After-slot_at) c.requires.3)

pub returns : goal.returns
returns c = rw (one (goal.at.returns c).After-slot_at) c.append_copy.ensures
