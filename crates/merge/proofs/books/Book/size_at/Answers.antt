-- `size_at`: the record that comes next stands in the leaf's page.
-- Assumes nothing.
use mathlib.Core.Path.{refl, ◌∙◌}
use Rattle.merge.proofs.Standing.{stands-leaf, leaf-fits, page-laid, slot-less, next-size}
use Rattle.merge.proofs.books.Book.size_at.Goals as goal

pub laid_page-requires : goal.laid_page-requires
laid_page-requires c =
    (leaf-fits (stands-leaf c.requires.0), page-laid c.requires.0 c.requires.1 _ refl)

pub size_at-requires : goal.size_at-requires
size_at-requires c = slot-less c.requires.0 c.requires.1 _ c.laid_page.ensures

pub returns : goal.returns
returns c = c.size_at.ensures ∙ next-size c.requires.0 c.requires.1 _ c.laid_page.ensures
