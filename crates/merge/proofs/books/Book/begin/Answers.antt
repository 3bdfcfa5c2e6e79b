-- `begin`: the leaves from the first on have the whole table.
-- Assumes nothing.
use mathlib.Core.Path.{sym, ◌∙◌}
use native.Mathlib.Omega.{arith}
use Rattle.merge.proofs.LeafPages.{table-on}
use Rattle.merge.proofs.Standing.{some-leaf}
use Rattle.merge.proofs.books.Book.begin.Goals as goal

pub on_leaf-requires : goal.on_leaf-requires
on_leaf-requires c = omega (arith, some-leaf c.args.self.now.image.now c.args.self.now.is_sound)

pub returns : goal.returns
returns c = (c.on_leaf.ensures.0, c.on_leaf.ensures.1 ∙ sym (table-on c.args.self.now.image.now))
