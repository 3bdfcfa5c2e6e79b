-- `leaf_read`: the way, and then its leaf.
-- Assumes nothing.
use mathlib.Core.Path.{sym, ◌∙◌}
use Rattle.image.proofs.Values.{page-fits}
use Rattle.image.proofs.CodeWays.{leaf-stops, leaf-bad, leaf-good}
use Rattle.image.proofs.descent.Indexed.leaf_read.Goals as goal

pub leaf_ok-requires : goal.leaf_ok-requires
leaf_ok-requires c = page-fits c.args.self.now.image.now c.in-Some.leaf.place.page (c.in-Some.ensures c.requires.0 c.requires.1).inside

pub returns-then-not-leaf_ok : goal.returns-then-not-leaf_ok
returns-then-not-leaf_ok c =
    let s = c.args.self.now in
    (c.of.ensures, leaf-bad s.image.now s.root c.args.key c.args.marks.now c.in-Some.leaf c.way_to.new.marks c.in-Some.ensures (sym c.leaf_ok.ensures ∙ c.if-not-leaf_ok.true))

pub returns-else-not-leaf_ok : goal.returns-else-not-leaf_ok
returns-else-not-leaf_ok c =
    let s = c.args.self.now in
    leaf-good s.image.now s.root c.args.key c.args.marks.now c.in-Some.leaf c.way_to.new.marks c.in-Some.ensures (sym c.leaf_ok.ensures ∙ c.if-not-leaf_ok.false)

pub returns-in-None : goal.returns-in-None
returns-in-None c = let s = c.args.self.now in (c.of-in-None.ensures, leaf-stops s.image.now s.root c.args.key c.args.marks.now c.in-None.ensures)
