-- `height_of` reads the kind byte of the root.
-- Assumes nothing.
use mathlib.Core.Path.{sym, ap}
use native.Mathlib.Omega.{arith}
use lib.ListN.{length}
use Rattle.page.proofs.Images.{length-page_of}
use Rattle.image.proofs.CodeNode.{height-top, height-other}
use Rattle.image.proofs.node.height_of.Goals as goal

pub bounds-page_of-4 : goal.bounds-page_of-4
bounds-page_of-4 c = omega (arith, ap length c.page_of.ensures, length-page_of c.args.image.now c.args.root c.requires)

pub returns-then-page_of-eq-TOP : goal.returns-then-page_of-eq-TOP
returns-then-page_of-eq-TOP c = sym (height-top c.args.image.now c.args.root _ c.page_of.ensures c.if-page_of-eq-TOP.true)

pub returns : goal.returns
returns c = sym (height-other c.args.image.now c.args.root _ c.page_of.ensures c.if-page_of-eq-TOP.false)
