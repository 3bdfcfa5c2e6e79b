-- `read_node` reads a page unless it was read before, by the marks.
-- Assumes nothing.
use Prim.Native.Nat.{◌≤◌, ◌<◌}
use mathlib.Core.Path.{subst}
use mathlib.Core.Bool.{Bool}
use native.Mathlib.Omega.{arith}
use lib.ListN.{length}
use Rattle.image.specs.PageZero.{page_count}
use Rattle.image.specs.Marks.{NodeBy}
use Rattle.image.proofs.Zero.{size-true, is_page-true}
use Rattle.image.proofs.CodeWays.{read-by-again, read-by-not, read-by-new}
use Rattle.image.proofs.descent.read_node.Goals as goal
use Rattle.image.proofs.descent.read_node.Goals.{Start}

few : (c : Start) → page_count c.args.image.now ≤ 64
few c = let z = size-true (length c.args.image.now) c.requires.0 in omega (arith, z.high)

page : (c : Start) → c.args.at.page < 64
page c = let k = is_page-true (page_count c.args.image.now) c.args.at.page c.requires.1 in omega (arith, k.1, few c)

pub bounds-marks-at : goal.bounds-marks-at
bounds-marks-at c = let k = page (goal.at.bounds-marks-at c).Start in omega (arith, k, c.requires.4)

pub returns-then-marks-at-eq2 : goal.returns-then-marks-at-eq2
returns-then-marks-at-eq2 c = let a = c.args in read-by-again a.image.now a.height a.at a.marks.now c.if-marks-at-eq2.true

pub returns-then-not-node_ok : goal.returns-then-not-node_ok
returns-then-not-node_ok c =
    let a = c.args in
    read-by-not a.image.now a.height a.at a.marks.now _ c.if-marks-at-eq2.false
    (subst (λ (t : Bool). NodeBy a.image.now a.height a.at a.marks.now t c.node_ok.new.marks) c.if-not-node_ok.true c.node_ok.ensures)

pub bounds-marks-at-2 : goal.bounds-marks-at-2
bounds-marks-at-2 c = let k = page (goal.at.bounds-marks-at-2 c).Start in omega (arith, k, c.requires.4, c.node_ok.auto.marks)

pub returns : goal.returns
returns c =
    let a = c.args in
    read-by-new a.image.now (few (goal.at.returns c).Start) a.height a.at a.marks.now _ c.if-marks-at-eq2.false c.requires.5 c.requires.1 c.requires.2
    (subst (λ (t : Bool). NodeBy a.image.now a.height a.at a.marks.now t c.node_ok.new.marks) c.if-not-node_ok.false c.node_ok.ensures)
