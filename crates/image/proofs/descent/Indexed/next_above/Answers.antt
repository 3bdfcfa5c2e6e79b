-- `next_above`: the leaf that the number belongs to, and only if it has no larger key, the leaf that its range's end belongs to.
-- Assumes nothing.
use Rattle.std.specs.Prelude.{Err, Ok}
use Rattle.std.proofs.lemmas.Result.{err_from_is_err_and}
use mathlib.Core.Path.{sym, ap, ◌∙◌}
use Rattle.image.specs.Descent.{leaf_read, root_read}
use Rattle.image.specs.Marks.{Came}
use Rattle.image.proofs.CodeWays.{came-page, next-stops, next-here, next-last, after-stops, after-ends}
use Rattle.image.proofs.descent.Indexed.next_above.Goals as goal
use Rattle.image.proofs.descent.Indexed.next_above.Goals.{After-leaf-1}

pub returns-in_err-leaf : goal.returns-in_err-leaf
returns-in_err-leaf c =
    let s = c.args.self.now in
    let p = err_from_is_err_and c.from_residual.result c.from_residual.ensures.1 in
    let e = c.in_err-leaf.ensures in
    rw (p.1, p.2) (ap Err e.0 ∙ sym (next-stops s.image.now s.root c.args.key (e.1 (root_read s.root) c.requires)))

-- the first leaf is read
came : (c : After-leaf-1) →
    let s = c.args.self.now in
    Came s.image.now s.root (leaf_read s.image.now s.root (root_read s.root) c.args.key) c.in_ok-leaf.field-0 c.leaf_read.new.marks
came c = c.in_ok-leaf.ensures (root_read c.args.self.now.root) c.requires

pub next_at-requires : goal.next_at-requires
next_at-requires c =
    let s = c.args.self.now in
    let t = came (goal.at.next_at-requires c).After-leaf-1 in
    (t.inside, came-page s.image.now s.root c.args.key (root_read s.root) c.in_ok-leaf.field-0 c.leaf_read.new.marks t)

pub leaf_read-requires-in-None-2 : goal.leaf_read-requires-in-None-2
leaf_read-requires-in-None-2 c = let t = came (goal.at.leaf_read-requires-in-None-2 c).After-leaf-1 in (t.nodes, t.marked)

pub returns-in_err-after-in-None-2 : goal.returns-in_err-after-in-None-2
returns-in_err-after-in-None-2 c =
    let s = c.args.self.now in
    let t = came (goal.at.returns-in_err-after-in-None-2 c).After-leaf-1 in
    let p = err_from_is_err_and c.from_residual-in_err-after-in-None-2.result c.from_residual-in_err-after-in-None-2.ensures.1 in
    let e = c.in_err-after-in-None-2.ensures in
    rw (p.1, p.2)
    (ap Err e.0 ∙ sym (after-stops s.image.now s.root c.args.key c.in_ok-leaf.field-0 c.leaf_read.new.marks t (Ok c.next_at.result) c.next_at.ensures (ap Ok c.in-None-2.is) c.if-leaf-gt-TOP_KEY.false (e.1 t.nodes t.marked)))

pub next_at-requires-in-None-2 : goal.next_at-requires-in-None-2
next_at-requires-in-None-2 c =
    let s = c.args.self.now in
    let t = came (goal.at.next_at-requires-in-None-2 c).After-leaf-1 in
    let u = c.in_ok-after-in-None-2.ensures t.nodes t.marked in
    (u.inside, came-page s.image.now s.root c.in_ok-leaf.field-0.place.below t.nodes c.in_ok-after-in-None-2.field-0 c.leaf_read-in-None-2.new.marks u)

pub returns-in-Some : goal.returns-in-Some
returns-in-Some c =
    let s = c.args.self.now in
    let t = came (goal.at.returns-in-Some c).After-leaf-1 in
    sym (next-here s.image.now s.root c.args.key c.in_ok-leaf.field-0 c.leaf_read.new.marks t (Ok c.next_at.result) c.next_at.ensures c.in-Some.next (ap Ok c.in-Some.is))

pub returns-in-None : goal.returns-in-None
returns-in-None c =
    let s = c.args.self.now in
    let t = came (goal.at.returns-in-None c).After-leaf-1 in
    sym (next-last s.image.now s.root c.args.key c.in_ok-leaf.field-0 c.leaf_read.new.marks t (Ok c.next_at.result) c.next_at.ensures (ap Ok c.in-None.is) c.if-leaf-gt-TOP_KEY.true)

pub returns-in_ok-after-in-None-2 : goal.returns-in_ok-after-in-None-2
returns-in_ok-after-in-None-2 c =
    let s = c.args.self.now in
    let t = came (goal.at.returns-in_ok-after-in-None-2 c).After-leaf-1 in
    let y = c.in_ok-after-in-None-2.field-0 in
    c.next_at-in-None-2.ensures
    ∙ sym (after-ends s.image.now s.root c.args.key c.in_ok-leaf.field-0 c.leaf_read.new.marks t (Ok c.next_at.result) c.next_at.ensures (ap Ok c.in-None-2.is) c.if-leaf-gt-TOP_KEY.false y c.leaf_read-in-None-2.new.marks (c.in_ok-after-in-None-2.ensures t.nodes t.marked))
