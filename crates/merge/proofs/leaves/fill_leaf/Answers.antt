-- `fill_leaf`: the records that the leaf has so far and what is left of both make the leaves that there were to fill.
-- Assumes nothing.
use Prim.Native.Nat.{◌-◌}
use mathlib.Core.Path.{◌≡◌, sym, ◌∙◌}
use mathlib.Core.Bool.{true}
use Rattle.page.specs.Layout.{page_size}
use Rattle.merge.specs.Cursors.{left_of, takes_next}
use Rattle.merge.proofs.Coming.{passed-less}
use Rattle.merge.proofs.Filling.{leaf-starts, leaf-high, takes-differ, leaf_room, leaf-next, leaf-ends}
use Rattle.merge.proofs.leaves.fill_leaf.Goals as goal
use Rattle.merge.proofs.leaves.fill_leaf.Goals.{In-loop-page}

pub loop-page-init : goal.loop-page-init
loop-page-init c = leaf-starts c.requires c.unused-h.ensures

pub overflow_sub-h : goal.overflow_sub-h
overflow_sub-h c = (leaf-high c.loop-page.invariant).0

pub takes_next-requires : goal.takes_next-requires
takes_next-requires c = let inv = c.loop-page.invariant in (inv.ready, inv.still, (leaf-high inv).1)

-- the leaf takes the record that comes next
taken : (c : In-loop-page) →
    let l = c.loop-page in
    let a = c.args in
    takes_next l.h.count (page_size - l.h.start) (left_of a.books.now.first.image.now a.books.now.second.image.now l.at) ≡ true
taken c = sym c.takes_next.ensures ∙ c.loop-page-test.true

pub append_next-h-requires : goal.append_next-h-requires
append_next-h-requires c =
    let inv = c.loop-page.invariant in
    let t = taken (goal.at.append_next-h-requires c).In-loop-page in
    record { ready = (inv.ready, takes-differ inv t); page_len = (inv.long, leaf_room inv t) }

pub step-at-requires : goal.step-at-requires
step-at-requires c = let inv = c.loop-page.invariant in (inv.ready, takes-differ inv (taken (goal.at.step-at-requires c).In-loop-page))

pub loop-page-smaller : goal.loop-page-smaller
loop-page-smaller c = let inv = c.loop-page.invariant in passed-less inv.ready (takes-differ inv (taken (goal.at.loop-page-smaller c).In-loop-page)) c.step-at.ensures

pub loop-page-preserved : goal.loop-page-preserved
loop-page-preserved c =
    leaf-next c.loop-page.invariant (taken (goal.at.loop-page-preserved c).In-loop-page) c.step-at.ensures c.append_next-h.auto.page c.append_next-h.ensures

pub returns : goal.returns
returns c =
    leaf-ends c.loop-page.invariant (sym c.takes_next.ensures ∙ c.loop-page-test.false) c.write.ensures
