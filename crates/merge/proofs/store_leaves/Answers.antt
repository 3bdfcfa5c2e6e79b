-- `store_leaves`: two refusals; else page 0 and zeros, the leaves, and the pages above them.
-- Assumes nothing.
use Rattle.std.specs.Prelude.{Err}
use Prim.Native.Nat.{ℕ, suc, ◌+◌, ◌*◌, ◌/◌, ◌≤◌, ◌<◌}
use mathlib.Core.Path.{◌≡◌, refl, ap, ◌∙◌}
use mathlib.Core.Logic.{inl, inr}
use mathlib.Core.List.{List}
use native.Mathlib.Omega.{arith}
use lib.ListN.{length, take, replicate}
use Rattle.device.specs.Calls.{accepted, refused}
use Rattle.device.proofs.Calls.{said, image-size-le}
use Rattle.page.specs.Layout.{page_size, leaf_kind, index_kind, top_kind}
use Rattle.page.specs.Operations.{fill}
use Rattle.page.proofs.Images.{lent, length-lent, back}
use Rattle.image.specs.PageZero.{page_count}
use Rattle.image.specs.Fresh.{named, index_count, pages_above, stored, put_filled}
use Rattle.merge.specs.Calls.{store_leaves}
use Rattle.merge.proofs.Putting.{all_leaves}
use Rattle.merge.proofs.Bounds.{leaves-few}
use Rattle.merge.proofs.Grounds.{both_ok, both-storable, store_many, store-short, store-fits}
use Rattle.image.proofs.InPages.{above-top}
use Rattle.merge.proofs.Indexed.{tops-room, above-by, Leaved, leaved-low, leaved-length, leaved-numbers, made-one, made-top, tops-length, tops-low}
use Rattle.merge.proofs.store_leaves.Goals as goal
use Rattle.merge.proofs.store_leaves.Goals.{then-leaves-le28, else-leaves-le28, After-fill_leaves}

-- few leaves, so that nothing overflows
pub overflow_add-indexes : goal.overflow_add-indexes
overflow_add-indexes c =
    let b = c.args.books.now in
    let one = b.first.is_sound in
    let two = b.second.is_sound in
    omega (arith, c.requires.second_value.1, leaves-few b.first.image.now b.second.image.now one two (both_ok b.first.image.now b.second.image.now one two))

pub returns-then-indexes-gt28 : goal.returns-then-indexes-gt28
unfolding index_count
returns-then-indexes-gt28 c =
    let b = c.args.books.now in
    let ls = all_leaves b.first.image.now b.second.image.now in
    let done = said (store_leaves ls c.args.out.now) (refused 10 c.args.out.now) (store_many ls c.args.out.now (omega (arith, c.if-indexes-gt28.true, c.requires.second_value.1))) in
    record { value = ap Err c.of.ensures ∙ done.0; out_after = done.1 }

pub returns-then-out-above : goal.returns-then-out-above
unfolding index_count
returns-then-out-above c =
    let b = c.args.books.now in
    let ls = all_leaves b.first.image.now b.second.image.now in
    let above : c.if-leaves-le28.above ≡ pages_above c.args.leaves =
    above-by c.args.leaves c.if-leaves-le28.above
    (elim c.if-leaves-le28.branch [
      | then-leaves-le28 w ↦ inl (w.if-leaves-le28.true, w.above-is)
      | else-leaves-le28 w ↦ inr (omega (arith, w.if-leaves-le28.false), w.above-is)
    ]) in
    let short : page_count c.args.out.now < suc (pages_above (length ls) + length ls) =
    omega (arith, c.if-out-above.true, above, c.requires.second_value.1, ap pages_above c.requires.second_value.1) in
    let done = said (store_leaves ls c.args.out.now) (refused 11 c.args.out.now) (store-short ls c.args.out.now (omega (arith, c.if-indexes-gt28.false, c.requires.second_value.1)) short) in
    record { value = ap Err c.of-then-out-above.ensures ∙ done.0; out_after = done.1 }

-- the leaves are written
leaved : (c : After-fill_leaves) →
    let b = c.args.books.now in
    Leaved (page_count c.args.out.now) (all_leaves b.first.image.now b.second.image.now) c.if-leaves-le28.above c.fill_leaves.new.out c.fill_leaves.new.seps
leaved c =
    let b = c.args.books.now in
    let above : c.if-leaves-le28.above ≡ pages_above c.args.leaves =
    above-by c.args.leaves c.if-leaves-le28.above
    (elim c.if-leaves-le28.branch [
      | then-leaves-le28 w ↦ inl (w.if-leaves-le28.true, w.above-is)
      | else-leaves-le28 w ↦ inr (omega (arith, w.if-leaves-le28.false), w.above-is)
    ]) in
    record {
      storable = both-storable b.first.image.now b.second.image.now b.first.is_sound b.second.is_sound c.requires.second_value.0;
      count = above ∙ ap pages_above c.requires.second_value.1;
      room = omega (arith, c.if-out-above.false, c.requires.second_value.1);
      image = c.fill_leaves.ensures.out_after ∙ ap (λ (x : List ℕ). put_filled leaf_kind x (c.if-leaves-le28.above + 1) (all_leaves b.first.image.now b.second.image.now)) c.put_blank.ensures;
      names = c.fill_leaves.ensures.seps_after;
    }

-- what is accepted
fits : (c : After-fill_leaves) →
    let b = c.args.books.now in
    let ls = all_leaves b.first.image.now b.second.image.now in
    store_leaves ls c.args.out.now ≡ accepted (stored (page_count c.args.out.now) ls)
unfolding index_count
fits c =
    let b = c.args.books.now in
    let ls = all_leaves b.first.image.now b.second.image.now in
    let k = leaved c in
    store-fits ls c.args.out.now (omega (arith, c.if-indexes-gt28.false, c.requires.second_value.1)) (omega (arith, k.room, k.count))

-- page 1 lies in the image
page-one : (c : After-fill_leaves) → page_size * 1 + page_size ≤ length c.fill_leaves.new.out
page-one c = omega (arith, (leaved c).room, c.put_blank.auto.image, c.fill_leaves.auto.out)

-- ---- one index page

pub fill_node-requires : goal.fill_node-requires
fill_node-requires c =
    let at = (goal.at.fill_node-requires c).After-fill_leaves in
    (length-lent c.fill_leaves.new.out 1 (page-one at), omega (arith, leaved-length (leaved at), c.if-leaves-le28-2.true, c.requires.second_value.1), leaved-low (leaved at), omega arith)

pub returns-then-leaves-le28-2 : goal.returns-then-leaves-le28-2
returns-then-leaves-le28-2 c =
    let at = (goal.at.returns-then-leaves-le28-2 c).After-fill_leaves in
    let done = said _ _ (fits at) in
    let out = c.fill_leaves.new.out in
    let page = c.fill_node.new.page in
    record {
      value = done.0;
      out_after =
          back out 1 page _ (page-one at) c.fill_node.auto.page (c.fill_node.ensures ∙ ap (λ (p : List ℕ). fill p index_kind 1 (named 2 c.fill_leaves.new.seps)) (lent out 1))
          ∙ made-one (leaved at) (omega (arith, c.if-leaves-le28-2.true, c.requires.second_value.1))
          ∙ done.1;
    }

-- ---- a top page over index pages

-- the index pages lie in the image too
pages-inside : (c : After-fill_leaves) → 28 < c.args.leaves → page_size * ((c.args.leaves + 27) / 28 + 2) ≤ length c.fill_leaves.new.out
unfolding index_count
pages-inside c many =
    let b = c.args.books.now in
    let k = leaved c in
    let top = above-top (length (all_leaves b.first.image.now b.second.image.now)) (omega (arith, many, c.requires.second_value.1)) in
    omega (arith, k.room, k.count, top, c.requires.second_value.1, c.put_blank.auto.image, c.fill_leaves.auto.out)

-- so many there are
tops-count : (c : After-fill_leaves) → length (take ((c.args.leaves + 27) / 28) (replicate {A = ℕ} 28 0)) ≡ index_count (length c.fill_leaves.new.seps)
unfolding index_count
tops-count c =
    let number : (c.args.leaves + 27) / 28 ≡ (length c.fill_leaves.new.seps + 27) / 28 = omega (arith, leaved-length (leaved c), c.requires.second_value.1) in
    tops-room ((c.args.leaves + 27) / 28) (omega (arith, c.if-indexes-gt28.false)) ∙ number

pub fill_indexes-requires : goal.fill_indexes-requires
fill_indexes-requires c =
    let at = (goal.at.fill_indexes-requires c).After-fill_leaves in
    let k = leaved at in
    let room = tops-room ((c.args.leaves + 27) / 28) (omega (arith, c.if-indexes-gt28.false)) in (
      rw room (pages-inside at (omega (arith, c.if-leaves-le28-2.false))),
      tops-count at,
      leaved-low k,
      leaved-numbers k (image-size-le _ c.requires.first_value) refl,
    )

-- so many index pages, with the first separators that the top page takes
pub fill_node-requires-2 : goal.fill_node-requires-2
fill_node-requires-2 c =
    let at = (goal.at.fill_node-requires-2 c).After-fill_leaves in
    let k = leaved at in
    let e = c.fill_indexes.ensures in (
      length-lent c.fill_indexes.new.out 1 (omega (arith, page-one at, c.fill_indexes.auto.out)),
      omega (arith, tops-length k _ (tops-count at) _ _ e.out_after e.tops_after, tops-room ((c.args.leaves + 27) / 28) (omega (arith, c.if-indexes-gt28.false)), c.if-indexes-gt28.false),
      tops-low k _ (tops-count at) _ _ e.out_after e.tops_after,
      omega arith,
    )

pub returns : goal.returns
returns c =
    let at = (goal.at.returns c).After-fill_leaves in
    let k = leaved at in
    let done = said _ _ (fits at) in
    let out = c.fill_indexes.new.out in
    let page = c.fill_node-2.new.page in
    let e = c.fill_indexes.ensures in
    record {
      value = done.0;
      out_after =
          back out 1 page _ (omega (arith, page-one at, c.fill_indexes.auto.out)) c.fill_node-2.auto.page (c.fill_node-2.ensures ∙ ap (λ (p : List ℕ). fill p top_kind 1 (named 2 c.fill_indexes.new.tops)) (lent out 1))
          ∙ made-top k _ (tops-count at) _ _ e.out_after e.tops_after (omega (arith, c.if-leaves-le28-2.false, c.requires.second_value.1))
          ∙ done.1;
    }
