-- `put_fresh` leaves a fresh store, whatever stood in the image.
-- Assumes nothing.
use Prim.Native.Nat.{ℕ, ◌≤◌}
use mathlib.Core.Path.{◌≡◌, ap, ◌∙◌}
use mathlib.Core.List.{List, [], ◌∷◌, ◌++◌}
use native.Mathlib.Omega.{arith}
use lib.ListN.{length, take, drop}
use Rattle.codec.specs.Numbers.{bytes_of}
use Rattle.page.specs.Layout.{leaf_kind, index_kind, rec_of}
use Rattle.page.specs.Operations.{fill}
use Rattle.page.proofs.Images.{lent, back}
use Rattle.image.specs.PageZero.{page_count}
use Rattle.image.proofs.Zero.{size-true}
use Rattle.image.proofs.Fresh.{fresh-made}
use Rattle.image.proofs.CodeFormat.{length-mid}
use Rattle.image.proofs.format.put_fresh.Goals as goal
use Rattle.image.proofs.format.put_fresh.Goals.{After-put_blank}

long : (c : After-put_blank) → 8192 ≤ length c.put_blank.new.image
long c =
    omega (arith, (size-true (length c.args.image.now) c.requires).low, c.put_blank.auto.image)

pub slice_bounds-put_leaf-end : goal.slice_bounds-put_leaf-end
slice_bounds-put_leaf-end c = omega (arith, long (goal.at.slice_bounds-put_leaf-end c).After-put_blank)

pub slice_bounds-put_index-end : goal.slice_bounds-put_index-end
slice_bounds-put_index-end c =
    let h = long (goal.at.slice_bounds-put_index-end c).After-put_blank in omega (arith, length-mid c.put_blank.new.image c.put_leaf.new.page (omega arith) c.put_leaf.auto.page)

pub returns : goal.returns
returns c =
    let a = c.args in
    let z = size-true (length a.image.now) c.requires in
    let h = long (goal.at.returns c).After-put_blank in
    let i2 = take 2048 c.put_blank.new.image ++ (c.put_leaf.new.page ++ drop 1024 (drop 2048 c.put_blank.new.image)) in
    let m : length i2 ≡ length c.put_blank.new.image = length-mid c.put_blank.new.image c.put_leaf.new.page (omega arith) c.put_leaf.auto.page in
    fresh-made (page_count a.image.now) (omega (arith, z.low)) c.put_blank.new.image i2 _ c.put_blank.ensures
    (back c.put_blank.new.image 2 _ _ (omega arith) c.put_leaf.auto.page (c.put_leaf.ensures ∙ ap (λ (p : List ℕ). fill p leaf_kind 2 []) (lent c.put_blank.new.image 2)))
    (back i2 1 _ _ (omega arith) c.put_index.auto.page (c.put_index.ensures ∙ ap (λ (p : List ℕ). fill p index_kind 1 (rec_of 0 (bytes_of 2 2) ∷ [])) (lent i2 1)))
