-- The sizes of a page's records with a new one put in: one by one, their sum, and where they are split.
-- Assumes nothing.
use Prim.Native.Nat.{ℕ, zero, suc, ◌+◌, ◌-◌, ◌*◌, ◌≤◌, ◌<◌}
use mathlib.Core.Path.{◌≡◌, refl, sym, ap, ◌∙◌}
use mathlib.Core.Bool.{Bool, true, false}
use mathlib.Core.List.{List, [], ◌∷◌}
use native.Mathlib.Omega.{arith}
use native.Mathlib.Nat.{zero-add}
use lib.ListN.{length, get_or, drop, drop_of_length-le}
use borrow.Author.Tests.{lt-ltb, le-ltb, le-leb, lt-leb}
use Rattle.codec.specs.Lists.{pick}
use Rattle.page.specs.Layout.{page_size, line_size, slot_count, Rec, rec_of, up8, size}
use Rattle.page.specs.Page.{records}
use Rattle.page.specs.Operations.{sizes}
use Rattle.page.proofs.Facts.{ok-is}
use Rattle.page.proofs.Sizes.{page-sizes}
use Rattle.page.proofs.Listed.{few-listed}
use Rattle.page.proofs.Made.{length-made, old_slot, made-less, made-new-next, made-old-next}
use Rattle.page.proofs.Totals.{size_most, size-most, sizes-made, made-most}
use Rattle.image.proofs.CodePages.{drop-next}
use Rattle.tree.specs.Edits.{split_from, split_point}
use Rattle.tree_edit.specs.Steps.{rec_by, made_by}
use Rattle.tree_edit.specs.Asked.{CanPut}
use Rattle.tree_edit.specs.declared.Put.{Put}

abbrev none : Rec
none = rec_of 0 []

-- ---- with the new one put in

module _ {p : List ℕ} {new : Put} {v : List ℕ} (can : CanPut p new v) where
  abbrev l : List Rec
  l = made_by new v p

  pub made-listed : length (made_by new v p) ≡ pick new.ins (suc (length (records p))) (length (records p))
  made-listed = length-made new.ins new.at (rec_by new v) (records p)

  pub made-few : length (made_by new v p) ≤ suc slot_count
  made-few = omega (arith, made-most new.ins new.at (rec_by new v) (records p), few-listed p can.ok)

  -- at most a record more than a page holds
  pub made-small : sizes (made_by new v p) ≤ page_size - line_size + size_most
  made-small =
      omega (
        arith,
        sizes-made new.ins new.at (rec_by new v) (records p),
        size-most (rec_by new v) can.good,
        page-sizes p can.ok,
        (ok-is p can.ok).body.head.low,
      )

  module _ (k : ℕ) (less : k < length (made_by new v p)) where
    next : drop k (made_by new v p) ≡ get_or (made_by new v p) k (rec_of 0 []) ∷ drop (k + 1) (made_by new v p)
    next = drop-next l k none less

    pub sizes-next : sizes (drop k (made_by new v p)) ≡ size (get_or (made_by new v p) k (rec_of 0 [])) + sizes (drop (k + 1) (made_by new v p))
    unfolding sizes
    sizes-next = ap sizes next

    -- the new record
    pub size-new : k ≡ new.at → 16 + up8 (length v) ≡ size (get_or (made_by new v p) k (rec_of 0 []))
    unfolding size
    size-new e =
        let f = made-new-next (rec_by new v) none new.ins new.at (records p) can.place in
        let g : drop k l ≡ rec_by new v ∷ drop (k + 1) l = rw e f in
        let h : get_or l k none ≡ rec_by new v = cc next in
        ap (λ (r : Rec). 16 + up8 (length r.value)) (sym h)

    -- another one, by its old slot j
    module _ (other : k ≡ new.at → ⊥) (j : ℕ) (e : old_slot new.ins new.at k ≡ j) where
      pub old-less : j < length (records p)
      old-less = omega (arith, e, made-less (rec_by new v) none new.ins new.at k (records p) can.place less other)

      pub size-old : size (get_or (records p) j (rec_of 0 [])) ≡ size (get_or (made_by new v p) k (rec_of 0 []))
      size-old =
          let f = made-old-next (rec_by new v) none new.ins new.at k (records p) can.place less other in
          let h : get_or l k none ≡ get_or (records p) (old_slot new.ins new.at k) none = cc (next, f) in
          ap size (ap (λ (m : ℕ). get_or (records p) m none) (sym e) ∙ sym h)

pub sizes-none : (l : List Rec) (k : ℕ) → length l ≤ k → sizes (drop k l) ≡ 0
unfolding sizes
sizes-none l k h = ap sizes (drop_of_length-le l {i = k} h)

-- the old slot, where the test is made
pub slot-before : (ins : Bool) (i k : ℕ) → k < i → old_slot ins i k ≡ k
slot-before true i k h = rw (lt-ltb k i h)
slot-before false i k h = refl

pub slot-after : (ins : Bool) (i k : ℕ) → i ≤ k → ins ≡ true → old_slot ins i k ≡ k - 1
slot-after ins i k h z = rw (z, le-ltb k i h)

pub slot_same : (ins : Bool) (i k : ℕ) → ins ≡ false → old_slot ins i k ≡ k
slot_same ins i k z = rw z

-- ---- where they are split

-- the records before the m-th have `seen` bytes, and the search from it on gives the rest of the split point
pub record Searched (rs : List Rec) (total seen m : ℕ) : Type 0 where
  pub all : total ≡ sizes rs
  pub rest : seen + sizes (drop m rs) ≡ total
  pub point : m + split_from total seen (drop m rs) ≡ split_point rs

pub search-starts : (rs : List Rec) (total : ℕ) → total ≡ sizes rs → Searched rs total 0 0
unfolding split_point
search-starts rs total e = record { all = e; rest = omega arith; point = rw e (zero-add (split_point rs)) }

some_left : (rs : List Rec) (k : ℕ) → 0 < sizes (drop k rs) → k < length rs
unfolding sizes
some_left [] zero h = h
some_left [] (suc k) h = absurd (omega arith)
some_left (r ∷ rs) zero h = omega arith
some_left (r ∷ rs) (suc k) h = omega (arith, some_left rs k h)

reached : (total seen : ℕ) (rs : List Rec) → total ≤ 2 * seen → split_from total seen rs ≡ 0
unfolding split_from
reached total seen [] h = refl
reached total seen (r ∷ rs) h = rw (le-leb total (2 * seen) h)

module _ {rs : List Rec} {total seen m : ℕ} (s : Searched rs total seen m) where
  pub search-ends : total ≤ 2 * seen → m ≡ split_point rs
  search-ends h = omega (arith, s.point, reached total seen (drop m rs) h)

  module _ (more : 2 * seen < total) where
    pub search-left : m < length rs
    search-left = some_left rs m (omega (arith, s.rest))

    pub search-goes-on : (k : ℕ) → k ≡ size (get_or rs m (rec_of 0 [])) → Searched rs total (seen + k) (m + 1)
    unfolding sizes split_from
    search-goes-on k e =
        let d = drop-next rs m none search-left in
        let f : split_from total seen (drop m rs) ≡ suc (split_from total (seen + k) (drop (m + 1) rs)) = rw (d, e, lt-leb total (2 * seen) more) in
        record { all = s.all; rest = omega (arith, s.rest, ap sizes d, e); point = omega (arith, s.point, f) }
