-- The split point is the smallest m with twice the bytes of the first m records at least the total; both halves fit a page, and
-- neither is empty.
-- Assumes nothing.
use Prim.Native.Nat.{ℕ, zero, suc, ◌+◌, ◌*◌, ◌-◌, ◌≤◌, ◌<◌}
use mathlib.Core.Path.{◌≡◌, refl, sym, ap, ◌∙◌}
use mathlib.Core.Bool.{Bool, true, false, ◌&&◌}
use mathlib.Core.List.{List, [], ◌∷◌}
use native.Mathlib.Omega.{arith}
use lib.ListN.{length, take, drop, take-append-drop, length-append}
use lib.Dec.{leb}
use borrow.Author.Tests.{leb-true, leb-false}
use Rattle.codec.specs.Lists.{pick, All}
use Rattle.page.specs.Layout.{page_size, line_size, slot_count, Rec, size}
use Rattle.page.specs.Page.{RecOk}
use Rattle.page.specs.Operations.{sizes, fits_in, fits_page}
use Rattle.page.proofs.Totals.{size_most, size-most, sizes-append, sizes-least}
use Rattle.edit.proofs.General.{by-test}
use Rattle.tree.specs.Edits.{split_from, split_point}
use Rattle.tree.specs.Good.{FitsIn, Fits}

-- ---- "m smallest with twice their bytes at least the total", where `seen` bytes stand before the list

split-smallest : (total seen : ℕ) (l : List Rec) (j : ℕ) → j < split_from total seen l → 2 * (seen + sizes (take j l)) < total
unfolding split_from sizes
split-smallest total seen [] j h = absurd (omega arith)
split-smallest total seen (r ∷ l) j h = go (leb total (2 * seen)) refl j h (split-smallest total (seen + size r) l)
  where
    go : (t : Bool) → leb total (2 * seen) ≡ t → (j : ℕ) → j < pick t 0 (suc (split_from total (seen + size r) l)) →
        ((i : ℕ) → i < split_from total (seen + size r) l → 2 * (seen + size r + sizes (take i l)) < total) → 2 * (seen + sizes (take j (r ∷ l))) < total
    go true c j h f = absurd (omega arith)
    go false c zero h f = omega (arith, leb-false total (2 * seen) c)
    go false c (suc j) h f = omega (arith, f j (omega arith))

split-reaches : (total seen : ℕ) (l : List Rec) → total ≤ 2 * (seen + sizes l) → total ≤ 2 * (seen + sizes (take (split_from total seen l) l))
unfolding split_from sizes
split-reaches total seen [] h = h
split-reaches total seen (r ∷ l) h =
    let rest = split-reaches total (seen + size r) l (omega arith) in
    by-test (λ (m : ℕ). total ≤ 2 * (seen + sizes (take m (r ∷ l)))) (leb total (2 * seen)) (λ c. omega (arith, leb-true total (2 * seen) c)) (λ c. omega arith)

-- the left half is past the middle by less than a record
split-close : (total seen : ℕ) (l : List Rec) → All RecOk l → 2 * seen < total → 2 * (seen + sizes (take (split_from total seen l) l)) < total + 2 * size_most
unfolding split_from sizes
split-close total seen [] g h = omega arith
split-close total seen (r ∷ l) g h =
    by-test (λ (m : ℕ). 2 * (seen + sizes (take m (r ∷ l))) < total + 2 * size_most) (leb total (2 * seen)) (λ c. omega arith)
    (λ c. omega (arith, go (leb total (2 * (seen + size r))) refl (split-close total (seen + size r) l g.1)))
  where
    stop : (l : List Rec) → leb total (2 * (seen + size r)) ≡ true → sizes (take (split_from total (seen + size r) l) l) ≡ 0
    stop [] c = refl
    stop (x ∷ l) c = rw c

    go : (t : Bool) → leb total (2 * (seen + size r)) ≡ t →
        (2 * (seen + size r) < total → 2 * (seen + size r + sizes (take (split_from total (seen + size r) l) l)) < total + 2 * size_most) →
        2 * (seen + size r + sizes (take (split_from total (seen + size r) l) l)) < total + 2 * size_most
    go true c f = omega (arith, size-most r g.0, stop l c)
    go false c f = f (leb-false total (2 * (seen + size r)) c)

-- "The left takes the first m, m smallest with twice their bytes at least the total."
module _ (l : List Rec) where
  pub point-reaches : sizes l ≤ 2 * sizes (take (split_point l) l)
  unfolding split_point
  point-reaches = omega (arith, split-reaches (sizes l) 0 l (omega arith))

  pub point-smallest : (j : ℕ) → j < split_point l → 2 * sizes (take j l) < sizes l
  unfolding split_point
  point-smallest j h = omega (arith, split-smallest (sizes l) 0 l j h)

  point-close : All RecOk l → 0 < sizes l → 2 * sizes (take (split_point l) l) < sizes l + 2 * size_most
  unfolding split_point
  point-close g h = omega (arith, split-close (sizes l) 0 l g (omega arith))

-- ---- the halves

nonempty : (l : List Rec) → 0 < sizes l → 1 ≤ length l
unfolding sizes
nonempty [] h = h
nonempty (r ∷ l) h = omega arith

-- what has no room in one page has room in two, whatever the number of records that a page may list from 28 on
module _ (cap : ℕ) (least : 28 ≤ cap) where
  pub halves_in : (l : List Rec) → All RecOk l → length l ≤ suc cap → sizes l ≤ page_size - line_size + size_most →
      fits_in cap l ≡ false → FitsIn cap (take (split_point l) l) × FitsIn cap (drop (split_point l) l)
  halves_in l g few small over =
      let m = split_point l in
      let e : sizes (take m l) + sizes (drop m l) ≡ sizes l = sym (sizes-append (take m l) (drop m l)) ∙ ap sizes (take-append-drop m l) in
      let n : length (take m l) + length (drop m l) ≡ length l = sym (length-append (take m l) (drop m l)) ∙ ap length (take-append-drop m l) in
      let big : 2 * size_most < sizes l = large (leb (length l) cap) refl (leb (sizes l) (page_size - line_size)) refl over in
      let a = point-reaches l in
      let b = point-close l g (omega arith) in
      let ls : 1 ≤ length (take m l) = nonempty (take m l) (omega arith) in
      let rs : 1 ≤ length (drop m l) = nonempty (drop m l) (omega arith) in
      (record { some = ls; few = omega arith; room = omega arith }, record { some = rs; few = omega arith; room = omega arith })
    where
      large : (s : Bool) → leb (length l) cap ≡ s → (t : Bool) → leb (sizes l) (page_size - line_size) ≡ t → (s && t) ≡ false → 2 * size_most < sizes l
      large true p true q z = let y : ◌≡◌ {A = ℕ} 0 1 = cc in absurd (omega arith)
      large true p false q z = omega (arith, leb-false (sizes l) (page_size - line_size) q)
      large false p t q z = omega (arith, leb-false (length l) cap p, sizes-least l)

pub halves : (l : List Rec) → All RecOk l → length l ≤ suc slot_count → sizes l ≤ page_size - line_size + size_most →
    fits_page l ≡ false → Fits (take (split_point l) l) × Fits (drop (split_point l) l)
halves = halves_in slot_count (omega arith)
