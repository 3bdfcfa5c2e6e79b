-- How many leaves the records of two books fill: fewer than 300, so that the top page has room for their index pages, and 10 never occurs (document 02 (j): "and is shown never to
-- occur, with at most 63 pages past page 0").
-- Assumes nothing.
use Prim.Native.Nat.{ℕ, suc, ◌+◌, ◌*◌, ◌≤◌, ◌<◌}
use mathlib.Core.Path.{◌≡◌, refl, sym, ap, ◌∙◌, subst}
use mathlib.Core.Logic.{◌⊎◌, inl, inr}
use mathlib.Core.Bool.{Bool, true, false}
use mathlib.Core.List.{List, [], ◌∷◌, ◌++◌}
use native.Mathlib.Omega.{arith}
use lib.ListN.{length, length-append}
use lib.Dec.{ltb}
use Rattle.codec.specs.Lists.{pick, All}
use Rattle.page.specs.Layout.{slot_count, Rec, rec_of, size}
use Rattle.page.specs.Page.{RecOk}
use Rattle.page.specs.Operations.{sizes}
use Rattle.page.proofs.Totals.{size-most, sizes-append}
use Rattle.image.specs.Image.{sound}
use Rattle.image.specs.Table.{table}
use Rattle.image.specs.Fresh.{all_records, index_count, pages_above}
use Rattle.image.proofs.InPages.{above-one, above-top, count-high, count-low}
use Rattle.image.proofs.Stored.{few-or-many}
use Rattle.edit.specs.Ledger.{add}
use Rattle.merge.specs.Tables.{merged}
use Rattle.merge.specs.Leaves.{leaves_of, Fullest, Packed}
use Rattle.merge.specs.Says.{Above, index_alone, under_top}
use Rattle.merge.proofs.Packing.{all-parts, packed-is}
use Rattle.merge.proofs.LeafPages.{table-few, table-small}

-- ---- the records of two tables

length-add : (k : ℕ) (v : List ℕ) (t : List Rec) → length (add k v t) ≡ suc (length t)
unfolding add
length-add k v [] = refl
length-add k v (r ∷ t) = go (ltb k r.key) (length-add k v t)
  where
    go : (b : Bool) → length (add k v t) ≡ suc (length t) → length (pick b (rec_of k v ∷ r ∷ t) (r ∷ add k v t)) ≡ suc (suc (length t))
    go true e = refl
    go false e = ap suc e

sizes-add : (k : ℕ) (v : List ℕ) (t : List Rec) → sizes (add k v t) ≡ size (rec_of k v) + sizes t
unfolding add sizes
sizes-add k v [] = refl
sizes-add k v (r ∷ t) = go (ltb k r.key) (sizes-add k v t)
  where
    go : (b : Bool) → sizes (add k v t) ≡ size (rec_of k v) + sizes t → sizes (pick b (rec_of k v ∷ r ∷ t) (r ∷ add k v t)) ≡ size (rec_of k v) + (size r + sizes t)
    go true e = refl
    go false e = omega (arith, e)

pub length_merged : (t u : List Rec) → length (merged t u) ≡ length t + length u
unfolding merged
length_merged t [] = omega arith
length_merged t (r ∷ u) = omega (arith, length_merged (add r.key r.value t) u, length-add r.key r.value t)

sizes-merged : (t u : List Rec) → sizes (merged t u) ≡ sizes t + sizes u
unfolding merged sizes
sizes-merged t [] = omega arith
sizes-merged t (r ∷ u) = omega (arith, sizes-merged (add r.key r.value t) u, sizes-add r.key r.value t)

-- ---- how many leaves they fill

-- a leaf that is closed has 28 records or more than 744 bytes, since a record is at most 216 bytes: 745 for each record and 28 for each byte make at least 28 * 745
closed-weight : (l : List Rec) (r : Rec) → RecOk r → (28 < length l + 1) ⊎ (960 < sizes l + size r) → 20860 ≤ 745 * length l + 28 * sizes l
closed-weight l r k (inl h) = omega (arith, h)
closed-weight l r k (inr h) = omega (arith, h, size-most r k)

all-weight : (l : List Rec) (ls : List (List Rec)) → All (All RecOk) ls → Fullest (l ∷ ls) → 20860 * length ls ≤ 745 * length (l ++ all_records ls) + 28 * sizes (l ++ all_records ls)
unfolding all_records
all-weight l [] k f = omega arith
all-weight l ([] ∷ ls) k f = absurd f
all-weight l ((r ∷ m) ∷ ls) k f =
    let rest = (r ∷ m) ++ all_records ls in
    omega (arith, closed-weight l r k.0.0 f.0, all-weight (r ∷ m) ls k.1 f.1, length-append l rest, sizes-append l rest)

packed-weight : (rs : List Rec) (ls : List (List Rec)) → All RecOk rs → Packed rs ls → 20860 * length ls ≤ 20860 + (745 * length rs + 28 * sizes rs)
unfolding all_records
packed-weight rs [] k p = absurd (omega (arith, p.some))
packed-weight rs (l ∷ ls) k p =
    let ok : All (All RecOk) (l ∷ ls) = all-parts RecOk (l ∷ ls) (rw p.in_order k) in
    omega (arith, all-weight l ls ok.1 p.full, ap length p.in_order, ap sizes p.in_order)

module _ (a b : List ℕ) (one : sound a ≡ true) (two : sound b ≡ true) where
  pub few-merged : length (merged (table a) (table b)) ≤ 3584
  few-merged = omega (arith, length_merged (table a) (table b), table-few a one, table-few b two)

  pub leaves-few : All RecOk (merged (table a) (table b)) → length (leaves_of (merged (table a) (table b))) < 300
  leaves-few k =
      let rs = merged (table a) (table b) in
      omega (arith, packed-weight rs (leaves_of rs) k (packed-is rs k), few-merged, sizes-merged (table a) (table b), table-small a one, table-small b two)

  -- so their index pages are at most 28
  pub indexes-few : All RecOk (merged (table a) (table b)) → index_count (length (leaves_of (merged (table a) (table b)))) ≤ 28
  unfolding index_count
  indexes-few k = omega (arith, leaves-few k)

-- ---- the pages above n leaves

module _ (n : ℕ) where
  pub indexes-fit : n ≤ 784 → index_count n ≤ 28
  unfolding index_count
  indexes-fit h = omega (arith, h)

  pub indexes-pass : 784 < n → 28 < index_count n
  unfolding index_count
  indexes-pass h = omega (arith, h)

  pub above-is : Above n (pages_above n)
  above-is = go (few-or-many n)
    where
      go : (n ≤ slot_count) ⊎ (slot_count < n) → Above n (pages_above n)
      go (inl h) = subst (Above n) (sym (above-one n h)) (index_alone h)
      go (inr h) = subst (Above n) (sym (above-top n h)) (under_top h (index_count n) (omega (arith, count-high n)) (omega (arith, count-low n)))

  pub above-only : (m : ℕ) → Above n m → m ≡ pages_above n
  above-only _ (index_alone h) = sym (above-one n h)
  above-only _ (under_top h k low high) = let e : k ≡ index_count n = omega (arith, count-high n, count-low n, low, high) in ap suc e ∙ sym (above-top n h)

  pub above-some : (m : ℕ) → Above n m → 1 ≤ m
  above-some _ (index_alone h) = omega arith
  above-some _ (under_top h k low high) = omega arith
