-- The index records of a store with more than 28 leaves, in pages of 28 each: all of them in order, no page empty, as many pages as are counted.
-- Assumes nothing.
use Prim.Native.Nat.{ℕ, zero, suc, ◌+◌, ◌*◌, ◌≤◌, ◌<◌}
use mathlib.Core.Path.{◌≡◌, refl, sym, ap, ◌∙◌}
use mathlib.Core.List.{List, ◌++◌, map}
use native.Mathlib.Omega.{arith}
use lib.ListN.{length, take, drop, length-take, length-drop, length-map, take-append-drop, drop_of_length-le}
use borrow.Author.Tests.{le-leb, lt-leb}
use Rattle.codec.specs.Lists.{All}
use Rattle.page.specs.Layout.{slot_count, Rec}
use Rattle.image.specs.Image.{first_key}
use Rattle.image.specs.Fresh.{index_count, pages_above, in_pages, index_over, index_pages, top_over, all_records}
use Rattle.image.proofs.FilledPages.{length-index, length-named, Full}

-- ---- records in pages of 28

pub length-in_pages : (n : ℕ) (cs : List Rec) → length (in_pages n cs) ≡ n
unfolding in_pages
length-in_pages zero cs = refl
length-in_pages (suc n) cs = ap suc (length-in_pages n (drop slot_count cs))

pub in_pages-all : (n : ℕ) (cs : List Rec) → length cs ≤ slot_count * n → all_records (in_pages n cs) ≡ cs
unfolding in_pages all_records
in_pages-all zero cs h = sym (drop_of_length-le cs {i = 0} (omega arith))
in_pages-all (suc n) cs h =
    ap (λ (l : List Rec). take slot_count cs ++ l) (in_pages-all n (drop slot_count cs) (omega (arith, length-drop slot_count cs))) ∙ take-append-drop slot_count cs

pub in_pages-full : (n : ℕ) (cs : List Rec) → slot_count * n < length cs + slot_count → Full (in_pages n cs)
unfolding in_pages
in_pages-full zero cs h = tt
in_pages-full (suc n) cs h =
    (omega (arith, length-take slot_count cs), in_pages-full n (drop slot_count cs) (omega (arith, length-drop slot_count cs)))

pub in_pages-few : (n : ℕ) (cs : List Rec) → All (λ (l : List Rec). length l ≤ slot_count) (in_pages n cs)
unfolding in_pages
in_pages-few zero cs = tt
in_pages-few (suc n) cs = (omega (arith, length-take slot_count cs), in_pages-few n (drop slot_count cs))

-- ---- how many

pub above-one : (n : ℕ) → n ≤ slot_count → pages_above n ≡ 1
unfolding pages_above
above-one n h = rw (le-leb n slot_count h)

pub above-top : (n : ℕ) → slot_count < n → pages_above n ≡ suc (index_count n)
unfolding pages_above
above-top n h = rw (lt-leb n slot_count h)

module _ (n : ℕ) where
  pub count-high : n ≤ slot_count * index_count n
  unfolding index_count
  count-high = omega arith

  pub count-low : slot_count * index_count n < n + slot_count
  unfolding index_count
  count-low = omega arith

-- 28 leaves have one page above them; 29 have a top page over two index pages; 784 fill 28 index pages, and one more is more than a top page can name
pub above-28 : pages_above 28 ≡ 1
unfolding pages_above
above-28 = refl

pub above-29 : pages_above 29 ≡ 3
unfolding pages_above index_count
above-29 = refl

pub above-784 : pages_above 784 ≡ 29
unfolding pages_above index_count
above-784 = refl

pub count-785 : index_count 785 ≡ 29
unfolding index_count
count-785 = refl

-- ---- the index pages

module _ (ls : List (List Rec)) where
  pub index-all : all_records (index_pages ls) ≡ index_over ls
  unfolding index_pages
  index-all = in_pages-all (index_count (length ls)) (index_over ls) (omega (arith, length-index ls, count-high (length ls)))

  pub index-full : Full (index_pages ls)
  unfolding index_pages
  index-full = in_pages-full (index_count (length ls)) (index_over ls) (omega (arith, length-index ls, count-low (length ls)))

  pub index-few : All (λ (l : List Rec). length l ≤ slot_count) (index_pages ls)
  unfolding index_pages
  index-few = in_pages-few (index_count (length ls)) (index_over ls)

  pub length-index_pages : length (index_pages ls) ≡ index_count (length ls)
  unfolding index_pages
  length-index_pages = length-in_pages (index_count (length ls)) (index_over ls)

  pub length-top : length (top_over ls) ≡ index_count (length ls)
  unfolding top_over
  length-top = length-named 2 (map (λ (cs : List Rec). first_key cs 0) (index_pages ls)) ∙ length-map (index_pages ls) (λ (cs : List Rec). first_key cs 0) ∙ length-index_pages
