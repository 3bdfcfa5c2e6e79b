-- A page above the leaves that is being filled, by the separators of the pages from k on; and index pages over the leaves, 28 separators each.
-- Assumes nothing.
use Prim.Native.Nat.{ℕ, zero, suc, ◌+◌, ◌-◌, ◌*◌, ◌≤◌, ◌<◌, ◌/◌, min}
use mathlib.Core.Path.{◌≡◌, refl, sym, ap, ap₂, subst, ◌∙◌}
use mathlib.Core.Logic.{◌⊎◌, inl, inr}
use mathlib.Core.List.{List, [], ◌∷◌, ◌++◌, map, append_assoc, append-nil}
use native.Mathlib.Omega.{arith}
use native.Mathlib.Numerals.{add-one}
use native.Mathlib.Decide.{dec_lt}
use lib.ListN.{length, get_or, take, drop, set, length-set, replicate, length-take, length-drop, length-map, length-replicate, drop_of_length-le}
use lib.Seq.{drop-cons, drop-drop, take-suc-set, take_all}
use Rattle.codec.specs.Lists.{splice, All}
use Rattle.codec.specs.Numbers.{bytes_of}
use Rattle.codec.proofs.Lists.{splice-over}
use Rattle.codec.proofs.Numbers.{length-bytes_of}
use Rattle.page.proofs.Images.{put-length}
use Rattle.page.specs.Layout.{page_size, slot_count, top_key, leaf_kind, index_kind, top_kind, Rec, rec_of, unused_head, header_of}
use Rattle.page.specs.Page.{RecOk}
use Rattle.page.specs.Operations.{fill, page_of, put_page}
use Rattle.page.specs.declared.header.Header.{Header}
use Rattle.page_edit.specs.Filling.{Room}
use Rattle.page_edit.proofs.Filled.{room-unused}
use Rattle.image.specs.Image.{index_rec, first_key}
use Rattle.image.specs.Fresh.{separators, named, index_count, pages_above, in_pages, index_over, index_pages, top_over, stored, Storable, blank, put_filled}
use Rattle.image.proofs.IndexRecords.{sizes-entries, index_ok}
use Rattle.image.proofs.FilledPages.{each-page, length-named, length-separators, named-entries}
use Rattle.image.proofs.InPages.{above-one, above-top, length-in_pages, index-all}
use Rattle.image.proofs.Stored.{first_leaf, stored-made-one, stored-made-top}

-- the record of the page k
pub named-rec : (sep k : ℕ) (v w : List ℕ) → length v ≡ 2 → w ≡ splice v 0 (bytes_of 2 k) → rec_of sep w ≡ index_rec sep k
unfolding index_rec
named-rec sep k v w l e = ap (rec_of sep) (e ∙ splice-over v (bytes_of 2 k) (length-bytes_of 2 k ∙ sym l))

-- one record more
pub named-next : (k : ℕ) (ss : List ℕ) (i : ℕ) → i < length ss → named (i + k) (drop i ss) ≡ index_rec (get_or ss i 0) (i + k) ∷ named (i + 1 + k) (drop (i + 1) ss)
unfolding named
named-next k ss i h = let e : suc (i + k) ≡ suc i + k = omega arith in rw (drop-cons ss i 0 h, add-one, e)

pub named-none : (k : ℕ) (ss : List ℕ) (i : ℕ) → length ss ≤ i → named (i + k) (drop i ss) ≡ []
unfolding named
named-none k ss i h = ap (named (i + k)) (drop_of_length-le ss {i = i} h)

pub named-from : (k : ℕ) (ss : List ℕ) → named (0 + k) (drop 0 ss) ≡ named k ss
named-from k ss = let z : 0 + k ≡ k = omega arith in ap (λ (n : ℕ). named n ss) z

-- at most 28 separators: 28 records of 24 bytes fit
pub node-room : (kind own k : ℕ) (seps : List ℕ) → length seps ≤ slot_count → (h : Header) → h ≡ header_of (unused_head kind own) → Room h (named (0 + k) (drop 0 seps))
node-room kind own k seps few h e =
    let n = length-named k seps in
    rw (named-from k seps)
    (room-unused kind own h (named k seps) e (omega (arith, n))
    (omega (arith, n, sizes-entries (named k seps) (named-entries k seps))))

named-ok : (k : ℕ) (ss : List ℕ) → All (λ (s : ℕ). s ≤ top_key) ss → All RecOk (named k ss)
unfolding named
named-ok k [] a = tt
named-ok k (s ∷ ss) a = (index_ok s k a.0, named-ok (suc k) ss a.1)

-- ---- the separators of the leaves

keys-low : (ls : List (List Rec)) → All (All RecOk) ls → All (λ (s : ℕ). s ≤ top_key) (map (λ (m : List Rec). first_key m 0) ls)
keys-low [] k = tt
keys-low ([] ∷ ls) k = (omega arith, keys-low ls k.1)
keys-low ((r ∷ l) ∷ ls) k = (k.0.0.low, keys-low ls k.1)

pub seps-low : (ls : List (List Rec)) → All (All RecOk) ls → All (λ (s : ℕ). s ≤ top_key) (separators ls)
unfolding separators
seps-low [] k = tt
seps-low (l ∷ ls) k = (omega arith, keys-low ls k.1)

-- ---- the index pages over the leaves

take-named : (m k : ℕ) (ss : List ℕ) → take m (named k ss) ≡ named k (take m ss)
unfolding named
take-named zero k ss = refl
take-named (suc m) k [] = refl
take-named (suc m) k (s ∷ ss) = ap (λ (l : List Rec). index_rec s k ∷ l) (take-named m (suc k) ss)

drop-named : (m k : ℕ) (ss : List ℕ) → drop m (named k ss) ≡ named (k + m) (drop m ss)
unfolding named
drop-named zero k ss = let z : k ≡ k + 0 = omega arith in ap (λ (n : ℕ). named n ss) z
drop-named (suc m) k [] = refl
drop-named (suc m) k (s ∷ ss) = let z : suc k + m ≡ k + suc m = omega arith in drop-named m (suc k) ss ∙ ap (λ (n : ℕ). named n (drop m ss)) z

abbrev pub firsts : List (List Rec) → List ℕ
firsts cs = map (λ (c : List Rec). first_key c 0) cs

-- i index pages are put, and m are left, over the separators that are left
pub record Indexing (out₀ out tops seps : List ℕ) (n first i : ℕ) : Type 0 where
  pub left : ℕ
  pub count : i + left ≡ n
  pub same : length tops ≡ n
  pub long : length out ≡ length out₀
  pub whole : put_filled index_kind out (i + 2) (in_pages left (named (first + slot_count * i) (drop (slot_count * i) seps))) ≡ put_filled index_kind out₀ 2 (in_pages n (named first seps))
  pub names : take i tops ++ firsts (in_pages left (named (first + slot_count * i) (drop (slot_count * i) seps))) ≡ firsts (in_pages n (named first seps))

pub indexes-start : (out tops seps : List ℕ) (first : ℕ) → Indexing out out tops seps (length tops) first 0
indexes-start out tops seps first =
    let z : first + slot_count * 0 ≡ first = omega arith in
    let e = ap (λ (k : ℕ). in_pages (length tops) (named k seps)) z in
    record {
      left = length tops;
      count = omega arith;
      same = refl;
      long = refl;
      whole = ap (put_filled index_kind out 2) e;
      names = ap firsts e;
    }

module _ {out₀ out tops seps : List ℕ} {n first i : ℕ} (k : Indexing out₀ out tops seps n first i) (many : n ≡ index_count (length seps)) where
  abbrev rest : List ℕ
  rest = drop (slot_count * i) seps

  -- one index page more
  module _ (less : i < n) where
    pub next-inside : slot_count * i < length seps
    unfolding index_count
    next-inside = omega (arith, less, many)

    -- its separators: those that are left, as many as it takes
    pub next-seps : (e : ℕ) → e ≡ min (slot_count * i + slot_count) (length seps) → take (e - slot_count * i) rest ≡ take slot_count rest
    next-seps e h = go (dec_lt (slot_count * i + slot_count) (length seps))
      where
        go : Dec (slot_count * i + slot_count < length seps) → take (e - slot_count * i) rest ≡ take slot_count rest
        go (yes c) = let z : e - slot_count * i ≡ slot_count = omega (arith, h) in ap (λ (j : ℕ). take j rest) z
        go (no c) = take_all (e - slot_count * i) rest (omega (arith, h, length-drop (slot_count * i) seps)) ∙ sym (take_all slot_count rest (omega (arith, length-drop (slot_count * i) seps)))

    pages-left : in_pages k.left (named (first + slot_count * i) rest)
        ≡ named (first + slot_count * i) (take slot_count rest) ∷ in_pages (k.left - 1) (named (first + slot_count * (i + 1)) (drop (slot_count * (i + 1)) seps))
    unfolding in_pages
    pages-left = go k.left (omega (arith, less, k.count))
      where
        go : (m : ℕ) → 1 ≤ m → in_pages m (named (first + slot_count * i) rest)
            ≡ named (first + slot_count * i) (take slot_count rest) ∷ in_pages (m - 1) (named (first + slot_count * (i + 1)) (drop (slot_count * (i + 1)) seps))
        go zero h = absurd (omega (arith, h))
        go (suc m) h =
            let to : first + slot_count * i + slot_count ≡ first + slot_count * (i + 1) = omega arith in
            let past : slot_count * i + slot_count ≡ slot_count * (i + 1) = omega arith in
            let back : m ≡ suc m - 1 = omega arith in
            let rests : drop slot_count (named (first + slot_count * i) rest) ≡ named (first + slot_count * (i + 1)) (drop (slot_count * (i + 1)) seps) =
            drop-named slot_count (first + slot_count * i) rest
            ∙ ap₂ (λ (j : ℕ) (l : List ℕ). named j l) to (drop-drop slot_count (slot_count * i) seps ∙ ap (λ (j : ℕ). drop j seps) past) in
            ap₂ (λ (x : List Rec) (xs : List (List Rec)). x ∷ xs) (take-named slot_count (first + slot_count * i) rest) (ap₂ in_pages back rests)

    first-left : first_key (named (first + slot_count * i) (take slot_count rest)) 0 ≡ get_or seps (slot_count * i) 0
    unfolding named index_rec
    first-left = ap (λ (l : List ℕ). first_key (named (first + slot_count * i) (take slot_count l)) 0) (drop-cons seps (slot_count * i) 0 next-inside)

    pub index-next : (out' p q : List ℕ) (sep : ℕ) → page_size * (i + 2) + page_size ≤ length out → p ≡ page_of out (i + 2) →
        q ≡ fill p index_kind (i + 2) (named (first + slot_count * i) (take slot_count rest)) → length q ≡ page_size → out' ≡ put_page out (i + 2) q →
        sep ≡ get_or seps (slot_count * i) 0 → Indexing out₀ out' (set tops i sep) seps n first (i + 1)
    unfolding put_filled
    index-next out' p q sep fits ep eq l e es =
        let cs = named (first + slot_count * i) (take slot_count rest) in
        let more = in_pages (k.left - 1) (named (first + slot_count * (i + 1)) (drop (slot_count * (i + 1)) seps)) in
        let put : out' ≡ put_page out (i + 2) (fill (page_of out (i + 2)) index_kind (i + 2) cs) =
        e ∙ ap (put_page out (i + 2)) (eq ∙ ap (λ (x : List ℕ). fill x index_kind (i + 2) cs) ep) in
        let on : i + 1 + 2 ≡ suc (i + 2) = omega arith in
        record {
          left = k.left - 1;
          count = omega (arith, less, k.count);
          same = length-set tops i sep ∙ k.same;
          long = ap length e ∙ put-length out q (i + 2) l fits ∙ k.long;
          whole =
              ap (λ (j : ℕ). put_filled index_kind out' j more) on
              ∙ ap (λ (x : List ℕ). put_filled index_kind x (suc (i + 2)) more) put
              ∙ sym (ap (put_filled index_kind out (i + 2)) pages-left)
              ∙ k.whole;
          names =
              ap (λ (j : ℕ). take j (set tops i sep) ++ firsts more) (add-one i)
              ∙ ap (λ (x : List ℕ). x ++ firsts more) (take-suc-set tops i sep (omega (arith, less, k.same)))
              ∙ append_assoc (take i tops) (sep ∷ []) (firsts more)
              ∙ ap (λ (x : ℕ). take i tops ++ (x ∷ firsts more)) (es ∙ sym first-left)
              ∙ sym (ap (λ (x : List (List Rec)). take i tops ++ firsts x) pages-left)
              ∙ k.names;
        }

  -- all are put
  pub indexes-end : n ≤ i → (out ≡ put_filled index_kind out₀ 2 (in_pages n (named first seps))) × (tops ≡ firsts (in_pages n (named first seps)))
  unfolding put_filled in_pages
  indexes-end h =
      let cs = named (first + slot_count * i) rest in
      let z : k.left ≡ 0 = omega (arith, h, k.count) in
      let none : in_pages k.left cs ≡ [] = ap (λ (m : ℕ). in_pages m cs) z in (
        sym (ap (put_filled index_kind out (i + 2)) none) ∙ k.whole,
        sym (take_all i tops (omega (arith, h, k.same))) ∙ sym (append-nil (take i tops)) ∙ sym (ap (λ (x : List (List Rec)). take i tops ++ firsts x) none) ∙ k.names,
      )

-- ---- the whole

-- room for so many separators
pub tops-room : (m : ℕ) → m ≤ 28 → length (take m (replicate {A = ℕ} 28 0)) ≡ m
tops-room m h = omega (arith, length-take m (replicate {A = ℕ} 28 0), length-replicate {A = ℕ} 28 0)

-- the pages above the leaves, as they are counted
pub above-by : (n above : ℕ) → ((n ≤ 28) × (above ≡ 1)) ⊎ ((28 < n) × (above ≡ (n + 27) / 28 + 1)) → above ≡ pages_above n
unfolding index_count
above-by n above (inl h) = h.1 ∙ sym (above-one n h.0)
above-by n above (inr h) = let e : index_count n ≡ (n + 27) / 28 = refl in omega (arith, h.1, e, above-top n h.0)

-- the leaves are written, over page 0 and zeros, and these are their separators
pub record Leaved (n : ℕ) (ls : List (List Rec)) (above : ℕ) (c seps : List ℕ) : Type 0 where
  pub storable : Storable ls
  pub count : above ≡ pages_above (length ls)
  pub room : above + length ls + 1 ≤ n
  pub image : c ≡ put_filled leaf_kind (blank n) (above + 1) ls
  pub names : seps ≡ separators ls

module _ {n : ℕ} {ls : List (List Rec)} {above : ℕ} {c seps : List ℕ} (k : Leaved n ls above c seps) where
  from : above + 1 ≡ first_leaf ls
  from = omega (arith, k.count)

  fits : first_leaf ls + length ls ≤ n
  fits = omega (arith, k.count, k.room)

  written-leaves : c ≡ put_filled leaf_kind (blank n) (first_leaf ls) ls
  written-leaves = k.image ∙ ap (λ (f : ℕ). put_filled leaf_kind (blank n) f ls) from

  over-leaves : named (above + 1) seps ≡ index_over ls
  unfolding index_over
  over-leaves = ap₂ named from k.names

  pub leaved-low : All (λ (s : ℕ). s ≤ top_key) seps
  leaved-low = subst (All (λ (s : ℕ). s ≤ top_key)) (sym k.names) (seps-low ls k.storable.good)

  pub leaved-length : length seps ≡ length ls
  leaved-length = ap length k.names ∙ length-separators ls

  -- page numbers fit two bytes
  pub leaved-numbers : {m : ℕ} → m ≤ 65536 → n ≡ m / page_size → above + 1 + length seps ≤ 65536
  leaved-numbers h e = omega (arith, h, e, k.room, leaved-length)

  -- then the index page
  pub made-one : length ls ≤ 28 → put_page c 1 (fill (page_of c 1) index_kind 1 (named 2 seps)) ≡ stored n ls
  made-one few =
      let two : 2 ≡ above + 1 = omega (arith, k.count, above-one (length ls) few) in
      ap (λ (cs : List Rec). put_page c 1 (fill (page_of c 1) index_kind 1 cs)) (ap (λ (j : ℕ). named j seps) two ∙ over-leaves)
      ∙ stored-made-one n ls k.storable fits few c written-leaves

  -- or the index pages and the top page
  module _ (m : ℕ) (count : m ≡ index_count (length seps)) (d tops : List ℕ) (ed : d ≡ put_filled index_kind c 2 (in_pages m (named (above + 1) seps))) (et : tops ≡ firsts (in_pages m (named (above + 1) seps))) where
    pages-are : in_pages m (named (above + 1) seps) ≡ index_pages ls
    unfolding index_pages
    pages-are = ap₂ in_pages (count ∙ ap index_count leaved-length) over-leaves

    pub made-top : 28 < length ls → put_page d 1 (fill (page_of d 1) top_kind 1 (named 2 tops)) ≡ stored n ls
    unfolding top_over
    made-top many =
        ap (λ (ts : List ℕ). put_page d 1 (fill (page_of d 1) top_kind 1 (named 2 ts))) (et ∙ ap firsts pages-are)
        ∙ stored-made-top n ls k.storable fits many c d written-leaves (ed ∙ ap (put_filled index_kind c 2) pages-are)

    pub tops-length : length tops ≡ m
    tops-length = ap length et ∙ length-map (in_pages m (named (above + 1) seps)) (λ (cs : List Rec). first_key cs 0) ∙ length-in_pages m (named (above + 1) seps)

    pub tops-low : All (λ (s : ℕ). s ≤ top_key) tops
    tops-low = subst (All (λ (s : ℕ). s ≤ top_key)) (sym (et ∙ ap firsts pages-are)) (keys-low (index_pages ls) (each-page RecOk (index_pages ls) (rw (index-all ls, sym over-leaves) (named-ok (above + 1) seps leaved-low))))
