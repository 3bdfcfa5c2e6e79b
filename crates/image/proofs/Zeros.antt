-- A store that is written as a whole holds zeros wherever no header and no listed record stands: "All other bytes are as in a fresh store." (document 02 (i))
-- Assumes nothing.
use Prim.Native.Nat.{ℕ, suc, ◌+◌, ◌-◌, ◌*◌, ◌/◌, ◌%◌, ◌≤◌, ◌<◌}
use mathlib.Core.Path.{◌≡◌, refl, sym, ap, ◌∙◌, subst}
use mathlib.Core.Logic.{◌⊎◌, inl, inr}
use mathlib.Core.Bool.{Bool, true, false, ◌&&◌}
use mathlib.Core.List.{List, [], ◌∷◌, ◌++◌, append_assoc}
use native.Mathlib.Omega.{arith}
use native.Mathlib.Decide.{dec_lt}
use lib.ListN.{length, get_or, replicate, length-append, length-replicate, get_or-append}
use lib.Seq.{get_or-append-add}
use lib.Dec.{leb, ltb}
use borrow.Author.Tests.{leb-false, ltb-false}
use Rattle.codec.specs.Lists.{All}
use Rattle.codec.proofs.Lists.{get_or-part}
use Rattle.codec.proofs.Agree.{or_left, or_right}
use Rattle.page.specs.Layout.{page_size, line_size, slot_count, leaf_kind, index_kind, top_kind, Rec, size, Head, read_head, unused_head}
use Rattle.page.specs.Page.{Entry, end, entries, RecOk}
use Rattle.page.specs.Operations.{fill, placed, sizes, OnePage, page_of}
use Rattle.page.proofs.Facts.{is-entries}
use Rattle.page.proofs.Operations.{fill_start, fill_is, fill-page, fill-stays}
use Rattle.image.specs.PageZero.{root_of, no_mark, words_past}
use Rattle.image.specs.Image.{reached, among}
use Rattle.image.specs.Live.{covered, live_in, live}
use Rattle.image.specs.Fresh.{zero_page, fresh_zero, numbered, index_over, index_pages, top_over, pages_over, stored, Storable}
use Rattle.image.proofs.General.{zeros-at}
use Rattle.image.proofs.Apart.{among_first, among-rest}
use Rattle.image.proofs.FilledPages.{length-zero_page, length-fresh_zero, length-past, Fills, Stand}
use Rattle.image.proofs.InPages.{above-one, above-top, length-index_pages}
use Rattle.image.proofs.Stored.{first_leaf, few-or-many, small, leafs, index-filled, indexes-filled, top-filled, leaf_pages, stored-pages, stored-root, stored-length, stored-leaf, index-stands, top-stands, stored-indexes, page_lists, length-lists, stored-reached}

-- zeros past other bytes
zeros-past : (a : List ℕ) (m i : ℕ) → length a ≤ i → get_or (a ++ replicate m 0) i 0 ≡ 0
zeros-past a m i h =
    let e : i ≡ length a + (i - length a) = omega arith in
    ap (λ (j : ℕ). get_or (a ++ replicate m 0) j 0) e ∙ get_or-append-add a (replicate m 0) (i - length a) 0 ∙ zeros-at m (i - length a)

-- ---- a page

-- its free bytes are zero
abbrev Clean : List ℕ → Type 0
Clean p = (o : ℕ) → o < page_size → live_in p o ≡ false → get_or p o 0 ≡ 0

-- the records of a filled page stand from its start on without a gap
placed-low : (start : ℕ) (rs : List Rec) (o : ℕ) → sizes rs ≤ start → o < start → covered o (placed start rs) ≡ false → o < start - sizes rs
unfolding placed sizes covered
placed-low start [] o room h c = omega arith
placed-low start (r ∷ rs) o room h c =
    omega (
      arith,
      placed-low (start - size r) rs o (omega arith) (go (leb (start - size r) o) refl (or_left (leb (start - size r) o && ltb o (end e)) (covered o (placed (start - size r) rs)) c))
          (or_right (leb (start - size r) o && ltb o (end e)) (covered o (placed (start - size r) rs)) c),
    )
  where
    e : Entry
    e = record { at = start - size r; rec = r }

    go : (t : Bool) → leb (start - size r) o ≡ t → (t && ltb o (end e)) ≡ false → o < start - size r
    go false f z = leb-false (start - size r) o f
    go true f z = absurd (omega (arith, ltb-false o (end e) z))

fill-clean : (kind own : ℕ) (rs : List Rec) → kind < 256 → own < 65536 → All RecOk rs → OnePage rs → Clean (fill zero_page kind own rs)
unfolding live_in unused_head zero_page
fill-clean kind own rs k w good fit o h c =
    let p = fill zero_page kind own rs in
    let room : line_size + sizes rs ≤ page_size = omega (arith, fit.small) in
    let listed : entries p ≡ placed page_size rs = is-entries _ _ _ (fill_is zero_page kind own rs length-zero_page k w good room fit.few) in
    let start : (read_head p).start ≡ page_size - sizes rs =
    ap (λ (x : Head). x.start) (fill-page zero_page kind own rs length-zero_page k w good room fit.few).head ∙ fill_start (unused_head kind own) rs in
    let high = placed-low page_size rs o (omega arith) h (ap (covered o) (sym listed) ∙ or_right (ltb o line_size) (covered o (entries p)) c) in
    fill-stays zero_page kind own rs length-zero_page k w good room fit.few o (ltb-false o line_size (or_left (ltb o line_size) (covered o (entries p)) c)) (omega arith)
    ∙ zeros-at page_size o

-- ---- pages that stand, one after the other

clean_at : (kind : ℕ) (img : List ℕ) (k : ℕ) (ls : List (List Rec)) → kind < 256 → Stand kind img k ls → Fills kind k ls → k + length ls ≤ 65536 →
    (q : ℕ) → k ≤ q → q < k + length ls → Clean (page_of img q)
clean_at kind img k [] w t f small q low high = absurd (omega arith)
clean_at kind img k (l ∷ ls) w t f small q low high = go (dec_lt k q) (λ h. clean_at kind img (suc k) ls w t.1 f.1 (omega arith) q h (omega arith))
  where
    go : Dec (k < q) → (k < q → Clean (page_of img q)) → Clean (page_of img q)
    go (yes h) g = g h
    go (no h) g =
        let e : k ≡ q = omega arith in
        subst (λ (j : ℕ). Clean (page_of img j)) e (subst Clean (sym t.0) (fill-clean kind k l w (omega arith) f.0.good f.0.fit))

pages-among : (q k : ℕ) (ls : List (List Rec)) → k ≤ q → q < k + length ls → among q (numbered k ls) ≡ true
unfolding numbered
pages-among q k [] low high = absurd (omega arith)
pages-among q k (l ∷ ls) low high = go (dec_lt k q) (λ h. pages-among q (suc k) ls h (omega arith))
  where
    go : Dec (k < q) → (k < q → among q (numbered (suc k) ls) ≡ true) → among q (k ∷ numbered (suc k) ls) ≡ true
    go (yes h) g = among-rest q k (numbered (suc k) ls) (g h)
    go (no h) g =
        let e : q ≡ k = omega arith in
        subst (λ (j : ℕ). among q (j ∷ numbered (suc k) ls) ≡ true) e (among_first q (numbered (suc k) ls))

-- ---- the store

-- page 0 past its line 0
zero-clean : (n o : ℕ) → line_size ≤ o → get_or (fresh_zero n) o 0 ≡ 0
unfolding fresh_zero no_mark
zero-clean n o h =
    ap (λ (l : List ℕ). get_or l o 0) (sym (append_assoc no_mark (words_past n 1) (replicate (page_size - line_size) 0)))
    ∙ zeros-past (no_mark ++ words_past n 1) (page_size - line_size) o (omega (arith, length-append no_mark (words_past n 1), length-past n))

-- a byte by its page
byte-in : (img : List ℕ) (i : ℕ) → get_or img i 0 ≡ get_or (page_of img (i / page_size)) (i % page_size) 0
unfolding page_of
byte-in img i =
    let e : i ≡ page_size * (i / page_size) + i % page_size = omega arith in
    ap (λ (j : ℕ). get_or img j 0) e ∙ sym (get_or-part img (page_size * (i / page_size)) page_size (i % page_size) (omega arith))

module _ (n : ℕ) (ls : List (List Rec)) (s : Storable ls) (room : first_leaf ls + length ls ≤ n) where
  abbrev img : List ℕ
  img = stored n ls

  leaf-clean : (q : ℕ) → first_leaf ls ≤ q → q < first_leaf ls + length ls → Clean (page_of img q)
  leaf-clean q low high = clean_at leaf_kind img (first_leaf ls) ls (omega arith) (stored-leaf n ls s) (leafs ls s) (small ls s) q low high

  above-clean : (q : ℕ) → 1 ≤ q → q < first_leaf ls → Clean (page_of img q)
  above-clean q low high = go (few-or-many (length ls)) (dec_lt 1 q)
    where
      go : (length ls ≤ slot_count) ⊎ (slot_count < length ls) → Dec (1 < q) → Clean (page_of img q)
      go (inl h) d = clean_at index_kind img 1 (index_over ls ∷ []) (omega arith) (index-stands n ls s h) (index-filled ls s h) (omega arith) q low (omega (arith, above-one (length ls) h))
      go (inr h) (yes d) =
          clean_at index_kind img 2 (index_pages ls) (omega arith) (stored-indexes n ls s h) (indexes-filled ls s) (omega (arith, length-index_pages ls, s.few)) q d
          (omega (arith, above-top (length ls) h, length-index_pages ls))
      go (inr h) (no d) = clean_at top_kind img 1 (top_over ls ∷ []) (omega arith) (top-stands n ls s h) (top-filled ls s) (omega arith) q low (omega arith)

  page-clean : (q : ℕ) → 1 ≤ q → q < first_leaf ls + length ls → Clean (page_of img q)
  page-clean q low high = go (dec_lt q (first_leaf ls))
    where
      go : Dec (q < first_leaf ls) → Clean (page_of img q)
      go (yes h) = above-clean q low h
      go (no h) = leaf-clean q (omega arith) high

  -- past the leaves
  past-clean : (i : ℕ) → page_size * (first_leaf ls + length ls) ≤ i → get_or img i 0 ≡ 0
  past-clean i h =
      let front = fresh_zero n ++ (pages_over ls ++ leaf_pages n ls) in
      let m = page_size * (n - (first_leaf ls + length ls)) in
      let zeros : List ℕ = replicate m 0 in
      let shape : img ≡ front ++ zeros = stored-pages n ls ∙ three (fresh_zero n) (pages_over ls) (leaf_pages n ls) zeros in
      let long : length img ≡ length front + length zeros = ap length shape ∙ length-append front zeros in
      ap (λ (l : List ℕ). get_or l i 0) shape ∙ zeros-past front m i (omega (arith, stored-length n ls s room, length-replicate {A = ℕ} m 0))
    where
      three : (a b c d : List ℕ) → a ++ (b ++ (c ++ d)) ≡ (a ++ (b ++ c)) ++ d
      three a b c d = simp append_assoc

  pub stored-zeros : (i : ℕ) → live img i ≡ false → get_or img i 0 ≡ 0
  unfolding live
  stored-zeros i c = go (dec_lt q (first_leaf ls + length ls)) (dec_lt 0 q)
    where
      q : ℕ
      q = i / page_size

      low : line_size ≤ i
      low = ltb-false i line_size (or_left (ltb i line_size) (among q (reached img (root_of img)) && live_in (page_of img q) (i % page_size)) c)

      among_is : 1 ≤ q → q < first_leaf ls + length ls → among q (reached img (root_of img)) ≡ true
      among_is h k =
          ap (λ (r : ℕ). among q (reached img r)) (stored-root n ls)
          ∙ stored-reached n ls s q
          ∙ pages-among q 1 (page_lists n ls s) h (omega (arith, length-lists n ls s))

      free : 1 ≤ q → q < first_leaf ls + length ls → live_in (page_of img q) (i % page_size) ≡ false
      free h k =
          ap (λ (b : Bool). b && live_in (page_of img q) (i % page_size)) (sym (among_is h k))
          ∙ or_right (ltb i line_size) (among q (reached img (root_of img)) && live_in (page_of img q) (i % page_size)) c

      go : Dec (q < first_leaf ls + length ls) → Dec (0 < q) → get_or img i 0 ≡ 0
      go (no h) z = past-clean i (omega arith)
      go (yes h) (yes z) = byte-in img i ∙ page-clean q z h (i % page_size) (omega arith) (free z h)
      go (yes h) (no z) =
          ap (λ (l : List ℕ). get_or l i 0) (stored-pages n ls) ∙ get_or-append (fresh_zero n) _ 0 i (omega (arith, length-fresh_zero n)) ∙ zero-clean n i low
