-- A store that is written as a whole: its length, its pages read back, that it is sound, that its table is its leaves' records, and how it is written.
-- Assumes nothing.
use Prim.Native.Nat.{ℕ, suc, ◌+◌, ◌-◌, ◌*◌, ◌≤◌, ◌<◌}
use mathlib.Core.Path.{◌≡◌, refl, sym, ap, ◌∙◌, subst}
use mathlib.Core.Logic.{◌⊎◌, inl, inr}
use mathlib.Core.Bool.{Bool, true, false, ◌&&◌, not}
use mathlib.Core.List.{List, [], ◌∷◌, ◌++◌, map, append_assoc, append-nil}
use native.Mathlib.Omega.{arith}
use lib.ListN.{length, replicate, length-map, length-append, length-replicate, replicate-append-replicate}
use lib.Dec.{leb}
use borrow.Author.Tests.{leb-true, leb-false, le-leb, lt-leb, ne_eqb}
use Rattle.codec.specs.Lists.{part, pick, All}
use Rattle.codec.proofs.Lists.{part-append-left}
use Rattle.codec.proofs.Tests.{both}
use Rattle.codec.proofs.Agree.{neither}
use Rattle.device.specs.Calls.{is_image_size}
use Rattle.page.specs.Layout.{page_size, line_size, slot_count, leaf_kind, index_kind, top_kind, top_key, Rec, read_head}
use Rattle.page.specs.Page.{records}
use Rattle.page.specs.PageFormat.{format1}
use Rattle.page.specs.Operations.{fill, page_of, put_page}
use Rattle.image.specs.PageZero.{page_count, is_page, root_of, no_mark, words_past}
use Rattle.image.specs.Image.{index_rec, children, among, distinct, first_key, joined, gathered, itself, pages_in, leaves_in, height_in, height_of, reached, sound, Entries, hit, count}
use Rattle.image.specs.Facts.{Rising, Spans, Under, Nonempty, TreeIn}
use Rattle.image.specs.Table.{table_in, table}
use Rattle.image.specs.Fresh.{zero_page, fresh_zero, separators, named, numbered, filled_pages, pages_above, index_over, index_pages, top_over, pages_over, stored, all_records, Storable, blank, put_filled}
use Rattle.image.proofs.General.{part-front, part-past}
use Rattle.image.proofs.Rising.{rising-lo}
use Rattle.image.proofs.Zero.{true-is_page, Line, facts-ready, past-root}
use Rattle.image.proofs.Apart.{All-among, among-All}
use Rattle.image.proofs.Times.{count-append, among-alike, distinct-alike}
use Rattle.image.proofs.Soundness.{tree_in-sound}
use Rattle.image.proofs.FilledPages.{Filled, past, length-past, length-fresh_zero, rising-rest, Fills, leafs-filled, nodes-filled, length-filled, Stand, filled-stand, put-filled, length-separators, length-index, named-entries, smallest, Full, named-rising, rest-full}
use Rattle.image.proofs.Levels.{chain-spans, chain-named, leaves-numbered, leaves-records, pages-records, pages-full, fine-filled, leaves-chain, nodes-chain, nodes-say, nodes-count}
use Rattle.image.proofs.InPages.{above-one, above-top, count-high, index-all, index-full, index-few, length-index_pages, length-top}

-- the page of the first leaf
abbrev pub first_leaf : List (List Rec) → ℕ
first_leaf ls = suc (pages_above (length ls))

-- ---- numbers of pages

-- they are in range, and distinct
pages-inside : (n k : ℕ) (ls : List (List Rec)) → 1 ≤ k → k + length ls ≤ n → All (λ (p : ℕ). is_page n p ≡ true) (numbered k ls)
unfolding numbered
pages-inside n k [] low high = tt
pages-inside n k (l ∷ ls) low high = (true-is_page n k low (omega arith), pages-inside n (suc k) ls (omega arith) (omega arith))

pages-above : (p k : ℕ) (ls : List (List Rec)) → p < k → among p (numbered k ls) ≡ false
unfolding numbered among
pages-above p k [] h = refl
pages-above p k (l ∷ ls) h = neither (ne_eqb p k (λ e. omega arith)) (pages-above p (suc k) ls (omega arith))

pages-apart : (k : ℕ) (ls : List (List Rec)) → distinct (numbered k ls) ≡ true
unfolding numbered distinct
pages-apart k [] = refl
pages-apart k (l ∷ ls) = both (ap not (pages-above k (suc k) ls (omega arith))) (pages-apart (suc k) ls)

numbered-append : (k : ℕ) (a b : List (List Rec)) → numbered k (a ++ b) ≡ numbered k a ++ numbered (k + length a) b
unfolding numbered
numbered-append k [] b = let e : k ≡ k + 0 = omega arith in ap (λ (n : ℕ). numbered n b) e
numbered-append k (l ∷ a) b =
    let e : suc k + length a ≡ k + suc (length a) = omega arith in
    ap (λ (t : List ℕ). k ∷ t) (numbered-append (suc k) a b ∙ ap (λ (n : ℕ). numbered (suc k) a ++ numbered n b) e)

length-numbered : (k : ℕ) (ls : List (List Rec)) → length (numbered k ls) ≡ length ls
unfolding numbered
length-numbered k [] = refl
length-numbered k (l ∷ ls) = ap suc (length-numbered (suc k) ls)

-- ---- the records of the pages above the leaves

pub few-or-many : (n : ℕ) → (n ≤ slot_count) ⊎ (slot_count < n)
few-or-many n = go (leb n slot_count) refl
  where
    go : (t : Bool) → leb n slot_count ≡ t → (n ≤ slot_count) ⊎ (slot_count < n)
    go true e = inl (leb-true n slot_count e)
    go false e = inr (leb-false n slot_count e)

index-two : (ls : List (List Rec)) → Entries (index_over ls)
unfolding index_over
index-two ls = named-entries (first_leaf ls) (separators ls)

-- "The first separator is 0 and the others are smallest keys.": they rise strictly
index-rising : (ls : List (List Rec)) → Storable ls → Rising 0 (index_over ls) (suc top_key)
unfolding index_over separators named index_rec all_records
index-rising [] s = omega arith
index-rising (l ∷ ls) s =
    (omega arith, named-rising 1 (suc (first_leaf (l ∷ ls))) ls (suc top_key) (rest-full l ls s.filled) (rising-rest 1 l (all_records ls) (suc top_key) s.rising))

module _ (ls : List (List Rec)) (s : Storable ls) where
  pub small : first_leaf ls + length ls ≤ 65536
  small = go (few-or-many (length ls))
    where
      go : (length ls ≤ slot_count) ⊎ (slot_count < length ls) → first_leaf ls + length ls ≤ 65536
      go (inl h) = omega (arith, above-one (length ls) h)
      go (inr h) = omega (arith, above-top (length ls) h, count-high (length ls), s.few)

  pub leafs : Fills leaf_kind (first_leaf ls) ls
  leafs = leafs-filled (first_leaf ls) ls small s.good s.fit s.rising

  -- one index page
  pub index-filled : length ls ≤ slot_count → Fills index_kind 1 (index_over ls ∷ [])
  unfolding all_records
  index-filled h =
      let e : index_over ls ++ [] ≡ index_over ls = append-nil (index_over ls) in
      nodes-filled 0 1 0 (index_over ls ∷ []) (omega arith) (omega arith) (omega (arith, length-index ls), tt) (rw e (index-two ls)) (rw e (index-rising ls s))

  -- index pages under a top page
  pub indexes-filled : Fills index_kind 2 (index_pages ls)
  indexes-filled =
      nodes-filled 0 2 0 (index_pages ls) (omega arith) (omega (arith, length-index_pages ls, s.few)) (index-few ls) (rw (index-all ls) (index-two ls)) (rw (index-all ls) (index-rising ls s))

  top-two : Entries (top_over ls)
  unfolding top_over
  top-two = named-entries 2 (smallest (index_pages ls))

  top-rising : Rising 0 (top_over ls) (suc top_key)
  unfolding top_over
  top-rising = named-rising 0 2 (index_pages ls) (suc top_key) (index-full ls) (rw (index-all ls) (index-rising ls s))

  pub top-filled : Fills top_kind 1 (top_over ls ∷ [])
  unfolding all_records
  top-filled =
      let e : top_over ls ++ [] ≡ top_over ls = append-nil (top_over ls) in
      nodes-filled 1 1 0 (top_over ls ∷ []) (omega arith) (omega arith) (omega (arith, length-top ls, s.few), tt) (rw e top-two) (rw e top-rising)

-- ---- the store, read back

over-one : (ls : List (List Rec)) → length ls ≤ slot_count → pages_over ls ≡ filled_pages index_kind 1 (index_over ls ∷ [])
unfolding pages_over
over-one ls h = rw (le-leb (length ls) slot_count h)

over-top : (ls : List (List Rec)) → slot_count < length ls → pages_over ls ≡ filled_pages top_kind 1 (top_over ls ∷ []) ++ filled_pages index_kind 2 (index_pages ls)
unfolding pages_over
over-top ls h = rw (lt-leb (length ls) slot_count h)

length-over : (ls : List (List Rec)) → Storable ls → length (pages_over ls) ≡ page_size * pages_above (length ls)
length-over ls s = go (few-or-many (length ls))
  where
    go : (length ls ≤ slot_count) ⊎ (slot_count < length ls) → length (pages_over ls) ≡ page_size * pages_above (length ls)
    go (inl h) = omega (arith, ap length (over-one ls h), length-filled index_kind 1 (index_over ls ∷ []) (index-filled ls s h), above-one (length ls) h)
    go (inr h) =
        omega (
          arith,
          ap length (over-top ls h),
          length-append (filled_pages top_kind 1 (top_over ls ∷ [])) (filled_pages index_kind 2 (index_pages ls)),
          length-filled top_kind 1 (top_over ls ∷ []) (top-filled ls s),
          length-filled index_kind 2 (index_pages ls) (indexes-filled ls s),
          length-index_pages ls,
          above-top (length ls) h,
        )

module _ (n : ℕ) (ls : List (List Rec)) where
  abbrev unused : List ℕ
  unused = replicate (page_size * (n - (first_leaf ls + length ls))) 0

  abbrev pub leaf_pages : List ℕ
  leaf_pages = filled_pages leaf_kind (first_leaf ls) ls

  pub stored-pages : stored n ls ≡ fresh_zero n ++ (pages_over ls ++ (leaf_pages ++ unused))
  unfolding stored
  stored-pages = refl

  zero-part : (o m : ℕ) → o + m ≤ page_size → part (stored n ls) o m ≡ part (fresh_zero n) o m
  zero-part o m h =
      ap (λ (l : List ℕ). part l o m) stored-pages
      ∙ part-append-left (fresh_zero n) (pages_over ls ++ (leaf_pages ++ unused)) o m (omega (arith, length-fresh_zero n))

  mark-bytes : part (stored n ls) 0 8 ≡ no_mark
  unfolding fresh_zero no_mark
  mark-bytes = zero-part 0 8 (omega arith) ∙ part-front no_mark (words_past n 1 ++ replicate (page_size - line_size) 0) 8 refl

  past_bytes : part (stored n ls) 8 56 ≡ words_past n 1
  unfolding fresh_zero no_mark
  past_bytes =
      zero-part 8 56 (omega arith)
      ∙ part-past no_mark (words_past n 1 ++ replicate (page_size - line_size) 0) 8 0 56 refl
      ∙ part-front (words_past n 1) (replicate (page_size - line_size) 0) 56 (length-past n)

  pub stored-root : root_of (stored n ls) ≡ 1
  stored-root = past-root (stored n ls) n 1 (omega arith) past_bytes

  module _ (s : Storable ls) where
    pub stored-length : first_leaf ls + length ls ≤ n → length (stored n ls) ≡ page_size * n
    stored-length h =
        ap length stored-pages ∙ simp (length-append, length-fresh_zero, length-over ls s, length-filled leaf_kind (first_leaf ls) ls (leafs ls s), length-replicate) (omega arith)

    -- each leaf on its page
    pub stored-leaf : Stand leaf_kind (stored n ls) (first_leaf ls) ls
    stored-leaf =
        filled-stand leaf_kind (stored n ls) (fresh_zero n ++ pages_over ls) (first_leaf ls) ls unused (stored-pages ∙ sym (append_assoc (fresh_zero n) (pages_over ls) (leaf_pages ++ unused)))
        (omega (arith, length-append (fresh_zero n) (pages_over ls), length-fresh_zero n, length-over ls s)) (leafs ls s)

    -- "as page 1": the index page, if it is one
    pub index-stands : length ls ≤ slot_count → Stand index_kind (stored n ls) 1 (index_over ls ∷ [])
    index-stands h =
        filled-stand index_kind (stored n ls) (fresh_zero n) 1 (index_over ls ∷ []) (leaf_pages ++ unused)
        (stored-pages ∙ ap (λ (t : List ℕ). fresh_zero n ++ (t ++ (leaf_pages ++ unused))) (over-one ls h)) (length-fresh_zero n) (index-filled ls s h)

    -- a top page, "then index pages"
    top-shape : slot_count < length ls → stored n ls ≡ fresh_zero n ++ (filled_pages top_kind 1 (top_over ls ∷ []) ++ (filled_pages index_kind 2 (index_pages ls) ++ (leaf_pages ++ unused)))
    top-shape h =
        stored-pages
        ∙ ap (λ (t : List ℕ). fresh_zero n ++ (t ++ (leaf_pages ++ unused))) (over-top ls h)
        ∙ ap (λ (t : List ℕ). fresh_zero n ++ t) (append_assoc (filled_pages top_kind 1 (top_over ls ∷ [])) (filled_pages index_kind 2 (index_pages ls)) (leaf_pages ++ unused))

    pub top-stands : slot_count < length ls → Stand top_kind (stored n ls) 1 (top_over ls ∷ [])
    top-stands h =
        filled-stand top_kind (stored n ls) (fresh_zero n) 1 (top_over ls ∷ []) (filled_pages index_kind 2 (index_pages ls) ++ (leaf_pages ++ unused)) (top-shape h) (length-fresh_zero n) (top-filled ls s)

    pub stored-indexes : slot_count < length ls → Stand index_kind (stored n ls) 2 (index_pages ls)
    stored-indexes h =
        let top = filled_pages top_kind 1 (top_over ls ∷ []) in
        filled-stand index_kind (stored n ls) (fresh_zero n ++ top) 2 (index_pages ls) (leaf_pages ++ unused)
        (top-shape h ∙ sym (append_assoc (fresh_zero n) top (filled_pages index_kind 2 (index_pages ls) ++ (leaf_pages ++ unused))))
        (past (fresh_zero n) top 1 (length-fresh_zero n) (length-filled top_kind 1 (top_over ls ∷ []) (top-filled ls s))) (indexes-filled ls s)

    pub stored-index : length ls ≤ slot_count → page_of (stored n ls) 1 ≡ fill zero_page index_kind 1 (index_over ls)
    stored-index h = (index-stands h).0

    pub stored-top : slot_count < length ls → page_of (stored n ls) 1 ≡ fill zero_page top_kind 1 (top_over ls)
    stored-top h = (top-stands h).0

    pub stored-children : length ls ≤ slot_count → children (stored n ls) 1 ≡ index_over ls
    unfolding children
    stored-children h = ap records (stored-index h) ∙ (index-filled ls s h).0.recs

    pub stored-above : slot_count < length ls → children (stored n ls) 1 ≡ top_over ls
    unfolding children
    stored-above h = ap records (stored-top h) ∙ (top-filled ls s).0.recs

    -- ---- its tree

    height-by : (k : ℕ) (rs : List Rec) → page_of (stored n ls) 1 ≡ fill zero_page k 1 rs → Filled k 1 rs (fill zero_page k 1 rs) → height_of (stored n ls) 1 ≡ pick (leb 1 (k - 1) && leb (k - 1) 2) (k - 1) 1
    unfolding height_in
    height-by k rs e f = let kind : (read_head (page_of (stored n ls) 1)).kind ≡ k = ap (λ (p : List ℕ). (read_head p).kind) e ∙ f.kind in rw kind refl

    height-one : length ls ≤ slot_count → height_of (stored n ls) 1 ≡ 1
    height-one h = height-by index_kind (index_over ls) (stored-index h) (index-filled ls s h).0

    height-top : slot_count < length ls → height_of (stored n ls) 1 ≡ 2
    height-top h = height-by top_kind (top_over ls) (stored-top h) (top-filled ls s).0

    pub stored-height : height_of (stored n ls) 1 ≡ pick (leb (length ls) slot_count) 1 2
    stored-height = go (few-or-many (length ls))
      where
        go : (length ls ≤ slot_count) ⊎ (slot_count < length ls) → height_of (stored n ls) 1 ≡ pick (leb (length ls) slot_count) 1 2
        go (inl h) = rw (le-leb (length ls) slot_count h) (height-one h)
        go (inr h) = rw (lt-leb (length ls) slot_count h) (height-top h)

    spans-leaves : Spans (λ a b x. Under format1 (stored n ls) 0 a b x) 0 (index_over ls) (suc top_key)
    unfolding index_over separators named all_records
    spans-leaves = go ls s (small ls s) (stored-leaf) (leafs ls s)
      where
        go : (m : List (List Rec)) → Storable m → first_leaf m + length m ≤ 65536 → Stand leaf_kind (stored n ls) (first_leaf m) m → Fills leaf_kind (first_leaf m) m →
            Spans (λ a b x. Under format1 (stored n ls) 0 a b x) 0 (named (first_leaf m) (separators m)) (suc top_key)
        go [] t few stands fills = tt
        go (l ∷ m) t few stands fills =
            chain-spans (λ a b x. Under format1 (stored n ls) 0 a b x) 0 (first_leaf (l ∷ m)) 0 l m (suc top_key) (omega arith) (rest-full l m t.filled)
            (leaves-chain (stored n ls) 0 (first_leaf (l ∷ m)) (l ∷ m) (suc top_key) stands fills (rising-lo 1 0 (all_records (l ∷ m)) (suc top_key) (omega arith) t.rising))

    spans-indexes : slot_count < length ls → Spans (λ a b x. Under format1 (stored n ls) 1 a b x) 0 (top_over ls) (suc top_key)
    unfolding top_over
    spans-indexes h =
        let img = stored n ls in
        let ips = index_pages ls in
        chain-named (λ a b x. Under format1 img 1 a b x) 0 2 ips (suc top_key) (omega (arith, length-index_pages ls, s.few)) (index-full ls)
        (nodes-chain img 0 0 2 ips (suc top_key) (stored-indexes h) (indexes-filled ls s) (index-full ls) (rw (index-all ls) (index-rising ls s)) (rw (index-all ls) spans-leaves))

    root-under : (h : ℕ) (rs : List Rec) → page_of (stored n ls) 1 ≡ fill zero_page (suc (suc h)) 1 rs → Filled (suc (suc h)) 1 rs (fill zero_page (suc (suc h)) 1 rs) → 1 ≤ length rs →
        Rising 0 rs (suc top_key) → Spans (λ a b x. Under format1 (stored n ls) h a b x) 0 rs (suc top_key) → Under format1 (stored n ls) (suc h) 0 (suc top_key) 1
    root-under h rs e f some rise spans =
        let recs : records (page_of (stored n ls) 1) ≡ rs = ap records e ∙ f.recs in (
          fine-filled (stored n ls) (suc h) 0 (suc top_key) 1 rs e f rise,
          subst (λ (l : List Rec). (1 ≤ length l) × Spans (λ a b x. Under format1 (stored n ls) h a b x) 0 l (suc top_key)) (sym recs) (some, spans),
        )

    stored-under : Under format1 (stored n ls) (height_of (stored n ls) 1) 0 (suc top_key) 1
    stored-under = go (few-or-many (length ls))
      where
        at : ℕ → Type 0
        at h = Under format1 (stored n ls) h 0 (suc top_key) 1

        go : (length ls ≤ slot_count) ⊎ (slot_count < length ls) → Under format1 (stored n ls) (height_of (stored n ls) 1) 0 (suc top_key) 1
        go (inl h) =
            subst at (sym (height-one h))
            (root-under 0 (index_over ls) (stored-index h) (index-filled ls s h).0 (omega (arith, length-index ls, s.some)) (index-rising ls s) spans-leaves)
        go (inr h) =
            subst at (sym (height-top h))
            (root-under 1 (top_over ls) (stored-top h) (top-filled ls s).0 (omega (arith, length-top ls, count-high (length ls))) (top-rising ls s) (spans-indexes h))

    -- what its leaves say, by the records that name them
    pub stored-says : {A : Type 0} (leaf : ℕ → List A) → gathered format1 leaf (λ x. []) (stored n ls) (height_of (stored n ls) 1) 1 ≡ joined leaf (index_over ls)
    unfolding gathered top_over
    stored-says {A} leaf = go (few-or-many (length ls))
      where
        img : List ℕ
        img = stored n ls

        under : ℕ → ℕ → List A
        under h x = gathered format1 leaf (λ y. []) img h x

        go : (length ls ≤ slot_count) ⊎ (slot_count < length ls) → gathered format1 leaf (λ x. []) (stored n ls) (height_of (stored n ls) 1) 1 ≡ joined leaf (index_over ls)
        go (inl h) = ap (λ (j : ℕ). under j 1) (height-one h) ∙ ap (joined leaf) (ap records (stored-index h) ∙ (index-filled ls s h).0.recs)
        go (inr h) =
            ap (λ (j : ℕ). under j 1) (height-top h)
            ∙ ap (joined (under 1)) (ap records (stored-top h) ∙ (top-filled ls s).0.recs)
            ∙ nodes-say img leaf 0 2 (smallest (index_pages ls)) (index_pages ls) (length-map (index_pages ls) (λ (m : List Rec). first_key m 0)) (omega (arith, length-index_pages ls, s.few))
            (stored-indexes h) (indexes-filled ls s)
            ∙ ap (joined leaf) (index-all ls)

    pub stored-names : leaves_in format1 (stored n ls) (height_of (stored n ls) 1) 1 ≡ numbered (first_leaf ls) ls
    unfolding leaves_in index_over
    stored-names = stored-says itself ∙ leaves-numbered (first_leaf ls) (separators ls) ls (length-separators ls) (small ls s)

    pub stored-leaves : map (λ (p : ℕ). records (page_of (stored n ls) p)) (leaves_in format1 (stored n ls) (height_of (stored n ls) 1) 1) ≡ ls
    stored-leaves =
        ap (map (λ (p : ℕ). records (page_of (stored n ls) p))) stored-names ∙ pages-records (stored n ls) leaf_kind (first_leaf ls) ls stored-leaf (leafs ls s)

    pub stored-table : table (stored n ls) ≡ all_records ls
    unfolding table table_in index_over
    stored-table =
        let img = stored n ls in
        ap (λ (r : ℕ). table_in format1 img (height_of img r) r) stored-root
        ∙ stored-says (λ x. records (page_of img x))
        ∙ leaves-records img (first_leaf ls) (separators ls) ls (length-separators ls) (small ls s) stored-leaf (leafs ls s)

    -- its pages are those from page 1 on
    abbrev pub page_lists : List (List Rec)
    page_lists = [] ∷ (pick (leb (length ls) slot_count) [] (index_pages ls) ++ ls)

    pub length-lists : length page_lists ≡ pages_above (length ls) + length ls
    length-lists = go (few-or-many (length ls))
      where
        go : (length ls ≤ slot_count) ⊎ (slot_count < length ls) → length page_lists ≡ pages_above (length ls) + length ls
        go (inl h) = rw (le-leb (length ls) slot_count h, above-one (length ls) h) (omega arith)
        go (inr h) = rw (lt-leb (length ls) slot_count h, above-top (length ls) h) (omega (arith, length-append (index_pages ls) ls, length-index_pages ls))

    stored-count : (p : ℕ) → count p (reached (stored n ls) 1) ≡ count p (numbered 1 page_lists)
    unfolding reached pages_in gathered numbered index_over top_over
    stored-count p = go (few-or-many (length ls))
      where
        img : List ℕ
        img = stored n ls

        under : ℕ → ℕ → List ℕ
        under h x = pages_in format1 img h x

        leaves : joined itself (index_over ls) ≡ numbered (first_leaf ls) ls
        leaves = leaves-numbered (first_leaf ls) (separators ls) ls (length-separators ls) (small ls s)

        go : (length ls ≤ slot_count) ⊎ (slot_count < length ls) → count p (reached (stored n ls) 1) ≡ count p (numbered 1 page_lists)
        go (inl h) =
            ap (λ (j : ℕ). count p (under j 1)) (height-one h)
            ∙ ap (λ (cs : List Rec). count p (1 ∷ joined itself cs)) (ap records (stored-index h) ∙ (index-filled ls s h).0.recs)
            ∙ ap (λ (qs : List ℕ). count p (1 ∷ qs)) (leaves ∙ ap (λ (j : ℕ). numbered (suc j) ls) (above-one (length ls) h))
            ∙ rw (le-leb (length ls) slot_count h) refl
        go (inr h) =
            let ips = index_pages ls in
            let named_all = nodes-count img p 0 2 (smallest ips) ips (length-map ips (λ (m : List Rec). first_key m 0)) (omega (arith, length-index_pages ls, s.few)) (stored-indexes h) (indexes-filled ls s) in
            let past_index : suc (pages_above (length ls)) ≡ 2 + length ips = omega (arith, above-top (length ls) h, length-index_pages ls) in
            let pages : count p (joined (under 1) (top_over ls)) ≡ count p (numbered 2 (ips ++ ls)) =
            named_all
            ∙ ap (λ (cs : List Rec). count p (numbered 2 ips) + count p (joined itself cs)) (index-all ls)
            ∙ ap (λ (qs : List ℕ). count p (numbered 2 ips) + count p qs)
            (leaves ∙ ap (λ (j : ℕ). numbered j ls) past_index)
            ∙ sym (count-append p (numbered 2 ips) (numbered (2 + length ips) ls))
            ∙ ap (count p) (sym (numbered-append 2 ips ls)) in
            ap (λ (j : ℕ). count p (under j 1)) (height-top h)
            ∙ ap (λ (cs : List Rec). count p (1 ∷ joined (under 1) cs)) (ap records (stored-top h) ∙ (top-filled ls s).0.recs)
            ∙ ap (λ (m : ℕ). hit p 1 + m) pages
            ∙ rw (lt-leb (length ls) slot_count h) refl

    pub stored-reached : (q : ℕ) → among q (reached (stored n ls) 1) ≡ among q (numbered 1 page_lists)
    stored-reached q = among-alike (reached (stored n ls) 1) (numbered 1 page_lists) stored-count q

-- ---- it is sound

module _ (n : ℕ) (ls : List (List Rec)) (size : is_image_size (page_size * n) ≡ true) (room : first_leaf ls + length ls ≤ n) (s : Storable ls) where
  pages_are : page_count (stored n ls) ≡ n
  pages_are = omega (arith, stored-length n ls s room)

  line : Line (stored n ls) no_mark 1
  line =
      record {
        reads = stored-root n ls;
        page = rw pages_are (true-is_page n 1 (omega arith) (omega arith));
        mark = mark-bytes n ls;
        past = rw pages_are (past_bytes n ls);
      }

  stored-tree : TreeIn format1 (stored n ls) (height_of (stored n ls) 1) 1
  unfolding reached
  stored-tree =
      let img = stored n ls in
      let qs = numbered 1 (page_lists n ls s) in
      let ps = reached img 1 in
      let P : ℕ → Type 0 = λ q. is_page (page_count img) q ≡ true in
      record {
        under = stored-under n ls s;
        filled = some s.filled;
        inside =
            among-All P ps
            (λ q k. rw pages_are (All-among (λ (x : ℕ). is_page n x ≡ true) qs (pages-inside n 1 (page_lists n ls s) (omega arith) (omega (arith, length-lists n ls s))) q (sym (stored-reached n ls s q) ∙ k)));
        apart = distinct-alike qs ps (λ p. sym (stored-count n ls s p)) (pages-apart 1 (page_lists n ls s));
      }
    where
      some : (length ls ≡ 1) ⊎ Full ls →
          (length (leaves_in format1 (stored n ls) (height_of (stored n ls) 1) 1) ≡ 1) ⊎ All (Nonempty format1 (stored n ls)) (leaves_in format1 (stored n ls) (height_of (stored n ls) 1) 1)
      some (inl e) = inl (ap length (stored-names n ls s) ∙ length-numbered (first_leaf ls) ls ∙ e)
      some (inr full) = inr (rw (stored-names n ls s) (pages-full (stored n ls) (first_leaf ls) ls (stored-leaf n ls s) (leafs ls s) full))

  pub stored-sound : sound (stored n ls) ≡ true
  stored-sound = tree_in-sound (stored n ls) 1 (rw (stored-length n ls s room) size) (facts-ready (stored n ls) 1 line) stored-tree

-- ---- how it is written

zeros-split : (a b c : ℕ) → c ≡ a + b → ◌≡◌ {A = List ℕ} (replicate c 0) (replicate a 0 ++ replicate b 0)
zeros-split a b c e = ap (λ (m : ℕ). replicate {A = ℕ} m 0) e ∙ sym (replicate-append-replicate a b 0)

module _ (n : ℕ) (ls : List (List Rec)) (s : Storable ls) (room : first_leaf ls + length ls ≤ n) where
  abbrev last : List ℕ
  last = replicate (page_size * (n - (first_leaf ls + length ls))) 0

  abbrev above_zeros : List ℕ
  above_zeros = replicate (page_size * pages_above (length ls)) 0

  -- page 0 and zeros first, then its leaves
  leaves-made : put_filled leaf_kind (blank n) (first_leaf ls) ls ≡ fresh_zero n ++ (above_zeros ++ (filled_pages leaf_kind (first_leaf ls) ls ++ last))
  unfolding blank
  leaves-made =
      let z = fresh_zero n in
      let leaf_zeros : List ℕ = replicate (page_size * length ls) 0 in
      let shape : blank n ≡ (z ++ above_zeros) ++ (leaf_zeros ++ last) =
      ap (λ (t : List ℕ). z ++ t)
      (zeros-split (page_size * pages_above (length ls)) (page_size * (n - first_leaf ls)) (page_size * (n - 1)) (omega (arith, room))
      ∙ ap (λ (t : List ℕ). above_zeros ++ t) (zeros-split (page_size * length ls) (page_size * (n - (first_leaf ls + length ls))) (page_size * (n - first_leaf ls)) (omega (arith, room))))
      ∙ sym (append_assoc z above_zeros (leaf_zeros ++ last)) in
      put-filled leaf_kind (first_leaf ls) ls (blank n) (z ++ above_zeros) last shape
      (omega (arith, length-append z above_zeros, length-fresh_zero n, length-replicate {A = ℕ} (page_size * pages_above (length ls)) 0)) (leafs ls s)
      ∙ append_assoc z above_zeros (filled_pages leaf_kind (first_leaf ls) ls ++ last)

  -- then its index page
  pub stored-made-one : length ls ≤ slot_count → (c : List ℕ) → c ≡ put_filled leaf_kind (blank n) (first_leaf ls) ls → put_page c 1 (fill (page_of c 1) index_kind 1 (index_over ls)) ≡ stored n ls
  unfolding put_filled
  stored-made-one h c e =
      let z = fresh_zero n in
      let more = filled_pages leaf_kind (first_leaf ls) ls ++ last in
      let shape : c ≡ z ++ (replicate (page_size * 1) 0 ++ more) =
      e ∙ leaves-made ∙ ap (λ (m : ℕ). z ++ (replicate {A = ℕ} (page_size * m) 0 ++ more)) (above-one (length ls) h) in
      put-filled index_kind 1 (index_over ls ∷ []) c z more shape (length-fresh_zero n) (index-filled ls s h)
      ∙ ap (λ (t : List ℕ). z ++ (t ++ more)) (sym (over-one ls h))
      ∙ sym (stored-pages n ls)

  -- or its index pages, and the top page
  pub stored-made-top : slot_count < length ls → (c d : List ℕ) → c ≡ put_filled leaf_kind (blank n) (first_leaf ls) ls → d ≡ put_filled index_kind c 2 (index_pages ls) →
      put_page d 1 (fill (page_of d 1) top_kind 1 (top_over ls)) ≡ stored n ls
  unfolding put_filled
  stored-made-top h c d e f =
      let z = fresh_zero n in
      let ips = index_pages ls in
      let more = filled_pages leaf_kind (first_leaf ls) ls ++ last in
      let one : List ℕ = replicate (page_size * 1) 0 in
      let zeros : List ℕ = replicate (page_size * length ips) 0 in
      let indexes = filled_pages index_kind 2 ips in
      let top = filled_pages top_kind 1 (top_over ls ∷ []) in
      let two : above_zeros ≡ one ++ zeros =
      zeros-split (page_size * 1) (page_size * length ips) (page_size * pages_above (length ls)) (omega (arith, above-top (length ls) h, length-index_pages ls)) in
      let shape : c ≡ (z ++ one) ++ (zeros ++ more) =
      e
      ∙ leaves-made
      ∙ ap (λ (t : List ℕ). z ++ (t ++ more)) two
      ∙ ap (λ (t : List ℕ). z ++ t) (append_assoc one zeros more)
      ∙ sym (append_assoc z one (zeros ++ more)) in
      let made : d ≡ z ++ (one ++ (indexes ++ more)) =
      f
      ∙ put-filled index_kind 2 ips c (z ++ one) more shape (omega (arith, length-append z one, length-fresh_zero n, length-replicate {A = ℕ} (page_size * 1) 0)) (indexes-filled ls s)
      ∙ append_assoc z one (indexes ++ more) in
      put-filled top_kind 1 (top_over ls ∷ []) d z (indexes ++ more) made (length-fresh_zero n) (top-filled ls s)
      ∙ ap (λ (t : List ℕ). z ++ t) (sym (append_assoc top indexes more))
      ∙ ap (λ (t : List ℕ). z ++ (t ++ more)) (sym (over-top ls h))
      ∙ sym (stored-pages n ls)
