-- A place in a book: what is left there is the end of the book's table.
-- Assumes nothing.
use Prim.Native.Nat.{ℕ, suc, ◌+◌, ◌*◌, ◌≤◌, ◌<◌}
use mathlib.Core.Path.{◌≡◌, sym, ap, subst, ◌∙◌}
use mathlib.Core.Logic.{◌⊎◌, inl, inr}
use mathlib.Core.Bool.{true}
use mathlib.Core.List.{List, [], ◌∷◌, ◌++◌, append_assoc}
use native.Mathlib.Omega.{arith}
use native.Mathlib.Numerals.{add-one}
use lib.ListN.{length, get_or, take, drop, take-append-drop, drop_of_length-le}
use lib.Seq.{drop-cons}
use Rattle.codec.specs.Lists.{All, eqs}
use Rattle.codec.proofs.Tests.{eqs-true, eqs-same}
use Rattle.page.specs.Layout.{page_size, leaf_kind, top_key, Rec, rec_of, size, record_at, read_head}
use Rattle.device.specs.Calls.{is_image_size}
use Rattle.page.specs.Page.{records, laid_out, page_ok, RecOk}
use Rattle.page.specs.Operations.{page_of}
use Rattle.page.proofs.Facts.{ok-is, page_ok-true}
use Rattle.page.proofs.Listed.{All-at, slot_at, slot_held}
use Rattle.page_edit.specs.Filling as filling
use Rattle.page_edit.proofs.Filled.{stands}
use Rattle.page.specs.PageFormat.{format1}
use Rattle.image.specs.PageZero.{page_count, is_page, root_of}
use Rattle.image.specs.Image.{leaves_in, first_key, height_of, tree_ok, sound}
use Rattle.image.specs.Facts.{Rising, Nonempty}
use Rattle.image.specs.Table.{records_on, table}
use Rattle.image.proofs.General.{All-right}
use Rattle.image.proofs.Zero.{size-true}
use Rattle.image.proofs.Rising.{rising_le, rising-lo, rising-split}
use Rattle.image.proofs.Alike.{leaves-some}
use Rattle.image.proofs.Soundness.{sound-facts, sound-tree_in, facts-tree}
use Rattle.image.proofs.Values.{page-fits}
use Rattle.image.proofs.Order.{sound-leaves, table-rising, table-ok}
use Rattle.page.proofs.AtSlots.{record-here}
use Rattle.image.proofs.CodePages.{drop-next}
use Rattle.merge.specs.Leaves.{leaf_pages}
use Rattle.merge.specs.Cursors.{left_at, Stands}
use Rattle.merge.specs.declared.Cursor.{Cursor}
use Rattle.merge.proofs.LeafPages.{on-append, table-on}

-- ---- a leaf of a book

-- a sound book, and its i-th leaf, the page q
pub record IsLeaf (img : List ℕ) (i q : ℕ) : Type 0 where
  pub is_sound : sound img ≡ true
  pub less : i < length (leaf_pages img)
  pub page : q ≡ get_or (leaf_pages img) i 0

-- the pages of its leaves as they were gathered
module _ (img ps : List ℕ) (h : sound img ≡ true) (e : eqs ps (leaf_pages img) ≡ true) where
  pub leaf-count : length ps ≡ length (leaf_pages img)
  leaf-count = ap length (eqs-true ps (leaf_pages img) e)

  pub leaf-here : {i : ℕ} → i < length (leaf_pages img) → IsLeaf img i (get_or ps i 0)
  leaf-here {i} less = record { is_sound = h; less = less; page = ap (λ (l : List ℕ). get_or l i 0) (eqs-true ps (leaf_pages img) e) }

module _ (img : List ℕ) (h : sound img ≡ true) where
  pub root-read : 16 ≤ length img
  root-read = omega (arith, (size-true (length img) (sound-facts img h).size).low)

  pub tree-asked : (r : ℕ) → r ≡ root_of img → (is_image_size (length img) ≡ true) × (tree_ok img r ≡ true)
  tree-asked r e = ((sound-facts img h).size, rw e (facts-tree img (root_of img) (sound-tree_in img h)))

  pub listed_are : (r : ℕ) → r ≡ root_of img → (ps : List ℕ) → ps ≡ leaves_in format1 img (height_of img r) r → eqs ps (leaf_pages img) ≡ true
  listed_are r e ps l =
      ap (λ (qs : List ℕ). eqs qs (leaf_pages img)) (l ∙ ap (λ (q : ℕ). leaves_in format1 img (height_of img q) q) e) ∙ eqs-same (leaf_pages img)

  pub some-leaf : 1 ≤ length (leaf_pages img)
  some-leaf = leaves-some format1 img (height_of img (root_of img)) 0 (suc top_key) (root_of img) (sound-tree_in img h).under

module _ {img : List ℕ} {i q : ℕ} (f : IsLeaf img i q) where
  leaf-good : (is_page (page_count img) q ≡ true) × (page_ok leaf_kind q (page_of img q) ≡ true)
  leaf-good = rw f.page (All-at (λ (x : ℕ). (is_page (page_count img) x ≡ true) × (page_ok leaf_kind x (page_of img x) ≡ true)) (leaf_pages img) i 0 (sound-leaves img f.is_sound) f.less)

  pub leaf-fits : page_size * q + page_size ≤ length img
  leaf-fits = page-fits img q leaf-good.0

  pub leaf-laid : laid_out (page_of img q) ≡ true
  leaf-laid = (page_ok-true leaf_kind q (page_of img q) leaf-good.1).laid

  -- no leaf after another is empty
  pub empty-last : length (records (page_of img q)) ≡ 0 → length (leaf_pages img) ≤ i + 1
  empty-last e = go (sound-tree_in img f.is_sound).filled
    where
      go : (length (leaf_pages img) ≡ 1) ⊎ All (Nonempty format1 img) (leaf_pages img) → length (leaf_pages img) ≤ i + 1
      go (inl t) = omega (arith, t)
      go (inr k) = absurd (omega (arith, All-at (Nonempty format1 img) (leaf_pages img) i 0 k f.less, e, ap (λ (n : ℕ). length (records (page_of img n))) f.page))

  -- the leaves from this one on
  leaf_first : records_on img (drop i (leaf_pages img)) ≡ records (page_of img q) ++ records_on img (drop (suc i) (leaf_pages img))
  unfolding records_on
  leaf_first = rw (drop-cons (leaf_pages img) i 0 f.less, f.page)

  table-end : (s : ℕ) → table img ≡ (records_on img (take i (leaf_pages img)) ++ take s (records (page_of img q))) ++ (drop s (records (page_of img q)) ++ records_on img (drop (suc i) (leaf_pages img)))
  table-end s =
      let ps = leaf_pages img in
      let rs = records (page_of img q) in
      let front = records_on img (take i ps) in
      let after = records_on img (drop (suc i) ps) in
      table-on img
      ∙ ap (records_on img) (sym (take-append-drop i ps))
      ∙ on-append img (take i ps) (drop i ps)
      ∙ ap (λ (l : List Rec). front ++ l) (leaf_first ∙ ap (λ (l : List Rec). l ++ after) (sym (take-append-drop s rs)) ∙ append_assoc (take s rs) (drop s rs) after)
      ∙ sym (append_assoc front (take s rs) (drop s rs ++ after))

-- ---- what is left at a place

pub stands-leaf : {img : List ℕ} {c : Cursor} → Stands img c → IsLeaf img c.leaf c.page
stands-leaf s = record { is_sound = s.is_sound; less = s.leaf; page = s.page }

-- the end of the table: what comes before it, and that both are the whole
before : {img : List ℕ} {c : Cursor} → Stands img c → List Rec
before {img} {c} s = records_on img (take c.leaf (leaf_pages img)) ++ take c.slot (records (page_of img c.page))

before-left : {img : List ℕ} {c : Cursor} (s : Stands img c) → table img ≡ before s ++ left_at img c
unfolding before left_at
before-left {img} {c} s = table-end (stands-leaf s) c.slot

pub stands-rising : (img : List ℕ) (c : Cursor) → Stands img c → Rising 0 (left_at img c) (suc top_key)
stands-rising img c s =
    let left = left_at img c in
    let whole : Rising 1 (before s ++ left) (suc top_key) = subst (λ (l : List Rec). Rising 1 l (suc top_key)) (before-left s) (table-rising img s.is_sound) in
    rising-lo (first_key left (suc top_key)) 0 left (suc top_key) (omega arith) (rising-split 1 (before s) left (suc top_key) whole).1

pub stands-ok : (img : List ℕ) (c : Cursor) → Stands img c → All RecOk (left_at img c)
stands-ok img c s = All-right RecOk (before s) (left_at img c) (subst (All RecOk) (before-left s) (table-ok img s.is_sound))

-- the key there is at most the end of all keys
pub key-most : {img : List ℕ} {c : Cursor} → Stands img c → c.key ≤ suc top_key
key-most {img} {c} s =
    let left = left_at img c in
    omega (arith, s.key, rising_le (first_key left (suc top_key)) left (suc top_key) (rising-split 0 [] left (suc top_key) (stands-rising img c s)).1)

-- ---- places that the code makes

module _ {img : List ℕ} {i q : ℕ} (f : IsLeaf img i q) (s k : ℕ) where
  -- past the leaf's records
  pub left-past : length (records (page_of img q)) ≤ s → left_at img (record { leaf = i; page = q; slot = s; key = k }) ≡ records_on img (drop (i + 1) (leaf_pages img))
  unfolding left_at
  left-past h = rw (drop_of_length-le (records (page_of img q)) {i = s} h, add-one)

  -- and in the last leaf
  pub left-none : length (records (page_of img q)) ≤ s → length (leaf_pages img) ≤ i + 1 → left_at img (record { leaf = i; page = q; slot = s; key = k }) ≡ []
  unfolding records_on
  left-none h l = left-past h ∙ rw (drop_of_length-le (leaf_pages img) {i = i + 1} l)

  pub stands-end : k ≡ suc top_key → left_at img (record { leaf = i; page = q; slot = s; key = k }) ≡ [] → Stands img (record { leaf = i; page = q; slot = s; key = k })
  stands-end e n = record { is_sound = f.is_sound; leaf = f.less; page = f.page; slot = inr n; key = e ∙ ap (λ (l : List Rec). first_key l (suc top_key)) (sym n) }

  pub stands_at : s < length (records (page_of img q)) → k ≡ (get_or (records (page_of img q)) s (rec_of 0 [])).key → Stands img (record { leaf = i; page = q; slot = s; key = k })
  unfolding left_at
  stands_at h e =
      record {
        is_sound = f.is_sound;
        leaf = f.less;
        page = f.page;
        slot = inl h;
        key = e ∙ ap (λ (l : List Rec). first_key (l ++ records_on img (drop (suc i) (leaf_pages img))) (suc top_key)) (sym (drop-cons (records (page_of img q)) s (rec_of 0 []) h));
      }

-- before the first record of a leaf
pub left-leaf : {img : List ℕ} {i q : ℕ} → IsLeaf img i q → (k : ℕ) → left_at img (record { leaf = i; page = q; slot = 0; key = k }) ≡ records_on img (drop i (leaf_pages img))
unfolding left_at
left-leaf f k = sym (leaf_first f)

-- ---- the record that comes next

module _ {img : List ℕ} {c : Cursor} (s : Stands img c) (some : c.key < suc top_key) where
  at-record : c.slot < length (records (page_of img c.page))
  at-record = go s.slot
    where
      go : (c.slot < length (records (page_of img c.page))) ⊎ (left_at img c ≡ []) → c.slot < length (records (page_of img c.page))
      go (inl h) = h
      go (inr e) = absurd (omega (arith, some, s.key ∙ ap (λ (l : List Rec). first_key l (suc top_key)) e))

  pub left-next : (k : ℕ) → left_at img c ≡ get_or (records (page_of img c.page)) c.slot (rec_of 0 []) ∷ left_at img (record { leaf = c.leaf; page = c.page; slot = c.slot + 1; key = k })
  unfolding left_at
  left-next k =
      ap (λ (l : List Rec). l ++ records_on img (drop (suc c.leaf) (leaf_pages img))) (drop-next (records (page_of img c.page)) c.slot (rec_of 0 []) at-record)

  -- in its page, lent as p
  module _ (p : List ℕ) (e : p ≡ page_of img c.page) where
    pub page-laid : laid_out p ≡ true
    page-laid = ap laid_out e ∙ leaf-laid (stands-leaf s)

    pub page-whole : length p ≡ page_size
    page-whole = (ok-is p page-laid).body.whole

    pub slot-less : c.slot < length (records p)
    slot-less = rw e at-record

    pub next-size : size (get_or (records p) c.slot (rec_of 0 [])) ≡ size (get_or (left_at img c) 0 (rec_of 0 []))
    next-size = ap (λ (l : List ℕ). size (get_or (records l) c.slot (rec_of 0 []))) e ∙ ap (λ (l : List Rec). size (get_or l 0 (rec_of 0 []))) (sym (left-next 0))

    -- at the offset o
    module _ (o : ℕ) (w : o ≡ get_or (read_head p).slots c.slot 0) where
      pub next-stands : filling.Stands p o
      next-stands = stands page-whole (slot_held p c.slot slot-less o (w ∙ sym (slot_at p c.slot slot-less)) (ok-is p page-laid).body.held)

      pub next_one : take 1 (left_at img c) ≡ record_at p o ∷ []
      next_one =
          ap (take 1) (left-next 0)
          ∙ ap (λ (r : Rec). r ∷ [])
          (ap (λ (l : List ℕ). get_or (records l) c.slot (rec_of 0 [])) (sym e) ∙ record-here p page-laid c.slot slot-less (rec_of 0 []) ∙ ap (record_at p) (sym w))
