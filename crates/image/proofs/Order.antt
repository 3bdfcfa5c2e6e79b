-- The leaves' records in order, their entries, and that the table's keys rise strictly.
-- Assumes nothing.
use Prim.Native.Nat.{ℕ, zero, suc, ◌≤◌}
use mathlib.Core.Path.{◌≡◌, refl, sym, ap, ap₂, ◌∙◌}
use mathlib.Core.Bool.{true}
use mathlib.Core.List.{List, [], ◌∷◌, ◌++◌, map, append-nil, append_assoc}
use native.Mathlib.Omega.{arith}
use Rattle.codec.specs.Lists.{All}
use Rattle.codec.proofs.Tests.{All-map}
use Rattle.page.specs.Layout.{leaf_kind, top_key, Rec}
use Rattle.page.specs.Page.{Entry, recs, entries, records, form_ok, page_ok, RecOk}
use Rattle.page.specs.PageFormat.{PageFormat, format1}
use Rattle.page.specs.Operations.{page_of}
use Rattle.page.proofs.Facts.{page_ok-true, records-ok, leaf-form, recs-entries}
use Rattle.image.specs.PageZero.{page_count, is_page, root_of}
use Rattle.image.specs.Image.{child_of, distinct, count, records_at, joined, itself, gathered, pages_in, leaves_in, height_of, sound}
use Rattle.image.specs.Facts.{Rising}
use Rattle.image.specs.Table.{records_on, table_in, table, in_image, page_entries, listing}
use Rattle.image.proofs.Rising.{rising-start}
use Rattle.image.proofs.Apart.{All-among, among-All}
use Rattle.image.proofs.Times.{count-append, distinct-part}
use Rattle.image.proofs.Alike.{pages-leaves, gathered-all, gathered-map, like, gathered-same, under-leaves, under-rising}
use Rattle.image.proofs.Soundness.{sound-tree_in}

-- ---- entries and records

pub recs-in_image : (q : ℕ) (es : List Entry) → recs (map (in_image q) es) ≡ recs es
recs-in_image q [] = refl
recs-in_image q (e ∷ es) = ap (λ (l : List Rec). e.rec ∷ l) (recs-in_image q es)

-- a page's entries are its records
pub recs-page : (img : List ℕ) (q : ℕ) → recs (page_entries img q) ≡ records (page_of img q)
recs-page img q = recs-in_image q (entries (page_of img q)) ∙ recs-entries (page_of img q)

-- what the leaves say by records is the table
pub gathered-records : {A : Type 0} (rec : A → Rec) (leaf : ℕ → List A) (img : List ℕ) → ((x : ℕ) → map rec (leaf x) ≡ records (page_of img x)) → (h q : ℕ) →
    map rec (gathered format1 leaf (λ x. []) img h q) ≡ table_in format1 img h q
unfolding table_in
gathered-records rec leaf img lists h q =
    gathered-map format1 rec leaf img h q
    ∙ gathered-same format1 img img (λ x. records (page_of img x)) (λ x. map rec (leaf x)) (λ x. []) h q (λ x k. like format1 (page_of img x) (page_of img x) refl) (λ x k. lists x)

pub recs-listing : (img : List ℕ) → recs (listing img) ≡ table img
unfolding listing table
recs-listing img = gathered-records (λ (e : Entry). e.rec) (λ x. page_entries img x) img (λ x. recs-page img x) (height_of img (root_of img)) (root_of img)

-- ---- leaf by leaf

-- what is said of each leaf, one after the other, however it is joined
pub gathered-leaves : {A : Type 0} (Pg : PageFormat) (leaf : ℕ → List A) (join : List ℕ → List A) (img : List ℕ) → join [] ≡ [] → ((p : ℕ) (ps : List ℕ) → join (p ∷ ps) ≡ leaf p ++ join ps) → (h q : ℕ) →
    gathered Pg leaf (λ x. []) img h q ≡ join (leaves_in Pg img h q)
unfolding gathered leaves_in
gathered-leaves Pg leaf join img none more zero q = sym (more q [] ∙ ap (λ (l : List _). leaf q ++ l) none ∙ append-nil (leaf q))
gathered-leaves Pg leaf join img none more (suc h) q = go (λ x. gathered-leaves Pg leaf join img none more h x) (records_at Pg img q)
  where
    both : (a b : List ℕ) → join (a ++ b) ≡ join a ++ join b
    both [] b = ap (λ (l : List _). l ++ join b) (sym none)
    both (p ∷ a) b = more p (a ++ b) ∙ ap (λ (l : List _). leaf p ++ l) (both a b) ∙ sym (append_assoc (leaf p) (join a) (join b)) ∙ ap (λ (l : List _). l ++ join b) (sym (more p a))

    go : ((x : ℕ) → gathered Pg leaf (λ y. []) img h x ≡ join (gathered Pg itself (λ y. []) img h x)) → (cs : List Rec) → joined (λ x. gathered Pg leaf (λ y. []) img h x) cs ≡ join (joined (λ x. gathered Pg itself (λ y. []) img h x) cs)
    go each [] = sym none
    go each (c ∷ cs) = ap₂ (λ (a b : List _). a ++ b) (each (child_of c)) (go each cs) ∙ sym (both (gathered Pg itself (λ y. []) img h (child_of c)) (joined (λ x. gathered Pg itself (λ y. []) img h x) cs))

-- the leaves under a page are some of the pages there
pub leaves-part : (Pg : PageFormat) (img : List ℕ) (h q x : ℕ) → count x (leaves_in Pg img h q) ≤ count x (pages_in Pg img h q)
unfolding leaves_in pages_in gathered
leaves-part Pg img zero q x = omega arith
leaves-part Pg img (suc h) q x = omega (arith, go (λ y. leaves-part Pg img h y x) (records_at Pg img q))
  where
    go : ((y : ℕ) → count x (leaves_in Pg img h y) ≤ count x (pages_in Pg img h y)) → (cs : List Rec) →
        count x (joined (λ y. leaves_in Pg img h y) cs) ≤ count x (joined (λ y. pages_in Pg img h y) cs)
    go each [] = omega arith
    go each (c ∷ cs) =
        let y = child_of c in
        let leaves : ℕ → List ℕ = λ z. leaves_in Pg img h z in
        let pages : ℕ → List ℕ = λ z. pages_in Pg img h z in
        omega (arith, count-append x (leaves y) (joined leaves cs), count-append x (pages y) (joined pages cs), each y, go each cs)

-- so they are distinct where the pages are
pub leaves-apart : (Pg : PageFormat) (img : List ℕ) (h q : ℕ) → distinct (pages_in Pg img h q) ≡ true → distinct (leaves_in Pg img h q) ≡ true
leaves-apart Pg img h q d = distinct-part (leaves_in Pg img h q) (pages_in Pg img h q) (leaves-part Pg img h q) d

-- the table is what the leaves list
pub table-leaves : (img : List ℕ) → table img ≡ records_on img (leaves_in format1 img (height_of img (root_of img)) (root_of img))
unfolding table table_in records_on
table-leaves img = gathered-leaves format1 (λ x. records (page_of img x)) (records_on img) img refl (λ p ps. refl) (height_of img (root_of img)) (root_of img)

-- ---- the leaves of a sound image

-- a leaf's number, and the page by itself
abbrev pub IsLeaf : List ℕ → ℕ → Type 0
IsLeaf img x = (is_page (page_count img) x ≡ true) × (page_ok leaf_kind x (page_of img x) ≡ true)

module _ (img : List ℕ) (h : sound img ≡ true) where
  abbrev root : ℕ
  root = root_of img

  pub sound-leaves : All (IsLeaf img) (leaves_in format1 img (height_of img (root_of img)) (root_of img))
  sound-leaves =
      let t = sound-tree_in img h in
      let n = height_of img root in
      let ls = leaves_in format1 img n root in
      let P : ℕ → Type 0 = λ x. is_page (page_count img) x ≡ true in
      let Q : ℕ → Type 0 = λ x. page_ok leaf_kind x (page_of img x) ≡ true in
      let pages = pages-leaves format1 P img n root t.inside in
      let ok = under-leaves format1 img Q (λ lo hi x f. f.page) n 0 (suc top_key) root t.under in
      among-All (IsLeaf img) ls (λ x k. (All-among P ls pages x k, All-among Q ls ok x k))

  -- what holds of all records of a leaf holds of the table's
  table-all : (P : Rec → Type 0) → ((x : ℕ) → IsLeaf img x → All P (records (page_of img x))) → All P (table img)
  unfolding table table_in
  table-all P f = gathered-all format1 (IsLeaf img) P (λ x. records (page_of img x)) f img (height_of img root) root sound-leaves

  -- "A sound image's table is .. keys rising." "Keys are 1 to .."
  pub table-rising : Rising 1 (table img) (suc top_key)
  unfolding table
  table-rising =
      rising-start 0 1 (table img) (suc top_key) (omega arith)
      (table-all (λ (r : Rec). 1 ≤ r.key)
      (λ x l.
      All-map (λ (r : Rec). form_ok leaf_kind r ≡ true) (λ (r : Rec). 1 ≤ r.key) leaf-form (records (page_of img x)) (page_ok-true leaf_kind x (page_of img x) l.1).forms))
      (under-rising format1 img (height_of img root) 0 (suc top_key) root (sound-tree_in img h).under)

  -- its records have the form of records
  pub table-ok : All RecOk (table img)
  table-ok = table-all RecOk (λ x l. records-ok (page_of img x) (page_ok-true leaf_kind x (page_of img x) l.1).laid)
