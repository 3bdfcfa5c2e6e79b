-- The pages of a store that is written as a whole: filled pages, pages between others, and the records that name them.
-- Assumes nothing.
use Prim.Native.Nat.{ℕ, suc, ◌+◌, ◌*◌, ◌≤◌, ◌<◌}
use mathlib.Core.Path.{◌≡◌, refl, sym, ap, ◌∙◌}
use mathlib.Core.Logic.{◌⊎◌, inl, inr}
use mathlib.Core.Bool.{true}
use mathlib.Core.List.{List, [], ◌∷◌, ◌++◌, map, append_assoc}
use native.Mathlib.Omega.{arith}
use lib.ListN.{length, replicate, length-append, length-map, length-replicate, replicate-append-replicate}
use lib.Seq.{take_at, drop_at, drop-append-add}
use Rattle.codec.specs.Lists.{part, splice, All}
use Rattle.codec.proofs.Numbers.{length-bytes_of}
use Rattle.codec.proofs.Tests.{All-map}
use Rattle.page.specs.Layout.{page_size, line_size, slot_count, leaf_kind, top_key, Rec, Head, read_head, unused_head}
use Rattle.page.specs.Page.{entries, records, form_ok, keys_rise, page_ok, RecOk}
use Rattle.page.specs.Operations.{fill_head, fill, placed, sizes, OnePage, page_of, put_page}
use Rattle.page.proofs.Facts.{is-entries, page-is, page-sound, form-leaf, form-index}
use Rattle.page.proofs.Operations.{fill-kind, fill-own, fill_is, fill-page}
use Rattle.image.specs.PageZero.{no_mark, words_past}
use Rattle.image.specs.Image.{child_of, index_rec, IsEntry, Entries, first_key}
use Rattle.image.specs.Facts.{Rising}
use Rattle.image.specs.Fresh.{zero_page, fresh_zero, separators, named, numbered, filled_pages, pages_above, index_over, all_records, put_filled}
use Rattle.image.proofs.General.{part-front, part-past, All-append, All-left, All-right}
use Rattle.image.proofs.Rising.{rising_le, rising-lo, rising-from, rising-split, rising-rise}
use Rattle.image.proofs.IndexRecords.{sizes-entries, index-entry, index-child}

-- ---- a filled page is sound: what page's laws of `fill` lack

-- q is a sound page of the records rs
pub record Filled (k own : ℕ) (rs : List Rec) (q : List ℕ) : Type 0 where
  pub whole : length q ≡ page_size
  pub listed : entries q ≡ placed page_size rs
  pub recs : records q ≡ rs
  pub kind : (read_head q).kind ≡ k
  pub ok : page_ok k own q ≡ true
  pub good : All RecOk rs
  pub fit : OnePage rs

pub fill-filled : (p : List ℕ) (kind own : ℕ) (rs : List Rec) → length p ≡ page_size → kind < 256 → own < 65536 → All RecOk rs → line_size + sizes rs ≤ page_size →
    length rs ≤ slot_count → All (λ (r : Rec). form_ok kind r ≡ true) rs → keys_rise rs ≡ true → Filled kind own rs (fill p kind own rs)
unfolding unused_head
fill-filled p kind own rs whole k o good room few forms rise =
    let h = unused_head kind own in
    let q = fill-page p kind own rs whole k o good room few in
    record {
      whole = (page-is _ _ _ q).body.whole;
      listed = is-entries _ _ _ (fill_is p kind own rs whole k o good room few);
      recs = q.recs;
      kind = ap (λ (x : Head). x.kind) q.head ∙ fill-kind h rs;
      ok = page-sound kind own (fill p kind own rs) (fill_head h rs) rs q (fill-kind h rs) (fill-own h rs) forms rise;
      good = good;
      fit = record { few = few; small = omega arith };
    }

-- ---- a page between others

module _ (a p b : List ℕ) (k : ℕ) (before : length a ≡ page_size * k) (whole : length p ≡ page_size) where
  pub page-between : page_of (a ++ (p ++ b)) k ≡ p
  unfolding page_of
  page-between =
      let e : page_size * k ≡ page_size * k + 0 = omega arith in
      ap (λ (o : ℕ). part (a ++ (p ++ b)) o page_size) e ∙ part-past a (p ++ b) (page_size * k) 0 page_size before ∙ part-front p b page_size whole

  pub put-between : (q : List ℕ) → length q ≡ page_size → put_page (a ++ (p ++ b)) k q ≡ a ++ (q ++ b)
  unfolding put_page splice
  put-between q e =
      let f : page_size * k + length q ≡ length a + length p = omega arith in
      rw (take_at a (p ++ b) (page_size * k) before, f, drop-append-add a (p ++ b) (length p), drop_at p b (length p) refl)

-- the place past it
pub past : (a p : List ℕ) (k : ℕ) → length a ≡ page_size * k → length p ≡ page_size → length (a ++ p) ≡ page_size * suc k
past a p k before whole = omega (arith, length-append a p)

-- ---- page 0, and zeros

pub length-zero_page : length zero_page ≡ page_size
unfolding zero_page
length-zero_page = length-replicate {A = ℕ} page_size 0

module _ (n : ℕ) where
  pub length-past : length (words_past n 1) ≡ 56
  unfolding words_past
  length-past = simp (length-append, length-bytes_of, length-replicate)

  pub length-fresh_zero : length (fresh_zero n) ≡ page_size
  unfolding fresh_zero no_mark
  length-fresh_zero = simp (length-append, length-past, length-replicate)

-- zeros, as pages
pub zero-page : (m k : ℕ) → m ≡ page_size + k → ◌≡◌ {A = List ℕ} (replicate m 0) (zero_page ++ replicate k 0)
unfolding zero_page
zero-page m k e = ap (λ (j : ℕ). replicate {A = ℕ} j 0) e ∙ sym (replicate-append-replicate page_size k 0)

-- ---- pages of one kind, one after the other

-- each of the pages from page k on, filled with its records, is sound
abbrev pub Fills : ℕ → ℕ → List (List Rec) → Type 0
Fills kind k [] = Unit {0}
Fills kind k (l ∷ ls) = Filled kind k l (fill zero_page kind k l) × Fills kind (suc k) ls

-- what comes after the first page rises too
pub rising-rest : (lo : ℕ) (a b : List Rec) (hi : ℕ) → Rising lo (a ++ b) hi → Rising lo b hi
rising-rest lo a b hi h = let t = rising-split lo a b hi h in rising-lo (first_key b hi) lo b hi (rising_le lo a (first_key b hi) t.0) t.1

-- what holds of each record of each page
pub each-record : (P : Rec → Type 0) (ls : List (List Rec)) → All (All P) ls → All P (all_records ls)
unfolding all_records
each-record P [] h = tt
each-record P (l ∷ ls) h = All-append P l (all_records ls) h.0 (each-record P ls h.1)

pub each-page : (P : Rec → Type 0) (ls : List (List Rec)) → All P (all_records ls) → All (All P) ls
unfolding all_records
each-page P [] h = tt
each-page P (l ∷ ls) h = (All-left P l (all_records ls) h, each-page P ls (All-right P l (all_records ls) h))

pub pages-filled : (kind k lo : ℕ) (ls : List (List Rec)) (hi : ℕ) → kind < 256 → k + length ls ≤ 65536 → All (All RecOk) ls → All OnePage ls →
    All (All (λ (r : Rec). form_ok kind r ≡ true)) ls → Rising lo (all_records ls) hi → Fills kind k ls
unfolding all_records
pages-filled kind k lo [] hi w small good fit forms rise = tt
pages-filled kind k lo (l ∷ ls) hi w small good fit forms rise = (
  fill-filled zero_page kind k l length-zero_page w (omega arith) good.0 (omega (arith, fit.0.small)) fit.0.few forms.0 (rising-rise lo l (first_key (all_records ls) hi) (rising-split lo l (all_records ls) hi rise).0),
  pages-filled kind (suc k) lo ls hi w (omega arith) good.1 fit.1 forms.1 (rising-rest lo l (all_records ls) hi rise),
)

pub leafs-filled : (k : ℕ) (ls : List (List Rec)) → k + length ls ≤ 65536 → All (All RecOk) ls → All OnePage ls → Rising 1 (all_records ls) (suc top_key) → Fills leaf_kind k ls
leafs-filled k ls small good fit rise =
    pages-filled leaf_kind k 1 ls (suc top_key) (omega arith) small good fit
    (each-page (λ (r : Rec). form_ok leaf_kind r ≡ true) ls
    (All-map (λ (r : Rec). 1 ≤ r.key) (λ (r : Rec). form_ok leaf_kind r ≡ true) (λ r h. form-leaf r h) (all_records ls) (rising-from 1 (all_records ls) (suc top_key) rise)))
    rise

pub length-filled : (kind k : ℕ) (ls : List (List Rec)) → Fills kind k ls → length (filled_pages kind k ls) ≡ page_size * length ls
unfolding filled_pages
length-filled kind k [] f = refl
length-filled kind k (l ∷ ls) f = omega (arith, length-append (fill zero_page kind k l) (filled_pages kind (suc k) ls), f.0.whole, length-filled kind (suc k) ls f.1)

-- the image's pages from page k on are they
abbrev pub Stand : ℕ → List ℕ → ℕ → List (List Rec) → Type 0
Stand kind img k [] = Unit {0}
Stand kind img k (l ∷ ls) = (page_of img k ≡ fill zero_page kind k l) × Stand kind img (suc k) ls

pub filled-stand : (kind : ℕ) (img pre : List ℕ) (k : ℕ) (ls : List (List Rec)) (rest : List ℕ) → img ≡ pre ++ (filled_pages kind k ls ++ rest) → length pre ≡ page_size * k → Fills kind k ls →
    Stand kind img k ls
unfolding filled_pages
filled-stand kind img pre k [] rest e before f = tt
filled-stand kind img pre k (l ∷ ls) rest e before f =
    let p = fill zero_page kind k l in
    let more = filled_pages kind (suc k) ls ++ rest in
    let shape : img ≡ pre ++ (p ++ more) = e ∙ ap (λ (t : List ℕ). pre ++ t) (append_assoc p (filled_pages kind (suc k) ls) rest) in (
      ap (λ (i : List ℕ). page_of i k) shape ∙ page-between pre p more k before f.0.whole,
      filled-stand kind img (pre ++ p) (suc k) ls rest (shape ∙ sym (append_assoc pre p more)) (past pre p k before f.0.whole) f.1,
    )

-- written over zeros
pub put-filled : (kind k : ℕ) (ls : List (List Rec)) (img pre rest : List ℕ) → img ≡ pre ++ (replicate (page_size * length ls) 0 ++ rest) → length pre ≡ page_size * k → Fills kind k ls →
    put_filled kind img k ls ≡ pre ++ (filled_pages kind k ls ++ rest)
unfolding put_filled filled_pages
put-filled kind k [] img pre rest e before f = e
put-filled kind k (l ∷ ls) img pre rest e before f =
    let p = fill zero_page kind k l in
    let zeros : List ℕ = replicate (page_size * length ls) 0 in
    let more = filled_pages kind (suc k) ls in
    let shape : img ≡ pre ++ (zero_page ++ (zeros ++ rest)) =
    e
    ∙ ap (λ (t : List ℕ). pre ++ (t ++ rest)) (zero-page (page_size * suc (length ls)) (page_size * length ls) (omega arith))
    ∙ ap (λ (t : List ℕ). pre ++ t) (append_assoc zero_page zeros rest) in
    let old : page_of img k ≡ zero_page = ap (λ (i : List ℕ). page_of i k) shape ∙ page-between pre zero_page (zeros ++ rest) k before length-zero_page in
    let one : put_page img k (fill (page_of img k) kind k l) ≡ (pre ++ p) ++ (zeros ++ rest) =
    ap (λ (q : List ℕ). put_page img k (fill q kind k l)) old
    ∙ ap (λ (i : List ℕ). put_page i k p) shape
    ∙ put-between pre zero_page (zeros ++ rest) k before length-zero_page p f.0.whole
    ∙ sym (append_assoc pre p (zeros ++ rest)) in
    put-filled kind (suc k) ls _ (pre ++ p) rest one (past pre p k before f.0.whole) f.1
    ∙ append_assoc pre p (more ++ rest)
    ∙ ap (λ (t : List ℕ). pre ++ t) (sym (append_assoc p more rest))

-- ---- the records that name them

pub length-separators : (ls : List (List Rec)) → length (separators ls) ≡ length ls
unfolding separators
length-separators [] = refl
length-separators (l ∷ ls) = ap suc (length-map ls (λ (m : List Rec). first_key m 0))

pub length-named : (k : ℕ) (ss : List ℕ) → length (named k ss) ≡ length ss
unfolding named
length-named k [] = refl
length-named k (s ∷ ss) = ap suc (length-named (suc k) ss)

pub length-index : (ls : List (List Rec)) → length (index_over ls) ≡ length ls
unfolding index_over
length-index ls = length-named (suc (pages_above (length ls))) (separators ls) ∙ length-separators ls

pub named-entries : (k : ℕ) (ss : List ℕ) → Entries (named k ss)
unfolding named
named-entries k [] = tt
named-entries k (s ∷ ss) = (index-entry s k, named-entries (suc k) ss)

-- read back: the separators, and the pages
pub named-keys : (k : ℕ) (ss : List ℕ) → map (λ (r : Rec). r.key) (named k ss) ≡ ss
unfolding named index_rec
named-keys k [] = refl
named-keys k (s ∷ ss) = ap (λ (l : List ℕ). s ∷ l) (named-keys (suc k) ss)

pub named-pages : (k : ℕ) (ss : List ℕ) (ls : List (List Rec)) → length ss ≡ length ls → k + length ls ≤ 65536 → map child_of (named k ss) ≡ numbered k ls
unfolding named numbered
named-pages k [] [] e h = refl
named-pages k [] (l ∷ ls) e h = absurd (omega arith)
named-pages k (s ∷ ss) [] e h = absurd (omega arith)
named-pages k (s ∷ ss) (l ∷ ls) e h = rw (index-child s k (omega arith), named-pages (suc k) ss ls (omega arith) (omega arith))

abbrev pub smallest : List (List Rec) → List ℕ
smallest ls = map (λ (m : List Rec). first_key m 0) ls

abbrev pub Full : List (List Rec) → Type 0
Full ls = All (λ (l : List Rec). 1 ≤ length l) ls

-- pages that are not empty: their separators rise as their records do, and end the page before them where it ends
pub named-rising : (lo k : ℕ) (ls : List (List Rec)) (hi : ℕ) → Full ls → Rising lo (all_records ls) hi → Rising lo (named k (smallest ls)) hi
unfolding named index_rec all_records
named-rising lo k [] hi f h = h
named-rising lo k ([] ∷ ls) hi f h = absurd (omega (arith, f.0))
named-rising lo k ((r ∷ m) ∷ ls) hi f h = (h.0, named-rising (suc r.key) (suc k) ls hi f.1 (rising-rest (suc r.key) m (all_records ls) hi h.1))

pub next-first : (k : ℕ) (ls : List (List Rec)) (hi : ℕ) → Full ls → first_key (named k (smallest ls)) hi ≡ first_key (all_records ls) hi
unfolding named index_rec all_records
next-first k [] hi f = refl
next-first k ([] ∷ ls) hi f = absurd (omega (arith, f.0))
next-first k ((r ∷ m) ∷ ls) hi f = refl

pub entries-ok : (lo : ℕ) (cs : List Rec) → Rising lo cs (suc top_key) → Entries cs → All RecOk cs
entries-ok lo [] h e = tt
entries-ok lo (c ∷ cs) h e = (record { low = omega (arith, rising_le (suc c.key) cs (suc top_key) h.1); few = omega (arith, e.0) }, entries-ok (suc c.key) cs h.1 e.1)

-- the leaves after the first are not empty
pub rest-full : (l : List Rec) (ls : List (List Rec)) → (length (l ∷ ls) ≡ 1) ⊎ Full (l ∷ ls) → Full ls
rest-full l [] h = tt
rest-full l (m ∷ ls) (inl e) = absurd (omega arith)
rest-full l (m ∷ ls) (inr h) = h.1

-- pages above the leaves, of at most 28 records each
pub nodes-filled : (h k lo : ℕ) (ls : List (List Rec)) → suc (suc h) < 256 → k + length ls ≤ 65536 → All (λ (l : List Rec). length l ≤ slot_count) ls → Entries (all_records ls) →
    Rising lo (all_records ls) (suc top_key) → Fills (suc (suc h)) k ls
nodes-filled h k lo ls w small few two rise =
    pages-filled (suc (suc h)) k lo ls (suc top_key) w small (each-page RecOk ls (entries-ok lo (all_records ls) rise two)) (nodes-fit ls few (each-page IsEntry ls two))
    (each-page (λ (r : Rec). form_ok (suc (suc h)) r ≡ true) ls (All-map IsEntry (λ (r : Rec). form_ok (suc (suc h)) r ≡ true) (λ r e. form-index h r e) (all_records ls) two))
    rise
  where
    nodes-fit : (ls : List (List Rec)) → All (λ (l : List Rec). length l ≤ slot_count) ls → All (All IsEntry) ls → All OnePage ls
    nodes-fit [] few two = tt
    nodes-fit (l ∷ ls) few two = (record { few = few.0; small = omega (arith, few.0, sizes-entries l two.0) }, nodes-fit ls few.1 two.1)
