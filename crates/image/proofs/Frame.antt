-- The frame: soundness, table, root and reached pages depend only on line 0 of page 0, the reached headers and the bytes of listed records.
-- Assumes nothing.
use Prim.Native.Nat.{ℕ, suc, ◌+◌, ◌*◌, ◌/◌, ◌%◌, ◌≤◌, ◌<◌}
use mathlib.Core.Path.{◌≡◌, refl, sym, ap, ◌∙◌, subst}
use mathlib.Core.Logic.{◌⊎◌, inl, inr}
use mathlib.Core.Bool.{Bool, true, false, ◌&&◌, ◌||◌, or-true}
use mathlib.Core.List.{List, [], ◌∷◌}
use native.Mathlib.Omega.{arith}
use lib.ListN.{length, get_or, get_or-eq_default}
use lib.Dec.{leb, ltb}
use borrow.Author.Tests.{le-leb, ltb-true, ltb-false, lt-ltb}
use Rattle.codec.specs.Lists.{part, All}
use Rattle.codec.specs.Numbers.{number}
use Rattle.codec.proofs.Tests.{first}
use Rattle.codec.proofs.Lists.{get_or-part}
use Rattle.codec.proofs.Agree.{part-agree}
use Rattle.page.specs.Layout.{page_size, line_size, top_key, size, Head}
use Rattle.page.specs.Page.{Entry, end, entries, laid_out, page_ok}
use Rattle.page.specs.PageFormat.{format1}
use Rattle.page.specs.Operations.{page_of}
use Rattle.page.proofs.Facts.{page_ok-true}
use Rattle.page.proofs.Writes.{Agree}
use Rattle.page.proofs.Frame.{Same, page-agree}
use Rattle.page.proofs.Images.{length-page_of}
use Rattle.image.specs.PageZero.{page_count, is_page, root_of, page_zero}
use Rattle.image.specs.Image.{among, pages_in, height_of, reached, sound}
use Rattle.image.specs.Facts.{TreeIn, Sound}
use Rattle.image.specs.Table.{table_in, table}
use Rattle.image.specs.Live.{covered, live_in, live}
use Rattle.image.proofs.Apart.{All-among}
use Rattle.image.proofs.Zero.{size-true, is_page-true}
use Rattle.image.proofs.Alike.{page-first, Agree as AgreeIn, Alike, alike, height-alike, tree-alike, under-pages}
use Rattle.image.proofs.Soundness.{sound-tree_in, sound-facts, tree_in-sound}
use Rattle.image.proofs.Values.{page-fits}

-- ---- parts and pages that agree

agrees : (p q : List ℕ) (es : List Entry) → length p ≡ length q → ((o : ℕ) → covered o es ≡ true → get_or p o 0 ≡ get_or q o 0) → All (Agree p q) es
unfolding covered
agrees p q [] l f = tt
agrees p q (e ∷ es) l f = (
  part-agree p q e.at (size e.rec) l (λ o low high. f o (rw (le-leb e.at o low, lt-ltb o (end e) high))),
  agrees p q es l (λ o c. f o (rw c (or-true (leb e.at o && ltb o (end e))))),
)

-- a page is laid out alike and lists the same records if its live bytes are the same
pub page-same : (p q : List ℕ) → laid_out p ≡ true → length p ≡ length q → ((o : ℕ) → live_in p o ≡ true → get_or p o 0 ≡ get_or q o 0) → Same p q
unfolding live_in part
page-same p q ok l f =
    page-agree p q ok (sym l) (part-agree p q 0 line_size l (λ o low high. f o (rw (lt-ltb o line_size (omega arith)))))
    (agrees p q (entries p) l (λ o c. f o (rw c (or-true (ltb o line_size)))))

-- page 0 says the same if its line 0 is the same
pub zero-agree : (a b : List ℕ) → length a ≡ length b → ((i : ℕ) → i < line_size → get_or a i 0 ≡ get_or b i 0) → (page_zero b ≡ page_zero a) × (root_of b ≡ root_of a)
unfolding page_zero root_of
zero-agree a b l h =
    let mark = line 0 8 (omega arith) in
    let root = line 8 8 (omega arith) in
    let past = line 8 56 (omega arith) in
    (rw (mark, root, past, ← l), ap number root)
  where
    line : (o n : ℕ) → o + n ≤ line_size → part b o n ≡ part a o n
    line o n k = part-agree a b o n l (λ i low high. h i (omega arith))

-- ---- the reached pages

pub record Reached (img : List ℕ) (q : ℕ) : Type 0 where
  pub page : is_page (page_count img) q ≡ true
  pub kind : ℕ
  pub ok : page_ok kind q (page_of img q) ≡ true

pub tree_in-reached : (img : List ℕ) (root : ℕ) → TreeIn format1 img (height_of img root) root → (q : ℕ) → among q (reached img root) ≡ true → Reached img q
unfolding reached
tree_in-reached img root t q k =
    let h = height_of img root in
    let ps = pages_in format1 img h root in
    let ok : ℕ → Type 0 = λ x. (kind : ℕ) × (page_ok kind x (page_of img x) ≡ true) in
    let o = All-among ok ps (under-pages format1 img ok (λ n lo hi x f. (suc n, f.page)) h 0 (suc top_key) root t.under) q k in
    record { page = All-among (λ (x : ℕ). is_page (page_count img) x ≡ true) ps t.inside q k; kind = o.0; ok = o.1 }

-- ---- the tree under a root, where the reached pages say the same

abbrev pub SamePages : List ℕ → List ℕ → List ℕ → Type 0
SamePages a b qs = (q : ℕ) → among q qs ≡ true → Same (page_of a q) (page_of b q)

module _ (a b : List ℕ) (root : ℕ) (l : length a ≡ length b) (s : SamePages a b (reached a root)) where
  abbrev h : ℕ
  h = height_of a root

  root-same : Same (page_of a root) (page_of b root)
  unfolding reached
  root-same = s root (page-first format1 a h root)

  height-same : height_of b root ≡ height_of a root
  height-same = height-alike format1 a b root (ap (λ (x : Head). x.kind) root-same.head)

  agree : AgreeIn format1 a b (pages_in format1 a (height_of a root) root)
  unfolding reached
  agree x k = let e = s x k in record { recs = e.recs; sound = e.sound }

  under_alike : Alike format1 a b (height_of a root) root
  under_alike = alike format1 a b h root agree

  pub tree_in-same : TreeIn format1 a (height_of a root) root → TreeIn format1 b (height_of b root) root
  tree_in-same t = subst (λ (n : ℕ). TreeIn format1 b n root) (sym height-same) (tree-alike format1 a b h root l agree t)

  pub table_in-same : table_in format1 b (height_of b root) root ≡ table_in format1 a (height_of a root) root
  table_in-same = ap (λ (n : ℕ). table_in format1 b n root) height-same ∙ under_alike.table

  pub reached-same : reached b root ≡ reached a root
  unfolding reached
  reached-same = ap (λ (n : ℕ). pages_in format1 b n root) height-same ∙ under_alike.pages

-- ---- the image, where the live bytes are the same

pub live-page : (img : List ℕ) (q o : ℕ) → among q (reached img (root_of img)) ≡ true → o < page_size → live_in (page_of img q) o ≡ true → live img (page_size * q + o) ≡ true
unfolding live
live-page img q o r small v =
    let d : (page_size * q + o) / page_size ≡ q = omega arith in
    let m : (page_size * q + o) % page_size ≡ o = omega arith in
    rw (d, m, r, v) (or-true (ltb (page_size * q + o) line_size))

pub live-line : (img : List ℕ) (i : ℕ) → i < line_size → live img i ≡ true
unfolding live
live-line img i h = rw (lt-ltb i line_size h)

module _ (a b : List ℕ) (sa : sound a ≡ true) (l : length a ≡ length b) (same : (i : ℕ) → live a i ≡ true → get_or a i 0 ≡ get_or b i 0) where
  abbrev root : ℕ
  root = root_of a

  old : TreeIn format1 a (height_of a (root_of a)) (root_of a)
  old = sound-tree_in a sa

  zero_same : (page_zero b ≡ page_zero a) × (root_of b ≡ root_of a)
  zero_same = zero-agree a b l (λ i h. same i (live-line a i h))

  pub pages-same : SamePages a b (reached a (root_of a))
  unfolding page_of
  pages-same q r =
      let k = tree_in-reached a root old q r in
      let fits = page-fits a q k.page in
      let la : length (page_of a q) ≡ page_size = length-page_of a q fits in
      let lb : length (page_of b q) ≡ page_size = length-page_of b q (omega arith) in
      page-same (page_of a q) (page_of b q) (page_ok-true k.kind q (page_of a q) k.ok).laid (la ∙ sym lb) (λ o v. go la lb o v (ltb o page_size) refl)
    where
      go : length (page_of a q) ≡ page_size → length (page_of b q) ≡ page_size → (o : ℕ) → live_in (page_of a q) o ≡ true → (t : Bool) → ltb o page_size ≡ t → get_or (page_of a q) o 0 ≡ get_or (page_of b q) o 0
      go la lb o v true e =
          let small : o < page_size = ltb-true o page_size e in
          get_or-part a (page_size * q) page_size o small ∙ same (page_size * q + o) (live-page a q o r small v) ∙ sym (get_or-part b (page_size * q) page_size o small)
      go la lb o v false e =
          let past : page_size ≤ o = ltb-false o page_size e in
          get_or-eq_default (page_of a q) 0 {n = o} (omega arith) ∙ sym (get_or-eq_default (page_of b q) 0 {n = o} (omega arith))

  -- "Unreached pages, free bytes and log lines may hold anything."
  pub frame : (sound b ≡ true) × (table b ≡ table a) × (reached b (root_of b) ≡ reached a (root_of a)) × (root_of b ≡ root_of a)
  unfolding table
  frame = (
    tree_in-sound b root (rw (← l) (sound-facts a sa).size) (zero_same.0 ∙ (sound-facts a sa).zero) (tree_in-same a b root l pages-same old),
    ap (λ (r : ℕ). table_in format1 b (height_of b r) r) zero_same.1 ∙ table_in-same a b root l pages-same,
    ap (reached b) zero_same.1 ∙ reached-same a b root l pages-same,
    zero_same.1,
  )

  -- the live bytes are the same ones
  pub live_same : (i : ℕ) → live b i ≡ live a i
  unfolding live live_in
  live_same i = rw (zero_same.1, reached-same a b root l pages-same) (go (among (i / page_size) (reached a root)) refl)
    where
      go : (t : Bool) → among (i / page_size) (reached a root) ≡ t →
          (ltb i line_size || (t && live_in (page_of b (i / page_size)) (i % page_size))) ≡ (ltb i line_size || (t && live_in (page_of a (i / page_size)) (i % page_size)))
      go true r = rw (pages-same (i / page_size) r).entries
      go false r = refl

-- ---- where live bytes lie

-- in the image, and not in the log lines
pub live-place : (img : List ℕ) (i : ℕ) → sound img ≡ true → live img i ≡ true → (i < length img) × ((i < line_size) ⊎ (page_size ≤ i))
unfolding live
live-place img i h v = go (ltb i line_size) refl v
  where
    s : Sound img
    s = sound-facts img h

    go : (t : Bool) → ltb i line_size ≡ t → (t || (among (i / page_size) (reached img (root_of img)) && live_in (page_of img (i / page_size)) (i % page_size))) ≡ true →
        (i < length img) × ((i < line_size) ⊎ (page_size ≤ i))
    go true e f = (omega (arith, ltb-true i line_size e, (size-true (length img) s.size).low), inl (ltb-true i line_size e))
    go false e f =
        let r = first (among (i / page_size) (reached img (root_of img))) (live_in (page_of img (i / page_size)) (i % page_size)) f in
        let k = tree_in-reached img (root_of img) (sound-tree_in img h) (i / page_size) r in
        let p = is_page-true (page_count img) (i / page_size) k.page in
        (omega (arith, page-fits img (i / page_size) k.page), inr (omega arith))
