-- A store's tree, level by level: pages of one height with their records, and the records that name them. One law for a level over another, cited for the index pages and for the root.
-- Assumes nothing.
use Prim.Native.Nat.{ℕ, suc, ◌+◌, ◌≤◌, ◌<◌}
use mathlib.Core.Path.{◌≡◌, refl, sym, ap, ◌∙◌, subst}
use mathlib.Core.Logic.{inl}
use mathlib.Core.List.{List, [], ◌∷◌, ◌++◌, map}
use native.Mathlib.Omega.{arith}
use lib.ListN.{length}
use Rattle.codec.specs.Lists.{All}
use Rattle.page.specs.Layout.{leaf_kind, Rec}
use Rattle.page.specs.Page.{records}
use Rattle.page.specs.PageFormat.{format1}
use Rattle.page.specs.Operations.{page_of, fill}
use Rattle.image.specs.Image.{child_of, index_rec, first_key, joined, gathered, itself, pages_in, count}
use Rattle.image.specs.Facts.{Rising, Spans, Fine, Under, Nonempty}
use Rattle.image.specs.Fresh.{zero_page, named, numbered, all_records}
use Rattle.image.proofs.Rising.{rising-split}
use Rattle.image.proofs.Ranges.{spans-cut, joined-append}
use Rattle.image.proofs.IndexRecords.{index-child}
use Rattle.image.proofs.Times.{count-append}
use Rattle.image.proofs.FilledPages.{Filled, Fills, Stand, smallest, Full, next-first}

-- ---- the pages of one level, each in the range that its records leave it

-- U of each page from page k on
abbrev pub Chain : (ℕ → ℕ → ℕ → Type 0) → ℕ → ℕ → List (List Rec) → ℕ → Type 0
Chain U lo k [] hi = Unit {0}
Chain U lo k (l ∷ ls) hi = U lo (first_key (all_records ls) hi) k × Chain U (first_key (all_records ls) hi) (suc k) ls hi

-- the range that the records leave is that of the record that names the page, whatever the first separator
pub chain-spans : (U : ℕ → ℕ → ℕ → Type 0) (lo k sep : ℕ) (l : List Rec) (ls : List (List Rec)) (hi : ℕ) → k + length ls < 65536 → Full ls → Chain U lo k (l ∷ ls) hi →
    Spans U lo (named k (sep ∷ smallest ls)) hi
unfolding named all_records
chain-spans U lo k sep l [] hi small full c = (subst (U lo hi) (sym (index-child sep k (omega arith))) c.0, tt)
chain-spans U lo k sep l (m ∷ ls) hi small full c =
    let e = next-first (suc k) (m ∷ ls) hi full in
    let more : Spans U (first_key (m ++ all_records ls) hi) (named (suc k) (first_key m 0 ∷ smallest ls)) hi =
    chain-spans U (first_key (m ++ all_records ls) hi) (suc k) (first_key m 0) m ls hi (omega arith) full.1 c.1 in (
      subst (U lo (first_key (named (suc k) (smallest (m ∷ ls))) hi)) (sym (index-child sep k (omega arith))) (subst (λ (b : ℕ). U lo b k) (sym e) c.0),
      subst (λ (b : ℕ). Spans U b (named (suc k) (smallest (m ∷ ls))) hi) (sym e) more,
    )

-- by their own separators
pub chain-named : (U : ℕ → ℕ → ℕ → Type 0) (lo k : ℕ) (ls : List (List Rec)) (hi : ℕ) → k + length ls ≤ 65536 → Full ls → Chain U lo k ls hi → Spans U lo (named k (smallest ls)) hi
unfolding named
chain-named U lo k [] hi small full c = tt
chain-named U lo k (l ∷ ls) hi small full c = chain-spans U lo k (first_key l 0) l ls hi (omega arith) full.1 c

-- ---- leaves, by the records that name them

pub leaves-numbered : (k : ℕ) (ss : List ℕ) (ls : List (List Rec)) → length ss ≡ length ls → k + length ls ≤ 65536 → joined itself (named k ss) ≡ numbered k ls
unfolding named numbered
leaves-numbered k [] [] e small = refl
leaves-numbered k [] (l ∷ ls) e small = absurd (omega arith)
leaves-numbered k (s ∷ ss) [] e small = absurd (omega arith)
leaves-numbered k (s ∷ ss) (l ∷ ls) e small = rw (index-child s k (omega arith), leaves-numbered (suc k) ss ls (omega arith) (omega arith))

module _ (img : List ℕ) where
  pub leaves-records : (k : ℕ) (ss : List ℕ) (ls : List (List Rec)) → length ss ≡ length ls → k + length ls ≤ 65536 → Stand leaf_kind img k ls → Fills leaf_kind k ls →
      joined (λ x. records (page_of img x)) (named k ss) ≡ all_records ls
  unfolding named all_records
  leaves-records k [] [] e small t f = refl
  leaves-records k [] (l ∷ ls) e small t f = absurd (omega arith)
  leaves-records k (s ∷ ss) [] e small t f = absurd (omega arith)
  leaves-records k (s ∷ ss) (l ∷ ls) e small t f = rw (index-child s k (omega arith), t.0, f.0.recs, leaves-records (suc k) ss ls (omega arith) (omega arith) t.1 f.1)

  -- what stands on their pages
  pub pages-records : (kind k : ℕ) (ls : List (List Rec)) → Stand kind img k ls → Fills kind k ls → map (λ (p : ℕ). records (page_of img p)) (numbered k ls) ≡ ls
  unfolding numbered
  pages-records kind k [] t f = refl
  pages-records kind k (l ∷ ls) t f = rw (t.0, f.0.recs, pages-records kind (suc k) ls t.1 f.1)

  pub pages-full : (k : ℕ) (ls : List (List Rec)) → Stand leaf_kind img k ls → Fills leaf_kind k ls → Full ls → All (Nonempty format1 img) (numbered k ls)
  unfolding numbered
  pages-full k [] t f full = tt
  pages-full k (l ∷ ls) t f full = (rw (t.0, f.0.recs) full.0, pages-full (suc k) ls t.1 f.1 full.1)

-- ---- pages above the leaves

module _ (img : List ℕ) where
  -- a page by itself
  pub fine-filled : (h lo hi k : ℕ) (l : List Rec) → page_of img k ≡ fill zero_page (suc h) k l → Filled (suc h) k l (fill zero_page (suc h) k l) → Rising lo l hi → Fine format1 img h lo hi k
  fine-filled h lo hi k l e f rise = rw e (record { page = f.ok; filled = inl refl; rising = rw f.recs rise })

  -- leaves
  pub leaves-chain : (lo k : ℕ) (ls : List (List Rec)) (hi : ℕ) → Stand leaf_kind img k ls → Fills leaf_kind k ls → Rising lo (all_records ls) hi → Chain (λ a b x. Under format1 img 0 a b x) lo k ls hi
  unfolding all_records
  leaves-chain lo k [] hi t f rise = tt
  leaves-chain lo k (l ∷ ls) hi t f rise =
      let r = rising-split lo l (all_records ls) hi rise in
      (fine-filled 0 lo (first_key (all_records ls) hi) k l t.0 f.0 r.0, leaves-chain (first_key (all_records ls) hi) (suc k) ls hi t.1 f.1 r.1)

  -- pages over pages of height h
  pub nodes-chain : (h lo k : ℕ) (ls : List (List Rec)) (hi : ℕ) → Stand (suc (suc h)) img k ls → Fills (suc (suc h)) k ls → Full ls → Rising lo (all_records ls) hi →
      Spans (λ a b x. Under format1 img h a b x) lo (all_records ls) hi → Chain (λ a b x. Under format1 img (suc h) a b x) lo k ls hi
  unfolding all_records
  nodes-chain h lo k [] hi t f full rise s = tt
  nodes-chain h lo k ([] ∷ ls) hi t f full rise s = absurd (omega (arith, full.0))
  nodes-chain h lo k ((r ∷ l) ∷ ls) hi t f full rise s =
      let U : ℕ → ℕ → ℕ → Type 0 = λ a b x. Under format1 img h a b x in
      let q = rising-split lo (r ∷ l) (all_records ls) hi rise in
      let c = spans-cut U lo (r ∷ l) (all_records ls) hi s in
      let mid = first_key (all_records ls) hi in
      let e : records (page_of img k) ≡ r ∷ l = ap records t.0 ∙ f.0.recs in (
        (fine-filled (suc h) lo mid k (r ∷ l) t.0 f.0 q.0, subst (λ (rs : List Rec). (1 ≤ length rs) × Spans U lo rs mid) (sym e) (omega arith, c.0)),
        nodes-chain h mid (suc k) ls hi t.1 f.1 full.1 q.1 c.1,
      )

  -- ---- what they say: pages above the leaves say what the pages under them say

  pub nodes-say : {A : Type 0} (leaf : ℕ → List A) (h k : ℕ) (ss : List ℕ) (ls : List (List Rec)) → length ss ≡ length ls → k + length ls ≤ 65536 → Stand (suc (suc h)) img k ls → Fills (suc (suc h)) k ls →
      joined (λ x. gathered format1 leaf (λ y. []) img (suc h) x) (named k ss) ≡ joined (λ x. gathered format1 leaf (λ y. []) img h x) (all_records ls)
  unfolding named all_records gathered
  nodes-say leaf h k [] [] e small t f = refl
  nodes-say leaf h k [] (l ∷ ls) e small t f = absurd (omega arith)
  nodes-say leaf h k (s ∷ ss) [] e small t f = absurd (omega arith)
  nodes-say {A} leaf h k (s ∷ ss) (l ∷ ls) e small t f =
      let g : ℕ → List A = λ x. gathered format1 leaf (λ y. []) img h x in
      let here : joined g (records (page_of img (child_of (index_rec s k)))) ≡ joined g l =
      ap (λ (x : ℕ). joined g (records (page_of img x))) (index-child s k (omega arith)) ∙ ap (joined g) (ap records t.0 ∙ f.0.recs) in
      rw (here, nodes-say leaf h (suc k) ss ls (omega arith) (omega arith) t.1 f.1) (sym (joined-append g l (all_records ls)))

  -- their pages are they and the pages under them
  pub nodes-count : (p h k : ℕ) (ss : List ℕ) (ls : List (List Rec)) → length ss ≡ length ls → k + length ls ≤ 65536 → Stand (suc (suc h)) img k ls → Fills (suc (suc h)) k ls →
      count p (joined (λ x. pages_in format1 img (suc h) x) (named k ss)) ≡ count p (numbered k ls) + count p (joined (λ x. pages_in format1 img h x) (all_records ls))
  unfolding named numbered all_records pages_in gathered
  nodes-count p h k [] [] e small t f = omega arith
  nodes-count p h k [] (l ∷ ls) e small t f = absurd (omega arith)
  nodes-count p h k (s ∷ ss) [] e small t f = absurd (omega arith)
  nodes-count p h k (s ∷ ss) (l ∷ ls) e small t f =
      let g : ℕ → List ℕ = λ x. pages_in format1 img h x in
      let n : ℕ → List ℕ = λ x. pages_in format1 img (suc h) x in
      let here : n (child_of (index_rec s k)) ≡ k ∷ joined g l =
      ap n (index-child s k (omega arith)) ∙ ap (λ (rs : List Rec). k ∷ joined g rs) (ap records t.0 ∙ f.0.recs) in
      let a = ap (λ (x : List ℕ). count p (x ++ joined n (named (suc k) ss))) here in
      let b = count-append p (joined g l) (joined n (named (suc k) ss)) in
      let d = nodes-count p h (suc k) ss ls (omega arith) (omega arith) t.1 f.1 in
      let e = ap (count p) (joined-append g l (all_records ls)) in
      let i = count-append p (joined g l) (joined g (all_records ls)) in
      omega (arith, a, b, d, e, i)
