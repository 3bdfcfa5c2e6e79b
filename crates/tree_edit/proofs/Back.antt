-- Pages put back: once each page is the one that is to be kept, or the old one, the whole is the edited image.
-- Assumes nothing.
use Prim.Native.Nat.{ℕ, zero, suc, ◌+◌, ◌*◌, ◌/◌, ◌≤◌, ◌<◌}
use mathlib.Core.Path.{◌≡◌, refl, sym, ap, ap₂, ◌∙◌}
use mathlib.Core.Bool.{Bool, true, false, ◌||◌}
use mathlib.Core.List.{List, [], ◌∷◌, ◌++◌}
use native.Mathlib.Omega.{arith}
use lib.ListN.{length, get_or, take, drop, length-drop, take-append-drop}
use lib.Seq.{drop-drop}
use lib.Dec.{eqb}
use borrow.Author.Tests.{eqb-true, eqb-false, eq-eqb, ne_eqb}
use Rattle.codec.specs.Lists.{part, splice, pick}
use Rattle.codec.specs.Numbers.{bytes_of}
use Rattle.page.specs.Layout.{page_size}
use Rattle.page.specs.Operations.{page_of, put_page}
use Rattle.page.proofs.Images.{length-page_of, put-length, put_same, put_other}
use Rattle.image.specs.PageZero.{page_count}
use Rattle.image.specs.Image.{reached, among}
use Rattle.tree.specs.Whole.{pages_from, put_back, edited_image}
use Rattle.tree.specs.Good.{Good}
use Rattle.tree.proofs.Counts.{inside-range}
use Rattle.tree_edit.specs.Steps.{is_marked, Marks}
use Rattle.tree_edit.specs.Asked.{CanPutBack}
use Rattle.tree_edit.proofs.Places.{root-inside}

-- ---- an image by its pages

nothing : (l : List ℕ) → length l ≡ 0 → l ≡ []
nothing [] h = refl
nothing (x ∷ l) h = absurd (omega arith)

module _ (keep : ℕ → Bool) (a w : List ℕ) where
  pages-whole : (n p : ℕ) (l : List ℕ) → length l ≡ page_size * n → ((i : ℕ) → i < n → page_of l i ≡ page_of (pick (keep (p + i)) w a) (p + i)) → l ≡ pages_from keep a w n p
  unfolding pages_from page_of part
  pages-whole zero p l long h = nothing l long
  pages-whole (suc n) p l long h =
      let here : p + 0 ≡ p = omega arith in
      let first : take page_size l ≡ page_of (pick (keep p) w a) p = h 0 (omega arith) ∙ ap (λ (q : ℕ). page_of (pick (keep q) w a) q) here in
      let rest : drop page_size l ≡ pages_from keep a w n (suc p) =
      pages-whole n (suc p) (drop page_size l) (simp length-drop (omega arith)) (λ i less.
      let e : page_size + page_size * i ≡ page_size * suc i = omega arith in
      let f : p + suc i ≡ suc p + i = omega arith in
      ap (take page_size) (drop-drop (page_size * i) page_size l ∙ ap (λ (m : ℕ). drop m l) e)
      ∙ h (suc i) (omega arith)
      ∙ ap (λ (q : ℕ). page_of (pick (keep q) w a) q) f) in
      sym (take-append-drop page_size l) ∙ ap₂ (λ (x y : List ℕ). x ++ y) first rest

-- the pages to be kept may be told in another way
pages-same : (k1 k2 : ℕ → Bool) → ((p : ℕ) → k1 p ≡ k2 p) → (a w : List ℕ) (n p : ℕ) → pages_from k1 a w n p ≡ pages_from k2 a w n p
unfolding pages_from
pages-same k1 k2 h a w zero p = refl
pages-same k1 k2 h a w (suc n) p = ap₂ (λ (b : Bool) (l : List ℕ). page_of (pick b w a) p ++ l) (h p) (pages-same k1 k2 h a w n (suc p))

-- ---- one page after another

-- page 0 and the marked pages are kept
abbrev pub kept : List ℕ → ℕ → Bool
kept marks p = eqb p 0 || is_marked marks p

-- the pages below p are done, the others are as they were in w
pub record Done (a w marks : List ℕ) (l : List ℕ) (p : ℕ) : Type 0 where
  pub long : length l ≡ length w
  pub some : 1 ≤ p
  pub below : (q : ℕ) → q < p → page_of l q ≡ page_of (pick (kept marks q) w a) q
  pub above : (q : ℕ) → p ≤ q → page_of l q ≡ page_of w q

pub done_first : (a w marks : List ℕ) → Done a w marks w 1
done_first a w marks = record { long = refl; some = omega arith; below = λ q h. go q (omega arith); above = λ q h. refl }
  where
    go : (q : ℕ) → q ≡ 0 → page_of w q ≡ page_of (pick (kept marks q) w a) q
    go q e = rw (eq-eqb q 0 e)

module _ {a w marks l : List ℕ} {p : ℕ} (D : Done a w marks l p) where
  -- a page more, where it is now the one that it is to be
  more : (m : List ℕ) → length m ≡ length w → ((q : ℕ) → (q ≡ p → ⊥) → page_of m q ≡ page_of l q) → page_of m p ≡ page_of (pick (kept marks p) w a) p → Done a w marks m (p + 1)
  more m long other here =
      record { long = long; some = omega arith; below = λ q h. go q h (eqb q p) refl; above = λ q h. other q (λ e. omega arith) ∙ D.above q (omega arith) }
    where
      go : (q : ℕ) → q < p + 1 → (b : Bool) → eqb q p ≡ b → page_of m q ≡ page_of (pick (kept marks q) w a) q
      go q h true e = rw (eqb-true q p e) here
      go q h false e = let ne = eqb-false q p e in other q ne ∙ D.below q (omega (arith, ne))

  pub done-keep : (get_or marks p 0 ≡ 0 → ⊥) → Done a w marks l (p + 1)
  done-keep ne = more l D.long (λ q h. refl) (D.above p (omega arith) ∙ rw (ne_eqb p 0 (λ z. omega (arith, D.some)), ne_eqb (get_or marks p 0) 0 ne))

  pub done-back : length a ≡ length w → page_size * p + page_size ≤ length a → get_or marks p 0 ≡ 0 → (m : List ℕ) → m ≡ put_page l p (page_of a p) → Done a w marks m (p + 1)
  done-back same fits z m e =
      let g = page_of a p in
      let whole : length g ≡ page_size = length-page_of a p fits in
      let room : page_size * p + page_size ≤ length l = omega (arith, D.long) in
      more m (ap length e ∙ put-length l g p whole room ∙ D.long) (λ q ne. ap (λ (i : List ℕ). page_of i q) e ∙ put_other l g p whole room q (λ y. ne (sym y)))
      (ap (λ (i : List ℕ). page_of i p) e ∙ put_same l g p whole room ∙ rw (ne_eqb p 0 (λ z. omega (arith, D.some)), eq-eqb (get_or marks p 0) 0 z))

  pub done-spare : get_or marks p 0 ≡ 0 → page_of w p ≡ page_of a p → Done a w marks l (p + 1)
  done-spare z e = more l D.long (λ q h. refl) (D.above p (omega arith) ∙ e ∙ rw (ne_eqb p 0 (λ y. omega (arith, D.some)), eq-eqb (get_or marks p 0) 0 z))

  pub done_all : length a ≡ length w → length a ≡ page_size * page_count a → page_count a ≤ p → l ≡ pages_from (λ (q : ℕ). eqb q 0 || is_marked marks q) a w (page_count a) 0
  done_all same whole end =
      pages-whole (kept marks) a w (page_count a) 0 l (D.long ∙ sym same ∙ whole) (λ i less.
      let e : i ≡ 0 + i = omega arith in
      D.below i (omega arith) ∙ ap (λ (q : ℕ). page_of (pick (kept marks q) w a) q) e)

-- ---- the edited image

module _ (image work : List ℕ) (root : ℕ) (G : Good (page_count work) (record { image = work; root = root; free = [] })) (same : length image ≡ length work) where
  pub can-put-back : CanPutBack image work
  can-put-back =
      let k : page_count image ≡ page_count work = ap (λ (n : ℕ). n / page_size) same in
      let size : length work ≡ page_size * page_count work = G.size in
      record {
        same = same;
        whole = omega (arith, size, k, same);
        some = omega (arith, k, inside-range (page_count work) root (root-inside G));
        few = omega (arith, k, G.few);
      }

  pub word_fits : 8 + 8 ≤ length work
  word_fits = omega (arith, G.size, inside-range (page_count work) root (root-inside G))

  pub edited-is : (marks : List ℕ) → Marks marks (reached work root) → (w : List ℕ) → w ≡ pages_from (λ (q : ℕ). eqb q 0 || is_marked marks q) image work (page_count image) 0 →
      (x : List ℕ) → x ≡ splice w 8 (bytes_of 8 root) → (f : List ℕ) → x ≡ edited_image image (record { image = work; root = root; free = f })
  unfolding edited_image put_back
  edited-is marks m w e x g f =
      let k = pages-same (kept marks) (λ (q : ℕ). eqb q 0 || among q (reached work root)) (λ p. ap (λ (b : Bool). eqb p 0 || b) (m p)) image work (page_count image) 0 in
      g ∙ ap (λ (i : List ℕ). splice i 8 (bytes_of 8 root)) (e ∙ k)
