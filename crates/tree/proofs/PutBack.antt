-- The edited image page by page: page 0 but for the root word, the pages that the new tree reaches, and all others as they were before.
-- Assumes nothing.
use Prim.Native.Nat.{ℕ, zero, suc, ◌+◌, ◌*◌, ◌/◌, ◌%◌, ◌≤◌, ◌<◌}
use mathlib.Core.Path.{◌≡◌, refl, sym, ap, ◌∙◌}
use mathlib.Core.Bool.{Bool, true, false, ◌||◌, or-true}
use mathlib.Core.List.{List, ◌++◌}
use native.Mathlib.Omega.{arith}
use native.Mathlib.Nat.{not-suc-le-zero}
use lib.ListN.{length, get_or, take, drop, length-append}
use lib.Seq.{take_at, drop-append-add}
use lib.Dec.{eqb}
use borrow.Author.Tests.{ne_eqb}
use Rattle.codec.specs.Lists.{part, pick}
use Rattle.codec.specs.Numbers.{bytes_of}
use Rattle.codec.proofs.Lists.{get_or-part, length-splice, part-splice-same, part-splice-above, part-splice-below}
use Rattle.codec.proofs.Numbers.{length-bytes_of, number-back}
use Rattle.page.specs.Layout.{page_size}
use Rattle.page.specs.Operations.{page_of}
use Rattle.page.proofs.Images.{length-page_of}
use Rattle.image.specs.PageZero.{page_count, root_of}
use Rattle.image.specs.Image.{reached, among}
use Rattle.image.proofs.General.{part-part}
use Rattle.edit.proofs.General.{by-test}
use Rattle.tree.specs.State.{State}
use Rattle.tree.specs.Whole.{pages_from, put_back, edited_image}

-- a byte of an image by its page
pub byte-page : (l : List ℕ) (i : ℕ) → get_or l i 0 ≡ get_or (page_of l (i / page_size)) (i % page_size) 0
unfolding page_of
byte-page l i =
    let e : i ≡ page_size * (i / page_size) + i % page_size = omega arith in
    ap (λ (x : ℕ). get_or l x 0) e ∙ sym (get_or-part l (page_size * (i / page_size)) page_size (i % page_size) (omega arith))

-- ---- pages end to end

front-page : (x rest : List ℕ) → length x ≡ page_size → page_of (x ++ rest) 0 ≡ x
unfolding page_of part
front-page x rest h = take_at x rest page_size h

next-page : (x rest : List ℕ) (i : ℕ) → length x ≡ page_size → page_of (x ++ rest) (suc i) ≡ page_of rest i
unfolding page_of part
next-page x rest i h =
    let e : page_size * suc i ≡ length x + page_size * i = omega arith in
    ap (take page_size) (ap (λ (k : ℕ). drop k (x ++ rest)) e ∙ drop-append-add x rest (page_size * i))

module _ (keep : ℕ → Bool) (a w : List ℕ) where
  -- the images have the n pages from p on
  abbrev Long : ℕ → ℕ → Type 0
  Long n p = (page_size * (p + n) ≤ length a) × (page_size * (p + n) ≤ length w)

  chosen-length : (n p : ℕ) → Long (suc n) p → length (page_of (pick (keep p) w a) p) ≡ page_size
  chosen-length n p h =
      by-test (λ (l : List ℕ). length (page_of l p) ≡ page_size) (keep p) (λ e. length-page_of w p (omega (arith, h.1))) (λ e. length-page_of a p (omega (arith, h.0)))

  shift : (n p : ℕ) → Long (suc n) p → Long n (suc p)
  shift n p h = (omega (arith, h.0), omega (arith, h.1))

  pages-length : (n p : ℕ) → Long n p → length (pages_from keep a w n p) ≡ page_size * n
  unfolding pages_from
  pages-length zero p h = refl
  pages-length (suc n) p h =
      length-append (page_of (pick (keep p) w a) p) (pages_from keep a w n (suc p)) ∙ omega (arith, chosen-length n p h, pages-length n (suc p) (shift n p h))

  pages-at : (n p i : ℕ) → Long n p → i < n → page_of (pages_from keep a w n p) i ≡ page_of (pick (keep (p + i)) w a) (p + i)
  unfolding pages_from
  pages-at zero p i h k = absurd (not-suc-le-zero k)
  pages-at (suc n) p zero h k =
      let e : p ≡ p + 0 = omega arith in
      front-page (page_of (pick (keep p) w a) p) (pages_from keep a w n (suc p)) (chosen-length n p h) ∙ ap (λ (x : ℕ). page_of (pick (keep x) w a) x) e
  pages-at (suc n) p (suc i) h k =
      let e : suc p + i ≡ p + suc i = omega arith in
      next-page (page_of (pick (keep p) w a) p) (pages_from keep a w n (suc p)) i (chosen-length n p h)
      ∙ pages-at n (suc p) i (shift n p h) (omega arith)
      ∙ ap (λ (x : ℕ). page_of (pick (keep x) w a) x) e

-- ---- the edited image

-- the image a has n pages, and st is a state that edits lead to
pub record Ended (a : List ℕ) (n : ℕ) (st : State) : Type 0 where
  pub size : length a ≡ page_size * n
  pub some : 1 ≤ n
  pub long : length st.image ≡ length a
  pub small : st.root < 65536
  pub zero : page_of st.image 0 ≡ page_of a 0

module _ (a : List ℕ) (n : ℕ) (st : State) (E : Ended a n st) where
  open E use {size, some, long, small}

  -- page 0 and the pages that the new tree reaches
  abbrev kept : ℕ → Bool
  kept p = eqb p 0 || among p (reached st.image st.root)

  pages : page_count a ≡ n
  pages = omega arith

  back-length : length (put_back a st) ≡ page_size * n
  unfolding put_back
  back-length = pages-length kept _ _ (page_count a) 0 (omega arith, omega arith) ∙ ap (λ (k : ℕ). page_size * k) pages

  fits : 8 + length (bytes_of 8 st.root) ≤ length (put_back a st)
  fits = omega (arith, back-length, length-bytes_of 8 st.root)

  pub edited-length : length (edited_image a st) ≡ length a
  unfolding edited_image
  edited-length = length-splice (put_back a st) 8 (bytes_of 8 st.root) fits ∙ back-length ∙ sym size

  pub edited-root : root_of (edited_image a st) ≡ st.root
  unfolding edited_image root_of
  edited-root = number-back (put_back a st) 8 8 st.root (omega (arith, back-length)) (omega arith)

  back-page : (q : ℕ) → q < n → page_of (put_back a st) q ≡ page_of (pick (eqb q 0 || among q (reached st.image st.root)) st.image a) q
  unfolding put_back
  back-page q h =
      let e : 0 + q ≡ q = omega arith in
      pages-at kept a st.image (page_count a) 0 q (omega arith, omega arith) (omega arith) ∙ ap (λ (x : ℕ). page_of (pick (kept x) st.image a) x) e

  edited-page : (q : ℕ) → 1 ≤ q → page_of (edited_image a st) q ≡ page_of (put_back a st) q
  unfolding edited_image page_of
  edited-page q h = part-splice-above (put_back a st) 8 (bytes_of 8 st.root) fits (page_size * q) page_size (omega (arith, length-bytes_of 8 st.root))

  pub edited-reached : (q : ℕ) → 1 ≤ q → q < n → among q (reached st.image st.root) ≡ true → page_of (edited_image a st) q ≡ page_of st.image q
  edited-reached q low high h = edited-page q low ∙ back-page q high ∙ rw (h, or-true (eqb q 0))

  pub edited-other : (q : ℕ) → 1 ≤ q → q < n → among q (reached st.image st.root) ≡ false → page_of (edited_image a st) q ≡ page_of a q
  edited-other q low high h = edited-page q low ∙ back-page q high ∙ rw (h, ne_eqb q 0 (λ e. omega arith))

  -- page 0, but for the root word
  back-zero : part (put_back a st) 0 page_size ≡ part a 0 page_size
  unfolding page_of
  back-zero = back-page 0 some ∙ E.zero

  back-part : (o m : ℕ) → o + m ≤ page_size → part (put_back a st) o m ≡ part a o m
  back-part o m h =
      let e : 0 + o ≡ o = omega arith in
      ap (λ (k : ℕ). part (put_back a st) k m) (sym e)
      ∙ sym (part-part (put_back a st) 0 page_size o m h)
      ∙ ap (λ (l : List ℕ). part l o m) back-zero
      ∙ part-part a 0 page_size o m h
      ∙ ap (λ (k : ℕ). part a k m) e

  pub edited-mark : part (edited_image a st) 0 8 ≡ part a 0 8
  unfolding edited_image
  edited-mark = part-splice-below (put_back a st) 8 (bytes_of 8 st.root) fits 0 8 (omega arith) ∙ back-part 0 8 (omega arith)

  pub edited-word : part (edited_image a st) 8 8 ≡ bytes_of 8 st.root
  unfolding edited_image
  edited-word = part-splice-same (put_back a st) 8 (bytes_of 8 st.root) fits 8 (length-bytes_of 8 st.root)

  pub edited-past : (o m : ℕ) → 16 ≤ o → o + m ≤ page_size → part (edited_image a st) o m ≡ part a o m
  unfolding edited_image
  edited-past o m low h =
      part-splice-above (put_back a st) 8 (bytes_of 8 st.root) fits o m (omega (arith, length-bytes_of 8 st.root)) ∙ back-part o m h
