-- "10 now means a 29th record in the top page, and is shown never to occur, with at most 63 pages past page 0": where each page from the root down to a leaf has as many records as it may, a root of height 2 or more reaches 84 pages.
-- So an edit never asks for room above the root.
-- Assumes nothing.
use Prim.Native.Nat.{ℕ, zero, suc, ◌*◌, ◌≤◌, ◌<◌}
use mathlib.Core.Path.{◌≡◌, refl, ap}
use mathlib.Core.Bool.{Bool, true, false, ◌&&◌, and-false, true≢false}
use mathlib.Core.List.{List, [], ◌∷◌}
use native.Mathlib.Decide.{dec_lt}
use native.Mathlib.Omega.{arith}
use lib.ListN.{get_or, length, length-append}
use lib.Dec.{eqb, leb}
use borrow.Author.Tests.{leb-true, ne_eqb}
use Rattle.codec.proofs.Tests.{first, second}
use Rattle.page.specs.Layout.{Rec, rec_of}
use Rattle.page.specs.PageFormat.{PageFormat, Rules}
use Rattle.image.specs.Facts.{Spans, Under}
use Rattle.image.specs.Image.{child_of, first_key, gathered, height_in, joined, pages_in, records_at, count}
use Rattle.image.specs.Route.{route}
use Rattle.image.proofs.Ranges.{joined-append}
use Rattle.edit.specs.EditList.{Edit, key_of}
use Rattle.tree.specs.Edits.{PageStep, absorbed, edit_in, edited_in, low_of, only_leaf, onto, rooted}
use Rattle.tree.specs.Good.{GoodIn, inside}
use Rattle.tree.specs.Grounds.{full_in, next_page, next_slot, overflows}
use Rattle.tree.specs.State.{State}
use Rattle.tree.proofs.Height.{tallest-top}
use Rattle.tree.proofs.Counts.{inside-few}
use Rattle.tree.proofs.Routes.{belongs, belongs-spans}

module _ (Pg : PageFormat) where
  -- ---- how many pages lie under a page

  pages-some : (img : List ℕ) (h q : ℕ) → 1 ≤ length (pages_in Pg img h q)
  unfolding pages_in gathered
  pages-some img zero q = omega arith
  pages-some img (suc h) q = omega arith

  -- a page for each record
  joined-least : (img : List ℕ) (h : ℕ) (cs : List Rec) → length cs ≤ length (joined (λ y. pages_in Pg img h y) cs)
  joined-least img h [] = omega arith
  joined-least img h (c ∷ cs) =
      omega (arith, length-append (pages_in Pg img h (child_of c)) (joined (λ y. pages_in Pg img h y) cs), pages-some img h (child_of c), joined-least img h cs)

  pages-under : (img : List ℕ) (h q : ℕ) → length (pages_in Pg img (suc h) q) ≡ suc (length (joined (λ y. pages_in Pg img h y) (records_at Pg img q)))
  unfolding pages_in gathered
  pages-under img h q = refl

  -- two for each record of a page above index pages, since an index page names a leaf
  joined-two : (img : List ℕ) (h lo : ℕ) (cs : List Rec) (hi : ℕ) → Spans (λ a b x. Under Pg img (suc h) a b x) lo cs hi → 2 * length cs ≤ length (joined (λ y. pages_in Pg img (suc h) y) cs)
  joined-two img h lo [] hi s = omega arith
  joined-two img h lo (c ∷ cs) hi s =
      omega (
        arith,
        length-append (pages_in Pg img (suc h) (child_of c)) (joined (λ y. pages_in Pg img (suc h) y) cs),
        pages-under img h (child_of c),
        joined-least img h (records_at Pg img (child_of c)),
        s.0.1.0,
        joined-two img h (first_key cs hi) cs hi s.1,
      )

  module _ (k : ℕ) (img : List ℕ) where
    -- a page with as many records as it may, and the page below it
    full-here : (h q : ℕ) → full_in Pg k img (suc h) q ≡ true → (Pg.cap ≤ length (records_at Pg img q)) × (full_in Pg k img h (next_page Pg k img q) ≡ true)
    unfolding full_in
    full-here h q f =
        let here = leb Pg.cap (length (records_at Pg img q)) in
        let below = full_in Pg k img h (next_page Pg k img q) in
        (leb-true Pg.cap (length (records_at Pg img q)) (first here below f), second here below f)

    full-one : (h q : ℕ) → full_in Pg k img (suc h) q ≡ true → suc Pg.cap ≤ length (pages_in Pg img (suc h) q)
    full-one h q f = omega (arith, pages-under img h q, joined-least img h (records_at Pg img q), (full-here h q f).0)

    full-two : (h lo hi q : ℕ) → Under Pg img (suc (suc h)) lo hi q → full_in Pg k img (suc (suc h)) q ≡ true → 3 * Pg.cap ≤ length (pages_in Pg img (suc (suc h)) q)
    unfolding next_page next_slot
    full-two h lo hi q u f =
        let b = belongs Pg k img (suc h) lo hi q u in
        let under : ℕ → List ℕ = λ y. pages_in Pg img (suc h) y in
        let s = belongs-spans Pg k img (suc h) lo hi q u in
        omega (
          arith,
          pages-under img (suc h) q,
          ap (λ (l : List Rec). length (joined under l)) b.shape,
          ap length b.shape,
          length-append b.before (b.own ∷ b.later),
          ap length (joined-append under b.before (b.own ∷ b.later)),
          length-append (joined under b.before) (joined under (b.own ∷ b.later)),
          length-append (under (child_of b.own)) (joined under b.later),
          joined-two img h lo b.before (first_key (b.own ∷ b.later) hi) s.0,
          joined-two img h (first_key b.later hi) b.later hi s.1.1,
          full-one h (next_page Pg k img q) (full-here (suc h) q f).1,
          (full-here (suc h) q f).0,
        )

    -- the pages are at most 63
    never-full : (Rules Pg) → (n h lo hi q : ℕ) → n ≤ 64 → Under Pg img h lo hi q → ((x : ℕ) → count x (pages_in Pg img h q) ≤ inside n x) → 2 ≤ h → full_in Pg k img h q ≡ false
    never-full rules n zero lo hi q few u apart two = absurd (omega arith)
    never-full rules n (suc zero) lo hi q few u apart two = absurd (omega arith)
    never-full rules n (suc (suc h)) lo hi q few u apart two = go (full_in Pg k img (suc (suc h)) q) refl
      where
        go : (b : Bool) → full_in Pg k img (suc (suc h)) q ≡ b → b ≡ false
        go true f = absurd (omega (arith, few, rules.cap-least, full-two h lo hi q u f, inside-few n (pages_in Pg img (suc (suc h)) q) apart))
        go false f = refl

-- ---- an edit

none-more : (x y z : Bool) → (x && y) ≡ false → (x && (y && z)) ≡ false
none-more true y z e = rw e refl
none-more false y z e = refl

module _ (Pg : PageFormat) (rules : Rules Pg) (keep : ℕ → Pg.Keep) where
  -- where a page above the leaf has room, it makes no difference whether the pages above all of these have
  roomy : (only : Bool) (e : Edit) (st : State) (full : Bool) (h lo q : ℕ) → (full && full_in Pg (key_of e) st.image h q) ≡ false →
      edit_in Pg keep only full e h lo q st ≡ edit_in Pg keep only false e h lo q st
  unfolding edit_in full_in next_page next_slot
  roomy only e st false h lo q z = refl
  roomy only e st true zero lo q z = absurd (true≢false z)
  roomy only e st true (suc h) lo q z =
      let cs = records_at Pg st.image q in
      let i = route (key_of e) cs in
      let c = get_or cs i (rec_of 0 []) in
      let low = low_of i lo c.key in
      ap (λ (s : PageStep). onto s (λ x t. absorbed Pg keep (suc (suc h)) i low q x t)) (roomy only e st (leb Pg.cap (length cs)) h low (child_of c) z)

  module _ (n : ℕ) (st : State) (G : GoodIn Pg n st) (e : Edit) where
    abbrev h : ℕ
    h = height_in Pg st.image st.root

    pub never : 2 ≤ height_in Pg st.image st.root → full_in Pg (key_of e) st.image (height_in Pg st.image st.root) st.root ≡ false
    never = never-full Pg (key_of e) st.image rules n h _ _ st.root G.few G.under (λ x. omega (arith, G.apart x))

    -- a root that may not be taller is one of height 2 or more
    flag-none : (most : ℕ) → 2 ≤ most → (eqb (height_in Pg st.image st.root) most && full_in Pg (key_of e) st.image (height_in Pg st.image st.root) st.root) ≡ false
    flag-none most two = go (dec_lt 1 h)
      where
        go : Dec (1 < h) → (eqb h most && full_in Pg (key_of e) st.image h st.root) ≡ false
        go (yes l) = rw (never (omega arith)) (and-false (eqb h most))
        go (no l) = rw (ne_eqb h most (λ z. omega arith)) refl

    -- "10 .. is shown never to occur"
    pub never-overflows : overflows Pg keep e st ≡ false
    unfolding overflows
    never-overflows = none-more (eqb h _) _ _ (flag-none _ (omega (arith, tallest-top)))

    -- the edit asks no page above the root for room
    pub edited-plain : edited_in Pg keep e st ≡ rooted Pg (height_in Pg st.image st.root)
        (edit_in Pg keep (only_leaf Pg st.image (height_in Pg st.image st.root) st.root) false e (height_in Pg st.image st.root) 0 st.root st)
    unfolding edited_in
    edited-plain = ap (λ (s : PageStep). rooted Pg h s) (roomy (only_leaf Pg st.image h st.root) e st _ h 0 st.root (flag-none _ (omega (arith, tallest-top))))
