-- The pages that an edit takes, by the content starts of the pages on its way and their numbers of records; and when a 29th record of the top page is refused.
-- Assumes nothing.
use Prim.Native.Nat.{ℕ, zero, suc, ◌+◌, ◌-◌, ◌*◌, ◌≤◌, ◌<◌}
use mathlib.Core.Path.{◌≡◌, refl, sym, ap, ◌∙◌, subst}
use mathlib.Core.Bool.{Bool, true, false, ◌&&◌, not, or-true}
use mathlib.Core.List.{List}
use native.Mathlib.Omega.{arith}
use lib.ListN.{length, replicate}
use lib.Dec.{eqb, leb}
use borrow.Author.Tests.{eq-eqb, eqb-true, ne_eqb, leb-true, leb-false, le-leb, lt-leb}
use Rattle.codec.specs.Lists.{pick}
use Rattle.codec.proofs.Tests.{first, second, both}
use Rattle.page.specs.Layout.{page_size, line_size, slot_count, Rec, rec_of, size, read_head}
use Rattle.page.specs.Operations.{page_of, fits_page}
use Rattle.page.specs.PageFormat.{format1, total}
use Rattle.image.specs.Image.{entry_size, children, height_in, height_of, tallest}
use Rattle.edit.specs.EditList.{Edit, insert, update, delete, key_of}
use Rattle.edit.proofs.General.{by-test}
use Rattle.tree.specs.State.{State}
use Rattle.tree.specs.Edits.{is_full, no_keep}
use Rattle.tree.specs.Grounds.{next_slot, next_page, leaf_under, full_in, takes, leaf_takes, first_takes, room_after, second_takes, takes_above, raised_above, raised_in, takes_in, takes_edit, overflows, leaf_of}
use Rattle.tree.specs.Reasons.{TakesAbove, none-new, one-stays, one-copies, two-stay, two-copy, two-split, copied-split, TakesOnWay, PagesFor, TopFull}

-- ---- a leaf takes at most two

takes-most : (ins : Bool) (s : ℕ) (p : List ℕ) (rs : List Rec) → takes format1 tt ins s p rs ≤ 2
unfolding takes
takes-most ins s p rs = by-test (λ (k : ℕ). k ≤ 2) (is_full format1 tt ins s p) (λ e. by-test (λ (k : ℕ). k ≤ 2) (fits_page rs) (λ f. omega arith) (λ f. omega arith)) (λ e. omega arith)

pub leaf-takes-most : (e : Edit) (p : List ℕ) → leaf_takes format1 tt e p ≤ 2
unfolding leaf_takes
leaf-takes-most (insert k v) p = takes-most true (size (rec_of k v)) p _
leaf-takes-most (update k v) p = takes-most false (size (rec_of k v)) p _
leaf-takes-most (delete k) p = omega arith

-- ---- a page above the leaves: a is its content start, m the number of its records, i the slot of the one that is replaced

-- the room of a new page
total-entries : (m : ℕ) → total (replicate m entry_size) ≡ entry_size * m
unfolding total
total-entries zero = refl
total-entries (suc m) = omega (arith, total-entries m)

first_fits : (a : ℕ) → entry_size ≤ a - line_size → first_takes format1 a ≡ 0
unfolding first_takes
first_fits a h = rw (le-leb entry_size (a - line_size) h) refl

first_less : (a : ℕ) → a - line_size < entry_size → first_takes format1 a ≡ 1
unfolding first_takes
first_less a h = rw (lt-leb entry_size (a - line_size) h) refl

after_fits : (a i m : ℕ) → entry_size ≤ a - line_size → room_after format1 a i m ≡ a - entry_size
unfolding room_after
after_fits a i m h = rw (le-leb entry_size (a - line_size) h) refl

after_less : (a i m : ℕ) → a - line_size < entry_size → room_after format1 a i m ≡ page_size - entry_size * m
unfolding room_after
after_less a i m h = rw (lt-leb entry_size (a - line_size) h) (ap (λ (n : ℕ). page_size - n) (total-entries m))

second_fits : (j m : ℕ) → m < slot_count → entry_size ≤ j - line_size → second_takes format1 j m ≡ 0
unfolding second_takes
second_fits j m f h = rw (lt-leb slot_count m f, le-leb entry_size (j - line_size) h) refl

second_less : (j m : ℕ) → m < slot_count → j - line_size < entry_size → second_takes format1 j m ≡ 1
unfolding second_takes
second_less j m f h = rw (lt-leb slot_count m f, lt-leb entry_size (j - line_size) h) refl

second_full : (j m : ℕ) → slot_count ≤ m → second_takes format1 j m ≡ 2
unfolding second_takes
second_full j m f = rw (le-leb slot_count m f, or-true (not (leb entry_size (j - line_size)))) refl

abbrev Is : ℕ → ℕ → ℕ → ℕ → ℕ → ℕ → Type 0
Is a i m w x r = (takes_above format1 a i m w ≡ x) × (raised_above format1 a i m w ≡ r)

pub above-is : (a i m w x r : ℕ) → TakesAbove a m w x r → Is a i m w x r
unfolding takes_above raised_above
above-is a i m _ _ _ none-new = (refl, refl)
above-is a i m _ _ _ (one-stays h) = rw (first_fits a h) (refl, refl)
above-is a i m _ _ _ (one-copies h) = rw (first_less a h) (refl, refl)
above-is a i m _ _ _ (two-stay f h) = rw (first_fits a (omega arith), after_fits a i m (omega arith), second_fits (a - entry_size) m f (omega arith)) (refl, refl)
above-is a i m _ _ _ (two-copy f h) = go (leb entry_size (a - line_size)) refl
  where
    go : (b : Bool) → leb entry_size (a - line_size) ≡ b → Is a i m 2 1 1
    go true e = let k = leb-true entry_size (a - line_size) e in rw (first_fits a k, after_fits a i m k, second_less (a - entry_size) m f (omega arith)) (refl, refl)
    go false e =
        let k = leb-false entry_size (a - line_size) e in
        rw (first_less a k, after_less a i m k, second_fits (page_size - entry_size * m) m f (omega arith)) (refl, refl)
above-is a i m _ _ _ (two-split f h) = rw (first_fits a h, second_full (room_after format1 a i m) m f) (refl, refl)
above-is a i m _ _ _ (copied-split f h) = rw (first_less a h, second_full (room_after format1 a i m) m f) (refl, refl)

-- one of the cases holds
above-some : (a m w : ℕ) → w ≤ 2 → (x : ℕ) × (r : ℕ) × TakesAbove a m w x r
above-some a m zero h = (0, 0, none-new)
above-some a m (suc zero) h = go (leb entry_size (a - line_size)) refl
  where
    go : (b : Bool) → leb entry_size (a - line_size) ≡ b → (x : ℕ) × (r : ℕ) × TakesAbove a m 1 x r
    go true e = (0, 0, one-stays (leb-true entry_size (a - line_size) e))
    go false e = (1, 1, one-copies (leb-false entry_size (a - line_size) e))
above-some a m (suc (suc zero)) h = go (leb slot_count m) refl
  where
    Some : Type 0
    Some = (x : ℕ) × (r : ℕ) × TakesAbove a m 2 x r

    few : m < slot_count → (b : Bool) → leb (entry_size * 2) (a - line_size) ≡ b → Some
    few f true e = (0, 0, two-stay f (leb-true (entry_size * 2) (a - line_size) e))
    few f false e = (1, 1, two-copy f (leb-false (entry_size * 2) (a - line_size) e))

    many : slot_count ≤ m → (b : Bool) → leb entry_size (a - line_size) ≡ b → Some
    many f true e = (2, 2, two-split f (leb-true entry_size (a - line_size) e))
    many f false e = (3, 2, copied-split f (leb-false entry_size (a - line_size) e))

    go : (b : Bool) → leb slot_count m ≡ b → Some
    go true e = many (leb-true slot_count m e) (leb (entry_size) (a - line_size)) refl
    go false e = few (leb-false slot_count m e) (leb (entry_size * 2) (a - line_size)) refl
above-some a m (suc (suc (suc w))) h = absurd (omega arith)

above-most : (a m w x r : ℕ) → TakesAbove a m w x r → r ≤ 2
above-most a m _ _ _ none-new = omega arith
above-most a m _ _ _ (one-stays h) = omega arith
above-most a m _ _ _ (one-copies h) = omega arith
above-most a m _ _ _ (two-stay f h) = omega arith
above-most a m _ _ _ (two-copy f h) = omega arith
above-most a m _ _ _ (two-split f h) = omega arith
above-most a m _ _ _ (copied-split f h) = omega arith

above-takes : (a i m w : ℕ) → w ≤ 2 → TakesAbove a m w (takes_above format1 a i m w) (raised_above format1 a i m w)
above-takes a i m w h =
    let S = above-some a m w h in
    let e = above-is a i m w S.0 S.1 S.2 in
    subst (λ (x : ℕ). TakesAbove a m w x (raised_above format1 a i m w)) (sym e.0) (subst (λ (r : ℕ). TakesAbove a m w S.0 r) (sym e.1) S.2)

-- ---- the pages on the way to the leaf of the edit e

module _ (e : Edit) (img : List ℕ) where
  abbrev under : ℕ → ℕ → ℕ
  under h q = takes_in format1 no_keep e img h q

  abbrev raised : ℕ → ℕ → ℕ
  raised h q = raised_in format1 no_keep e img h q

  way-is : (w h q n r : ℕ) → leaf_takes format1 tt e (page_of img (leaf_under format1 (key_of e) img h q)) ≡ w → TakesOnWay (key_of e) img w h q n r →
      (takes_in format1 no_keep e img h q ≡ n) × (raised_in format1 no_keep e img h q ≡ r)
  unfolding takes_in raised_in leaf_under children
  way-is w zero q n r z T = (z ∙ sym T.0, z ∙ sym T.1)
  way-is w (suc h) q n r z T = go (way-is w h (next_page format1 (key_of e) img q) T.under T.new z T.below)
    where
      a : ℕ
      a = (read_head (page_of img q)).start

      i : ℕ
      i = next_slot format1 (key_of e) img q

      go : (under h (next_page format1 (key_of e) img q) ≡ T.under) × (raised h (next_page format1 (key_of e) img q) ≡ T.new) →
          (under (suc h) q ≡ n) × (raised (suc h) q ≡ r)
      go R =
          let A = above-is a i (length (children img q)) T.new T.here r T.takes in
          rw (R.0, R.1) (ap (λ (x : ℕ). T.under + x) A.0 ∙ sym T.sum, A.1)

  way-most : (w h q n r : ℕ) → w ≤ 2 → TakesOnWay (key_of e) img w h q n r → r ≤ 2
  way-most w zero q n r h T = omega (arith, T.1)
  way-most w (suc h) q n r k T = above-most _ _ T.new T.here r T.takes

  -- the pages on the way take so many
  way-takes : (w h q : ℕ) → w ≤ 2 → leaf_takes format1 tt e (page_of img (leaf_under format1 (key_of e) img h q)) ≡ w →
      TakesOnWay (key_of e) img w h q (takes_in format1 no_keep e img h q) (raised_in format1 no_keep e img h q)
  unfolding takes_in raised_in leaf_under children
  way-takes w zero q k z = (z, z)
  way-takes w (suc h) q k z =
      let c = next_page format1 (key_of e) img q in
      let T = way-takes w h c k z in
      record {
        under = under h c;
        new = raised h c;
        here = takes_above format1 (read_head (page_of img q)).start (next_slot format1 (key_of e) img q) (length (children img q)) (raised h c);
        below = T;
        takes = above-takes (read_head (page_of img q)).start (next_slot format1 (key_of e) img q) (length (children img q)) (raised h c) (way-most w h c (under h c) (raised h c) k T);
        sum = refl;
      }

-- ---- the edit

module _ (st : State) (e : Edit) where
  -- the pages that the leaf needs
  abbrev pub needs : ℕ
  needs = leaf_takes format1 tt e (leaf_of st (key_of e))

  abbrev h : ℕ
  h = height_of st.image st.root

  is-two : (r : ℕ) → 2 ≤ r → r ≤ 2 → ◌≡◌ {A = ℕ} (pick (eqb r 2) 1 0) 1
  is-two r low high = rw (eq-eqb r 2 (omega arith)) refl

  not-two : (r : ℕ) → r < 2 → ◌≡◌ {A = ℕ} (pick (eqb r 2) 1 0) 0
  not-two r low = rw (ne_eqb r 2 (λ z. omega arith)) refl

  pub pages-for : (w : ℕ) → needs ≡ w → PagesFor st (key_of e) w (takes_edit format1 no_keep e st)
  unfolding takes_edit leaf_of
  pages-for w z =
      let most : w ≤ 2 = omega (arith, z, leaf-takes-most e (leaf_of st (key_of e))) in
      let T = way-takes e st.image w h st.root most z in
      let few = way-most e st.image w h st.root _ (raised e st.image h st.root) most T in
      record {
        under = under e st.image h st.root;
        new = raised e st.image h st.root;
        way = T;
        stays = λ k. omega (arith, not-two (raised e st.image h st.root) k);
        grows = λ k. omega (arith, is-two (raised e st.image h st.root) k few);
      }

  pub pages-are : (w n : ℕ) → needs ≡ w → PagesFor st (key_of e) w n → takes_edit format1 no_keep e st ≡ n
  unfolding takes_edit leaf_of
  pages-are w n z P =
      let most : w ≤ 2 = omega (arith, z, leaf-takes-most e (leaf_of st (key_of e))) in
      let R = way-is e st.image w h st.root P.under P.new z P.way in
      let few = way-most e st.image w h st.root P.under P.new most P.way in
      rw (R.0, R.1) (go P.new refl few)
    where
      go : (r : ℕ) → P.new ≡ r → r ≤ 2 → P.under + pick (eqb r 2) 1 0 ≡ n
      go zero x k = omega (arith, P.stays (omega arith))
      go (suc zero) x k = omega (arith, P.stays (omega arith))
      go (suc (suc zero)) x k = omega (arith, P.grows (omega arith))
      go (suc (suc (suc r))) x k = absurd (omega arith)

  -- a leaf that takes none leaves the pages above as they are
  pub pages-none : PagesFor st (key_of e) 0 0
  pages-none = record { under = 0; new = 0; way = none h st.root; stays = λ k. refl; grows = λ k. absurd (omega arith) }
    where
      none : (h q : ℕ) → TakesOnWay (key_of e) st.image 0 h q 0 0
      none zero q = (refl, refl)
      none (suc h) q = record { under = 0; new = 0; here = 0; below = none h _; takes = none-new; sum = refl }

  -- "a 29th record in the top page"
  abbrev pub top_full : Bool
  top_full = eqb (height_in format1 st.image st.root) tallest && full_in format1 (key_of e) st.image (height_in format1 st.image st.root) st.root

  full-two : full_in format1 (key_of e) st.image 2 st.root ≡ (leb slot_count (length (children st.image st.root)) && (leb slot_count (length (children st.image (next_page format1 (key_of e) st.image st.root))) && true))
  unfolding full_in children
  full-two = refl

  pub top-full : top_full ≡ true → TopFull st (key_of e)
  top-full z =
      let tall = eqb-true h 2 (first (eqb h 2) (full_in format1 (key_of e) st.image h st.root) z) in
      let f = sym full-two ∙ ap (λ (x : ℕ). full_in format1 (key_of e) st.image x st.root) (sym tall) ∙ second (eqb h 2) (full_in format1 (key_of e) st.image h st.root) z in
      let a = leb slot_count (length (children st.image st.root)) in
      let b = leb slot_count (length (children st.image (next_page format1 (key_of e) st.image st.root))) in
      record {
        tall = tall;
        top = leb-true slot_count (length (children st.image st.root)) (first a (b && true) f);
        index = leb-true slot_count (length (children st.image (next_page format1 (key_of e) st.image st.root))) (first b true (second a (b && true) f));
      }

  pub full-top : TopFull st (key_of e) → top_full ≡ true
  full-top T =
      rw T.tall (full-two ∙ both (le-leb slot_count (length (children st.image st.root)) T.top) (both (le-leb slot_count (length (children st.image (next_page format1 (key_of e) st.image st.root))) T.index) refl))

  pub overflows-is : overflows format1 no_keep e st ≡ (top_full && eqb needs 2)
  unfolding overflows leaf_of
  overflows-is = assoc (eqb h tallest) (full_in format1 (key_of e) st.image h st.root) (eqb needs 2)
    where
      assoc : (a b c : Bool) → (a && (b && c)) ≡ ((a && b) && c)
      assoc true b c = refl
      assoc false b c = refl
