-- The ground of an edit case by case: 8, 9, 10 and 11 exactly where the documents say so, and none where the edit is made.
-- Assumes nothing.
use Prim.Native.Nat.{ℕ, zero, suc}
use mathlib.Core.Path.{◌≡◌, refl, sym, ◌∙◌, subst}
use mathlib.Core.Bool.{Bool, true, false, ◌&&◌, and-false, true≢false}
use mathlib.Core.List.{List}
use native.Mathlib.Omega.{arith}
use lib.ListN.{length}
use lib.Dec.{eqb, ltb}
use borrow.Author.Tests.{ne_eqb, ltb-true, ltb-false, lt-ltb, le-ltb}
use Rattle.codec.specs.Lists.{pick}
use Rattle.page.specs.Layout.{Rec, rec_of, size}
use Rattle.page.specs.Page.{records}
use Rattle.page.specs.Operations.{fits_page}
use Rattle.page.specs.PageFormat.{format1}
use Rattle.page.proofs.Totals.{one-page, two-pages, not-one, page-one}
use Rattle.edit.specs.EditList.{Edit, insert, update, delete, key_of}
use Rattle.edit.specs.Ledger.{add, replace}
use Rattle.edit.specs.Keys.{key_rule, Kept}
use Rattle.edit.proofs.General.{by-test}
use Rattle.edit.proofs.Keys.{kept_rule, broken-rule, broken-some, Ruled, rule-says}
use Rattle.edit.proofs.Keys as rules
use Rattle.tree.specs.State.{State}
use Rattle.tree.specs.Edits.{no_keep}
use Rattle.tree.specs.Grounds.{takes, leaf_takes, takes_edit, placing_in, table_of, leaf_of, placing, edit_ground}
use Rattle.tree.specs.Reasons.{Full, TopFull, Room, in_place, copied, no_copy, no_index, split, no-split, Reason, broken, inserted, updated, deleted}
use Rattle.tree.proofs.Exact.{ground-is, ground-placed}
use Rattle.tree.proofs.Pages.{full-exact, full_test, test-full, test-room, full-test, room-test}
use Rattle.tree.proofs.PagesTaken.{needs, leaf-takes-most, pages-for, pages-are, pages-none, top_full, top-full, full-top, overflows-is}

module _ (st : State) (e : Edit) where
  abbrev k : ℕ
  k = key_of e

  abbrev free : ℕ
  free = length st.free

  -- the pages that it takes
  abbrev n : ℕ
  n = takes_edit format1 no_keep e st

  -- ---- the ground of a leaf that needs w pages

  -- 11 where fewer pages are free than it takes
  abbrev too_few : ℕ
  too_few = pick (ltb (length st.free) (takes_edit format1 no_keep e st)) 11 0

  unfoldable by_need : ℕ → ℕ
  by_need zero = 0
  by_need (suc zero) = too_few
  by_need (suc (suc w)) = pick (top_full st e) 10 too_few

  place-by-need : placing st e ≡ by_need (needs st e)
  unfolding placing_in by_need
  place-by-need = rw (overflows-is st e) (go (needs st e) refl)
    where
      go : (w : ℕ) → needs st e ≡ w → pick (top_full st e && eqb w 2) 10 too_few ≡ by_need w
      go zero q = rw (and-false (top_full st e), pages-are st e 0 0 q (pages-none st e), le-ltb free 0 (omega arith))
      go (suc zero) q = rw (and-false (top_full st e))
      go (suc (suc zero)) q = both (top_full st e)
        where
          both : (b : Bool) → ◌≡◌ {A = ℕ} (pick (b && true) 10 too_few) (pick b 10 too_few)
          both true = refl
          both false = refl
      go (suc (suc (suc w))) q = absurd (omega (arith, leaf-takes-most e (leaf_of st (key_of e))))

  -- ---- a record of size s that goes into the leaf p, whose records are then rs

  module _ (ins : Bool) (s : ℕ) (p : List ℕ) (rs : List Rec) (is : leaf_takes format1 tt e (leaf_of st (key_of e)) ≡ takes format1 tt ins s p rs) where
    abbrev Case : ℕ → Type 0
    Case g = Room st k ins s p rs g

    -- what the leaf takes, by the two tests
    taken : takes format1 tt ins s p rs ≡ pick (full_test ins s p) (pick (fits_page rs) 1 2) 0
    unfolding takes
    taken = rw (full-exact ins s p) refl

    room-reason : Room st (key_of e) ins s p rs (by_need (takes format1 tt ins s p rs))
    unfolding by_need
    room-reason = rw taken (go (full_test ins s p) (fits_page rs) refl refl (is ∙ taken))
      where
        go : (b c : Bool) → full_test ins s p ≡ b → fits_page rs ≡ c → needs st e ≡ pick b (pick c 1 2) 0 → Case (by_need (pick b (pick c 1 2) 0))
        go false c x y q = in_place (test-room ins s p x)
        go true true x y q =
            let full = test-full ins s p x in
            let one = one-page rs y in
            let P = pages-for st e 1 q in
            by-test Case (ltb free n) (λ less. no_copy n full one P (ltb-true free n less)) (λ more. copied n full one P (ltb-false free n more))
        go true false x y q =
            let full = test-full ins s p x in
            let two = two-pages rs y in
            let P = pages-for st e 2 q in
            by-test Case (top_full st e) (λ z. no_index full two (top-full st e z))
            (λ z. let some : TopFull st k → ⊥ = λ T. true≢false (sym (full-top st e T) ∙ z) in
            by-test Case (ltb free n) (λ less. no-split n full two some P (ltb-true free n less)) (λ more. split n full two some P (ltb-false free n more)))

    -- and each case excludes the others
    one-taken : Full ins s p → (b : Bool) → fits_page rs ≡ b → takes format1 tt ins s p rs ≡ pick b 1 2
    one-taken f b q = taken ∙ rw (full-test ins s p f, q) refl

    no_top : (TopFull st (key_of e) → ⊥) → top_full st e ≡ false
    no_top f = go (top_full st e) refl
      where
        go : (b : Bool) → top_full st e ≡ b → b ≡ false
        go true z = absurd (f (top-full st e z))
        go false z = refl

    reason-room : (g : ℕ) → Room st (key_of e) ins s p rs g → by_need (takes format1 tt ins s p rs) ≡ g
    unfolding by_need
    reason-room _ (in_place f) = rw (taken, room-test ins s p f) refl
    reason-room _ (copied m f o P h) = let t = one-taken f true (page-one rs o) in rw (t, pages-are st e 1 m (is ∙ t) P, le-ltb free m h) refl
    reason-room _ (no_copy m f o P h) = let t = one-taken f true (page-one rs o) in rw (t, pages-are st e 1 m (is ∙ t) P, lt-ltb free m h) refl
    reason-room _ (no_index f t T) = rw (one-taken f false (not-one rs t), full-top st e T) refl
    reason-room _ (split m f t less P h) = let z = one-taken f false (not-one rs t) in rw (z, no_top less, pages-are st e 2 m (is ∙ z) P, le-ltb free m h) refl
    reason-room _ (no-split m f t less P h) = let z = one-taken f false (not-one rs t) in rw (z, no_top less, pages-are st e 2 m (is ∙ z) P, lt-ltb free m h) refl

-- ---- an edit

-- whose rule is kept
placed : (st : State) (e : Edit) → Kept e (table_of st) → Reason st e (by_need st e (leaf_takes format1 tt e (leaf_of st (key_of e))))
unfolding leaf_takes by_need
placed st (insert k v) h = inserted k v _ h (room-reason st (insert k v) true (size (rec_of k v)) (leaf_of st k) (add k v (records (leaf_of st k))) refl)
placed st (update k v) h = updated k v _ h (room-reason st (update k v) false (size (rec_of k v)) (leaf_of st k) (replace k v (records (leaf_of st k))) refl)
placed st (delete k) h = deleted k h

pub ground-reason : (st : State) (e : Edit) → Reason st e (edit_ground st e)
ground-reason st e = subst (Reason st e) (sym (ground-is format1 no_keep st e)) (go (key_rule e (table_of st)) (rule-says e (table_of st)))
  where
    go : (n : ℕ) → Ruled e (table_of st) n → Reason st e (pick (eqb n 0) (placing st e) n)
    go _ (rules.kept h) = subst (Reason st e) (sym (place-by-need st e)) (placed st e h)
    go _ (rules.broken n b) = rw (ne_eqb n 0 (broken-some e (table_of st) n b)) (broken e n b)

-- and each case excludes the others
kept-ground : (st : State) (e : Edit) → Kept e (table_of st) → edit_ground st e ≡ by_need st e (leaf_takes format1 tt e (leaf_of st (key_of e)))
kept-ground st e h = ground-placed format1 no_keep st e (kept_rule e (table_of st) h) ∙ place-by-need st e

pub reason-ground : (st : State) (e : Edit) (g : ℕ) → Reason st e g → edit_ground st e ≡ g
unfolding leaf_takes by_need
reason-ground st _ _ (broken e g b) =
    ground-is format1 no_keep st e ∙ rw (broken-rule e (table_of st) g b, ne_eqb g 0 (broken-some e (table_of st) g b))
reason-ground st _ _ (inserted k v g h r) = kept-ground st (insert k v) h ∙ reason-room st (insert k v) true (size (rec_of k v)) (leaf_of st k) (add k v (records (leaf_of st k))) refl g r
reason-ground st _ _ (updated k v g h r) = kept-ground st (update k v) h ∙ reason-room st (update k v) false (size (rec_of k v)) (leaf_of st k) (replace k v (records (leaf_of st k))) refl g r
reason-ground st _ _ (deleted k h) = kept-ground st (delete k) h
