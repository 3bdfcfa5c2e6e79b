-- Whether a record has room in one of document 01's pages, by the numbers of its header; and where the records of a new page lie.
-- Assumes nothing.
use Prim.Native.Nat.{ℕ, ◌-◌, ◌<◌}
use mathlib.Core.Path.{◌≡◌, refl, sym, ap, ◌∙◌}
use mathlib.Core.Logic.{inl, inr}
use mathlib.Core.Bool.{Bool, true, false, ◌&&◌, ◌||◌, not, or-false, or-true}
use mathlib.Core.List.{List, [], ◌∷◌, map}
use lib.ListN.{length}
use lib.Dec.{ltb, leb}
use borrow.Author.Tests.{ltb-true, ltb-false, lt-ltb, le-ltb, leb-true, leb-false, le-leb, lt-leb}
use Rattle.codec.proofs.Tests.{first, second}
use Rattle.page.specs.Layout.{line_size, slot_count, Rec, size, read_head}
use Rattle.page.specs.Page.{records, Entry}
use Rattle.page.specs.Operations.{placed}
use Rattle.page.specs.PageFormat.{format1}
use Rattle.edit.proofs.General.{neither, not-both}
use Rattle.tree.specs.Edits.{is_full}
use Rattle.tree.specs.Reasons.{Full, NotFull}
use Rattle.tree.specs.Moved.{offsets}
use Rattle.tree.proofs.Puts.{update-room}

-- ---- whether a record of size s has room in a page

-- the test of document 01's words
abbrev pub full_test : Bool → ℕ → List ℕ → Bool
full_test ins s p = ltb ((read_head p).start - line_size) s || (ins && leb slot_count (length (records p)))

-- not at most, and more
not-leb : (a b : ℕ) → not (leb a b) ≡ ltb b a
not-leb a b = go (leb a b) refl
  where
    go : (t : Bool) → leb a b ≡ t → not t ≡ ltb b a
    go true e = rw (le-ltb b a (leb-true a b e))
    go false e = rw (lt-ltb b a (leb-false a b e))

-- `is_full` is that test
pub full-exact : (ins : Bool) (s : ℕ) (p : List ℕ) → is_full format1 tt ins s p ≡ full_test ins s p
unfolding is_full
full-exact true s p = ap (λ (t : Bool). t || leb slot_count (length (records p))) (not-leb s ((read_head p).start - line_size))
full-exact false s p =
    update-room format1 tt s p ∙ not-leb s ((read_head p).start - line_size) ∙ sym (or-false (ltb ((read_head p).start - line_size) s))

module _ (ins : Bool) (s : ℕ) (p : List ℕ) where
  pub test-full : full_test ins s p ≡ true → Full ins s p
  test-full e = go (ltb ((read_head p).start - line_size) s) refl e
    where
      go : (b : Bool) → ltb ((read_head p).start - line_size) s ≡ b → (b || (ins && leb slot_count (length (records p)))) ≡ true → Full ins s p
      go true q h = inl (ltb-true ((read_head p).start - line_size) s q)
      go false q h = inr (first ins (leb slot_count (length (records p))) h, leb-true slot_count (length (records p)) (second ins (leb slot_count (length (records p))) h))

  pub test-room : full_test ins s p ≡ false → NotFull ins s p
  test-room e =
      let t = neither (ltb ((read_head p).start - line_size) s) (ins && leb slot_count (length (records p))) e in
      (ltb-false ((read_head p).start - line_size) s t.0, λ z. leb-false slot_count (length (records p)) (not-both ins (leb slot_count (length (records p))) t.1 z))

  pub full-test : Full ins s p → full_test ins s p ≡ true
  full-test (inl h) = rw (lt-ltb ((read_head p).start - line_size) s h)
  full-test (inr h) = rw (h.0, le-leb slot_count (length (records p)) h.1) (or-true (ltb ((read_head p).start - line_size) s))

  pub room-test : NotFull ins s p → full_test ins s p ≡ false
  room-test h = rw (le-ltb ((read_head p).start - line_size) s h.0) (go ins h.1)
    where
      go : (b : Bool) → (b ≡ true → length (records p) < slot_count) → (b && leb slot_count (length (records p))) ≡ false
      go true k = lt-leb slot_count (length (records p)) (k refl)
      go false k = refl

-- ---- a new page

-- where the records that fill puts into a page lie
pub placed-offsets : (rs : List Rec) (e : ℕ) → map (λ (x : Entry). x.at) (placed e rs) ≡ offsets e rs
unfolding placed offsets
placed-offsets [] e = refl
placed-offsets (r ∷ rs) e = ap (λ (l : List ℕ). (e - size r) ∷ l) (placed-offsets rs (e - size r))
