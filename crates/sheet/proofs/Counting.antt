-- The rows as the code counts them are the rows of the listing: a page's entries come together, in the order of its slots.
-- Assumes nothing.
use Prim.Native.Nat.{ℕ, suc, ◌+◌, ◌*◌, ◌/◌, ◌<◌}
use mathlib.Core.Path.{◌≡◌, refl, sym, ap, ◌∙◌}
use mathlib.Core.Bool.{true, false, not}
use mathlib.Core.List.{List, [], ◌∷◌, ◌++◌, map}
use native.Mathlib.Omega.{arith}
use native.Mathlib.Nat.{add-zero}
use lib.ListN.{length}
use lib.Dec.{eqb}
use borrow.Author.Tests.{eq-eqb, ne_eqb, eqb-false, not-true}
use Rattle.codec.specs.Lists.{All}
use Rattle.codec.proofs.Tests.{first, second}
use Rattle.codec.proofs.Agree.{or_left, or_right, neither}
use Rattle.page.specs.Layout.{page_size, leaf_kind, Rec, read_head}
use Rattle.page.specs.Page.{Entry, recs, entries, records, Held}
use Rattle.page.specs.PageFormat.{format1}
use Rattle.page.specs.Operations.{page_of}
use Rattle.page.proofs.Facts.{page_ok-true, ok-is, recs-entries}
use Rattle.image.specs.PageZero.{page_count, is_page, root_of}
use Rattle.image.specs.Image.{among, distinct, leaves_in, height_of, sound}
use Rattle.image.specs.Table.{in_image, page_entries, listing}
use Rattle.image.proofs.Zero.{is_page-true}
use Rattle.page.proofs.AtSlots.{held-room}
use Rattle.image.proofs.Alike.{pages-leaves}
use Rattle.image.proofs.Soundness.{sound-tree_in}
use Rattle.image.proofs.Order.{gathered-leaves, leaves-apart, IsLeaf, sound-leaves}
use Rattle.sheet.specs.Rows.{Shown, leaf_rows, rows_in, rows_of, next_slot, rows_after}

abbrev InPage : Entry → Type 0
InPage e = e.at < page_size

-- an entry of the page where the record before it stands
same-page : (q i : ℕ) (es rest : List Entry) → All InPage es → rows_after q i (map (in_image q) es ++ rest) ≡ leaf_rows q (i + 1) (recs es) ++ rows_after q (i + length es) rest
unfolding rows_after leaf_rows next_slot
same-page q i [] rest h = rw add-zero
same-page q i (e ∷ es) rest h =
    let page : (page_size * q + e.at) / page_size ≡ q = omega (arith, h.0) in
    let more : i + suc (length es) ≡ i + 1 + length es = omega arith in
    rw (page, eq-eqb q q refl, more) (ap (λ (l : List Shown). record { page = q; slot = i + 1; key = e.rec.key; size = length e.rec.value } ∷ l) (same-page q (i + 1) es rest h.1))

-- the first entry of another page
other-page : (before slot q : ℕ) (e : Entry) (es rest : List Entry) → (q ≡ before → ⊥) → All InPage (e ∷ es) →
    rows_after before slot (map (in_image q) (e ∷ es) ++ rest) ≡ leaf_rows q 0 (recs (e ∷ es)) ++ rows_after q (0 + length es) rest
unfolding rows_after leaf_rows next_slot
other-page before slot q e es rest d h =
    let page : (page_size * q + e.at) / page_size ≡ q = omega (arith, h.0) in
    rw (page, ne_eqb q before d) (ap (λ (l : List Shown). record { page = q; slot = 0; key = e.rec.key; size = length e.rec.value } ∷ l) (same-page q 0 es rest h.1))

held_in : (p : List ℕ) (start : ℕ) (es : List Entry) → All (Held p start) es → All InPage es
held_in p start [] h = tt
held_in p start (e ∷ es) h = (omega (arith, held-room e h.0), held_in p start es h.1)

module _ (img : List ℕ) where
  -- the entries of the leaves ps, one after the other
  abbrev entries_on : List ℕ → List Entry
  entries_on [] = []
  entries_on (p ∷ ps) = page_entries img p ++ entries_on ps

  leaves-counted : (before slot : ℕ) (ps : List ℕ) → All (IsLeaf img) ps → among before ps ≡ false → distinct ps ≡ true → rows_after before slot (entries_on ps) ≡ rows_in img ps
  unfolding rows_in rows_after leaf_rows among distinct
  leaves-counted before slot [] h a d = refl
  leaves-counted before slot (q ∷ ps) h a d =
      go (entries p) (recs-entries p) (held_in p (read_head p).start (entries p) (ok-is p (page_ok-true leaf_kind q p h.0.1).laid).body.held)
      (λ b s k. leaves-counted b s ps h.1 k (second (not (among q ps)) (distinct ps) d))
    where
      p : List ℕ
      p = page_of img q

      apart : among q ps ≡ false
      apart = not-true (among q ps) (first (not (among q ps)) (distinct ps) d)

      go : (es : List Entry) → recs es ≡ records p → All InPage es → ((b s : ℕ) → among b ps ≡ false → rows_after b s (entries_on ps) ≡ rows_in img ps) →
          rows_after before slot (map (in_image q) es ++ entries_on ps) ≡ leaf_rows q 0 (records p) ++ rows_in img ps
      go [] r k rest = rest before slot (or_right (eqb before q) (among before ps) a) ∙ ap (λ (l : List Rec). leaf_rows q 0 l ++ rows_in img ps) r
      go (e ∷ es) r k rest =
          other-page before slot q e es (entries_on ps) (λ x. eqb-false before q (or_left (eqb before q) (among before ps) a) (sym x)) k
          ∙ ap (λ (l : List Shown). leaf_rows q 0 (recs (e ∷ es)) ++ l) (rest q (0 + length es) apart)
          ∙ ap (λ (l : List Rec). leaf_rows q 0 l ++ rows_in img ps) r

zero-apart : (n : ℕ) (ps : List ℕ) → All (λ (p : ℕ). is_page n p ≡ true) ps → among 0 ps ≡ false
unfolding among
zero-apart n [] h = refl
zero-apart n (p ∷ ps) h = neither (ne_eqb 0 p (λ e. omega (arith, is_page-true n p h.0))) (zero-apart n ps h.1)

pub rows-counted : (img : List ℕ) → sound img ≡ true → rows_after 0 0 (listing img) ≡ rows_of img
unfolding rows_of listing
rows-counted img h =
    let root = root_of img in
    let n = height_of img root in
    let t = sound-tree_in img h in
    let ps = leaves_in format1 img n root in
    ap (rows_after 0 0) (gathered-leaves format1 (λ x. page_entries img x) (entries_on img) img refl (λ p ps. refl) n root)
    ∙ leaves-counted img 0 0 ps (sound-leaves img h) (zero-apart (page_count img) ps (pages-leaves format1 (λ (p : ℕ). is_page (page_count img) p ≡ true) img n root t.inside))
    (leaves-apart format1 img n root t.apart)
