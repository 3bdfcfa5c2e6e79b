-- A listed record's value stands in the image where its entry says.
-- Assumes nothing.
use Prim.Native.Nat.{ℕ, ◌+◌, ◌*◌, ◌≤◌}
use mathlib.Core.Path.{◌≡◌, sym, ap, ◌∙◌}
use mathlib.Core.Bool.{true}
use mathlib.Core.List.{List, [], ◌∷◌, map}
use native.Mathlib.Omega.{arith}
use lib.ListN.{length}
use Rattle.codec.specs.Lists.{part, All}
use Rattle.codec.specs.Numbers.{number}
use Rattle.page.specs.Layout.{page_size, leaf_kind, Rec, read_head}
use Rattle.page.specs.Page.{Entry, entries, page_ok, Held}
use Rattle.page.specs.PageFormat.{format1}
use Rattle.page.specs.Operations.{page_of}
use Rattle.page.proofs.Records.{record-at, length_at, record_is}
use Rattle.page.proofs.Facts.{page_ok-true, ok-is}
use Rattle.page.proofs.AtSlots.{held-room}
use Rattle.image.specs.PageZero.{page_count, is_page, root_of}
use Rattle.image.specs.Image.{height_of, sound}
use Rattle.image.specs.Table.{in_image, page_entries, listing}
use Rattle.image.proofs.General.{part-part}
use Rattle.image.proofs.Zero.{is_page-true}
use Rattle.image.proofs.Alike.{gathered-all}
use Rattle.image.proofs.Order.{IsLeaf, sound-leaves}

pub value-at : (p : List ℕ) (start : ℕ) (e : Entry) → Held p start e → part p (e.at + 16) (length e.rec.value) ≡ e.rec.value
value-at p start e h =
    let len : length e.rec.value ≡ number (part p (e.at + 8) 2) = sym (length_at p e.at e.rec h.ok h.bytes) in
    ap (λ (r : Rec). r.value) (sym (record_is p e.at (length e.rec.value) len) ∙ record-at p e.at e.rec h.ok h.bytes)

-- the value of the listed record e, in the image
pub record Listed (img : List ℕ) (e : Entry) : Type 0 where
  pub value : part img (e.at + 16) (length e.rec.value) ≡ e.rec.value
  pub inside : e.at + 16 + length e.rec.value ≤ length img

-- the page q lies in an image of whole pages
pub page-fits : (img : List ℕ) (q : ℕ) → is_page (page_count img) q ≡ true → page_size * q + page_size ≤ length img
page-fits img q h = let k = is_page-true (page_count img) q h in omega arith

held-listed : (img : List ℕ) (q start : ℕ) → is_page (page_count img) q ≡ true → (es : List Entry) → All (Held (page_of img q) start) es → All (Listed img) (map (in_image q) es)
unfolding page_of
held-listed img q start k [] h = tt
held-listed img q start k (e ∷ es) h =
    let fits = page-fits img q k in
    let n = length e.rec.value in
    let room : e.at + 16 + n ≤ page_size = held-room e h.0 in
    let at : page_size * q + (e.at + 16) ≡ page_size * q + e.at + 16 = omega arith in (
      record {
        value = ap (λ (o : ℕ). part img o n) (sym at) ∙ sym (part-part img (page_size * q) page_size (e.at + 16) n room) ∙ value-at (page_of img q) start e h.0;
        inside = omega arith;
      },
      held-listed img q start k es h.1,
    )

pub page-listed : (img : List ℕ) (q : ℕ) → is_page (page_count img) q ≡ true → page_ok leaf_kind q (page_of img q) ≡ true → All (Listed img) (page_entries img q)
page-listed img q k ok =
    let p = page_of img q in
    held-listed img q (read_head p).start k (entries p) (ok-is p (page_ok-true leaf_kind q p ok).laid).body.held

pub listing-listed : (img : List ℕ) → sound img ≡ true → All (Listed img) (listing img)
unfolding listing
listing-listed img h =
    gathered-all format1 (IsLeaf img) (Listed img) (λ x. page_entries img x) (λ x l. page-listed img x l.0 l.1) img (height_of img (root_of img)) (root_of img) (sound-leaves img h)
