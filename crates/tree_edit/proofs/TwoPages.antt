-- A new page above two: what filling it asks for, and what the root then is.
-- Assumes nothing.
use Prim.Native.Nat.{ℕ, suc, ◌+◌, ◌-◌, ◌*◌, ◌≤◌}
use mathlib.Core.Path.{◌≡◌, refl, sym, ap, ◌∙◌, subst}
use mathlib.Core.List.{List, [], ◌∷◌}
use native.Mathlib.Omega.{arith}
use lib.ListN.{length}
use Rattle.codec.specs.Numbers.{bytes_of}
use Rattle.page.specs.Layout.{page_size, top_key, Rec, rec_of, header_of, unused_head}
use Rattle.page.specs.Page.{RecOk}
use Rattle.page.specs.Operations.{fill, page_of, put_page}
use Rattle.page.specs.PageFormat.{format1}
use Rattle.page.specs.declared.header.Header.{Header}
use Rattle.page_edit.specs.Filling.{Room, Filled}
use Rattle.page_edit.proofs.Filled.{room-unused, left-all, left-room, left-next, left-none, Left}
use Rattle.image.specs.Image.{index_rec, count}
use Rattle.image.proofs.IndexRecords.{index-entry, index_ok, sizes-entries}
use Rattle.image.proofs.Times.{hit-self}
use Rattle.tree.specs.State.{State, Step, done, refused, filled}
use Rattle.tree.specs.Edits.{now, two, rooted}
use Rattle.tree.proofs.Counts.{inside-range}
use Rattle.tree_edit.specs.Steps.{unmarked, state_of, turn_of}
use Rattle.tree_edit.specs.Asked.{CanRoot}
use Rattle.tree_edit.specs.declared.Turned.{Turned}
use Rattle.tree_edit.specs.declared.Turned.TheVariants.{Two}
use Rattle.tree_edit.proofs.Free.{taken_none, taken-first}
use Rattle.tree_edit.proofs.Absorbed.{entry-is}

-- ---- the two records

pub first-ok : (a : ℕ) (v : List ℕ) → v ≡ bytes_of 2 a → RecOk (rec_of 0 v)
first-ok a v e = subst RecOk (sym (entry-is a v e 0)) (index_ok 0 a (omega arith))

pub second-ok : (b k : ℕ) → k ≤ top_key → (v : List ℕ) → v ≡ bytes_of 2 b → RecOk (rec_of k v)
second-ok b k low v e = subst RecOk (sym (entry-is b v e k)) (index_ok k b low)

module _ (kind own a k b : ℕ) (low : k ≤ top_key) (h : Header) (e : h ≡ header_of (unused_head kind own)) (v : List ℕ) (left : v ≡ bytes_of 2 a) where
  abbrev rs : List Rec
  rs = index_rec 0 a ∷ index_rec k b ∷ []

  all-room : Room h rs
  all-room = room-unused kind own h rs e (omega arith) (omega (arith, sizes-entries rs (index-entry 0 a, (index-entry k b, tt))))

  first-is : rs ≡ rec_of 0 v ∷ index_rec k b ∷ []
  first-is = ap (λ (r : Rec). r ∷ index_rec k b ∷ []) (sym (entry-is a v left 0))

  pub first-room : Room h (rec_of 0 v ∷ [])
  first-room = left-room {h = h} {p = []} {rs = rs} {g = h} {q = []} rs (index_rec k b ∷ []) (rec_of 0 v) first-is (left-all h [] rs all-room)

  module _ (p : List ℕ) (g : Header) (q : List ℕ) (one : Filled h p (rec_of 0 v ∷ []) g q) (w : List ℕ) (right : w ≡ bytes_of 2 b) where
    rest : Left h p rs g q (index_rec k b ∷ [])
    rest = left-next rs (index_rec k b ∷ []) (rec_of 0 v) g q first-is (left-all h p rs all-room) one

    second-is : index_rec k b ∷ [] ≡ rec_of k w ∷ []
    second-is = ap (λ (r : Rec). r ∷ []) (sym (entry-is b w right k))

    pub second-room : Room g (rec_of k w ∷ [])
    second-room = left-room (index_rec k b ∷ []) [] (rec_of k w) second-is rest

    pub both-filled : (g2 : Header) (q2 : List ℕ) → Filled g q (rec_of k w ∷ []) g2 q2 → Filled h p (index_rec 0 a ∷ index_rec k b ∷ []) g2 q2
    both-filled g2 q2 f = left-none [] refl (left-next (index_rec k b ∷ []) [] (rec_of k w) g2 q2 second-is rest f)

-- ---- the root above the pages p and q, the right one from k on, if there is a free page for it

module _ (n : ℕ) (before work : List ℕ) (root kind : ℕ) (least : 1 ≤ kind) (above : Turned) (can : CanRoot n before work above) (p k q top : ℕ) (e : above ≡ Two p k q top) where
  abbrev st : State
  st = state_of before work (record { root = root; top = top })

  abbrev ds : List Rec
  ds = index_rec 0 p ∷ index_rec k q ∷ []

  is : (s : Step) → s ≡ rooted format1 (kind - 1) (now (two p k q) st) → s ≡ rooted format1 (kind - 1) (turn_of before work root above)
  is s z = z ∙ ap (λ (x : Turned). rooted format1 (kind - 1) (turn_of before work root x)) (sym e)

  pub root-none : unmarked before (top - 1) ≡ [] → refused 11 ≡ rooted format1 (kind - 1) (turn_of before work root above)
  unfolding rooted
  root-none none = is (refused 11) (sym (taken_none (refused 11) st _ none))

  module _ (r : ℕ) (first : unmarked before (top - 1) ≡ r ∷ unmarked before (r - 1)) where
    pub root-fits : page_size * r + page_size ≤ length work
    root-fits = omega (arith, can.long, inside-range n r (omega (arith, (can.two p k q top e).0 r, ap (count r) first, hit-self r)))

    pub root-above : (w : List ℕ) → w ≡ put_page work r (fill (page_of work r) (kind + 1) r (index_rec 0 p ∷ index_rec k q ∷ [])) →
        done (state_of before w (record { root = r; top = r })) ≡ rooted format1 (kind - 1) (turn_of before work root above)
    unfolding rooted filled
    root-above w z =
        let up : kind + 1 ≡ suc (suc (kind - 1)) = omega arith in
        let f : List ℕ = unmarked before (r - 1) in
        is (done (state_of before w (record { root = r; top = r })))
        (ap (λ (i : List ℕ). done (record { image = i; root = r; free = f })) (z ∙ ap (λ (m : ℕ). put_page work r (fill (page_of work r) m r ds)) up)
        ∙ sym (taken-first (refused 11) st _ r f first))
