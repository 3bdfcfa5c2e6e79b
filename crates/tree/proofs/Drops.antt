-- A record dropped from a page of any kind: its slot goes, the content start stays; and a page that is left empty goes, unless it may stay.
-- Assumes nothing.
use Prim.Native.Nat.{ℕ, zero, suc, ◌*◌, ◌≤◌}
use mathlib.Core.Path.{◌≡◌, refl, sym, ap, ◌∙◌, subst}
use mathlib.Core.Logic.{◌⊎◌, inl, inr}
use mathlib.Core.Bool.{Bool, true, false}
use mathlib.Core.List.{List, [], ◌∷◌}
use native.Mathlib.Omega.{arith}
use lib.ListN.{length}
use Rattle.codec.specs.Lists.{remove_at}
use Rattle.page.specs.Layout.{page_size, Rec, Head, read_head}
use Rattle.page.specs.Page.{records}
use Rattle.page.specs.Operations.{delete, delete_head, page_of}
use Rattle.page.specs.PageFormat.{format1, Shows}
use Rattle.page.proofs.Operations.{delete-page}
use Rattle.page.proofs.Placed.{laid-length, delete-shows}
use Rattle.image.proofs.Times.{hit-apart}
use Rattle.tree.specs.State.{State, with_page}
use Rattle.tree.specs.Edits.{PageStep, kept, dropped}
use Rattle.tree.specs.Good.{inside}
use Rattle.tree.specs.Moved.{start_at, slots_at, Within, DropIn, drop-stays, drop-goes}
use Rattle.tree.proofs.Change.{Holds, IfMade, nothing}
use Rattle.tree.proofs.Puts.{dropped-gone, dropped-only, dropped-some}
use Rattle.tree.proofs.States.{write-here, write-length, write-other}

module _ (n : ℕ) (st : State) (long : length st.image ≡ page_size * n) (q kind : ℕ) (rs : List Rec) (L : Holds format1 st.image kind q rs) (page : 1 ≤ inside n q)
    (only : Bool) (alone : Type 0) (yes-alone : only ≡ true → alone) (not-alone : only ≡ false → alone → ⊥) (j : ℕ) (left : List Rec) (is : remove_at j rs ≡ left) where
  abbrev p : List ℕ
  p = page_of st.image q

  abbrev u : State
  u = with_page q (delete p j) st

  shown : Shows (delete p j) kind q (start_at st q) left
  shown =
      let S = delete-shows p L.lists.laid j in
      record { laid = S.laid; kind = S.kind ∙ L.lists.kind; own = S.own ∙ L.lists.own; start = S.start; recs = S.recs ∙ ap (remove_at j) L.lists.recs ∙ is }

  whole : length (delete p j) ≡ page_size
  whole = laid-length (delete p j) shown.laid

  here : page_of u.image q ≡ delete p j
  here = write-here n st.image long q page (delete p j) whole

  within : Within st u (q ∷ []) []
  within = record { root = refl; free = refl; long = write-length n st.image long q page (delete p j) whole; other = λ x h. write-other n st.image long q page (delete p j) whole x (hit-apart x q (omega arith)) }

  dropped_slots : (read_head (delete p j)).slots ≡ remove_at j (slots_at st q)
  unfolding delete_head
  dropped_slots = ap (λ (h : Head). h.slots) (delete-page p L.lists.laid j).head

  stays : (1 ≤ length left) ⊎ alone → DropIn st u u kind q alone left kept
  stays h =
      drop-stays j (ap (remove_at j) L.lists.recs ∙ is) h within (subst (λ (g : List ℕ). Shows g kind q (start_at st q) left) (sym here) shown)
      (ap (λ (g : List ℕ). (read_head g).slots) here ∙ dropped_slots)

  pub drop-in : IfMade (λ d t. DropIn st t t kind q alone left d) (dropped format1 only j q st)
  drop-in = go (length (records (delete p j))) refl only refl
    where
      Goal : PageStep → Type 0
      Goal = IfMade (λ d t. DropIn st t t kind q alone left d)

      go : (m : ℕ) → length (records (delete p j)) ≡ m → (b : Bool) → only ≡ b → Goal (dropped format1 b j q st)
      go (suc m) z b w = subst Goal (sym (dropped-some format1 b j q st (omega arith))) (stays (inl (omega (arith, ap length shown.recs))))
      go zero z true w = subst Goal (sym (dropped-only format1 j q st z)) (stays (inr (yes-alone w)))
      go zero z false w = subst Goal (sym (dropped-gone format1 j q st z)) (drop-goes (nothing left (omega (arith, ap length shown.recs))) (not-alone w) within)
