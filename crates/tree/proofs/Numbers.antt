-- The numbers that edits are refused with: 8 to 11, and no other (document 01, 'Each call and when it says no').
-- Assumes nothing.
use Rattle.std.specs.Prelude.{Err, Ok, Result}
use Prim.Native.Nat.{ℕ, zero, suc, ◌≤◌}
use mathlib.Core.Path.{◌≡◌, subst}
use mathlib.Core.Bool.{Bool, true, false, ◌&&◌}
use mathlib.Core.List.{List, [], ◌∷◌}
use native.Mathlib.Omega.{arith}
use lib.ListN.{length, get_or}
use lib.Dec.{leb}
use Rattle.page.specs.Layout.{leaf_kind, Rec, rec_of, size}
use Rattle.page.specs.Operations.{page_of, fits_in}
use Rattle.page.specs.PageFormat.{PageFormat, format1}
use Rattle.page.specs.Search.{searched}
use Rattle.image.specs.Image.{child_of, records_at}
use Rattle.image.specs.Route.{route}
use Rattle.edit.specs.EditList.{Edit, key_of}
use Rattle.edit.specs.EditList as edits
use Rattle.edit.proofs.General.{by-test}
use Rattle.tree.specs.State.{State, Step, done, refused}
use Rattle.tree.specs.Edits.{Change, PageStep, now, stops, kept, gone, one, two, is_full, copied, split, moved, put, dropped, copy_then, then_into, absorbed, edit_leaf, onto, low_of, edit_in, rooted, edited_in, no_keep, edited}
use Rattle.tree.specs.Whole.{stopped, onward, edits_from, edits_on, edits_from_in}
use Rattle.tree.proofs.Change.{taken_is}

-- ---- in a page

abbrev InRange : PageStep → Type 0
InRange (now c s) = Unit {0}
InRange (stops k) = (8 ≤ k) × (k ≤ 11)

module _ (Pg : PageFormat) (keep : ℕ → Pg.Keep) where
  moved-numbered : (kind : ℕ) (full : Bool) (rs : List Rec) (st : State) → InRange (moved Pg kind full rs st)
  unfolding moved copied split
  moved-numbered kind full rs st =
      by-test InRange (fits_in Pg.cap rs) (λ e. taken_is InRange (stops 11) st _ (omega arith, omega arith) (λ p f z. tt))
      (λ e. by-test InRange full (λ z. (omega arith, omega arith))
      (λ z. taken_is InRange (stops 11) st _ (omega arith, omega arith) (λ p f y. taken_is InRange (stops 11) _ _ (omega arith, omega arith) (λ q g x. tt))))

  put-numbered : (kind : ℕ) (full ins : Bool) (i : ℕ) (r : Rec) (q : ℕ) (st : State) → InRange (put Pg keep kind full ins i r q st)
  unfolding put
  put-numbered kind full ins i r q st = by-test InRange (is_full Pg (keep q) ins (size r) (page_of st.image q)) (λ e. moved-numbered kind full _ st) (λ e. tt)

  copy-numbered : (x : ℕ) (b : PageStep) → InRange b → InRange (copy_then x b)
  unfolding copy_then
  copy-numbered x (stops n) h = h
  copy-numbered x (now kept t) h = tt
  copy-numbered x (now gone t) h = tt
  copy-numbered x (now (one y) t) h = tt
  copy-numbered x (now (two y k z) t) h = tt

  then-numbered : (a : PageStep) (q : ℕ) (f : ℕ → State → PageStep) → InRange a → ((x : ℕ) (s : State) → InRange (f x s)) → InRange (then_into a q f)
  unfolding then_into
  then-numbered (stops n) q f h g = h
  then-numbered (now kept s) q f h g = g q s
  then-numbered (now gone s) q f h g = tt
  then-numbered (now (one x) s) q f h g = copy-numbered x (f x s) (g x s)
  then-numbered (now (two x k y) s) q f h g = tt

  absorbed-numbered : (kind i low q : ℕ) (c : Change) (st : State) → InRange (absorbed Pg keep kind i low q c st)
  unfolding absorbed dropped
  absorbed-numbered kind i low q kept st = tt
  absorbed-numbered kind i low q gone st = tt
  absorbed-numbered kind i low q (one a) st = put-numbered kind false false i _ q st
  absorbed-numbered kind i low q (two a k b) st = then-numbered _ q _ (put-numbered kind false _ _ _ q st) (λ x s. put-numbered kind false _ _ _ x s)

  leaf-numbered : (only full : Bool) (e : Edit) (q : ℕ) (st : State) (s : Result ℕ ℕ) → InRange (edit_leaf Pg keep only full e q st s)
  unfolding edit_leaf dropped
  leaf-numbered only full (edits.insert k v) q st (Ok j) = (omega arith, omega arith)
  leaf-numbered only full (edits.insert k v) q st (Err j) = put-numbered leaf_kind full true j (rec_of k v) q st
  leaf-numbered only full (edits.update k v) q st (Ok j) = put-numbered leaf_kind full false j (rec_of k v) q st
  leaf-numbered only full (edits.update k v) q st (Err j) = (omega arith, omega arith)
  leaf-numbered only full (edits.delete k) q st (Ok j) = tt
  leaf-numbered only full (edits.delete k) q st (Err j) = (omega arith, omega arith)

  onto-numbered : (a : PageStep) (f : Change → State → PageStep) → InRange a → ((c : Change) (s : State) → InRange (f c s)) → InRange (onto a f)
  unfolding onto
  onto-numbered (stops n) f h g = h
  onto-numbered (now c s) f h g = g c s

  in-numbered : (only full : Bool) (e : Edit) (h lo q : ℕ) (st : State) → InRange (edit_in Pg keep only full e h lo q st)
  unfolding edit_in
  in-numbered only full e zero lo q st = leaf-numbered only full e q st (searched (key_of e) 0 (records_at Pg st.image q))
  in-numbered only full e (suc h) lo q st =
      let cs = records_at Pg st.image q in
      let i = route (key_of e) cs in
      let c = get_or cs i (rec_of 0 []) in
      let low = low_of i lo c.key in
      let room : Bool = full && leb Pg.cap (length cs) in
      onto-numbered (edit_in Pg keep only room e h low (child_of c) st) (λ x s. absorbed Pg keep (suc (suc h)) i low q x s) (in-numbered only room e h low (child_of c) st)
      (λ x s. absorbed-numbered (suc (suc h)) i low q x s)

-- ---- an edit

abbrev Numbered : Step → Type 0
Numbered (done t) = Unit {0}
Numbered (refused k) = (8 ≤ k) × (k ≤ 11)

rooted-numbered : (Pg : PageFormat) (h : ℕ) (b : PageStep) → InRange b → Numbered (rooted Pg h b)
unfolding rooted
rooted-numbered Pg h (stops n) z = z
rooted-numbered Pg h (now kept s) z = tt
rooted-numbered Pg h (now gone s) z = tt
rooted-numbered Pg h (now (one q) s) z = tt
rooted-numbered Pg h (now (two p k q) s) z = taken_is Numbered (refused 11) s _ (omega arith, omega arith) (λ r f y. tt)

edited-numbered : (e : Edit) (st : State) → Numbered (edited e st)
unfolding edited_in
edited-numbered e st = rooted-numbered format1 _ _ (in-numbered format1 no_keep _ _ e _ 0 st.root st)

from-numbered : (i : ℕ) (es : List Edit) (st : State) (k j : ℕ) → edits_from i es st ≡ stopped k j → (8 ≤ k) × (k ≤ 11)
unfolding edits_from_in onward
from-numbered i [] st k j q = let z : ◌≡◌ {A = ℕ} 0 1 = cc in absurd (omega arith)
from-numbered i (e ∷ es) st k j q = go (edited e st) (edited-numbered e st) q (λ s. from-numbered (suc i) es s k j)
  where
    go : (x : Step) → Numbered x → onward x i (λ s. edits_from (suc i) es s) ≡ stopped k j → ((s : State) → edits_from (suc i) es s ≡ stopped k j → (8 ≤ k) × (k ≤ 11)) → (8 ≤ k) × (k ≤ 11)
    go (done t) h q f = f t q
    go (refused l) h q f = let z : l ≡ k = cc in subst (λ (n : ℕ). (8 ≤ n) × (n ≤ 11)) z h

-- a list of edits is refused with 8 to 11
pub edits-numbered : (a : List ℕ) (es : List Edit) (k i : ℕ) → edits_on a es ≡ stopped k i → (8 ≤ k) × (k ≤ 11)
unfolding edits_on
edits-numbered a es k i q = from-numbered 0 es _ k i q
