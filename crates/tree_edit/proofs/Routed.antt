-- One edit in the leaf that its key is routed to: what it comes to by the search, and what it asks for.
-- Assumes nothing.
use Rattle.std.specs.Prelude.{Err, Ok, Result}
use Prim.Native.Nat.{ℕ, zero, suc, ◌≤◌, ◌<◌}
use mathlib.Core.Path.{◌≡◌, refl, sym, ap, ◌∙◌}
use mathlib.Core.Bool.{Bool, true, false, ◌&&◌}
use mathlib.Core.List.{List, [], ◌∷◌, append-nil}
use native.Mathlib.Omega.{arith}
use native.Mathlib.Nat.{not-suc-le-zero}
use lib.ListN.{length, get_or, length-append}
use lib.Dec.{eqb}
use borrow.Author.Tests.{eq-eqb, ne_eqb, eqb-true}
use Rattle.codec.specs.Lists.{pick}
use Rattle.page.specs.Layout.{leaf_kind, top_key, value_most, Rec, rec_of}
use Rattle.page.specs.Page.{records}
use Rattle.page.specs.Operations.{page_of}
use Rattle.page.specs.PageFormat.{format1}
use Rattle.page.specs.Search.{searched}
use Rattle.page.proofs.Made.{length-made}
use Rattle.image.specs.Image.{child_of, first_key, joined, gathered, leaves_in, height_of, tallest}
use Rattle.image.specs.Facts.{Rising, Spans, Under}
use Rattle.image.proofs.Alike.{leaves-some}
use Rattle.image.proofs.CodeDescent.{laid-rising}
use Rattle.edit.specs.EditList.{Edit, insert, update, delete, key_of, edit_of}
use Rattle.edit.proofs.Places.{search-there, search-missing}
use Rattle.tree.specs.State.{State, Step, refused}
use Rattle.tree.specs.Edits.{PageStep, stops, no_keep, put, dropped, edit_leaf, edit_in, rooted, only_leaf, edited_in, edited}
use Rattle.tree.specs.Good.{Good}
use Rattle.tree.proofs.Height.{height-range}
use Rattle.tree_edit.specs.Steps.{root_place, child_for, way_at, way_of, filled_above, only_below, upward}
use Rattle.tree_edit.specs.Asked.{CanPut, OnWay}
use Rattle.tree_edit.specs.declared.Way.{Way}
use Rattle.tree_edit.proofs.Places.{WayOk, way-ok, way-on, on-way}
use Rattle.tree_edit.proofs.Above.{upward-stops}

-- ---- the edit of a kind

module _ (kind k : ℕ) (v : List ℕ) where
  pub kind-insert : kind ≡ 1 → edit_of kind k v ≡ insert k v
  unfolding edit_of
  kind-insert e = rw (eq-eqb kind 1 e)

  pub kind-update : kind ≡ 2 → edit_of kind k v ≡ update k v
  unfolding edit_of
  kind-update e = rw (ne_eqb kind 1 (λ z. omega arith), eq-eqb kind 2 e)

  pub kind-delete : (kind ≡ 1 → ⊥) → (kind ≡ 2 → ⊥) → edit_of kind k v ≡ delete k
  unfolding edit_of
  kind-delete f g = rw (ne_eqb kind 1 f, ne_eqb kind 2 g)

-- ---- the only leaf

-- a page under each of some pages
joined-least : (f : ℕ → List ℕ) (P : ℕ → ℕ → ℕ → Type 0) → ((a b x : ℕ) → P a b x → 1 ≤ length (f x)) → (lo : ℕ) (cs : List Rec) (hi : ℕ) → Spans P lo cs hi → length cs ≤ length (joined f cs)
joined-least f P some lo [] hi s = omega arith
joined-least f P some lo (c ∷ cs) hi s =
    omega (arith, length-append (f (child_of c)) (joined f cs), some lo (first_key cs hi) (child_of c) s.0, joined-least f P some (first_key cs hi) cs hi s.1)

joined-most : (f : ℕ → List ℕ) (cs : List Rec) (i : ℕ) → i < length cs → length (f (child_of (get_or cs i (rec_of 0 [])))) ≤ length (joined f cs)
joined-most f [] i h = absurd (not-suc-le-zero h)
joined-most f (c ∷ cs) zero h = omega (arith, length-append (f (child_of c)) (joined f cs))
joined-most f (c ∷ cs) (suc i) h = omega (arith, length-append (f (child_of c)) (joined f cs), joined-most f cs i (omega arith))

joined_one : (f : ℕ → List ℕ) (cs : List Rec) → length cs ≡ 1 → (i : ℕ) → i < length cs → length (joined f cs) ≡ length (f (child_of (get_or cs i (rec_of 0 []))))
joined_one f [] e i h = absurd (omega arith)
joined_one f (c ∷ []) e zero h = ap length (append-nil (f (child_of c)))
joined_one f (c ∷ []) e (suc i) h = absurd (omega arith)
joined_one f (c ∷ d ∷ cs) e i h = absurd (omega arith)

-- of n pages in all, m are at the first height, and r under one of those
both-one : (n m r : ℕ) → 1 ≤ m → m ≤ n → 1 ≤ r → r ≤ n → (m ≡ 1 → n ≡ r) → eqb n 1 ≡ (eqb m 1 && eqb r 1)
both-one n m r some most one all same = go (eqb n 1) refl (eqb m 1) refl
  where
    go : (a : Bool) → eqb n 1 ≡ a → (b : Bool) → eqb m 1 ≡ b → a ≡ (b && eqb r 1)
    go true e b f = rw (← f, eq-eqb m 1 (omega (arith, eqb-true n 1 e)), eq-eqb r 1 (omega (arith, eqb-true n 1 e)))
    go false e true f = sym e ∙ ap (λ (x : ℕ). eqb x 1) (same (eqb-true m 1 f))
    go false e false f = refl

-- the leaves that a page names
leaves-named : (img : List ℕ) (cs : List Rec) → length (joined (λ x. leaves_in format1 img 0 x) cs) ≡ length cs
unfolding leaves_in gathered
leaves-named img [] = refl
leaves-named img (c ∷ cs) = ap suc (leaves-named img cs)

leaves-under : (img : List ℕ) (h q : ℕ) → length (leaves_in format1 img (suc h) q) ≡ length (joined (λ x. leaves_in format1 img h x) (records (page_of img q)))
unfolding leaves_in gathered
leaves-under img h q = refl

module _ {n : ℕ} {st : State} (G : Good n st) (k : ℕ) where
  abbrev cs : List Rec
  cs = records (page_of st.image st.root)

  abbrev root : ℕ
  root = st.root

  only-one : only_leaf format1 st.image 1 st.root ≡ only_below st.image st.root (way_at 1 st.image st.root k)
  unfolding only_leaf
  only-one = ap (λ (m : ℕ). eqb m 1) (leaves-under st.image 0 root ∙ leaves-named st.image cs) ∙ sym (and-self (eqb (length cs) 1))
    where
      and-self : (b : Bool) → (b && b) ≡ b
      and-self true = refl
      and-self false = refl

  only-two : WayOk n st (way_at 2 st.image st.root k) → Under format1 st.image 2 0 (suc top_key) st.root →
      only_leaf format1 st.image 2 st.root ≡ only_below st.image st.root (way_at 2 st.image st.root k)
  unfolding only_leaf
  only-two K u =
      let f : ℕ → List ℕ = λ x. leaves_in format1 st.image 1 x in
      let d = child_for st.image (root_place root) k in
      let slot : d.slot < length cs = (K.top (λ z. omega arith)).root.slot in
      let r = length (records (page_of st.image d.page)) in
      let each : length (f d.page) ≡ r = leaves-under st.image 0 d.page ∙ leaves-named st.image (records (page_of st.image d.page)) in
      let all : length (leaves_in format1 st.image 2 root) ≡ length (joined f cs) = leaves-under st.image 1 root in
      both-one (length (leaves_in format1 st.image 2 root)) (length cs) r K.names-root.some
      (omega (arith, all, joined-least f (λ a b x. Under format1 st.image 1 a b x) (λ a b x v. leaves-some format1 st.image 1 a b x v) 0 cs (suc top_key) u.1.1))
      K.names-index.some (omega (arith, all, each, joined-most f cs d.slot slot)) (λ z. omega (arith, all, each, joined_one f cs z d.slot slot))

  -- ---- the edit e of the key k, by the height

  module _ (e : Edit) (z : key_of e ≡ k) where
    -- what the leaf at the end of the way w makes of the edit
    abbrev at_leaf : Bool → Way → PageStep
    at_leaf only w = edit_leaf format1 no_keep only (filled_above st.image root w) e w.leaf.page st (searched k 0 (records (page_of st.image w.leaf.page)))

    abbrev Same : ℕ → Bool → Type 0
    Same h only = let w = way_at h st.image root k in upward root w (at_leaf only w) ≡ rooted format1 h (edit_in format1 no_keep only (eqb h tallest) e h 0 root st)

    same-one : (only : Bool) → Same 1 only
    unfolding edit_in
    same-one only = rw z refl

    same-two : (only : Bool) → Same 2 only
    unfolding edit_in
    same-two only = rw z refl

    by-height : (h : ℕ) → 1 ≤ h → h ≤ tallest → WayOk n st (way_at h st.image root k) → Under format1 st.image h 0 (suc top_key) root →
        let w = way_at h st.image root k in
        upward root w (at_leaf (only_below st.image root w) w) ≡ rooted format1 h (edit_in format1 no_keep (only_leaf format1 st.image h root) (eqb h tallest) e h 0 root st)
    by-height zero a b K u = absurd (not-suc-le-zero a)
    by-height (suc zero) a b K u = rw only-one (same-one _)
    by-height (suc (suc zero)) a b K u = rw (only-two K u) (same-two _)
    by-height (suc (suc (suc h))) a b K u = absurd (omega arith)

    way-edited : let w = way_of st.image st.root k in upward root w (at_leaf (only_below st.image root w) w) ≡ edited e st
    unfolding edited_in
    way-edited = let r = height-range format1 st.image root in by-height (height_of st.image root) r.0 r.1 (way-ok G k) G.under

  -- ---- in the leaf at the end of the way of its key k, whose bytes are x, where the search answers s

  module _ (w : Way) (here : w ≡ way_of st.image st.root k) (x : List ℕ) (page : x ≡ page_of st.image w.leaf.page) (s : Result ℕ ℕ) (answer : s ≡ searched k 0 (records x)) where
    abbrev rs : List Rec
    rs = records (page_of st.image w.leaf.page)

    answer-is : searched k 0 rs ≡ s
    answer-is = sym (answer ∙ ap (λ (g : List ℕ). searched k 0 (records g)) page)

    -- what the search answers is t
    said : (t : Result ℕ ℕ) → s ≡ t → (e : Edit) → key_of e ≡ k →
        upward st.root w (edit_leaf format1 no_keep (only_below st.image st.root w) (filled_above st.image st.root w) e w.leaf.page st t) ≡ edited e st
    said t q e z =
        let leaf : Way → Result ℕ ℕ → Step =
        λ v y. upward root v (edit_leaf format1 no_keep (only_below st.image root v) (filled_above st.image root v) e v.leaf.page st y) in
        ap (leaf w) (sym q ∙ sym answer-is)
        ∙ ap (λ (v : Way). leaf v (searched k 0 (records (page_of st.image v.leaf.page)))) here
        ∙ way-edited e z

    module _ (j : ℕ) (found : s ≡ Ok j) where
      pub insert-present : (v : List ℕ) → refused 8 ≡ edited (insert k v) st
      unfolding edit_leaf
      insert-present v = upward-stops root w (stops 8) 8 refl ∙ said (Ok j) found (insert k v) refl

      pub update-there : (v : List ℕ) →
          upward st.root w (put format1 no_keep leaf_kind (filled_above st.image st.root w) false j (rec_of k v) w.leaf.page st) ≡ edited (update k v) st
      unfolding edit_leaf
      update-there v = said (Ok j) found (update k v) refl

      pub delete-there : upward st.root w (dropped format1 (only_below st.image st.root w) j w.leaf.page st) ≡ edited (delete k) st
      unfolding edit_leaf
      delete-there = said (Ok j) found (delete k) refl

    module _ (j : ℕ) (missing : s ≡ Err j) where
      pub insert-missing : (v : List ℕ) →
          upward st.root w (put format1 no_keep leaf_kind (filled_above st.image st.root w) true j (rec_of k v) w.leaf.page st) ≡ edited (insert k v) st
      unfolding edit_leaf
      insert-missing v = said (Err j) missing (insert k v) refl

      pub update-missing : (v : List ℕ) → refused 9 ≡ edited (update k v) st
      unfolding edit_leaf
      update-missing v = upward-stops root w (stops 9) 9 refl ∙ said (Err j) missing (update k v) refl

      pub delete-missing : refused 9 ≡ edited (delete k) st
      unfolding edit_leaf
      delete-missing = upward-stops root w (stops 9) 9 refl ∙ said (Err j) missing (delete k) refl

    -- ---- what the leaf can take

    abbrev its-way : OnWay n st w
    its-way = way-on G k w here

    rising : Rising 0 rs (suc top_key)
    rising = let ok = (on-way its-way).leaf in laid-rising (page_of st.image w.leaf.page) ok.laid ok.rise

    pub found-less : (j : ℕ) → s ≡ Ok j → j < length (records (page_of st.image w.leaf.page))
    found-less j q = (search-there k 0 rs (suc top_key) rising j (answer-is ∙ q)).inside

    module _ (v : List ℕ) (high : k ≤ top_key) (short : length v ≤ value_most) (j : ℕ) where
      changes : (ins : Bool) → j < pick ins (suc (length rs)) (length rs) → CanPut (page_of st.image w.leaf.page) (record { ins = ins; at = j; key = k }) v
      changes ins h = record { ok = (on-way its-way).leaf.laid; good = record { low = high; few = short }; place = rw (length-made ins j (rec_of k v) rs) h }

      pub can-insert : s ≡ Err j → CanPut (page_of st.image w.leaf.page) (record { ins = true; at = j; key = k }) v
      can-insert q = changes true (omega (arith, (search-missing k 0 rs (suc top_key) rising j (answer-is ∙ q)).inside))

      pub can-update : s ≡ Ok j → CanPut (page_of st.image w.leaf.page) (record { ins = false; at = j; key = k }) v
      can-update q = changes false (found-less j q)
