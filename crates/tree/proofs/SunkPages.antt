-- An edit under a page of any height: if the page stays, the header of a page under it has sunk.
-- Assumes nothing.
use Rattle.std.specs.Prelude.{Err, Ok, Result}
use Prim.Native.Nat.{ℕ, zero, suc, ◌≤◌, ◌<◌}
use mathlib.Core.Path.{◌≡◌, refl, sym, ap, ◌∙◌, subst}
use mathlib.Core.Bool.{Bool, true, false}
use mathlib.Core.List.{List}
use native.Mathlib.Omega.{arith}
use lib.ListN.{length}
use Rattle.page.specs.Layout.{Rec, leaf_kind, rec_of}
use Rattle.page.specs.Operations.{page_of}
use Rattle.page.specs.PageFormat.{PageFormat, Rules, Sinking}
use Rattle.page.specs.Search.{searched}
use Rattle.image.specs.Image.{child_of, first_key, pages_in, records_at, start_of, count}
use Rattle.image.specs.Route.{route}
use Rattle.image.specs.Table.{table_in}
use Rattle.edit.specs.EditList.{Edit, key_of}
use Rattle.edit.specs.EditList as edits
use Rattle.edit.specs.Keys.{key_rule}
use Rattle.edit.specs.Ledger.{apply_edit}
use Rattle.edit.specs.Reads.{Proper}
use Rattle.edit.proofs.Places.{search-there}
use Rattle.tree.specs.Edits.{Change, PageStep, absorbed, edit_in, edit_leaf, gone, kept, now, one, onto, stops, two}
use Rattle.tree.specs.Good.{inside}
use Rattle.tree.specs.Grounds.{next_slot}
use Rattle.tree.specs.State.{State}
use Rattle.tree.proofs.Change.{IfMade}
use Rattle.tree.proofs.Child.{Here, Parts, parts}
use Rattle.tree.proofs.Descent.{AllFull, edit-ended}
use Rattle.tree.proofs.SameTree.{own-page}
use Rattle.tree.proofs.Leaf.{EndedAt}
use Rattle.tree.proofs.Node.{Altered, lists-own, no_more, own_same}
use Rattle.tree.proofs.Routes.{down}
use Rattle.tree.proofs.Sinks.{Sinks, absorbed-sinks, dropped-sinks, put-sinks}
use Rattle.tree.proofs.States.{leads-free}

-- ---- a change that is not `kept`

abbrev is_change : Change → ℕ
is_change kept = 0
is_change gone = 1
is_change (one a) = 1
is_change (two a k b) = 1

not-kept : (d : Change) → is_change d ≡ 1 → d ≡ kept → ⊥
not-kept d m e = omega (arith, ap is_change e)

-- what is known of a step that is made
pub ended-after : (g : ℕ) (P : Change → State → Type 0) (s : PageStep) → EndedAt g P s → IfMade P s
ended-after zero P (now c t) o = o
ended-after zero P (stops k) o = tt
ended-after (suc g) P (now c t) o = let z : ◌≡◌ {A = ℕ} 0 1 = cc in absurd (omega arith)
ended-after (suc g) P (stops k) o = tt

module _ (Pg : PageFormat) (sinking : Sinking Pg) where
  -- a page under page q of height h has sunk
  pub record Sunk (s t : State) (h q : ℕ) : Type 0 where
    pub page : ℕ
    pub there : 1 ≤ count page (pages_in Pg s.image h q)
    pub lower : sinking.Sunken (page_of s.image page) (page_of t.image page)

  abbrev pub SinksUnder : State → ℕ → ℕ → Change → State → Type 0
  SinksUnder s h q kept t = Sunk s t h q
  SinksUnder s h q gone t = Unit {0}
  SinksUnder s h q (one a) t = Unit {0}
  SinksUnder s h q (two a k b) t = Unit {0}

  -- page q itself, which was the same in t as in st
  sunk-own : (st t : State) (h q : ℕ) → page_of t.image q ≡ page_of st.image q → (y : PageStep) → IfMade (Sinks Pg sinking t q) y → IfMade (SinksUnder st h q) y
  sunk-own st t h q e (stops k) s = tt
  sunk-own st t h q e (now kept u) s = record { page = q; there = own-page Pg st.image h q; lower = subst (λ (p : List ℕ). sinking.Sunken p (page_of u.image q)) e s }
  sunk-own st t h q e (now gone u) s = tt
  sunk-own st t h q e (now (one a) u) s = tt
  sunk-own st t h q e (now (two a k b) u) s = tt

module _ (Pg : PageFormat) (rules : Rules Pg) (keep : ℕ → Pg.Keep) (sinking : Sinking Pg) where
  -- ---- a leaf

  pub leaf-sinks : (n : ℕ) (F : List ℕ) (only full : Bool) (st : State) (lo hi : ℕ) (c : Rec) → Here Pg n F only st 0 lo hi c → (e : Edit) → Proper e → (s : Result ℕ ℕ) →
      searched (key_of e) 0 (records_at Pg st.image (child_of c)) ≡ s → IfMade (SinksUnder Pg sinking st 0 (child_of c)) (edit_leaf Pg keep only full e (child_of c) st s)
  unfolding edit_leaf
  leaf-sinks n F only full st lo hi c H e P s z = sunk-own Pg sinking st st 0 (child_of c) refl (edit_leaf Pg keep only full e (child_of c) st s) (go e P s z)
    where
      q : ℕ
      q = child_of c

      page : 1 ≤ inside n (child_of c)
      page = omega (arith, H.apart (child_of c), own-page Pg st.image 0 (child_of c))

      laid : Pg.laid (page_of st.image (child_of c)) ≡ true
      laid = (rules.reads.ok-true leaf_kind (child_of c) (page_of st.image (child_of c)) H.under.page).laid

      go : (e : Edit) → Proper e → (s : Result ℕ ℕ) → searched (key_of e) 0 (records_at Pg st.image q) ≡ s → IfMade (Sinks Pg sinking st q) (edit_leaf Pg keep only full e q st s)
      go (edits.insert k v) P (Ok j) z = tt
      go (edits.insert k v) P (Err j) z = put-sinks Pg rules keep sinking n st H.long q page laid leaf_kind full true j (rec_of k v) (record { low = P.high; few = P.short })
      go (edits.update k v) P (Ok j) z = put-sinks Pg rules keep sinking n st H.long q page laid leaf_kind full false j (rec_of k v) (record { low = P.high; few = P.short })
      go (edits.update k v) P (Err j) z = tt
      go (edits.delete k) P (Ok j) z = dropped-sinks Pg rules keep sinking n st H.long q page laid only j (search-there k lo (records_at Pg st.image q) hi H.under.rising j z).inside
      go (edits.delete k) P (Err j) z = tt

  -- ---- a page above, once the step s is made under the child

  pub node-sinks : (n : ℕ) (F : List ℕ) (only : Bool) (st : State) (h lo hi : ℕ) (c₀ : Rec) (H : Here Pg n F only st (suc h) lo hi c₀) (pre : List Rec) (c : Rec) (post : List Rec)
      (K : Parts Pg n F only st h lo hi c₀ pre c post) → suc (suc h) < 256 → (rs : List Rec) (W : Type 0) (s : PageStep) → IfMade (SinksUnder Pg sinking st h (child_of c)) s →
      IfMade (Altered Pg keep n F only st h (start_of pre lo c.key) (first_key post hi) c rs W) s →
      IfMade (SinksUnder Pg sinking st (suc h) (child_of c₀)) (onto s (λ x t. absorbed Pg keep (suc (suc h)) (length pre) (start_of pre lo c.key) (child_of c₀) x t))
  unfolding onto absorbed
  node-sinks n F only st h lo hi c₀ H pre c post K small rs W (stops m) k M = tt
  node-sinks n F only st h lo hi c₀ H pre c post K small rs W (now ch t) k M = go ch refl k
    where
      q : ℕ
      q = child_of c₀

      low : ℕ
      low = start_of pre lo c.key

      rest : (ch ≡ kept → ⊥) → IfMade (SinksUnder Pg sinking st (suc h) q) (absorbed Pg keep (suc (suc h)) (length pre) low q ch t)
      rest ne =
          sunk-own Pg sinking st t (suc h) q (own_same Pg rules keep n F only st h lo hi c₀ H pre c post K rs W ch t M) (absorbed Pg keep (suc (suc h)) (length pre) low q ch t)
          (absorbed-sinks Pg rules keep sinking n H.few F t (M.leads.long ∙ H.long) q (suc (suc h)) small pre c post (lists-own Pg rules keep n F only st h lo hi c₀ H pre c post K rs W ch t M) K.entries
          (λ x. omega (arith, no_more Pg rules keep n F only st h lo hi c₀ H pre c post K rs W ch t M x, H.apart x))
          (λ x. omega (arith, H.sub x, leads-free Pg keep F st t M.leads x)) low ch M.seps-ok ne)

      go : (d : Change) → ch ≡ d → SinksUnder Pg sinking st h (child_of c) d t → IfMade (SinksUnder Pg sinking st (suc h) q) (absorbed Pg keep (suc (suc h)) (length pre) low q ch t)
      go kept e k =
          subst (λ (d : Change). IfMade (SinksUnder Pg sinking st (suc h) q) (absorbed Pg keep (suc (suc h)) (length pre) low q d t)) (sym e)
          (record { page = k.page; there = omega (arith, k.there, K.pages k.page); lower = k.lower })
      go gone e k = rest (λ z. not-kept gone refl (sym e ∙ z))
      go (one a) e k = rest (λ z. not-kept (one a) refl (sym e ∙ z))
      go (two a m b) e k = rest (λ z. not-kept (two a m b) refl (sym e ∙ z))

  -- ---- an edit

  pub edit-sinks : (h : ℕ) → suc h < 256 → (n : ℕ) (F : List ℕ) (only : Bool) (st : State) (lo hi : ℕ) (c : Rec) → Here Pg n F only st h lo hi c → (e : Edit) → Proper e → lo ≤ key_of e → key_of e < hi →
      IfMade (SinksUnder Pg sinking st h (child_of c)) (edit_in Pg keep only false e h lo (child_of c) st)
  unfolding edit_in next_slot
  edit-sinks zero small n F only st lo hi c H e P low high = leaf-sinks n F only false st lo hi c H e P (searched (key_of e) 0 (records_at Pg st.image (child_of c))) refl
  edit-sinks (suc h) small n F only st lo hi c H e P low high =
      let D = down Pg st.image h lo hi (child_of c) H.under e low high in
      let K = parts Pg rules n F only st h lo hi c H D.pre D.here D.post D.shape in
      let from = start_of D.pre lo D.here.key in
      let to = first_key D.post hi in
      let t = table_in Pg st.image h (child_of D.here) in
      let W = AllFull Pg (key_of e) st.image h (child_of D.here) in
      let step = edit_in Pg keep only false e h from (child_of D.here) st in
      let slot : route (key_of e) (records_at Pg st.image (child_of c)) ≡ length D.pre = D.slot in
      rw (slot, D.is, D.start)
      (node-sinks n F only st h lo hi c H D.pre D.here D.post K small (apply_edit e t) W step
      (edit-sinks h (omega arith) n F only st from to D.here K.child e P D.low D.high)
      (ended-after (key_rule e t) (Altered Pg keep n F only st h from to D.here (apply_edit e t) W) step
      (edit-ended Pg rules keep n F only st h (omega arith) from to D.here K.child e P D.low D.high)))
