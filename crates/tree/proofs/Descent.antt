-- One edit under a page of any height, with no regard to whether the pages above have room: refused with 8 or 9 exactly by the table, with 11 for want of pages, or made:
-- a sound tree over the same range, whose table is the ledger's.
-- Assumes nothing.
use Prim.Native.Nat.{ℕ, zero, suc, ◌≤◌, ◌<◌}
use mathlib.Core.Path.{◌≡◌, refl, sym, ap, ◌∙◌, subst}
use mathlib.Core.Bool.{true, false, Bool}
use mathlib.Core.List.{List, ◌++◌}
use native.Mathlib.Omega.{arith}
use lib.ListN.{length}
use borrow.Author.Tests.{le-leb}
use Rattle.page.specs.Layout.{Rec}
use Rattle.page.specs.PageFormat.{PageFormat, Rules}
use Rattle.page.specs.Search.{searched}
use Rattle.image.specs.Image.{child_of, first_key, gathered, joined, records_at, start_of}
use Rattle.image.specs.Route.{route}
use Rattle.image.specs.Table.{table_in}
use Rattle.edit.specs.EditList.{Edit, key_of}
use Rattle.edit.specs.Keys.{key_rule}
use Rattle.edit.specs.Ledger.{apply_edit}
use Rattle.edit.specs.Reads.{Proper}
use Rattle.tree.specs.Edits.{Change, PageStep, absorbed, edit_in, now, onto, stops}
use Rattle.tree.specs.Grounds.{full_in, next_page, next_slot}
use Rattle.tree.specs.State.{State}
use Rattle.tree.proofs.Child.{Here, Parts, parts}
use Rattle.tree.proofs.Leaf.{EndedAt, leaf-ended}
use Rattle.tree.proofs.Node.{Altered, node-out}
use Rattle.tree.proofs.Routes.{Down, down}

-- ---- when two pages stand for a page of height h

module _ (Pg : PageFormat) where
  -- no page from q down to the leaf of k has room for one record more
  abbrev pub AllFull : ℕ → List ℕ → ℕ → ℕ → Type 0
  AllFull k img zero q = Unit {0}
  AllFull k img (suc h) q = (Pg.cap ≤ length (records_at Pg img q)) × AllFull k img h (next_page Pg k img q)

  pub all-full : (k : ℕ) (img : List ℕ) (h q : ℕ) → AllFull k img h q → full_in Pg k img h q ≡ true
  unfolding full_in
  all-full k img zero q s = refl
  all-full k img (suc h) q s = rw (le-leb Pg.cap (length (records_at Pg img q)) s.0) (all-full k img h (next_page Pg k img q) s.1)

-- ---- the edit

module _ (Pg : PageFormat) (rules : Rules Pg) (keep : ℕ → Pg.Keep) (n : ℕ) (F : List ℕ) (only : Bool) (st : State) where
  -- what is said of an edit under a page of height h
  abbrev pub EndedUnder : Edit → ℕ → ℕ → ℕ → Rec → Type 0
  EndedUnder e h lo hi c =
      EndedAt (key_rule e (table_in Pg st.image h (child_of c)))
      (Altered Pg keep n F only st h lo hi c (apply_edit e (table_in Pg st.image h (child_of c))) (AllFull Pg (key_of e) st.image h (child_of c)))
      (edit_in Pg keep only false e h lo (child_of c) st)

  edit-leaf : (lo hi : ℕ) (c : Rec) → Here Pg n F only st 0 lo hi c → (e : Edit) → Proper e → lo ≤ key_of e → key_of e < hi → EndedUnder e 0 lo hi c
  unfolding edit_in table_in gathered
  edit-leaf lo hi c H e P low high = leaf-ended Pg rules keep n F only st lo hi c H e P low high (searched (key_of e) 0 (records_at Pg st.image (child_of c))) refl

  module _ (h lo hi : ℕ) (small : suc (suc h) < 256) (c : Rec) (H : Here Pg n F only st (suc h) lo hi c) where
    node-ended : (pre : List Rec) (d : Rec) (post : List Rec) → Parts Pg n F only st h lo hi c pre d post → (g : ℕ) (rs : List Rec) (W : Type 0) (s : PageStep) →
        EndedAt g (Altered Pg keep n F only st h (start_of pre lo d.key) (first_key post hi) d rs W) s →
        EndedAt g
        (Altered Pg keep n F only st (suc h) lo hi c (joined (λ x. table_in Pg st.image h x) pre ++ (rs ++ joined (λ x. table_in Pg st.image h x) post))
        ((Pg.cap ≤ length (records_at Pg st.image (child_of c))) × W))
        (onto s (λ x t. absorbed Pg keep (suc (suc h)) (length pre) (start_of pre lo d.key) (child_of c) x t))
    unfolding onto
    node-ended pre d post K zero rs W (stops m) o = o
    node-ended pre d post K zero rs W (now ch t) M = node-out Pg rules keep n F only st h lo hi c H pre d post K rs W ch t M small
    node-ended pre d post K (suc g) rs W s o = rw o refl

    -- the page under it is changed from where its range starts, and then the page itself, in the state which that leaves
    both-ended : (pre : List Rec) (d : Rec) (post : List Rec) → Parts Pg n F only st h lo hi c pre d post → (e : Edit) (g : ℕ) (rs : List Rec) (W : Type 0) (from : ℕ) (mid : State → State) →
        from ≡ start_of pre lo d.key → ((t : State) → mid t ≡ t) →
        EndedAt g (Altered Pg keep n F only st h (start_of pre lo d.key) (first_key post hi) d rs W) (edit_in Pg keep only false e h (start_of pre lo d.key) (child_of d) st) →
        EndedAt g
        (Altered Pg keep n F only st (suc h) lo hi c (joined (λ x. table_in Pg st.image h x) pre ++ (rs ++ joined (λ x. table_in Pg st.image h x) post))
        ((Pg.cap ≤ length (records_at Pg st.image (child_of c))) × W))
        (onto (edit_in Pg keep only false e h from (child_of d) st) (λ x t. absorbed Pg keep (suc (suc h)) (length pre) (start_of pre lo d.key) (child_of c) x (mid t)))
    unfolding onto
    both-ended pre d post K e g rs W from mid starts leaves o =
        subst (EndedAt g _) (ap (λ (x : ℕ). onto (edit_in Pg keep only false e h x (child_of d) st) up) (sym starts) ∙ go (edit_in Pg keep only false e h from (child_of d) st))
        (node-ended pre d post K g rs W (edit_in Pg keep only false e h (start_of pre lo d.key) (child_of d) st) o)
      where
        up : Change → State → PageStep
        up x t = absorbed Pg keep (suc (suc h)) (length pre) (start_of pre lo d.key) (child_of c) x t

        go : (s : PageStep) → onto s up ≡ onto s (λ x t. up x (mid t))
        go (stops m) = refl
        go (now x t) = ap (up x) (sym (leaves t))

    edit-node : (e : Edit) (D : Down Pg st.image h lo hi (child_of c) e) → EndedUnder e h (start_of D.pre lo D.here.key) (first_key D.post hi) D.here → EndedUnder e (suc h) lo hi c
    unfolding edit_in next_slot
    edit-node e D rest =
        let q = child_of c in
        let k = table_in Pg st.image h (child_of D.here) in
        let low = start_of D.pre lo D.here.key in
        let slot : route (key_of e) (records_at Pg st.image q) ≡ length D.pre = D.slot in
        let K = parts Pg rules n F only st h lo hi c H D.pre D.here D.post D.shape in
        rw (D.rule, D.makes, slot, D.is, D.start, D.next)
        (both-ended D.pre D.here D.post K e (key_rule e k) (apply_edit e k) (AllFull Pg (key_of e) st.image h (child_of D.here)) _ _ (search) (search itself) rest)
      where
        itself : (t : State) → t ≡ t
        itself t = refl

  pub edit-ended : (h : ℕ) → suc h < 256 → (lo hi : ℕ) (c : Rec) → Here Pg n F only st h lo hi c → (e : Edit) → Proper e → lo ≤ key_of e → key_of e < hi → EndedUnder e h lo hi c
  edit-ended zero small lo hi c H e P low high = edit-leaf lo hi c H e P low high
  edit-ended (suc h) small lo hi c H e P low high =
      let D = down Pg st.image h lo hi (child_of c) H.under e low high in
      let K = parts Pg rules n F only st h lo hi c H D.pre D.here D.post D.shape in
      edit-node h lo hi small c H e D (edit-ended h (omega arith) (start_of D.pre lo D.here.key) (first_key D.post hi) D.here K.child e P D.low D.high)
