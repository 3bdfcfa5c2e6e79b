-- One edit in its leaf: refused with 8 or 9 exactly by the leaf's records, with 11 for want of pages, or made.
-- Assumes nothing.
use Rattle.std.specs.Prelude.{Err, Ok, Result}
use Prim.Native.Nat.{ℕ, zero, suc, ◌≤◌, ◌<◌}
use mathlib.Core.Path.{◌≡◌, refl, sym, ap, ◌∙◌, subst}
use mathlib.Core.Logic.{◌⊎◌, inl, inr}
use mathlib.Core.Bool.{Bool, true, false, false≢true}
use mathlib.Core.List.{List}
use native.Mathlib.Omega.{arith}
use lib.ListN.{length, length-set}
use Rattle.codec.specs.Lists.{All, remove_at}
use Rattle.codec.proofs.Lists.{length-insert_at}
use Rattle.codec.proofs.Tests.{All-map, All-remove}
use Rattle.device.specs.Cut.{some}
use Rattle.page.specs.Layout.{Rec, leaf_kind, rec_of, size}
use Rattle.page.specs.Operations.{made, page_of}
use Rattle.page.specs.Page.{RecOk, form_ok}
use Rattle.page.specs.PageFormat.{PageFormat, Rules}
use Rattle.page.specs.Search.{searched}
use Rattle.page.proofs.Facts.{form-leaf, leaf-form}
use Rattle.page.proofs.Made.{All-made}
use Rattle.image.specs.Facts.{Nonempty, Rising}
use Rattle.image.specs.Image.{child_of, gathered, leaves_in, pages_in, count, hit}
use Rattle.image.specs.Table.{find}
use Rattle.image.proofs.Rising.{From}
use Rattle.edit.specs.EditList.{Edit, key_of}
use Rattle.edit.specs.Keys.{holds, key_rule}
use Rattle.edit.specs.Ledger.{add, apply_edit, replace, without}
use Rattle.edit.specs.Reads.{Proper}
use Rattle.edit.specs.EditList as edits
use Rattle.edit.proofs.Keys.{found_some}
use Rattle.edit.proofs.Ledger.{lacks-find, rising-add, rising-replace, rising-without}
use Rattle.edit.proofs.Places.{search-missing, search-there}
use Rattle.tree.specs.Edits.{Change, PageStep, dropped, edit_leaf, gone, kept, now, one, put, stops, two}
use Rattle.tree.specs.Grounds.{takes}
use Rattle.tree.specs.State.{State, with_page}
use Rattle.tree.proofs.Change.{Held, Holds, Out, lists-sound, nothing, out-ends, out-map, standing}
use Rattle.tree.proofs.Child.{Here}
use Rattle.tree.proofs.Node.{Altered}
use Rattle.tree.proofs.Puts.{Puts, dropped-gone, dropped-only, dropped-puts, dropped-some, put-ends}
use Rattle.tree.proofs.Settle.{InnerFor, settled}

-- stopped with g, or if g is 0 stopped with 11 or made with P
abbrev pub EndedAt : ℕ → (Change → State → Type 0) → PageStep → Type 0
EndedAt zero P s = Out P s
EndedAt (suc g) P s = s ≡ stops (suc g)

module _ (Pg : PageFormat) (rules : Rules Pg) (keep : ℕ → Pg.Keep) where
  -- ---- a leaf

  module _ (n : ℕ) (F : List ℕ) (only : Bool) (st : State) (lo hi : ℕ) (c : Rec) (H : Here Pg n F only st 0 lo hi c) where
    abbrev q : ℕ
    q = child_of c

    abbrev p : List ℕ
    p = page_of st.image q

    pages-one : (x : ℕ) → count x (pages_in Pg st.image 0 q) ≡ hit x q
    unfolding pages_in gathered
    pages-one x = omega arith

    own : Holds Pg st.image leaf_kind q (Pg.recs p)
    own = record { lists = lists-sound Pg rules leaf_kind q p H.under.page }

    inner-none : (ch : Change) (img : List ℕ) (rs : List Rec) → InnerFor Pg ch img 0 lo rs hi
    inner-none kept img rs = tt
    inner-none gone img rs = tt
    inner-none (one a) img rs = tt
    inner-none (two a k b) img rs = tt

    leaf-keys : From 1 (Pg.recs p)
    leaf-keys = All-map (λ (r : Rec). form_ok leaf_kind r ≡ true) (λ (r : Rec). 1 ≤ r.key) leaf-form (Pg.recs p) (rules.reads.ok-true leaf_kind q p H.under.page).forms

    -- what stands for a leaf that lists a record has no empty leaf
    leaf-full : (ch : Change) (t : State) (rs : List Rec) → 1 ≤ length rs → Held Pg t.image leaf_kind q ch rs → All (Nonempty Pg t.image) (standing q ch)
    leaf-full kept t rs k L = (rw L.lists.recs k, tt)
    leaf-full gone t rs k L = tt
    leaf-full (one a) t rs k L = (rw L.lists.recs k, tt)
    leaf-full (two a m b) t rs k L = (rw L.left-page.lists.recs L.some_left, (rw L.right-page.lists.recs L.some_right, tt))

    -- it lists a record, or it is gone, or it is the only leaf and stays
    abbrev Fills : Change → List Rec → Type 0
    Fills kept rs = (1 ≤ length rs) ⊎ (only ≡ true)
    Fills gone rs = only ≡ false
    Fills (one a) rs = 1 ≤ length rs
    Fills (two a k b) rs = 1 ≤ length rs

    fills-any : (ch : Change) (t : State) (rs : List Rec) → Held Pg t.image leaf_kind q ch rs → 1 ≤ length rs → Fills ch rs
    fills-any kept t rs h k = inl k
    fills-any gone t rs h k = absurd (omega (arith, ap length h))
    fills-any (one a) t rs h k = k
    fills-any (two a m b) t rs h k = k

    leaf-filled : (ch : Change) (t : State) (rs : List Rec) → Held Pg t.image leaf_kind q ch rs → Fills ch rs →
        All (Nonempty Pg t.image) (standing q ch) ⊎ ((only ≡ true) × (length (standing q ch) ≡ 1))
    leaf-filled kept t rs h (inl k) = inl (leaf-full kept t rs k h)
    leaf-filled kept t rs h (inr z) = inr (z, refl)
    leaf-filled gone t rs h k = inl tt
    leaf-filled (one a) t rs h k = inl (leaf-full (one a) t rs k h)
    leaf-filled (two a m b) t rs h k = inl (leaf-full (two a m b) t rs k h)

    leaf-stays : (ch : Change) (rs : List Rec) → Fills ch rs → only ≡ true → ch ≡ gone → ⊥
    leaf-stays kept rs k z e = let y : ◌≡◌ {A = ℕ} 0 1 = cc in omega arith
    leaf-stays gone rs k z e = false≢true (sym k ∙ z)
    leaf-stays (one a) rs k z e = let y : ◌≡◌ {A = ℕ} 0 1 = cc in omega arith
    leaf-stays (two a m b) rs k z e = let y : ◌≡◌ {A = ℕ} 0 1 = cc in omega arith

    one-leaf : length (leaves_in Pg st.image 0 q) ≡ 1
    unfolding leaves_in gathered
    one-leaf = refl

    leaf-made : (rs : List Rec) → Rising lo rs hi → From 1 rs → (ch : Change) (t : State) → Fills ch rs →
        Puts Pg keep F st q leaf_kind rs ch t → Altered Pg keep n F only st 0 lo hi c rs (Unit {0}) ch t
    leaf-made rs up keys ch t fills P =
        let S = settled Pg rules n H.few t.image 0 lo hi H.high c H.entry H.low H.below rs
        (All-map (λ (r : Rec). 1 ≤ r.key) (λ (r : Rec). form_ok leaf_kind r ≡ true) form-leaf rs keys) up ch P.held
        (λ x. omega (arith, P.pages x, H.apart x, pages-one x)) (inner-none ch t.image rs) in
        record {
          leads = P.leads;
          root = P.root;
          other = λ x k. P.other x (omega (arith, k, pages-one x));
          spans = S.spans;
          seps = S.seps;
          seps-ok = S.seps-ok;
          entries = S.entries;
          lists = S.lists;
          pages = λ x. omega (arith, S.pages x, P.pages x, pages-one x);
          fresh = P.fresh;
          full =
              subst (λ (l : List ℕ). All (Nonempty Pg t.image) l ⊎ ((only ≡ true) × (length l ≡ 1))) (sym S.leaves) (leaf-filled ch t rs P.held fills);
          lost = omega (arith, one-leaf);
          stays = leaf-stays ch rs fills;
          raises-two = λ z. tt;
        }

    put-leaf : (ins : Bool) (j : ℕ) (r : Rec) → RecOk r → 1 ≤ r.key → (rs : List Rec) → made ins j r (Pg.recs p) ≡ rs → 1 ≤ length rs → Rising lo rs hi →
        Out (Altered Pg keep n F only st 0 lo hi c rs (Unit {0})) (put Pg keep leaf_kind false ins j r q st)
    put-leaf ins j r ok key rs e some up =
        let new = made ins j r (Pg.recs p) in
        let P : Change → State → Type 0 = Puts Pg keep F st q leaf_kind new in
        let s = put Pg keep leaf_kind false ins j r q st in
        subst (λ (l : List Rec). Out (Altered Pg keep n F only st 0 lo hi c l (Unit {0})) s) e
        (out-map P (Altered Pg keep n F only st 0 lo hi c new (Unit {0})) s
        (λ ch t A.
        leaf-made new (rw e up) (All-made (λ (x : Rec). 1 ≤ x.key) ins j r (Pg.recs p) key leaf-keys) ch t (fills-any ch t new A.held (rw e some)) A)
        (out-ends P st.free (takes Pg (keep q) ins (size r) p new) s
        (put-ends Pg rules keep n H.few F st H.long q leaf_kind (omega arith) (Pg.recs p) own (λ x. omega (arith, H.apart x, pages-one x)) H.sub ins j r ok (rw e some))))

    drop-leaf : (j : ℕ) → j < length (Pg.recs p) → (rs : List Rec) → remove_at j (Pg.recs p) ≡ rs → Rising lo rs hi →
        Out (Altered Pg keep n F only st 0 lo hi c rs (Unit {0})) (dropped Pg only j q st)
    drop-leaf j inn rs e up =
        subst (λ (l : List Rec). Out (Altered Pg keep n F only st 0 lo hi c l (Unit {0})) (dropped Pg only j q st)) e (go (length (Pg.recs (Pg.remove p j))) refl only refl)
      where
        put_back : Puts Pg keep F st q leaf_kind (remove_at j (Pg.recs p)) kept (with_page q (Pg.remove p j) st)
        put_back = dropped-puts Pg rules keep n H.few F st H.long q leaf_kind (omega arith) (Pg.recs p) own (λ x. omega (arith, H.apart x, pages-one x)) H.sub j inn

        listed : Pg.recs (Pg.remove p j) ≡ remove_at j (Pg.recs p)
        listed = (rules.remove-lists p j (rules.reads.ok-true leaf_kind q p H.under.page).laid).recs

        Left : PageStep → Type 0
        Left = Out (Altered Pg keep n F only st 0 lo hi c (remove_at j (Pg.recs p)) (Unit {0}))

        here : (1 ≤ length (remove_at j (Pg.recs p))) ⊎ (only ≡ true) → Left (now kept (with_page q (Pg.remove p j) st))
        here h =
            leaf-made (remove_at j (Pg.recs p)) (rw e up) (All-remove (λ (r : Rec). 1 ≤ r.key) j (Pg.recs p) leaf-keys) kept (with_page q (Pg.remove p j) st) h put_back

        go : (m : ℕ) → length (Pg.recs (Pg.remove p j)) ≡ m → (b : Bool) → only ≡ b → Left (dropped Pg b j q st)
        go (suc m) z b w = subst Left (sym (dropped-some Pg b j q st (omega arith))) (here (inl (omega (arith, ap length listed))))
        go zero z true w = subst Left (sym (dropped-only Pg j q st z)) (here (inr w))
        go zero z false w =
            let A = put_back in
            subst Left (sym (dropped-gone Pg j q st z))
            (leaf-made (remove_at j (Pg.recs p)) (rw e up) (All-remove (λ (r : Rec). 1 ≤ r.key) j (Pg.recs p) leaf-keys) gone (with_page q (Pg.remove p j) st) w
            (record {
              split-over = λ y. absurd (omega arith);
              leads = A.leads;
              root = A.root;
              other = A.other;
              pages = λ x. omega (arith, A.pages x);
              held = nothing (remove_at j (Pg.recs p)) (ap length (sym listed) ∙ z);
              fresh = tt;
            }))

    pub leaf-ended : (e : Edit) → Proper e → lo ≤ key_of e → key_of e < hi → (s : Result ℕ ℕ) → searched (key_of e) 0 (Pg.recs p) ≡ s →
        EndedAt (key_rule e (Pg.recs p)) (Altered Pg keep n F only st 0 lo hi c (apply_edit e (Pg.recs p)) (Unit {0})) (edit_leaf Pg keep only false e q st s)
    unfolding edit_leaf key_rule holds apply_edit made
    leaf-ended (edits.insert k v) P low high (Ok j) z =
        let T = search-there k lo (Pg.recs p) hi H.under.rising j z in rw (found_some (find k (Pg.recs p)) T.found) refl
    leaf-ended (edits.insert k v) P low high (Err j) z =
        let T = search-missing k lo (Pg.recs p) hi H.under.rising j z in
        rw (lacks-find k (Pg.recs p) T.lacks)
        (put-leaf true j (rec_of k v) (record { low = P.high; few = P.short }) P.low (add k v (Pg.recs p)) (T.inserted v)
        (omega (arith, ap length (T.inserted v), length-insert_at j (rec_of k v) (Pg.recs p)))
        (rising-add k v lo (Pg.recs p) hi H.under.rising low high T.lacks))
    leaf-ended (edits.update k v) P low high (Ok j) z =
        let T = search-there k lo (Pg.recs p) hi H.under.rising j z in
        rw (found_some (find k (Pg.recs p)) T.found)
        (put-leaf false j (rec_of k v) (record { low = P.high; few = P.short }) P.low (replace k v (Pg.recs p)) (T.updated v)
        (omega (arith, ap length (T.updated v), length-set (Pg.recs p) j (rec_of k v), T.inside))
        (rising-replace k v lo (Pg.recs p) hi H.under.rising))
    leaf-ended (edits.update k v) P low high (Err j) z = let T = search-missing k lo (Pg.recs p) hi H.under.rising j z in rw (lacks-find k (Pg.recs p) T.lacks) refl
    leaf-ended (edits.delete k) P low high (Ok j) z =
        let T = search-there k lo (Pg.recs p) hi H.under.rising j z in
        rw (found_some (find k (Pg.recs p)) T.found) (drop-leaf j T.inside (without k (Pg.recs p)) T.deleted (rising-without k lo (Pg.recs p) hi H.under.rising))
    leaf-ended (edits.delete k) P low high (Err j) z = let T = search-missing k lo (Pg.recs p) hi H.under.rising j z in rw (lacks-find k (Pg.recs p) T.lacks) refl
