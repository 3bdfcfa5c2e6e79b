-- An edit that is made leaves the pages on its way, the root and the free pages as the documents say.
-- Assumes nothing.
use Rattle.std.specs.Prelude.{Err, Ok, Result}
use Prim.Native.Nat.{ℕ, zero, suc, ◌+◌, ◌-◌, ◌≤◌, ◌<◌}
use mathlib.Core.Path.{◌≡◌, refl, sym, ap, ◌∙◌, subst}
use mathlib.Core.Bool.{Bool, true, false}
use mathlib.Core.List.{List, [], ◌∷◌, ◌++◌}
use native.Mathlib.Omega.{arith}
use lib.ListN.{length, length-set}
use borrow.Author.Tests.{eq-eqb, eqb-false, eqb-true}
use Rattle.codec.proofs.Lists.{length-insert_at}
use Rattle.device.specs.Calls.{pages_out}
use Rattle.page.specs.Layout.{page_size, leaf_kind, top_key, Rec, rec_of, size}
use Rattle.page.specs.Page.{records, RecOk}
use Rattle.page.specs.Operations.{made, page_of, sizes}
use Rattle.page.specs.PageFormat.{format1, Shows}
use Rattle.page.specs.Search.{searched}
use Rattle.page.proofs.Format1.{format1-rules}
use Rattle.image.specs.Image.{child_of, children, first_key, gathered, height_in, index_rec, leaves_in, pages_in, records_at, start_of, tallest, count, hit}
use Rattle.image.specs.Table.{table_in}
use Rattle.image.specs.Route.{route}
use Rattle.image.proofs.Alike.{leaves-some}
use Rattle.image.proofs.IndexRecords.{index_ok, sizes-entries}
use Rattle.image.proofs.Times.{hit-self}
use Rattle.edit.specs.EditList.{Edit, key_of}
use Rattle.edit.specs.EditList as edits
use Rattle.edit.specs.Keys.{key_rule}
use Rattle.edit.specs.Ledger.{add, apply_edit, replace, without}
use Rattle.edit.specs.Reads.{Proper}
use Rattle.edit.proofs.Places.{search-there, search-missing}
use Rattle.tree.specs.State.{State, Step, done, refused, filled, with_root}
use Rattle.tree.specs.Edits.{Change, PageStep, now, stops, gone, kept, one, two, no_keep, put, absorbed, edit_in, edit_leaf, edited, onto, only_leaf, rooted}
use Rattle.tree.specs.Good.{Good, inside}
use Rattle.tree.specs.Grounds.{next_slot}
use Rattle.tree.specs.Moved.{PutIn, put-here, put-copied, put-split, Alone, AtLeaf, AtNode, MovedIn, root-stays, root-copied, root-split, Moved}
use Rattle.tree.proofs.Absorb.{absorbed-out}
use Rattle.tree.proofs.AtNode.{absorbed-at}
use Rattle.tree.proofs.Change.{IfMade, if-made-map, if-made-out, taken_is, lists-sound, raised, stand, Some}
use Rattle.tree.proofs.Child.{Here, Parts, parts}
use Rattle.tree.proofs.Counts.{inside-most}
use Rattle.tree.proofs.Descent.{AllFull, edit-ended}
use Rattle.tree.proofs.Drops.{drop-in}
use Rattle.tree.proofs.Spare.{edited-plain}
use Rattle.tree.proofs.Height.{height-range, tallest-kind}
use Rattle.tree.proofs.Later.{node-later, leaf-later, leaf-pages}
use Rattle.tree.proofs.Leaf.{EndedAt}
use Rattle.tree.proofs.Node.{Altered, lists-own, no_more}
use Rattle.tree.proofs.PutTo.{Fills, fills, PutTo, put-to, to-own, to-new, to-two}
use Rattle.tree.proofs.Puts.{Puts}
use Rattle.tree.proofs.Root.{here, names-root, taller}
use Rattle.tree.proofs.Routes.{down}
use Rattle.tree.proofs.Separators.{separator-is}
use Rattle.tree.proofs.States.{leads-free}
use Rattle.tree.proofs.SunkPages.{ended-after}

-- what an edit under page q of height h wrote in t is so in z
abbrev Later : State → ℕ → ℕ → State → State → Type 0
Later st h q t z = (x : ℕ) → 1 ≤ count x (pages_in format1 st.image h q) + count x st.free → count x t.free ≡ 0 → page_of z.image x ≡ page_of t.image x

-- that part of the edit, whatever its end
abbrev MovesTo : Edit → ℕ → ℕ → ℕ → State → Change → State → Type 0
MovesTo e h lo q st d t = (z : State) → Later st h q t z → MovedIn e z h lo q st t d

both-made : (P Q : Change → State → Type 0) (s : PageStep) → IfMade P s → IfMade Q s → IfMade (λ d t. P d t × Q d t) s
both-made P Q (stops k) p q = tt
both-made P Q (now d t) p q = (p, q)

-- ---- a leaf

put_in : (s t : State) (q : ℕ) (ins : Bool) (i : ℕ) (r : Rec) (rs : List Rec) (d : Change) → PutTo s t leaf_kind q ins i r rs d → PutIn s t t q ins (size r) rs d
put_in s t q ins i r rs _ (to-own room W S slots low) = put-here room W S
put_in s t q ins i r rs _ (to-new x full fit W N) = put-copied x full fit W N
put_in s t q ins i r rs _ (to-two a k b full over W N) = put-split a k b full over W N

module _ (n : ℕ) (F : List ℕ) (only : Bool) (st : State) (yes-alone : only ≡ true → Alone st) (not-alone : only ≡ false → Alone st → ⊥) where
  module _ (lo hi : ℕ) (c : Rec) (H : Here format1 n F only st 0 lo hi c) where
    abbrev q : ℕ
    q = child_of c

    abbrev rs : List Rec
    rs = records (page_of st.image q)

    page-apart : (x : ℕ) → hit x (child_of c) + count x st.free ≤ inside n x
    unfolding pages_in gathered
    page-apart x = omega (arith, H.apart x)

    one-page : (x : ℕ) → hit x (child_of c) ≤ count x (pages_in format1 st.image 0 (child_of c))
    unfolding pages_in gathered
    one-page x = omega arith

    put-leaf : (ins : Bool) (j : ℕ) (r : Rec) → RecOk r → (to : List Rec) → made ins j r (records (page_of st.image (child_of c))) ≡ to → 1 ≤ length to →
        IfMade (λ d t. PutIn st t t (child_of c) ins (size r) to d) (put format1 no_keep leaf_kind false ins j r (child_of c) st)
    put-leaf ins j r ok to is some =
        let s = put format1 no_keep leaf_kind false ins j r q st in
        subst (λ (l : List Rec). IfMade (λ d t. PutIn st t t q ins (size r) l d) s) is
        (if-made-map (λ d t. PutTo st t leaf_kind q ins j r (made ins j r rs) d) (λ d t. PutIn st t t q ins (size r) (made ins j r rs) d) s (λ d t p. put_in st t q ins j r (made ins j r rs) d p)
        (put-to n H.few st H.long q leaf_kind (omega arith) rs (record { lists = lists-sound format1 format1-rules leaf_kind q (page_of st.image q) H.under.page }) page-apart ins j r ok (rw is some)))

    leaf-at : (e : Edit) → Proper e → (s : Result ℕ ℕ) → searched (key_of e) 0 (records (page_of st.image (child_of c))) ≡ s →
        IfMade (λ d t. AtLeaf e (child_of c) st t t d) (edit_leaf format1 no_keep only false e (child_of c) st s)
    unfolding edit_leaf made
    leaf-at (edits.insert k v) P (Ok j) z = tt
    leaf-at (edits.insert k v) P (Err j) z =
        let T = search-missing k lo rs hi H.under.rising j z in
        put-leaf true j (rec_of k v) (record { low = P.high; few = P.short }) (add k v rs) (T.inserted v) (omega (arith, ap length (T.inserted v), length-insert_at j (rec_of k v) rs))
    leaf-at (edits.update k v) P (Ok j) z =
        let T = search-there k lo rs hi H.under.rising j z in
        put-leaf false j (rec_of k v) (record { low = P.high; few = P.short }) (replace k v rs) (T.updated v) (omega (arith, ap length (T.updated v), length-set rs j (rec_of k v), T.inside))
    leaf-at (edits.update k v) P (Err j) z = tt
    leaf-at (edits.delete k) P (Ok j) z =
        drop-in n st H.long q leaf_kind rs (record { lists = lists-sound format1 format1-rules leaf_kind q (page_of st.image q) H.under.page }) (omega (arith, page-apart q, hit-self q)) only (Alone st) yes-alone not-alone j
        (without k rs) (search-there k lo rs hi H.under.rising j z).deleted
    leaf-at (edits.delete k) P (Err j) z = tt

    leaf-to : (e : Edit) → Proper e → (s : Result ℕ ℕ) → searched (key_of e) 0 (records (page_of st.image (child_of c))) ≡ s →
        IfMade (MovesTo e 0 lo (child_of c) st) (edit_leaf format1 no_keep only false e (child_of c) st s)
    leaf-to e P s z =
        if-made-map (λ d t. AtLeaf e q st t t d) (MovesTo e 0 lo q st) (edit_leaf format1 no_keep only false e q st s)
        (λ d t A z L.
        leaf-later st t z q e d
        (λ x k. let p = leaf-pages st t t q e d A x in L x (omega (arith, p, one-page x)) (omega (arith, p, page-apart x, inside-most n x))) A) (leaf-at e P s z)

  -- ---- a page above, once the step s is made under it

  module _ (e : Edit) (h lo hi : ℕ) (small : suc (suc h) < 256) (c₀ : Rec) (H : Here format1 n F only st (suc h) lo hi c₀) (pre : List Rec) (c : Rec) (post : List Rec)
      (K : Parts format1 n F only st h lo hi c₀ pre c post) (place : length pre ≡ route (key_of e) (children st.image (child_of c₀))) where
    abbrev low : ℕ
    low = start_of pre lo c.key

    node-at : (rs : List Rec) (W : Type 0) (s : PageStep) → IfMade (MovesTo e h (start_of pre lo c.key) (child_of c) st) s →
        IfMade (Altered format1 no_keep n F only st h (start_of pre lo c.key) (first_key post hi) c rs W) s →
        IfMade (MovesTo e (suc h) lo (child_of c₀) st) (onto s (λ x t. absorbed format1 no_keep (suc (suc h)) (length pre) (start_of pre lo c.key) (child_of c₀) x t))
    unfolding onto children
    node-at rs W (stops m) k M = tt
    node-at rs W (now ch t) k M =
        let q = child_of c₀ in
        let l = pre ++ (stand c low ch ++ post) in
        let step = absorbed format1 no_keep (suc (suc h)) (length pre) low q ch t in
        let L = lists-own format1 format1-rules no_keep n F only st h lo hi c₀ H pre c post K rs W ch t M in
        let apart : (x : ℕ) → hit x q + count x t.free ≤ inside n x = λ x. omega (arith, no_more format1 format1-rules no_keep n F only st h lo hi c₀ H pre c post K rs W ch t M x, H.apart x) in
        let free : (x : ℕ) → count x t.free ≤ count x st.free = λ x. leads-free format1 no_keep F st t M.leads x in
        let sub : (x : ℕ) → count x t.free ≤ count x F = λ x. omega (arith, H.sub x, free x) in
        if-made-map (λ d u. AtNode (suc (suc h)) q pre low post ch t u u d × Puts format1 no_keep F t q (suc (suc h)) l d u) (MovesTo e (suc h) lo q st) step
        (λ d u A z later.
        record {
          pre = pre;
          c = c;
          post = post;
          shape = K.shape;
          place = place;
          sep = low;
          separator = separator-is lo pre c;
          mid = t;
          change = ch;
          under =
              k z (λ x i f.
              later x (omega (arith, i, K.pages x)) (omega (arith, leads-free format1 no_keep F t u A.1.leads x))
              ∙ A.1.other x (omega (arith, i, f, K.pages x, H.apart x, inside-most n x)));
          here =
              node-later t u z (suc (suc h)) q pre low post ch d
              (λ x i. later x (omega (arith, i, A.1.pages x, K.pages x, free x)) (omega (arith, i, A.1.pages x, apart x, inside-most n x))) A.0;
        })
        (both-made (λ d u. AtNode (suc (suc h)) q pre low post ch t u u d) (λ d u. Puts format1 no_keep F t q (suc (suc h)) l d u) step
        (absorbed-at n H.few t (M.leads.long ∙ H.long) q (suc (suc h)) small pre c post L K.entries K.most apart low ch M.seps-ok)
        (if-made-out (λ d u. Puts format1 no_keep F t q (suc (suc h)) l d u × Some d l) (λ d u. Puts format1 no_keep F t q (suc (suc h)) l d u) step (λ d u P. P.0)
        (absorbed-out format1 format1-rules no_keep n H.few F t (M.leads.long ∙ H.long) q (suc (suc h)) small pre c post L K.entries apart sub low ch M.seps-ok)))

  -- ---- an edit under a page of height h

  edit-at : (h : ℕ) → suc h < 256 → (lo hi : ℕ) (c : Rec) → Here format1 n F only st h lo hi c → (e : Edit) → Proper e → lo ≤ key_of e → key_of e < hi →
      IfMade (MovesTo e h lo (child_of c) st) (edit_in format1 no_keep only false e h lo (child_of c) st)
  unfolding edit_in next_slot children
  edit-at zero small lo hi c H e P low high = leaf-to lo hi c H e P (searched (key_of e) 0 (records_at format1 st.image (child_of c))) refl
  edit-at (suc h) small lo hi c H e P low high =
      let D = down format1 st.image h lo hi (child_of c) H.under e low high in
      let K = parts format1 format1-rules n F only st h lo hi c H D.pre D.here D.post D.shape in
      let from = start_of D.pre lo D.here.key in
      let to = first_key D.post hi in
      let t = table_in format1 st.image h (child_of D.here) in
      let W = AllFull format1 (key_of e) st.image h (child_of D.here) in
      let step = edit_in format1 no_keep only false e h from (child_of D.here) st in
      let slot : route (key_of e) (records_at format1 st.image (child_of c)) ≡ length D.pre = D.slot in
      rw (slot, D.is, D.start)
      (node-at e h lo hi small c H D.pre D.here D.post K (sym slot) (apply_edit e t) W step
      (edit-at h (omega arith) from to D.here K.child e P D.low D.high)
      (ended-after (key_rule e t) (Altered format1 no_keep n F only st h from to D.here (apply_edit e t) W) step
      (edit-ended format1 format1-rules no_keep n F only st h (omega arith) from to D.here K.child e P D.low D.high)))

-- ---- the root

-- a state with P, if it is not refused
abbrev Yields : (State → Type 0) → Step → Type 0
Yields P (done t) = P t
Yields P (refused k) = Unit {0}

ended-rule : (g : ℕ) (P : Change → State → Type 0) (d : Change) (s : State) → EndedAt g P (now d s) → g ≡ 0
ended-rule zero P d s o = refl
ended-rule (suc g) P d s o = let z : ◌≡◌ {A = ℕ} 0 1 = cc in absurd (omega arith)

module _ (n : ℕ) (st : State) (G : Good n st) (e : Edit) (proper : Proper e) where
  abbrev h : ℕ
  h = height_in format1 st.image st.root

  abbrev only : Bool
  only = only_leaf format1 st.image h st.root

  -- a record that names the root
  abbrev c : Rec
  c = index_rec 0 st.root

  range : (1 ≤ height_in format1 st.image st.root) × (height_in format1 st.image st.root ≤ tallest)
  range = height-range format1 st.image st.root

  H : Here format1 n st.free (only_leaf format1 st.image (height_in format1 st.image st.root) st.root) st (height_in format1 st.image st.root) 0 (suc top_key) (index_rec 0 st.root)
  H = here format1 format1-rules no_keep n st.free st G (λ x. omega arith)

  names : child_of (index_rec 0 st.root) ≡ st.root
  names = names-root format1 format1-rules no_keep n st.free st G (λ x. omega arith)

  abbrev rule : ℕ
  rule = key_rule e (table_in format1 st.image h st.root)

  abbrev Under : Change → State → Type 0
  Under d s = MovesTo e h 0 st.root st d s

  abbrev Alt : Change → State → Type 0
  Alt d s = Altered format1 no_keep n st.free only st h 0 (suc top_key) c (apply_edit e (table_in format1 st.image h st.root)) (AllFull format1 (key_of e) st.image h (child_of c)) d s

  -- the root is split, and a page taken for the new one
  new_top : (a k b : ℕ) (s : State) → Under (two a k b) s → Alt (two a k b) s → h ≡ 1 → (r : ℕ) (f : List ℕ) → s.free ≡ r ∷ f →
      Moved e st (with_root r (filled format1 (suc (suc h)) r (index_rec 0 a ∷ index_rec k b ∷ []) (record { image = s.image; root = s.root; free = f })))
  unfolding index_rec
  new_top a k b s m M low r f z =
      let ds = index_rec 0 a ∷ index_rec k b ∷ [] in
      let u : State = record { image = s.image; root = s.root; free = f } in
      let inn : 1 ≤ inside n r = omega (arith, M.pages r, H.apart r, ap (count r) z, hit-self r) in
      let A : Fills u (filled format1 (suc (suc h)) r ds u) (suc (suc h)) r ds =
      fills n G.few u (M.leads.long ∙ G.size) r inn (suc (suc h)) (omega (arith, low)) ds (index_ok 0 a (omega arith), (index_ok k b M.seps-ok.1, tt)) (omega (arith, sizes-entries ds M.entries)) (omega arith) in
      record {
        mid = s;
        change = two a k b;
        under = m _ (λ x i f. A.other x (λ y. omega (arith, f, ap (count x) z, hit-self x, ap (hit x) y)));
        root =
            root-split a k b low (z ∙ ap (λ (l : List ℕ). r ∷ l) (sym A.free))
            (record { shows = subst (λ (x : ℕ). Shows (page_of (filled format1 (suc (suc h)) r ds u).image r) (suc (suc x)) r (page_size - sizes ds) ds) low A.page.shows; slots = A.page.slots; stays = A.page.stays }) A.other;
      }

  never_gone : (s : State) → Alt gone s → ⊥
  unfolding only_leaf
  never_gone s M =
      let some = leaves-some format1 st.image h 0 (suc top_key) st.root G.under in
      let lost : length (leaves_in format1 st.image h st.root) ≤ 1 = omega (arith, M.lost, ap (λ (x : ℕ). length (leaves_in format1 st.image h x)) names) in
      M.stays (eq-eqb (length (leaves_in format1 st.image h st.root)) 1 (omega arith)) refl

  root-at : (y : PageStep) → IfMade (MovesTo e (height_in format1 st.image st.root) 0 st.root st) y → IfMade (λ d s. Alt d s × (raised d ≡ 2 → height_in format1 st.image st.root ≡ 1)) y → Yields (Moved e st) (rooted format1 h y)
  unfolding rooted
  root-at (stops m) k M = tt
  root-at (now kept s) k M = record { mid = s; change = kept; under = k s (λ x i f. refl); root = root-stays refl }
  root-at (now gone s) k M = absurd (never_gone s M.0)
  root-at (now (one a) s) k M = record { mid = s; change = one a; under = k (with_root a s) (λ x i f. refl); root = root-copied a refl refl refl }
  root-at (now (two a m b) s) k M = taken_is (Yields (Moved e st)) (refused pages_out) s _ tt (λ r f z. new_top a m b s k M.0 (M.1 refl) r f z)

  -- a root that is split is not the tallest
  low-root : (d : Change) (s : State) → Alt d s → raised d ≡ 2 → h ≡ 1
  low-root d s M k = omega (arith, taller format1 format1-rules no_keep n st.free st G (λ x. omega arith) e (M.raises-two k), range)

  yields : Yields (Moved e st) (edited e st)
  unfolding only_leaf
  yields =
      let low : 0 ≤ key_of e = omega arith in
      let high : key_of e < suc top_key = omega (arith, proper.high) in
      let small : suc h < 256 = omega (arith, range.1, tallest-kind) in
      let alone : only ≡ true → Alone st = λ z. eqb-true (length (leaves_in format1 st.image h st.root)) 1 z in
      let others : only ≡ false → Alone st → ⊥ = λ z o. eqb-false (length (leaves_in format1 st.image h st.root)) 1 z o in
      let m = subst (λ (x : ℕ). IfMade (MovesTo e h 0 x st) (edit_in format1 no_keep only false e h 0 x st)) names (edit-at n st.free only st alone others h small 0 (suc top_key) c H e proper low high) in
      let y = edit_in format1 no_keep only false e h 0 st.root st in
      let o : EndedAt rule Alt y =
      subst (λ (x : ℕ).
      EndedAt (key_rule e (table_in format1 st.image h x))
      (λ d s. Altered format1 no_keep n st.free only st h 0 (suc top_key) c (apply_edit e (table_in format1 st.image h x)) (AllFull format1 (key_of e) st.image h (child_of c)) d s)
      (edit_in format1 no_keep only false e h 0 x st)) names (edit-ended format1 format1-rules no_keep n st.free only st h small 0 (suc top_key) c H e proper low high) in
      rw (edited-plain format1 format1-rules no_keep n st G e) (root-at y m (with-low y o))
    where
      with-low : (y : PageStep) → EndedAt rule Alt y → IfMade (λ d s. Alt d s × (raised d ≡ 2 → h ≡ 1)) y
      with-low (stops m) o = tt
      with-low (now d s) o =
          let r = ended-rule rule Alt d s o in
          let M : Alt d s = subst (λ (g : ℕ). EndedAt g Alt (now d s)) r o in
          (M, λ k. low-root d s M k)

-- an edit that is made leads to a state as the documents say
pub edit-moves : (n : ℕ) (st : State) → Good n st → (e : Edit) → Proper e → (t : State) → edited e st ≡ done t → Moved e st t
edit-moves n st G e P t q = subst (Yields (Moved e st)) q (yields n st G e P)
