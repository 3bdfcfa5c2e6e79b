-- One edit is refused exactly by its ground: 8 and 9 by the table, 10 where no page above its leaf has room, which is never so, 11 by the pages that it takes.
-- Assumes nothing.
use Rattle.std.specs.Prelude.{Err, Ok, Option, Result}
use Prim.Native.Nat.{ℕ, zero, suc, ◌+◌, ◌≤◌, ◌<◌}
use mathlib.Core.Path.{◌≡◌, refl, sym, ap, ◌∙◌, subst}
use mathlib.Core.Logic.{◌⊎◌, inl, inr}
use mathlib.Core.Bool.{Bool, true, false}
use mathlib.Core.List.{List, [], ◌∷◌, ◌++◌}
use native.Mathlib.Omega.{arith}
use lib.ListN.{length}
use lib.Dec.{eqb, ltb}
use borrow.Author.Tests.{eq-eqb, le-ltb, lt-ltb, ne_eqb}
use Rattle.codec.specs.Lists.{pick}
use Rattle.device.specs.Calls.{index_full, pages_out}
use Rattle.page.specs.Layout.{Rec, leaf_kind, rec_of, top_key}
use Rattle.page.specs.Operations.{made, page_of}
use Rattle.page.specs.PageFormat.{PageFormat, Rules}
use Rattle.page.specs.Search.{searched}
use Rattle.image.specs.Facts.{Rising, Under}
use Rattle.image.specs.Image.{child_of, first_key, gathered, height_in, index_rec, records_at, start_of, count}
use Rattle.image.specs.Route.{route}
use Rattle.image.specs.Table.{find, table_in}
use Rattle.edit.specs.EditList.{Edit, key_of}
use Rattle.edit.specs.Keys.{holds, is_some, key_rule}
use Rattle.edit.specs.Ledger.{add, apply_edit, replace}
use Rattle.edit.specs.Reads.{Proper}
use Rattle.edit.specs.EditList as edits
use Rattle.edit.proofs.General.{by-test}
use Rattle.edit.proofs.Keys.{found_some}
use Rattle.edit.proofs.Ledger.{lacks-find}
use Rattle.edit.proofs.Places.{search-missing, search-there}
use Rattle.tree.specs.Edits.{Change, PageStep, absorbed, edit_in, edit_leaf, edited_in, gone, kept, now, one, only_leaf, onto, rooted, stops, two}
use Rattle.tree.specs.Good.{GoodIn}
use Rattle.tree.specs.Grounds.{ground_in, leaf_takes, next_slot, placing_in, takes_above, takes_edit, takes_in, raised_above, raised_in}
use Rattle.tree.specs.State.{State, Step, done, filled, refused, take_page, taken, with_root}
use Rattle.tree.proofs.Change.{Out, raised}
use Rattle.tree.proofs.Child.{Here, Parts, parts}
use Rattle.tree.proofs.Counted.{absorbed-counted}
use Rattle.tree.proofs.Descent.{AllFull, EndedUnder, edit-ended}
use Rattle.tree.proofs.Height.{height-range, tallest-kind}
use Rattle.tree.proofs.Leaf.{EndedAt}
use Rattle.tree.proofs.Node.{Altered, lists-own, no_more, own_same}
use Rattle.tree.proofs.Puts.{dropped-is}
use Rattle.tree.proofs.Root.{here, names-root}
use Rattle.tree.proofs.Routes.{Down, down}
use Rattle.tree.proofs.Spare.{edited-plain, never-overflows}
use Rattle.tree.proofs.States.{leads-free}
use Rattle.tree.proofs.Takes.{Counted, put-counted}

-- the number of a step's refusal, or 0
abbrev pub code : Step → ℕ
code (done t) = 0
code (refused k) = k

-- ---- pages taken under a page

module _ (Pg : PageFormat) (rules : Rules Pg) (keep : ℕ → Pg.Keep) (n : ℕ) (F : List ℕ) (clear : (x : ℕ) → 1 ≤ count x F → keep x ≡ Pg.none) (only : Bool) (st : State) where
  no-8 : {A : Type 0} → ◌≡◌ {A = ℕ} 8 0 → A
  no-8 e = absurd (omega arith)

  no_9 : {A : Type 0} → ◌≡◌ {A = ℕ} 9 0 → A
  no_9 e = absurd (omega arith)

  leaf-counted : (lo hi q : ℕ) → Rising lo (records_at Pg st.image q) hi → (e : Edit) (s : Result ℕ ℕ) → searched (key_of e) 0 (records_at Pg st.image q) ≡ s → key_rule e (records_at Pg st.image q) ≡ 0 →
      Counted (leaf_takes Pg (keep q) e (page_of st.image q)) (leaf_takes Pg (keep q) e (page_of st.image q)) st.free (edit_leaf Pg keep only false e q st s)
  unfolding edit_leaf key_rule holds leaf_takes made
  leaf-counted lo hi q up (edits.insert k v) (Ok j) z w =
      let t = records_at Pg st.image q in
      no-8 (sym (ap (λ (b : Bool). pick b 8 0) (found_some (find k t) (search-there k lo t hi up j z).found)) ∙ w)
  leaf-counted lo hi q up (edits.insert k v) (Err j) z w =
      let t = records_at Pg st.image q in
      put-counted Pg keep leaf_kind true j (rec_of k v) q st (add k v t) ((search-missing k lo t hi up j z).inserted v)
  leaf-counted lo hi q up (edits.update k v) (Ok j) z w =
      let t = records_at Pg st.image q in
      put-counted Pg keep leaf_kind false j (rec_of k v) q st (replace k v t) ((search-there k lo t hi up j z).updated v)
  leaf-counted lo hi q up (edits.update k v) (Err j) z w =
      let t = records_at Pg st.image q in
      no_9 (sym (ap (λ (o : Option (List ℕ)). pick (is_some o) 0 9) (lacks-find k t (search-missing k lo t hi up j z).lacks)) ∙ w)
  leaf-counted lo hi q up (edits.delete k) (Ok j) z w = dropped-is Pg (Counted 0 0 st.free) only j q st (refl, omega arith) (refl, omega arith)
  leaf-counted lo hi q up (edits.delete k) (Err j) z w =
      let t = records_at Pg st.image q in
      no_9 (sym (ap (λ (o : Option (List ℕ)). pick (is_some o) 0 9) (lacks-find k t (search-missing k lo t hi up j z).lacks)) ∙ w)

  -- what is said of an edit under a page of height h
  abbrev CountedIn : Edit → ℕ → ℕ → ℕ → Type 0
  CountedIn e h lo q = Counted (takes_in Pg keep e st.image h q) (raised_in Pg keep e st.image h q) st.free (edit_in Pg keep only false e h lo q st)

  counted-leaf : (lo hi q : ℕ) → Under Pg st.image 0 lo hi q → (e : Edit) → key_rule e (table_in Pg st.image 0 q) ≡ 0 → CountedIn e 0 lo q
  unfolding edit_in table_in gathered takes_in raised_in
  counted-leaf lo hi q u e g = leaf-counted lo hi q u.rising e (searched (key_of e) 0 (records_at Pg st.image q)) refl g

  module _ (h lo hi : ℕ) (small : suc (suc h) < 256) (c : Rec) (H : Here Pg n F only st (suc h) lo hi c) where
    abbrev q : ℕ
    q = child_of c

    abbrev room : Pg.Room
    room = Pg.room (keep q) (page_of st.image q)

    node-counted : (pre : List Rec) (d : Rec) (post : List Rec) → Parts Pg n F only st h lo hi c pre d post → (a w : ℕ) (rs : List Rec) (W : Type 0) (s : PageStep) → Counted a w st.free s →
        Out (Altered Pg keep n F only st h (start_of pre lo d.key) (first_key post hi) d rs W) s →
        Counted (a + takes_above Pg (Pg.room (keep (child_of c)) (page_of st.image (child_of c))) (length pre) (length (pre ++ d ∷ post)) w)
        (raised_above Pg (Pg.room (keep (child_of c)) (page_of st.image (child_of c))) (length pre) (length (pre ++ d ∷ post)) w) st.free
        (onto s (λ x t. absorbed Pg keep (suc (suc h)) (length pre) (start_of pre lo d.key) (child_of c) x t))
    unfolding onto
    node-counted pre d post K a w rs W (stops m) k o = omega arith
    node-counted pre d post K a w rs W (now ch t) k M =
        let low = start_of pre lo d.key in
        let m = length (pre ++ d ∷ post) in
        let above = absorbed Pg keep (suc (suc h)) (length pre) low q ch t in
        let same = own_same Pg rules keep n F only st h lo hi c H pre d post K rs W ch t M in
        let A =
        absorbed-counted Pg rules keep n H.few F t (M.leads.long ∙ H.long) q (suc (suc h)) small pre d post (lists-own Pg rules keep n F only st h lo hi c H pre d post K rs W ch t M) K.entries
        (λ x. omega (arith, no_more Pg rules keep n F only st h lo hi c H pre d post K rs W ch t M x, H.apart x))
        (λ x. omega (arith, H.sub x, leads-free Pg keep F st t M.leads x)) clear low ch M.seps-ok in
        let B : Counted (takes_above Pg room (length pre) m (raised ch)) (raised_above Pg room (length pre) m (raised ch)) t.free above =
        subst (λ (g : List ℕ). Counted (takes_above Pg (Pg.room (keep q) g) (length pre) m (raised ch)) (raised_above Pg (Pg.room (keep q) g) (length pre) m (raised ch)) t.free above) same A in
        go above (takes_above Pg room (length pre) m w) (raised_above Pg room (length pre) m w)
        (subst (λ (v : ℕ). Counted (takes_above Pg room (length pre) m v) (raised_above Pg room (length pre) m v) t.free above) k.0 B) k.1
      where
        go : (s : PageStep) (b v : ℕ) → Counted b v t.free s → length st.free ≡ a + length t.free → Counted (a + b) v st.free s
        go (stops m) b v h l = omega arith
        go (now d u) b v h l = (h.0, omega (arith, h.1))

    ended-zero : (g : ℕ) (P : Change → State → Type 0) (s : PageStep) → g ≡ 0 → EndedAt g P s → Out P s
    ended-zero zero P s z f = f
    ended-zero (suc g) P s z f = absurd (omega arith)

    counted-node : (e : Edit) (D : Down Pg st.image h lo hi (child_of c) e) → key_rule e (table_in Pg st.image h (child_of D.here)) ≡ 0 →
        EndedUnder Pg rules keep n F only st e h (start_of D.pre lo D.here.key) (first_key D.post hi) D.here →
        CountedIn e h (start_of D.pre lo D.here.key) (child_of D.here) → CountedIn e (suc h) lo (child_of c)
    unfolding edit_in next_slot takes_in raised_in
    counted-node e D z ends rest =
        let slot : route (key_of e) (records_at Pg st.image q) ≡ length D.pre = D.slot in
        let K = parts Pg rules n F only st h lo hi c H D.pre D.here D.post D.shape in
        let k = table_in Pg st.image h (child_of D.here) in
        let low = start_of D.pre lo D.here.key in
        let W : Type 0 = AllFull Pg (key_of e) st.image h (child_of D.here) in
        let s = edit_in Pg keep only false e h low (child_of D.here) st in
        let o = ended-zero (key_rule e k) (Altered Pg keep n F only st h low (first_key D.post hi) D.here (apply_edit e k) W) s z ends in
        rw (D.next, slot, D.is, D.start)
        (subst (λ (m : ℕ).
        Counted (takes_in Pg keep e st.image h (child_of D.here) + takes_above Pg room (length D.pre) m (raised_in Pg keep e st.image h (child_of D.here)))
        (raised_above Pg room (length D.pre) m (raised_in Pg keep e st.image h (child_of D.here))) st.free
        (onto s (λ x t. absorbed Pg keep (suc (suc h)) (length D.pre) low q x t))) (sym (ap length D.shape))
        (node-counted D.pre D.here D.post K (takes_in Pg keep e st.image h (child_of D.here)) (raised_in Pg keep e st.image h (child_of D.here)) (apply_edit e k) W s rest o))

  pub edit-counted : (h : ℕ) → suc h < 256 → (lo hi : ℕ) (c : Rec) → Here Pg n F only st h lo hi c → (e : Edit) → Proper e → lo ≤ key_of e → key_of e < hi →
      key_rule e (table_in Pg st.image h (child_of c)) ≡ 0 →
      Counted (takes_in Pg keep e st.image h (child_of c)) (raised_in Pg keep e st.image h (child_of c)) st.free (edit_in Pg keep only false e h lo (child_of c) st)
  edit-counted zero small lo hi c H e P low high z = counted-leaf lo hi (child_of c) H.under e z
  edit-counted (suc h) small lo hi c H e P low high z =
      let D = down Pg st.image h lo hi (child_of c) H.under e low high in
      let K = parts Pg rules n F only st h lo hi c H D.pre D.here D.post D.shape in
      let y : key_rule e (table_in Pg st.image h (child_of D.here)) ≡ 0 = sym D.rule ∙ z in
      let start = start_of D.pre lo D.here.key in
      counted-node h lo hi small c H e D y (edit-ended Pg rules keep n F only st h (omega arith) start (first_key D.post hi) D.here K.child e P D.low D.high)
      (edit-counted h (omega arith) start (first_key D.post hi) D.here K.child e P D.low D.high y)

-- ---- the root

-- 11 where fewer than `need` pages are free
abbrev short_by : ℕ → List ℕ → ℕ
short_by need f = pick (ltb (length f) need) pages_out 0

short-yes : (need : ℕ) (f : List ℕ) → length f < need → short_by need f ≡ 11
short-yes need f h = rw (lt-ltb (length f) need h) refl

short-no : (need : ℕ) (f : List ℕ) → need ≤ length f → short_by need f ≡ 0
short-no need f h = rw (le-ltb (length f) need h) refl

not-two : (w : ℕ) → w ≤ 1 → ◌≡◌ {A = ℕ} (pick (eqb w 2) 1 0) 0
not-two w h = rw (ne_eqb w 2 (λ e. omega arith)) refl

module _ (Pg : PageFormat) (h : ℕ) where
  -- with a new page where the root is split
  rooted-code : (f : List ℕ) (need w : ℕ) (P : Change → State → Type 0) (s : PageStep) → Counted need w f s → Out P s → code (rooted Pg h s) ≡ short_by (need + pick (eqb w 2) 1 0) f
  unfolding rooted taken take_page
  rooted-code f need w P (stops k) h o = o ∙ sym (short-yes (need + pick (eqb w 2) 1 0) f (omega arith))
  rooted-code f need w P (now kept t) h o = sym (short-no (need + pick (eqb w 2) 1 0) f (omega (arith, h.1, not-two w (omega (arith, h.0)))))
  rooted-code f need w P (now gone t) h o = sym (short-no (need + pick (eqb w 2) 1 0) f (omega (arith, h.1, not-two w (omega (arith, h.0)))))
  rooted-code f need w P (now (one a) t) h o = sym (short-no (need + pick (eqb w 2) 1 0) f (omega (arith, h.1, not-two w (omega (arith, h.0)))))
  rooted-code f need w P (now (two a k b) t) c o = go t.free c.1
    where
      raises-two : ◌≡◌ {A = ℕ} (pick (eqb w 2) 1 0) 1
      raises-two = rw (eq-eqb w 2 (sym c.0)) refl

      go : (g : List ℕ) → length f ≡ need + length g →
          code (take_page (refused pages_out) g t (λ r u. done (with_root r (filled Pg (suc (suc h)) r (index_rec 0 a ∷ index_rec k b ∷ []) u)))) ≡ short_by (need + pick (eqb w 2) 1 0) f
      go [] l = sym (short-yes (need + pick (eqb w 2) 1 0) f (omega (arith, l, raises-two)))
      go (r ∷ g) l = sym (short-no (need + pick (eqb w 2) 1 0) f (omega (arith, l, raises-two)))

  -- the key rule, then 11
  ground-code : (f : List ℕ) (need w : ℕ) (P : Change → State → Type 0) (r : ℕ) (s : PageStep) → (r ≡ 0 → Counted need w f s) → EndedAt r P s →
      code (rooted Pg h s) ≡ pick (eqb r 0) (short_by (need + pick (eqb w 2) 1 0) f) r
  unfolding rooted
  ground-code f need w P zero s c o = rooted-code f need w P s (c refl) o
  ground-code f need w P (suc r) s c o = rw (ne_eqb (suc r) 0 (λ z. omega arith), o)

-- ---- the ground

rule-cases : (e : Edit) (t : List Rec) → (key_rule e t ≡ 0) ⊎ ((key_rule e t ≡ 8) ⊎ (key_rule e t ≡ 9))
unfolding key_rule
rule-cases (edits.insert k v) t = by-test (λ (r : ℕ). (r ≡ 0) ⊎ ((r ≡ 8) ⊎ (r ≡ 9))) (holds k t) (λ z. inr (inl refl)) (λ z. inl refl)
rule-cases (edits.update k v) t = by-test (λ (r : ℕ). (r ≡ 0) ⊎ ((r ≡ 8) ⊎ (r ≡ 9))) (holds k t) (λ z. inl refl) (λ z. inr (inr refl))
rule-cases (edits.delete k) t = by-test (λ (r : ℕ). (r ≡ 0) ⊎ ((r ≡ 8) ⊎ (r ≡ 9))) (holds k t) (λ z. inl refl) (λ z. inr (inr refl))

module _ (Pg : PageFormat) (keep : ℕ → Pg.Keep) (st : State) (e : Edit) where
  abbrev rule : ℕ
  rule = key_rule e (table_in Pg st.image (height_in Pg st.image st.root) st.root)

  -- 8 and 9, whatever 10 and 11 would say
  present : rule ≡ 8 → ground_in Pg keep st e ≡ 8
  unfolding ground_in
  present z = rw z refl

  missing : rule ≡ 9 → ground_in Pg keep st e ≡ 9
  unfolding ground_in
  missing z = rw z refl

  pub ground-placed : rule ≡ 0 → ground_in Pg keep st e ≡ placing_in Pg keep st e
  unfolding ground_in
  ground-placed z = rw z refl

  pub ground-is : ground_in Pg keep st e ≡ pick (eqb rule 0) (placing_in Pg keep st e) rule
  ground-is = go (rule-cases e (table_in Pg st.image (height_in Pg st.image st.root) st.root))
    where
      go : (rule ≡ 0) ⊎ ((rule ≡ 8) ⊎ (rule ≡ 9)) → ground_in Pg keep st e ≡ pick (eqb rule 0) (placing_in Pg keep st e) rule
      go (inl z) = rw z (ground-placed z)
      go (inr (inl z)) = rw z (present z)
      go (inr (inr z)) = rw z (missing z)

-- "10 .. is shown never to occur": what is left where the key rule is kept is 11
module _ (Pg : PageFormat) (rules : Rules Pg) (keep : ℕ → Pg.Keep) (n : ℕ) (st : State) (G : GoodIn Pg n st) (e : Edit) where
  placing-short : placing_in Pg keep st e ≡ short_by (takes_edit Pg keep e st) st.free
  unfolding placing_in
  placing-short = ap (λ (b : Bool). pick b index_full (short_by (takes_edit Pg keep e st) st.free)) (never-overflows Pg rules keep n st G e)

  pub ground-spare : ground_in Pg keep st e ≡ 10 → ⊥
  ground-spare z = go (rule-cases e (table_in Pg st.image (height_in Pg st.image st.root) st.root))
    where
      short : (b : Bool) → pick b pages_out 0 ≡ 10 → ⊥
      short true y = let q : ◌≡◌ {A = ℕ} 11 10 = y in omega arith
      short false y = let q : ◌≡◌ {A = ℕ} 0 10 = y in omega arith

      go : (rule Pg keep st e ≡ 0) ⊎ ((rule Pg keep st e ≡ 8) ⊎ (rule Pg keep st e ≡ 9)) → ⊥
      go (inl y) = short (ltb (length st.free) (takes_edit Pg keep e st)) (sym (ground-placed Pg keep st e y ∙ placing-short) ∙ z)
      go (inr (inl y)) = omega (arith, present Pg keep st e y, z)
      go (inr (inr y)) = omega (arith, missing Pg keep st e y, z)

-- "8 insert of a key present; 9 other edit of a missing key; 10 a 29th index record; 11 too few new pages", exactly
pub edit-exact-in : (Pg : PageFormat) (rules : Rules Pg) (keep : ℕ → Pg.Keep) (n : ℕ) (st : State) → GoodIn Pg n st → ((x : ℕ) → 1 ≤ count x st.free → keep x ≡ Pg.none) → (e : Edit) → Proper e →
    code (edited_in Pg keep e st) ≡ ground_in Pg keep st e
unfolding takes_edit
edit-exact-in Pg rules keep n st G clear e P =
    let F = st.free in
    let h = height_in Pg st.image st.root in
    let only = only_leaf Pg st.image h st.root in
    let c : Rec = index_rec 0 st.root in
    let range = height-range Pg st.image st.root in
    let kind : suc h < 256 = omega (arith, range.1, tallest-kind) in
    let H = here Pg rules keep n F st G (λ x. omega arith) in
    let N = names-root Pg rules keep n F st G (λ x. omega arith) in
    let A : key_rule e (table_in Pg st.image h (child_of c)) ≡ 0 → Counted (takes_in Pg keep e st.image h (child_of c)) (raised_in Pg keep e st.image h (child_of c)) F (edit_in Pg keep only false e h 0 (child_of c) st) =
    edit-counted Pg rules keep n F clear only st h kind 0 (suc top_key) c H e P (omega arith) (omega (arith, P.high)) in
    let B = edit-ended Pg rules keep n F only st h kind 0 (suc top_key) c H e P (omega arith) (omega (arith, P.high)) in
    ap code (edited-plain Pg rules keep n st G e)
    ∙ subst (λ (x : ℕ).
    code (rooted Pg h (edit_in Pg keep only false e h 0 x st))
    ≡ pick (eqb (key_rule e (table_in Pg st.image h x)) 0)
    (short_by (takes_in Pg keep e st.image h x + pick (eqb (raised_in Pg keep e st.image h x) 2) 1 0) F) (key_rule e (table_in Pg st.image h x))) N
    (ground-code Pg h F (takes_in Pg keep e st.image h (child_of c)) (raised_in Pg keep e st.image h (child_of c)) _ (key_rule e (table_in Pg st.image h (child_of c)))
    (edit_in Pg keep only false e h 0 (child_of c) st) A B)
    ∙ sym (ground-is Pg keep st e ∙ ap (λ (x : ℕ). pick (eqb (rule Pg keep st e) 0) x (rule Pg keep st e)) (placing-short Pg rules keep n st G e))
