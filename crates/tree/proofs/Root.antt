-- The root: an edit on the whole tree is refused by its key or with 11, or it keeps the tree sound, and its table is the ledger's.
-- Assumes nothing.
use Prim.Native.Nat.{ℕ, zero, suc, ◌+◌, ◌≤◌, ◌<◌}
use mathlib.Core.Path.{◌≡◌, refl, sym, ap, ◌∙◌, subst}
use mathlib.Core.Logic.{◌⊎◌, inl, inr}
use mathlib.Core.Bool.{Bool, true, false, true≢false}
use mathlib.Core.List.{List, [], ◌∷◌, append-nil}
use native.Mathlib.Decide.{dec_lt}
use native.Mathlib.Omega.{arith}
use lib.ListN.{length, length-append}
use borrow.Author.Tests.{eq-eqb, eqb-true}
use Rattle.codec.specs.Lists.{All}
use Rattle.device.specs.Calls.{pages_out}
use Rattle.page.specs.Layout.{Rec, top_key}
use Rattle.page.specs.Operations.{page_of}
use Rattle.page.specs.PageFormat.{PageFormat, Rules}
use Rattle.image.specs.Facts.{Nonempty, Spans, Under}
use Rattle.image.specs.Image.{child_of, height_in, index_rec, joined, leaves_in, pages_in, tallest, count, hit}
use Rattle.image.specs.Table.{table_in}
use Rattle.image.proofs.Alike.{AllAlike, all_alike, leaves-some, like, page-first}
use Rattle.image.proofs.General.{All-left}
use Rattle.image.proofs.IndexRecords.{index-child, index-entry, index_ok, sizes-entries}
use Rattle.image.proofs.Times.{among-count, count-append, hit-self}
use Rattle.edit.specs.EditList.{Edit, key_of}
use Rattle.edit.specs.Keys.{key_rule}
use Rattle.edit.specs.Ledger.{apply_edit}
use Rattle.edit.specs.Reads.{Proper}
use Rattle.tree.specs.Edits.{Change, PageStep, edit_in, edited_in, gone, kept, now, one, only_leaf, rooted, stops, two}
use Rattle.tree.specs.Good.{GoodIn, inside}
use Rattle.tree.specs.Grounds.{full_in}
use Rattle.tree.specs.State.{State, Step, done, filled, refused, take_page, taken, with_root}
use Rattle.tree.proofs.Change.{Holds, Out, stand}
use Rattle.tree.proofs.Child.{Here, entry-forms}
use Rattle.tree.proofs.Counts.{inside-most, inside-range}
use Rattle.tree.proofs.Descent.{AllFull, all-full, edit-ended}
use Rattle.tree.proofs.Height.{good-from, height-is, height-range, pages_at, table_at, tallest-kind, tallest-top}
use Rattle.tree.proofs.Leaf.{EndedAt}
use Rattle.tree.proofs.Node.{Altered}
use Rattle.tree.proofs.Settle.{PageUnder, lists-under}
use Rattle.tree.proofs.Spare.{edited-plain, never}
use Rattle.tree.proofs.States.{Filled, Leads, filled-facts, leads-free, leads-root, leads-take, leads-trans}

-- refused with g, or if g is 0 refused with 11 or made
abbrev pub Ended : ℕ → (State → Type 0) → Step → Type 0
Ended zero P (done t) = P t
Ended zero P (refused k) = k ≡ 11
Ended (suc g) P s = s ≡ refused (suc g)

-- a step that is made has P
pub ended-made : (P : State → Type 0) (g : ℕ) (t : State) → Ended g P (done t) → P t
ended-made P zero t h = h
ended-made P (suc g) t h = let z : ◌≡◌ {A = ℕ} 0 1 = cc in absurd (omega arith)

module _ (Pg : PageFormat) (keep : ℕ → Pg.Keep) where
  -- the edit leads from s to t
  pub record Made (n : ℕ) (F : List ℕ) (e : Edit) (s t : State) : Type 0 where
    pub good : GoodIn Pg n t
    pub makes : table_at Pg t ≡ apply_edit e (table_at Pg s)
    pub pages : (x : ℕ) → count x (pages_at Pg t) + count x t.free ≤ count x (pages_at Pg s) + count x s.free
    pub leads : Leads Pg keep F s t

module _ (Pg : PageFormat) (rules : Rules Pg) (keep : ℕ → Pg.Keep) where
  -- no leaf is empty unless it is the only one
  abbrev NoneEmpty : List ℕ → List ℕ → Type 0
  NoneEmpty img l = (length l ≡ 1) ⊎ All (Nonempty Pg img) l

  module _ (n : ℕ) (F : List ℕ) (st : State) (G : GoodIn Pg n st) (sub : (x : ℕ) → count x st.free ≤ count x F) where
    abbrev h : ℕ
    h = height_in Pg st.image st.root

    abbrev only : Bool
    only = only_leaf Pg st.image h st.root

    range : (1 ≤ h) × (h ≤ tallest)
    range = height-range Pg st.image st.root

    -- a record that names the root
    abbrev c : Rec
    c = index_rec 0 st.root

    root_in : 1 ≤ inside n st.root
    root_in = omega (arith, G.apart st.root, among-count st.root (pages_in Pg st.image h st.root) (page-first Pg st.image h st.root))

    pub names-root : child_of (index_rec 0 st.root) ≡ st.root
    names-root = index-child 0 st.root (omega (arith, inside-range n st.root root_in, G.few))

    pub here : Here Pg n F (only_leaf Pg st.image (height_in Pg st.image st.root) st.root) st (height_in Pg st.image st.root) 0 (suc top_key) (index_rec 0 st.root)
    unfolding index_rec only_leaf
    here =
        record {
          few = G.few;
          long = G.size;
          sub = sub;
          high = omega arith;
          under = subst (λ (x : ℕ). Under Pg st.image h 0 (suc top_key) x) (sym names-root) G.under;
          apart = λ x. subst (λ (y : ℕ). count x (pages_in Pg st.image h y) + count x st.free ≤ inside n x) (sym names-root) (G.apart x);
          entry = index-entry 0 st.root;
          low = omega arith;
          below = omega arith;
          full = subst (λ (x : ℕ). All (Nonempty Pg st.image) (leaves_in Pg st.image h x) ⊎ (only ≡ true)) (sym names-root) (full-here G.full);
          alone = λ z. ap (λ (x : ℕ). length (leaves_in Pg st.image h x)) names-root ∙ eqb-true (length (leaves_in Pg st.image h st.root)) 1 z;
        }
      where
        full-here : NoneEmpty st.image (leaves_in Pg st.image h st.root) → All (Nonempty Pg st.image) (leaves_in Pg st.image h st.root) ⊎ (only ≡ true)
        full-here (inl z) = inr (eq-eqb (length (leaves_in Pg st.image h st.root)) 1 z)
        full-here (inr a) = inl a

    module _ (e : Edit) where
      abbrev new : List Rec
      new = apply_edit e (table_in Pg st.image h st.root)

      abbrev Whole : State → List Rec → Type 0
      Whole t l = All (Nonempty Pg t.image) (joined (λ y. leaves_in Pg t.image h y) l) ⊎ ((only ≡ true) × (length (joined (λ y. leaves_in Pg t.image h y) l) ≡ 1))

      full-one : (t : State) (d : Rec) → Whole t (d ∷ []) → NoneEmpty t.image (leaves_in Pg t.image h (child_of d))
      full-one t d (inl a) = inr (All-left (Nonempty Pg t.image) (leaves_in Pg t.image h (child_of d)) [] a)
      full-one t d (inr z) = inl (omega (arith, z.1, length-append (leaves_in Pg t.image h (child_of d)) []))

      -- what an edit under the root leaves
      abbrev P : Change → State → Type 0
      P ch t = Altered Pg keep n F only st h 0 (suc top_key) c new (AllFull Pg (key_of e) st.image h (child_of c)) ch t

      -- one page d of the same height is the root
      same-height : (ch : Change) (t u : State) (d : Rec) → P ch t →
          stand c 0 ch ≡ d ∷ [] → u.image ≡ t.image → u.free ≡ t.free → u.root ≡ child_of d → Leads Pg keep F st u → Made Pg keep n F e st u
      same-height ch t u d M single i f r leads =
          let under : Under Pg t.image h 0 (suc top_key) (child_of d) = (subst (λ (l : List Rec). Spans (λ a b x. Under Pg t.image h a b x) 0 l (suc top_key)) single M.spans).0 in
          let at : Under Pg u.image h 0 (suc top_key) u.root = rw (i, r) under in
          let height : height_in Pg u.image u.root ≡ h = height-is Pg rules.reads u.image h 0 (suc top_key) u.root range.0 range.1 at in
          let table : table_in Pg t.image h (child_of d) ≡ new = sym (append-nil (table_in Pg t.image h (child_of d))) ∙ subst (λ (l : List Rec). joined (λ x. table_in Pg t.image h x) l ≡ new) single M.lists in
          let pages : (x : ℕ) → count x (pages_in Pg u.image h u.root) + count x u.free ≤ count x (pages_in Pg st.image h st.root) + count x st.free =
          (λ x. rw (i, r, f) (omega (
            arith,
            M.pages x,
            ap (λ (l : List Rec). count x (joined (λ y. pages_in Pg t.image h y) l)) single,
            count-append x (pages_in Pg t.image h (child_of d)) [],
            ap (λ (y : ℕ). count x (pages_in Pg st.image h y)) names-root,
          ))) in
          record {
            good =
                good-from Pg rules.reads n u h range.0 range.1 G.few (leads.long ∙ G.size) at
                (rw (i, r) (full-one t d (subst (λ (l : List Rec). Whole t l) single M.full))) (λ x. omega (arith, pages x, G.apart x));
            makes = rw (height, i, r) table;
            pages = rw height pages;
            leads = leads;
          }

      -- a root that is split where a root may be taller: a new page above the two. A root of the greatest height is never split (`taller`)
      module _ (higher : suc h ≤ tallest) (a k b : ℕ) (t : State) (M : P (two a k b) t) where
        abbrev ds : List Rec
        ds = index_rec 0 a ∷ index_rec k b ∷ []

        full-two : (v : List ℕ) → AllAlike Pg t.image v h ds → Whole t ds → NoneEmpty v (joined (λ y. leaves_in Pg v h y) ds)
        full-two v B (inl a) = inr (B.full a)
        full-two v B (inr z) = inl (ap length B.leaves ∙ z.1)

        root_over : (r : ℕ) (f : List ℕ) → t.free ≡ r ∷ f → Made Pg keep n F e st (with_root r (filled Pg (suc (suc h)) r (index_rec 0 a ∷ index_rec k b ∷ []) (record { image = t.image; root = t.root; free = f })))
        unfolding filled
        root_over r f z =
            let u : State = record { image = t.image; root = t.root; free = f } in
            let v = filled Pg (suc (suc h)) r ds u in
            let w = with_root r v in
            let here-page : count r t.free ≡ 1 + count r f = ap (count r) z ∙ omega (arith, hit-self r) in
            let bound : count r t.free ≤ inside n r = omega (arith, M.pages r, here.apart r) in
            let new_in : 1 ≤ count r F = omega (arith, sub r, leads-free Pg keep F st t M.leads r) in
            let A : Filled Pg keep F u v (suc (suc h)) r ds =
            filled-facts Pg rules keep n G.few F u (M.leads.long ∙ G.size) r (omega arith) new_in (suc (suc h)) (omega (arith, tallest-kind)) ds (index_ok 0 a (omega arith), (index_ok k b M.seps-ok.1, tt))
            (omega (arith, sizes-entries ds M.entries)) (omega (arith, rules.cap-least)) in
            let B =
            all_alike Pg t.image v.image h ds
            (λ x y. like Pg (page_of t.image x) (page_of v.image x) (A.other x (λ q.
            omega (arith, among-count x (joined (λ z. pages_in Pg t.image h z) ds) y, M.pages x, here.apart x, inside-most n x, ap (count x) z, hit-self x, ap (hit x) q)))) in
            let L : Holds Pg v.image (suc (suc h)) r ds = record { lists = A.lists } in
            let U : PageUnder Pg v.image (suc h) 0 (suc top_key) r ds =
            lists-under Pg rules v.image (suc h) 0 (suc top_key) r ds L (entry-forms h ds M.entries) M.seps (omega arith, B.spans 0 (suc top_key) M.spans) in
            let height : height_in Pg v.image r ≡ suc h = height-is Pg rules.reads v.image (suc h) 0 (suc top_key) r (omega arith) higher U.under in
            let pages : (x : ℕ) → count x (pages_in Pg v.image (suc h) r) + count x f ≤ count x (pages_in Pg st.image h st.root) + count x st.free =
            (λ x. omega (
              arith,
              ap (count x) U.pages,
              ap (count x) B.pages,
              M.pages x,
              ap (count x) z,
              ap (λ (y : ℕ). count x (pages_in Pg st.image h y)) names-root,
            )) in
            let leads : Leads Pg keep F st w =
            leads-trans Pg rules keep F st t w M.leads
            (leads-trans Pg rules keep F t u w (leads-take Pg rules keep F t r f z) (leads-trans Pg rules keep F u v w (A.leads (omega (arith, inside-most n r))) (leads-root Pg rules keep F v r new_in))) in
            record {
              good =
                  good-from Pg rules.reads n w (suc h) (omega arith) higher G.few (leads.long ∙ G.size) U.under
                  (rw U.leaves (full-two v.image B M.full)) (λ x. omega (arith, pages x, G.apart x));
              makes = rw height (U.table ∙ B.table ∙ M.lists);
              pages = rw height pages;
              leads = leads;
            }

        root-above : Ended 0 (Made Pg keep n F e st) (rooted Pg h (now (two a k b) t))
        unfolding rooted taken take_page
        root-above = go t.free refl
          where
            go : (f : List ℕ) → t.free ≡ f → Ended 0 (Made Pg keep n F e st) (take_page (refused pages_out) f t (λ r u. done (with_root r (filled Pg (suc (suc h)) r (index_rec 0 a ∷ index_rec k b ∷ []) u))))
            go [] z = refl
            go (r ∷ f) z = root_over r _ (search z)

      -- a root that would be split may be taller: one that may not has room
      pub taller : AllFull Pg (key_of e) st.image (height_in Pg st.image st.root) (child_of (index_rec 0 st.root)) → suc (height_in Pg st.image st.root) ≤ tallest
      taller s = go (dec_lt h tallest)
        where
          full : full_in Pg (key_of e) st.image h st.root ≡ true
          full = subst (λ (x : ℕ). full_in Pg (key_of e) st.image h x ≡ true) names-root (all-full Pg (key_of e) st.image h (child_of c) s)

          go : Dec (h < tallest) → suc h ≤ tallest
          go (yes l) = l
          go (no l) = absurd (true≢false (sym full ∙ never Pg rules keep n st G e (omega (arith, tallest-top))))

      -- what the root makes of the step under it
      made-root : (s : PageStep) → Out P s → Ended 0 (Made Pg keep n F e st) (rooted Pg h s)
      unfolding rooted only_leaf
      made-root (stops m) o = o
      made-root (now kept t) M = same-height kept t _ c M refl (search) (search) (search (M.root ∙ sym names-root)) (search M.leads)
      made-root (now gone t) M =
          let some = leaves-some Pg st.image h 0 (suc top_key) st.root G.under in
          let lost : length (leaves_in Pg st.image h st.root) ≤ 1 = omega (arith, M.lost, ap (λ (x : ℕ). length (leaves_in Pg st.image h x)) names-root) in
          absurd (M.stays (eq-eqb (length (leaves_in Pg st.image h st.root)) 1 (omega arith)) refl)
      made-root (now (one a) t) M =
          let new_in : 1 ≤ count a st.free = M.fresh in
          let page : 1 ≤ inside n a = omega (arith, G.apart a) in
          same-height (one a) t (with_root a t) (index_rec 0 a) M refl refl refl (sym (index-child 0 a (omega (arith, inside-range n a page, G.few))))
          (leads-trans Pg rules keep F st t (with_root a t) M.leads (leads-root Pg rules keep F t a (omega (arith, sub a))))
      made-root (now (two a k b) t) M = root-above (taller (M.raises-two refl)) a k b t M

      -- the key rule, 11, or made
      ended : (r : ℕ) (s : PageStep) → EndedAt r P s → Ended r (Made Pg keep n F e st) (rooted Pg h s)
      unfolding rooted
      ended zero s o = made-root s o
      ended (suc r) s o = rw o refl

      pub edited-ended : Proper e → Ended (key_rule e (table_at Pg st)) (Made Pg keep n F e st) (edited_in Pg keep e st)
      edited-ended proper =
          let a = edit-ended Pg rules keep n F only st h (omega (arith, range.1, tallest-kind)) 0 (suc top_key) c here e proper (omega arith) (omega (arith, proper.high)) in
          let b : EndedAt (key_rule e (table_at Pg st)) P (edit_in Pg keep only false e h 0 st.root st) =
          subst (λ (x : ℕ).
          EndedAt (key_rule e (table_in Pg st.image h x))
          (Altered Pg keep n F only st h 0 (suc top_key) c (apply_edit e (table_in Pg st.image h x)) (AllFull Pg (key_of e) st.image h (child_of c)))
          (edit_in Pg keep only false e h 0 x st)) names-root a in
          rw (edited-plain Pg rules keep n st G e) (ended (key_rule e (table_at Pg st)) (edit_in Pg keep only false e h 0 st.root st) b)
