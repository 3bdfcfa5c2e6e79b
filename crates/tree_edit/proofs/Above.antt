-- The pages above a leaf that an edit has changed: each can take what stands for the page below it.
-- Assumes nothing.
use Prim.Native.Nat.{ℕ, suc, ◌+◌, ◌-◌, ◌*◌, ◌≤◌, ◌<◌}
use mathlib.Core.Path.{◌≡◌, refl, sym, ap, ◌∙◌, subst}
use mathlib.Core.Bool.{Bool, true, false, ◌&&◌, not}
use mathlib.Core.List.{List, [], ◌∷◌, ◌++◌}
use native.Mathlib.Omega.{arith}
use lib.ListN.{length, get_or, take, drop, length-take}
use lib.Seq.{split_at}
use lib.Dec.{eqb}
use borrow.Author.Tests.{ne_eqb}
use Rattle.codec.specs.Lists.{pick, All, remove_at}
use Rattle.page.specs.Layout.{page_size, slot_count, leaf_kind, top_kind, top_key, Rec, rec_of, size}
use Rattle.page.specs.Page.{records, RecOk}
use Rattle.page.specs.Operations.{in_place, delete, fits_in, page_of}
use Rattle.page.specs.PageFormat.{Lists, format1}
use Rattle.page.proofs.Facts.{records-ok}
use Rattle.page.proofs.Format1.{format1-rules}
use Rattle.image.specs.PageZero.{page_count}
use Rattle.image.specs.Image.{first_key, Entries, hit, count}
use Rattle.image.proofs.Times.{hit-self}
use Rattle.tree.specs.State.{refused, State, with_page}
use Rattle.tree.specs.Edits.{Change, PageStep, now, stops, kept, gone, one, two, no_keep, is_full, copied, split, moved, put, dropped, absorbed, onto, rooted}
use Rattle.tree.specs.Good.{inside}
use Rattle.tree.proofs.Counts.{inside-most}
use Rattle.tree.proofs.States.{leads-free}
use Rattle.tree.proofs.Change.{IfMade, Holds, Halves, SepsOk, out-ends, if-made-map, if-made-out}
use Rattle.tree.proofs.Puts.{Puts, put-ends, dropped-puts}
use Rattle.tree.proofs.Absorb.{absorbed-out}
use Rattle.tree_edit.specs.Steps.{unmarked, state_of, turn_of, top_after, to_index, to_top, upward, rec_by, made_by}
use Rattle.tree_edit.specs.Asked.{CanPut, CanAbsorb, CanRoot, CanRaise, IndexAt, OnWay}
use Rattle.tree_edit.specs.declared.Child.{Child}
use Rattle.tree_edit.specs.declared.Way.{Way}
use Rattle.tree_edit.specs.declared.Put.{Put}
use Rattle.tree_edit.specs.declared.Turned.{Turned}
use Rattle.tree_edit.specs.declared.Turned.TheVariants.{Kept, Gone, One, Two}
use Rattle.tree_edit.proofs.Places.{WayOk, TopOk, on-way}

-- ---- what an edit of the pages ps leaves

-- separators of new pages may be stored
abbrev SepFits : Change → Type 0
SepFits kept = Unit {0}
SepFits gone = Unit {0}
SepFits (one a) = Unit {0}
SepFits (two a k b) = k ≤ top_key

-- the other pages that are not free are as they were
pub record After (ps : List ℕ) (st : State) (ch : Change) (t : State) : Type 0 where
  pub long : length t.image ≡ length st.image
  pub other : (x : ℕ) → count x ps + count x st.free ≡ 0 → page_of t.image x ≡ page_of st.image x
  pub free : (x : ℕ) → count x t.free ≤ count x st.free
  pub seps : SepFits ch

first_fits : (l : List Rec) → All RecOk l → first_key l 0 ≤ top_key
first_fits [] h = omega arith
first_fits (r ∷ l) h = h.0.low

module _ (st : State) (q kind : ℕ) where
  sep-fits : (ch : Change) (t : State) (rs : List Rec) → Puts format1 no_keep st.free st q kind rs ch t → SepFits ch
  sep-fits kept t rs P = tt
  sep-fits gone t rs P = tt
  sep-fits (one a) t rs P = tt
  sep-fits (two a k b) t rs P =
      let H : Halves format1 t.image kind a k b rs = P.held in
      let L : Lists format1 (page_of t.image b) kind b H.right = H.right-page.lists in
      omega (arith, H.sep, first_fits H.right (subst (All RecOk) L.recs (records-ok (page_of t.image b) L.laid)))

  puts-after : (ch : Change) (t : State) (rs : List Rec) → Puts format1 no_keep st.free st q kind rs ch t → After (q ∷ []) st ch t
  puts-after ch t rs P =
      record {
        long = P.leads.long;
        other = λ x h. P.other x (omega arith);
        free = leads-free format1 no_keep st.free st t P.leads;
        seps = sep-fits ch t rs P;
      }

after-then : (ps : List ℕ) (q : ℕ) (st : State) (ch : Change) (t : State) (d : Change) (u : State) → After ps st ch t → After (q ∷ []) t d u → After (q ∷ ps) st d u
after-then ps q st ch t d u a b =
    record {
      long = b.long ∙ a.long;
      other = λ x h. b.other x (omega (arith, a.free x)) ∙ a.other x (omega arith);
      free = λ x. omega (arith, a.free x, b.free x);
      seps = b.seps;
    }

-- ---- the leaf

-- where a split is refused, no more is made
not-split : (P : Change → State → Type 0) (a b : Bool) (copy over : PageStep) (s : State) → IfMade P (pick a (pick b copy over) (now kept s)) →
    IfMade P (pick a (pick b copy (stops 10)) (now kept s))
not-split P false b copy over s m = m
not-split P true true copy over s m = m
not-split P true false copy over s m = tt

module _ {n : ℕ} {st : State} {w : Way} (o : OnWay n st w) where
  abbrev q : ℕ
  q = w.leaf.page

  abbrev K : WayOk n st w
  K = on-way o

  abbrev old : List Rec
  old = records (page_of st.image q)

  holds : Holds format1 st.image leaf_kind q old
  holds = let ok = K.leaf in record { lists = record { laid = ok.laid; kind = ok.kind; own = ok.own; recs = refl } }

  -- a record put into it
  module _ (new : Put) (v : List ℕ) (can : CanPut (page_of st.image w.leaf.page) new v) where
    abbrev rs : List Rec
    rs = made_by new v (page_of st.image q)

    out : IfMade (After (q ∷ []) st) (put format1 no_keep leaf_kind false new.ins new.at (rec_by new v) q st)
    out =
        let P : Change → State → Type 0 = Puts format1 no_keep st.free st q leaf_kind rs in
        if-made-out P (After (q ∷ []) st) (put format1 no_keep leaf_kind false new.ins new.at (rec_by new v) q st) (λ ch t p. puts-after st q leaf_kind ch t rs p)
        (out-ends P st.free _ (put format1 no_keep leaf_kind false new.ins new.at (rec_by new v) q st)
        (put-ends format1 format1-rules no_keep n o.good.few st.free st o.good.size q leaf_kind (omega arith) old holds (λ x. omega (arith, K.apart x)) (λ x. omega arith)
        new.ins new.at (rec_by new v) can.good (omega (arith, can.place))))

    pub put-after : (full : Bool) → IfMade (After (w.leaf.page ∷ []) st) (put format1 no_keep leaf_kind full new.ins new.at (rec_by new v) w.leaf.page st)
    unfolding put moved
    put-after false = out
    put-after true =
        not-split (After (q ∷ []) st) (is_full format1 tt new.ins (size (rec_by new v)) (page_of st.image q)) (fits_in slot_count rs) (copied format1 leaf_kind rs st)
        (split format1 leaf_kind rs st) (with_page q (in_place new.ins new.at (rec_by new v) (page_of st.image q)) st) out

  -- a record dropped from it
  pub drop-after : (j : ℕ) → j < length (records (page_of st.image w.leaf.page)) → (only : Bool) → IfMade (After (w.leaf.page ∷ []) st) (dropped format1 only j w.leaf.page st)
  unfolding dropped
  drop-after j inn only =
      go (eqb (length (records (delete (page_of st.image q) j))) 0 && not only)
      (dropped-puts format1 format1-rules no_keep n o.good.few st.free st o.good.size q leaf_kind (omega arith) old holds (λ x. omega (arith, K.apart x)) (λ x. omega arith) j inn)
    where
      t : State
      t = with_page q (delete (page_of st.image q) j) st

      go : (b : Bool) → Puts format1 no_keep st.free st q leaf_kind (remove_at j old) kept t → After (q ∷ []) st (pick b gone kept) t
      go true p = let a = puts-after st q leaf_kind kept t (remove_at j old) p in record { long = a.long; other = a.other; free = a.free; seps = tt }
      go false p = puts-after st q leaf_kind kept t (remove_at j old) p

-- ---- a page above the leaves

module _ {n : ℕ} {st : State} {kind q : ℕ} {c : Child} (I : IndexAt n st kind q c) where
  -- once other pages are edited
  index-after : (ps : List ℕ) (ch : Change) (t : State) → After ps st ch t → ((x : ℕ) → hit x q + (count x ps + count x st.free) ≤ inside n x) → IndexAt n t kind q c
  index-after ps ch t a apart =
      let same : page_of t.image q ≡ page_of st.image q = a.other q (omega (arith, apart q, hit-self q, inside-most n q)) in
      let rec : records (page_of t.image q) ≡ records (page_of st.image q) = ap records same in
      record {
        few = I.few;
        long = a.long ∙ I.long;
        apart = λ x. omega (arith, I.apart x, a.free x);
        lists = subst (λ (g : List ℕ). Lists format1 g kind q (records g)) (sym same) I.lists;
        entries = rw rec I.entries;
        slot = rw rec I.slot;
        low = I.low;
      }

  seps-ok : (ch : Change) → SepFits ch → SepsOk c.low ch
  seps-ok kept h = tt
  seps-ok gone h = tt
  seps-ok (one a) h = I.low
  seps-ok (two a k b) h = (I.low, h)

  -- what it then is
  takes-after : kind < 256 → (ch : Change) → SepFits ch → IfMade (After (q ∷ []) st) (absorbed format1 no_keep kind c.slot c.low q ch st)
  takes-after small ch fits =
      let cs = records (page_of st.image q) in
      let d = get_or cs c.slot (rec_of 0 []) in
      let pre = take c.slot cs in
      let post = drop (suc c.slot) cs in
      let shape : cs ≡ pre ++ d ∷ post = split_at cs c.slot (rec_of 0 []) I.slot in
      let L : Holds format1 st.image kind q (pre ++ d ∷ post) = record { lists = record { laid = I.lists.laid; kind = I.lists.kind; own = I.lists.own; recs = shape } } in
      let long : length pre ≡ c.slot = omega (arith, length-take c.slot cs, I.slot) in
      subst (λ (i : ℕ). IfMade (After (q ∷ []) st) (absorbed format1 no_keep kind i c.low q ch st)) long
      (if-made-out _ (After (q ∷ []) st) (absorbed format1 no_keep kind (length pre) c.low q ch st) (λ e u p. puts-after st q kind e u _ p.0)
      (absorbed-out format1 format1-rules no_keep n I.few st.free st I.long q kind small pre d post L (subst Entries shape I.entries) I.apart (λ x. omega arith) c.low ch (seps-ok ch fits)))

module _ {n : ℕ} {st : State} (ps : List ℕ) where
  module _ {kind q : ℕ} {c : Child} (I : IndexAt n st kind q c) (apart : (x : ℕ) → hit x q + (count x ps + count x st.free) ≤ inside n x) where
    step-after : kind < 256 → (s : PageStep) → IfMade (After ps st) s → IfMade (After (q ∷ ps) st) (onto s (λ x u. absorbed format1 no_keep kind c.slot c.low q x u))
    unfolding onto
    step-after small (stops k) m = tt
    step-after small (now ch t) a =
        if-made-map (After (q ∷ []) t) (After (q ∷ ps) st) (absorbed format1 no_keep kind c.slot c.low q ch t) (λ d u b. after-then ps q st ch t d u a b)
        (takes-after (index-after I ps ch t a apart) small ch a.seps)

    absorbs : (before w : List ℕ) (root : ℕ) (r : Turned) → IfMade (After ps st) (turn_of before w root r) → CanAbsorb (page_count w) before w root kind q c r
    absorbs before w root r m =
        record {
          gone = λ top z. counted gone top (by (Gone top) z);
          one = λ p top z. counted (one p) top (by (One p top) z);
          two = λ p k b top z. let a = by (Two p k b top) z in (counted (two p k b) top a, a.seps);
        }
      where
        by : (y : Turned) → r ≡ y → IfMade (After ps st) (turn_of before w root y)
        by y z = subst (λ (u : Turned). IfMade (After ps st) (turn_of before w root u)) z m

        counted : (ch : Change) (top : ℕ) → After ps st ch (state_of before w (record { root = root; top = top })) →
            IndexAt (page_count w) (state_of before w (record { root = root; top = top })) kind q c
        counted ch top a =
            let size : page_count w ≡ n = omega (arith, a.long, I.long) in
            subst (λ (j : ℕ). IndexAt j (state_of before w (record { root = root; top = top })) kind q c) (sym size)
            (index-after I ps ch (state_of before w (record { root = root; top = top })) a apart)

module _ (n : ℕ) (st : State) (ps : List ℕ) where
  roots : length st.image ≡ page_size * n → ((x : ℕ) → count x st.free ≤ inside n x) → (before w : List ℕ) (root : ℕ) (r : Turned) → IfMade (After ps st) (turn_of before w root r) →
      CanRoot (page_count w) before w r
  roots whole apart before w root r m = record { long = long r m; two = λ p k q top z. two_pages p k q top (subst (λ (u : Turned). IfMade (After ps st) (turn_of before w root u)) z m) }
    where
      long : (r : Turned) → IfMade (After ps st) (turn_of before w root r) → length w ≡ page_size * page_count w
      long (Kept top) a = omega (arith, a.long, whole)
      long (Gone top) a = omega (arith, a.long, whole)
      long (One p top) a = omega (arith, a.long, whole)
      long (Two p k q top) a = omega (arith, a.long, whole)

      two_pages : (p k q top : ℕ) → After ps st (two p k q) (state_of before w (record { root = root; top = top })) →
          ((x : ℕ) → count x (unmarked before (top - 1)) ≤ inside (page_count w) x) × (k ≤ top_key)
      two_pages p k q top a =
          let same : page_count w ≡ n = omega (arith, a.long, whole) in
          (λ x. subst (λ (j : ℕ). count x (unmarked before (top - 1)) ≤ inside j x) (sym same) (omega (arith, a.free x, apart x)), a.seps)

-- ---- up to the root

module _ {n : ℕ} {st : State} {w : Way} (o : OnWay n st w) (before v : List ℕ) (r : Turned) (s : PageStep) (turn : turn_of before v st.root r ≡ s)
    (m : IfMade (After (w.leaf.page ∷ []) st) s) where
  abbrev W : WayOk n st w
  W = on-way o

  leaf-made : IfMade (After (w.leaf.page ∷ []) st) (turn_of before v st.root r)
  leaf-made = subst (IfMade (After (w.leaf.page ∷ []) st)) (sym turn) m

  index-apart : (x : ℕ) → hit x w.index.page + (count x (w.leaf.page ∷ []) + count x st.free) ≤ inside n x
  index-apart x = omega (arith, W.apart x)

  free-inside : (x : ℕ) → count x st.free ≤ inside n x
  free-inside x = omega (arith, W.apart x)

  index-made : IfMade (After (w.index.page ∷ w.leaf.page ∷ []) st) (to_index w (turn_of before v st.root r))
  index-made = step-after (w.leaf.page ∷ []) W.index index-apart (omega arith) (turn_of before v st.root r) leaf-made

  module _ (u : List ℕ) (above : Turned) (e : turn_of before u st.root above ≡ to_index w (turn_of before v st.root r)) where
    above-made : IfMade (After (w.index.page ∷ w.leaf.page ∷ []) st) (turn_of before u st.root above)
    above-made = subst (IfMade (After (w.index.page ∷ w.leaf.page ∷ []) st)) (sym e) index-made

    one-high : CanRoot (page_count u) before u above
    one-high = roots n st (w.index.page ∷ w.leaf.page ∷ []) o.good.size free-inside before u st.root above above-made

    module _ (T : TopOk n st w) where
      top-apart : (x : ℕ) → hit x st.root + (count x (w.index.page ∷ w.leaf.page ∷ []) + count x st.free) ≤ inside n x
      top-apart x = omega (arith, T.apart x)

      top-made : IfMade (After (st.root ∷ w.index.page ∷ w.leaf.page ∷ []) st) (to_top st.root w (turn_of before u st.root above))
      top-made = step-after (w.index.page ∷ w.leaf.page ∷ []) T.root top-apart (omega arith) (turn_of before u st.root above) above-made

      two-high : CanAbsorb (page_count u) before u st.root top_kind st.root w.index above
          × ((t : List ℕ) (top : Turned) → turn_of before t st.root top ≡ to_top st.root w (turn_of before u st.root above) → CanRoot (page_count t) before t top)
      two-high = (
        absorbs (w.index.page ∷ w.leaf.page ∷ []) T.root top-apart before u st.root above above-made,
        λ t top f. roots n st (st.root ∷ w.index.page ∷ w.leaf.page ∷ []) o.good.size free-inside before t st.root top
            (subst (IfMade (After (st.root ∷ w.index.page ∷ w.leaf.page ∷ []) st)) (sym f) top-made),
      )

  pub raises : top_after r ≤ 64 → CanRaise before v st.root w r
  raises low =
      record {
        absorb = absorbs (w.leaf.page ∷ []) W.index index-apart before v st.root r leaf-made;
        low = low;
        one_high = λ z u above e. one-high u above e;
        two_high = λ ne u above e. two-high u above e (W.top ne);
      }

-- ---- a refusal below the root

module _ (root : ℕ) (w : Way) (s : PageStep) (k : ℕ) where
  either-height : (b : Bool) → stops k ≡ to_index w s → refused k ≡ pick b (rooted format1 1 (to_index w s)) (rooted format1 2 (to_top root w (to_index w s)))
  unfolding rooted onto
  either-height true e = ap (rooted format1 1) e
  either-height false e = ap (λ (u : PageStep). rooted format1 2 (to_top root w u)) e

  -- of the index page, of the leaf, and of the top page
  pub index-stops : stops k ≡ to_index w s → refused k ≡ upward root w s
  index-stops e = either-height (eqb w.height 1) e

  pub upward-stops : stops k ≡ s → refused k ≡ upward root w s
  unfolding onto
  upward-stops e = index-stops (ap (to_index w) e)

  upward-two : (w.height ≡ 1 → ⊥) → rooted format1 2 (to_top root w (to_index w s)) ≡ upward root w s
  upward-two z = rw (ne_eqb w.height 1 z)

  pub top-stops : (w.height ≡ 1 → ⊥) → (u : PageStep) → u ≡ to_index w s → stops k ≡ to_top root w u → refused k ≡ upward root w s
  unfolding rooted
  top-stops z u e f = ap (rooted format1 2) (f ∙ ap (to_top root w) e) ∙ upward-two z
