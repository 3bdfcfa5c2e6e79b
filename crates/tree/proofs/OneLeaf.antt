-- A list of one edit that its leaf has room for changes that leaf and nothing else, at any height: an insert or update changes its header and the bytes of the new
-- record, and a delete that leaves it with a record its header alone.
-- Assumes nothing.
use Rattle.std.specs.Prelude.{Err, Ok, Result}
use Prim.Native.Nat.{ℕ, zero, suc, ◌+◌, ◌-◌, ◌*◌, ◌/◌, ◌%◌, ◌≤◌, ◌<◌}
use mathlib.Core.Path.{◌≡◌, refl, sym, ap, ap₂, ◌∙◌, subst}
use mathlib.Core.Logic.{◌⊎◌, inl, inr}
use mathlib.Core.Bool.{Bool, true, false, ◌&&◌}
use mathlib.Core.List.{List, [], ◌∷◌}
use native.Mathlib.Decide.{dec_lt}
use native.Mathlib.Omega.{arith}
use lib.ListN.{length, get_or}
use lib.Dec.{eqb, leb}
use borrow.Author.Tests.{eqb-true, eqb-false, ne_eqb}
use Rattle.codec.specs.Lists.{part}
use Rattle.codec.proofs.Lists.{length-remove_at}
use Rattle.page.specs.Layout.{page_size, line_size, leaf_kind, Rec, rec_of, size, read_head, top_key}
use Rattle.page.specs.Page.{records, laid_out, RecOk}
use Rattle.page.specs.Operations.{in_place, delete, page_of}
use Rattle.page.specs.PageFormat.{format1, Lower}
use Rattle.page.specs.Search.{searched}
use Rattle.page.proofs.Records.{size-even}
use Rattle.page.proofs.Facts.{ok-is}
use Rattle.page.proofs.Format1.{format1-rules}
use Rattle.page.proofs.Placed.{laid-length, laid-start, place-shows, place-lower, place-old, place-below, delete-shows, delete-lower, delete-past}
use Rattle.image.specs.PageZero.{page_count, root_of, words_past}
use Rattle.image.specs.Image.{child_of, gathered, height_in, height_of, joined, pages_in, reached, records_at, among, sound, tallest, hit, count}
use Rattle.image.specs.Facts.{Rising, Under}
use Rattle.image.specs.Route.{route}
use Rattle.image.proofs.Zero.{ready-facts}
use Rattle.image.proofs.Soundness.{sound-facts}
use Rattle.edit.specs.EditList.{Edit, key_of}
use Rattle.edit.specs.EditList as edits
use Rattle.edit.specs.Reads.{Proper}
use Rattle.edit.proofs.Places.{search-there}
use Rattle.journal.specs.Edited.{Edited}
use Rattle.journal.specs.Cost.{Span, Elsewhere, OneLeaf}
use Rattle.tree.specs.State.{State, Step, done, refused, begin, with_page}
use Rattle.tree.specs.Edits.{PageStep, absorbed, dropped, edit_in, edit_leaf, edited, gone, kept, low_of, no_keep, now, one, only_leaf, onto, put, rooted, stops, two}
use Rattle.tree.specs.Whole.{finished, onward, edits_on, edited_image, edits_from_in}
use Rattle.tree.specs.Good.{inside}
use Rattle.codec.specs.Lists.{pick}
use Rattle.image.proofs.Times.{hit-self, hit-apart, count-append, count-among, among-count}
use Rattle.tree.specs.Grounds.{leaf_under, next_page, next_slot}
use Rattle.tree.specs.Reasons.{NotFull}
use Rattle.tree.proofs.General.{byte-part, byte_past}
use Rattle.tree.proofs.Counts.{count-joined, inside-most}
use Rattle.tree.proofs.Height.{height-range}
use Rattle.tree.proofs.Pages.{full-exact, room-test}
use Rattle.tree.proofs.Routes.{belongs, belongs-spans}
use Rattle.tree.proofs.Spare.{edited-plain}
use Rattle.tree.proofs.States.{write-here, write-other}
use Rattle.tree.proofs.Runs.{Run, begin-good, edits-run}
use Rattle.tree.proofs.PutBack.{byte-page}
use Rattle.tree.proofs.Accepted.{reached-page, root_is, reached-are, edited-is}
use Rattle.tree.proofs.Changed.{line-page, lower-differs}

-- ---- the leaf that the key k belongs to, under a page of any height

module _ (k : ℕ) (img : List ℕ) where
  -- of the pages that page q names, the one that k belongs to
  next-under : (h lo hi q : ℕ) → Under format1 img (suc h) lo hi q → (x : ℕ) × (y : ℕ) × Under format1 img h x y (next_page format1 k img q)
  unfolding next_page next_slot
  next-under h lo hi q u = (_, _, (belongs-spans format1 k img h lo hi q u).1.0)

  next-pages : (h lo hi q x : ℕ) → Under format1 img (suc h) lo hi q → hit x q + count x (pages_in format1 img h (next_page format1 k img q)) ≤ count x (pages_in format1 img (suc h) q)
  unfolding next_page next_slot pages_in gathered
  next-pages h lo hi q x u =
      let b = belongs format1 k img h lo hi q u in
      let f : ℕ → List ℕ = λ y. pages_in format1 img h y in
      omega (
        arith,
        ap (λ (l : List Rec). count x (joined f l)) b.shape,
        count-joined f x b.before (b.own ∷ b.later),
        count-append x (f (child_of b.own)) (joined f b.later),
      )

  -- the leaf is sound within its range
  leaf-under : (h lo hi q : ℕ) → Under format1 img h lo hi q → (x : ℕ) × (y : ℕ) × Under format1 img 0 x y (leaf_under format1 k img h q)
  unfolding leaf_under
  leaf-under zero lo hi q u = (lo, hi, u)
  leaf-under (suc h) lo hi q u = let n = next-under h lo hi q u in leaf-under h n.0 n.1 (next_page format1 k img q) n.2

  -- it is one of the pages under q
  leaf-among : (h lo hi q : ℕ) → Under format1 img h lo hi q → 1 ≤ count (leaf_under format1 k img h q) (pages_in format1 img h q)
  unfolding leaf_under pages_in gathered
  leaf-among zero lo hi q u = omega (arith, hit-self q)
  leaf-among (suc h) lo hi q u =
      let n = next-under h lo hi q u in
      omega (arith, next-pages h lo hi q (leaf_under format1 k img h (next_page format1 k img q)) u, leaf-among h n.0 n.1 (next_page format1 k img q) n.2)

  -- and no page above the leaves
  leaf-below : (h lo hi q : ℕ) → Under format1 img (suc h) lo hi q → ((x : ℕ) → count x (pages_in format1 img (suc h) q) ≤ 1) → q ≡ leaf_under format1 k img (suc h) q → ⊥
  unfolding leaf_under
  leaf-below h lo hi q u apart e =
      let leaf = leaf_under format1 k img h (next_page format1 k img q) in
      let n = next-under h lo hi q u in
      hit-apart leaf q (omega (arith, apart leaf, next-pages h lo hi q leaf u, leaf-among h n.0 n.1 (next_page format1 k img q) n.2)) (sym e)

  -- where no other page differs, the key belongs to the same leaf
  leaf-stays : (w : List ℕ) (h lo hi q : ℕ) → Under format1 img h lo hi q → ((x : ℕ) → count x (pages_in format1 img h q) ≤ 1) →
      ((x : ℕ) → (x ≡ leaf_under format1 k img h q → ⊥) → page_of w x ≡ page_of img x) → leaf_under format1 k w h q ≡ leaf_under format1 k img h q
  unfolding leaf_under next_page next_slot
  leaf-stays w zero lo hi q u apart same = refl
  leaf-stays w (suc h) lo hi q u apart same =
      let n = next-under h lo hi q u in
      let page : page_of w q ≡ page_of img q = same q (leaf-below h lo hi q u apart) in
      ap (λ (p : List ℕ). leaf_under format1 k w h (child_of (get_or (records p) (route k (records p)) (rec_of 0 [])))) page
      ∙ leaf-stays w h n.0 n.1 (next_page format1 k img q) n.2 (λ x. omega (arith, apart x, next-pages h lo hi q x u)) same

-- ---- what one edit comes to

-- a list of one edit
one-edit : (a : List ℕ) (e : Edit) (st : State) → edits_on a (e ∷ []) ≡ finished st → edited e (begin a) ≡ done st
unfolding edits_on edits_from_in onward
one-edit a e st q = go (edited e (begin a)) q
  where
    go : (x : Step) → onward x 0 (λ s. finished s) ≡ finished st → x ≡ done st
    go (refused k) q = let z : ◌≡◌ {A = ℕ} 0 1 = cc in absurd (omega arith)
    go (done t) q = let z : t ≡ st = cc in ap done z

-- the edit brings this record: an insert (true) or an update
pub data Puts : Edit → Bool → Rec → Type 0 where
  inserts : (k : ℕ) (v : List ℕ) → Puts (edits.insert k v) true (rec_of k v)
  updates : (k : ℕ) (v : List ℕ) → Puts (edits.update k v) false (rec_of k v)

pub puts-ok : (e : Edit) (ins : Bool) (r : Rec) → Puts e ins r → Proper e → RecOk r
puts-ok _ _ _ (inserts k v) P = record { low = P.high; few = P.short }
puts-ok _ _ _ (updates k v) P = record { low = P.high; few = P.short }

-- a step that the pages above hand on as it is
abbrev Passes : PageStep → Type 0
Passes (stops n) = Unit {0}
Passes (now kept t) = Unit {0}
Passes (now gone t) = ⊥
Passes (now (one a) t) = ⊥
Passes (now (two a k b) t) = ⊥

module _ (st t : State) (only : Bool) (h : ℕ) where
  -- the leaf that k belongs to, and its page
  abbrev leaf_number : ℕ → ℕ
  leaf_number k = leaf_under format1 k st.image h st.root

  abbrev leaf_page : ℕ → List ℕ
  leaf_page k = page_of st.image (leaf_number k)

  handed-on : (e : Edit) (i lo x : ℕ) (s : PageStep) → Passes s →
      edit_leaf format1 no_keep only false e (leaf_under format1 (key_of e) st.image i x) st (searched (key_of e) 0 (records (page_of st.image (leaf_under format1 (key_of e) st.image i x)))) ≡ s →
      edit_in format1 no_keep only false e i lo x st ≡ s
  unfolding edit_in leaf_under next_page next_slot onto absorbed
  handed-on e zero lo x s p z = z
  handed-on e (suc i) lo x s p z =
      let cs = records_at format1 st.image x in
      let j = route (key_of e) cs in
      let c = get_or cs j (rec_of 0 []) in
      let low = low_of j lo c.key in
      ap (λ (u : PageStep). onto u (λ d v. absorbed format1 no_keep (suc (suc i)) j low x d v)) (handed-on e i low (child_of c) s p z) ∙ up i j low x s p
    where
      up : (i j low x : ℕ) (s : PageStep) → Passes s → onto s (λ d v. absorbed format1 no_keep (suc (suc i)) j low x d v) ≡ s
      up i j low x (stops n) p = refl
      up i j low x (now kept v) p = refl
      up i j low x (now gone v) p = absurd p
      up i j low x (now (one a) v) p = absurd p
      up i j low x (now (two a k b) v) p = absurd p

  -- the edit is made
  abbrev Found : Edit → Type 0
  Found e = rooted format1 h (edit_in format1 no_keep only false e h 0 st.root st) ≡ done t

  ends : (e : Edit) → Found e → (s : Result ℕ ℕ) (u : PageStep) → searched (key_of e) 0 (records (leaf_page (key_of e))) ≡ s →
      edit_leaf format1 no_keep only false e (leaf_number (key_of e)) st s ≡ u → Passes u → rooted format1 h u ≡ done t
  ends e f s u z w p =
      ap (λ (v : PageStep). rooted format1 h v)
      (sym (handed-on e h 0 st.root u p (ap (λ (x : Result ℕ ℕ). edit_leaf format1 no_keep only false e (leaf_number (key_of e)) st x) z ∙ w)))
      ∙ f

  no-stop : (n : ℕ) → rooted format1 h (stops n) ≡ done t → ⊥
  unfolding rooted
  no-stop n e = let z : ◌≡◌ {A = ℕ} 0 1 = cc in omega arith

  stays-made : (u : State) → rooted format1 h (now kept u) ≡ done t → t ≡ u
  unfolding rooted
  stays-made u e = cc

  -- a record that has room is put in its place
  put-here : (ins : Bool) (j : ℕ) (r : Rec) (q : ℕ) → NotFull ins (size r) (page_of st.image q) →
      put format1 no_keep leaf_kind false ins j r q st ≡ now kept (with_page q (in_place ins j r (page_of st.image q)) st)
  unfolding put
  put-here ins j r q room = rw (full-exact ins (size r) (page_of st.image q), room-test ins (size r) (page_of st.image q) room) refl

  put-at : (e : Edit) (ins : Bool) (r : Rec) → Puts e ins r → Found e → (s : Result ℕ ℕ) → searched (key_of e) 0 (records (leaf_page (key_of e))) ≡ s → NotFull ins (size r) (leaf_page (key_of e)) →
      (j : ℕ) × (t ≡ with_page (leaf_number (key_of e)) (in_place ins j r (leaf_page (key_of e))) st)
  unfolding edit_leaf
  put-at _ _ _ (inserts k v) f (Ok j) z room = absurd (no-stop 8 (ends (edits.insert k v) f (Ok j) (stops 8) z refl tt))
  put-at _ _ _ (inserts k v) f (Err j) z room =
      (j, stays-made _ (ends (edits.insert k v) f (Err j) _ z (put-here true j (rec_of k v) (leaf_number k) room) tt))
  put-at _ _ _ (updates k v) f (Ok j) z room =
      (j, stays-made _ (ends (edits.update k v) f (Ok j) _ z (put-here false j (rec_of k v) (leaf_number k) room) tt))
  put-at _ _ _ (updates k v) f (Err j) z room = absurd (no-stop 9 (ends (edits.update k v) f (Err j) (stops 9) z refl tt))

  -- a record is dropped from a leaf that is not left empty
  drop_at : (k lo hi : ℕ) → laid_out (leaf_page k) ≡ true → Rising lo (records (leaf_page k)) hi → 2 ≤ length (records (leaf_page k)) → Found (edits.delete k) →
      (s : Result ℕ ℕ) → searched k 0 (records (leaf_page k)) ≡ s →
      (j : ℕ) × (j < length (records (leaf_page k))) × (t ≡ with_page (leaf_number k) (delete (leaf_page k) j) st)
  unfolding edit_leaf dropped
  drop_at k lo hi laid up some f (Err j) z = absurd (no-stop 9 (ends (edits.delete k) f (Err j) (stops 9) z refl tt))
  drop_at k lo hi laid up some f (Ok j) z =
      let p = leaf_page k in
      let inside = (search-there k lo (records p) hi up j z).inside in
      let left : eqb (length (records (delete p j))) 0 ≡ false =
      ne_eqb (length (records (delete p j))) 0 (λ z. omega (arith, ap length (delete-shows p laid j).recs, length-remove_at j (records p) inside)) in
      let u = with_page (leaf_number k) (delete p j) st in
      (j, inside, stays-made u (ends (edits.delete k) f (Ok j) (now kept u) z (rw left refl) tt))

-- ---- a page edited in place

-- g is p with another header, whose bytes past the header line stay, but for those from `from` on and below `to`
record Rewrites (p g : List ℕ) (from to : ℕ) : Type 0 where
  whole : length g ≡ page_size
  lower : Lower p g
  past : (o : ℕ) → line_size ≤ o → (o < from) ⊎ (to ≤ o) → get_or g o 0 ≡ get_or p o 0
  span : Span from to

module _ (p : List ℕ) (laid : laid_out p ≡ true) (j : ℕ) where
  -- "Insert and update write a new record of size s just below start"
  place-rewrites : (ins : Bool) (r : Rec) → RecOk r → NotFull ins (size r) p → Rewrites p (in_place ins j r p) ((read_head p).start - size r) (read_head p).start
  place-rewrites ins r ok room =
      let head = (ok-is p laid).body.head in
      let fits : line_size + size r ≤ (read_head p).start = omega (arith, room.0, laid-start p laid) in
      record {
        whole = laid-length (in_place ins j r p) (place-shows p laid j r ok fits ins room.1).laid;
        lower = place-lower p laid j r ok fits ins room.1;
        past = past fits;
        span = record { low = omega arith; order = omega arith; high = head.high; even_from = omega (arith, head.even, size-even r); even_to = head.even };
      }
    where
      past : line_size + size r ≤ (read_head p).start → (o : ℕ) → line_size ≤ o → (o < (read_head p).start - size r) ⊎ ((read_head p).start ≤ o) → get_or (in_place ins j r p) o 0 ≡ get_or p o 0
      past fits o low (inl h) = place-below p laid j r ok fits ins room.1 o low h
      past fits o low (inr h) = byte_past (in_place ins j r p) p (read_head p).start o (place-old p laid j r ok fits ins room.1).above h

  -- "Delete drops the slot; start stays."
  delete-rewrites : j < length (records p) → Rewrites p (delete p j) line_size line_size
  delete-rewrites inside =
      record {
        whole = laid-length (delete p j) (delete-shows p laid j).laid;
        lower = delete-lower p laid j inside;
        past = λ o low h. delete-past p laid j o low;
        span = record { low = omega arith; order = omega arith; high = omega arith; even_from = refl; even_to = refl };
      }

-- ---- the edited image

module _ (a : List ℕ) (h : sound a ≡ true) (e : Edit) (P : Proper e) (st : State) (made : edits_on a (e ∷ []) ≡ finished st) where
  abbrev w : List ℕ
  w = edited_image a st

  abbrev height : ℕ
  height = height_of a (root_of a)

  -- the leaf that the key belongs to, and its page
  abbrev q : ℕ
  q = leaf_under format1 (key_of e) a height (root_of a)

  abbrev p : List ℕ
  p = page_of a q

  R : Run (page_count a) (begin a).free (e ∷ []) (begin a) st
  R = edits-run a h (e ∷ []) (P, tt) st made

  under : Under format1 a height 0 (suc top_key) (root_of a)
  unfolding begin
  under = (begin-good a h).under

  leaf-fine : (x : ℕ) × (y : ℕ) × Under format1 a 0 x y q
  leaf-fine = leaf-under (key_of e) a height 0 (suc top_key) (root_of a) under

  laid : laid_out p ≡ true
  laid = (format1-rules.reads.ok-true leaf_kind q p leaf-fine.2.page).laid

  found : rooted format1 height (edit_in format1 no_keep (only_leaf format1 a height (root_of a)) false e height 0 (root_of a) (begin a)) ≡ done st
  unfolding begin
  found = sym (edited-plain format1 format1-rules no_keep (page_count a) (begin a) (begin-good a h) e) ∙ one-edit a e st made

  was : 1 ≤ count q (reached a (root_of a))
  unfolding reached
  was = leaf-among (key_of e) a height 0 (suc top_key) (root_of a) under

  apart : (x : ℕ) → count x (reached a (root_of a)) ≤ inside (page_count a) x
  unfolding begin reached
  apart x = omega (arith, (begin-good a h).apart x)

  in_range : 1 ≤ inside (page_count a) q
  in_range = omega (arith, apart q, was)

  not-root : root_of a ≡ q → ⊥
  unfolding reached
  not-root z = go height refl
    where
      go : (i : ℕ) → height ≡ i → ⊥
      go zero y = omega (arith, (height-range format1 a (root_of a)).0)
      go (suc i) y =
          leaf-below (key_of e) a i 0 (suc top_key) (root_of a) (subst (λ (m : ℕ). Under format1 a m 0 (suc top_key) (root_of a)) y under)
          (λ x. omega (arith, ap (λ (m : ℕ). count x (pages_in format1 a m (root_of a))) y, apart x, inside-most (page_count a) x))
          (z ∙ ap (λ (m : ℕ). leaf_under format1 (key_of e) a m (root_of a)) y)

  long : length a ≡ page_size * page_count a
  unfolding begin
  long = (begin-good a h).size

  module _ (g : List ℕ) (from to : ℕ) (W : Rewrites p g from to) (is : st ≡ with_page q g (begin a)) where
    same-root : st.root ≡ root_of a
    unfolding begin
    same-root = ap (λ (s : State). s.root) is

    other-page : (x : ℕ) → (x ≡ q → ⊥) → page_of st.image x ≡ page_of a x
    unfolding begin
    other-page x ne = ap (λ (s : State). page_of s.image x) is ∙ write-other (page_count a) a long q in_range g W.whole x ne

    own-page : page_of st.image q ≡ g
    unfolding begin
    own-page = ap (λ (s : State). page_of s.image q) is ∙ write-here (page_count a) a long q in_range g W.whole

    -- it is reached
    same-height : height_of st.image st.root ≡ height
    unfolding height_in
    same-height = ap (λ (r : ℕ). height_of st.image r) same-root ∙ ap (λ (x : List ℕ). let m = (read_head x).kind - 1 in pick (leb 1 m && leb m tallest) m 1) (other-page (root_of a) not-root)

    stays : 1 ≤ count q (reached st.image st.root)
    unfolding reached
    stays =
        let r = st.root in
        let k = key_of e in
        let same : leaf_under format1 k st.image (height_of st.image r) r ≡ q =
        ap₂ (λ (m x : ℕ). leaf_under format1 k st.image m x) same-height same-root
        ∙ leaf-stays k a st.image height 0 (suc top_key) (root_of a) under (λ x. omega (arith, apart x, inside-most (page_count a) x)) other-page in
        subst (λ (x : ℕ). 1 ≤ count x (pages_in format1 st.image (height_of st.image r) r)) same (leaf-among k st.image (height_of st.image r) 0 (suc top_key) r R.good.under)

    edited-page : page_of w q ≡ g
    edited-page = reached-page a h (e ∷ []) st R q stays ∙ own-page

    D : Edited a w
    D = edited-is a h (e ∷ []) st R

    -- page 0: also its root word is as it was
    zero-kept : (i : ℕ) → i < page_size → get_or w i 0 ≡ get_or a i 0
    zero-kept i k = go (dec_lt i 8) (dec_lt i 16)
      where
        line : (img : List ℕ) → sound img ≡ true → part img 8 56 ≡ words_past (page_count img) (root_of img)
        line img s = (ready-facts img (root_of img) (sound-facts img s).zero).past

        words : part w 8 56 ≡ part a 8 56
        words =
            line w D.is_sound
            ∙ ap₂ (λ (n r : ℕ). words_past (n / page_size) r) D.same_length (root_is a h (e ∷ []) st R ∙ same-root)
            ∙ sym (line a h)

        go : Dec (i < 8) → Dec (i < 16) → get_or w i 0 ≡ get_or a i 0
        go (yes l) m = D.page_zero_kept i k (inl l)
        go (no l) (no m) = D.page_zero_kept i k (inr (omega arith))
        go (no l) (yes m) = byte-part w a 8 56 i words (omega arith) (omega arith)

    elsewhere : (i : ℕ) → Elsewhere q from to i → get_or w i 0 ≡ get_or a i 0
    elsewhere i off = go (dec_lt i page_size) (among x (reached w (root_of w))) refl (eqb x q) refl
      where
        x : ℕ
        x = i / page_size

        alike : page_of w x ≡ page_of a x → get_or w i 0 ≡ get_or a i 0
        alike z = byte-page w i ∙ ap (λ (l : List ℕ). get_or l (i % page_size) 0) z ∙ sym (byte-page a i)

        -- in the leaf itself
        own : x ≡ q → Elsewhere q from to i → get_or w i 0 ≡ get_or a i 0
        own z (inl k) = absurd (omega arith)
        own z (inr k) =
            byte-page w i
            ∙ ap (λ (y : ℕ). get_or (page_of w y) (i % page_size) 0) z
            ∙ ap (λ (l : List ℕ). get_or l (i % page_size) 0) edited-page
            ∙ W.past (i % page_size) (omega (arith, k.0)) (side k.1)
            ∙ ap (λ (y : ℕ). get_or (page_of a y) (i % page_size) 0) (sym z)
            ∙ sym (byte-page a i)
          where
            side : (i < page_size * q + from) ⊎ (page_size * q + to ≤ i) → (i % page_size < from) ⊎ (to ≤ i % page_size)
            side (inl l) = inl (omega arith)
            side (inr l) = inr (omega arith)

        go : Dec (i < page_size) → (t : Bool) → among x (reached w (root_of w)) ≡ t → (u : Bool) → eqb x q ≡ u → get_or w i 0 ≡ get_or a i 0
        go (yes k) t c u d = zero-kept i k
        go (no k) false c u d = D.unreached_kept i (omega arith) c
        go (no k) true c true d = own (eqb-true x q d) off
        go (no k) true c false d =
            let there : 1 ≤ count x (reached st.image st.root) = among-count x (reached st.image st.root) (ap (among x) (sym (reached-are a h (e ∷ []) st R)) ∙ c) in
            alike (reached-page a h (e ∷ []) st R x there ∙ other-page x (eqb-false x q d))

    one-leaf : OneLeaf a w q from to
    one-leaf =
        record {
          was = count-among q (reached a (root_of a)) was;
          stays = ap (among q) (reached-are a h (e ∷ []) st R) ∙ count-among q (reached st.image st.root) stays;
          header = λ z. lower-differs p g W.lower (sym (line-page a q) ∙ z ∙ line-page w q ∙ ap (λ (l : List ℕ). part l 0 line_size) edited-page);
          elsewhere = elsewhere;
          span = W.span;
        }

  -- ---- what an insert or an update changes

  pub put-one-leaf : (ins : Bool) (r : Rec) → Puts e ins r → NotFull ins (size r) (page_of a (leaf_under format1 (key_of e) a (height_of a (root_of a)) (root_of a))) →
      OneLeaf a (edited_image a st) (leaf_under format1 (key_of e) a (height_of a (root_of a)) (root_of a))
      ((read_head (page_of a (leaf_under format1 (key_of e) a (height_of a (root_of a)) (root_of a)))).start - size r)
      (read_head (page_of a (leaf_under format1 (key_of e) a (height_of a (root_of a)) (root_of a)))).start
  unfolding begin
  put-one-leaf ins r brings room =
      let j = put-at (begin a) st (only_leaf format1 a height (root_of a)) height e ins r brings found (searched (key_of e) 0 (records p)) refl room in
      one-leaf (in_place ins j.0 r p) ((read_head p).start - size r) (read_head p).start (place-rewrites p laid j.0 ins r (puts-ok e ins r brings P) room) j.1

-- and a delete
pub delete-one-leaf : (a : List ℕ) (h : sound a ≡ true) (k : ℕ) → Proper (edits.delete k) → (st : State) → edits_on a (edits.delete k ∷ []) ≡ finished st →
    2 ≤ length (records (page_of a (leaf_under format1 k a (height_of a (root_of a)) (root_of a)))) →
    OneLeaf a (edited_image a st) (leaf_under format1 k a (height_of a (root_of a)) (root_of a)) line_size line_size
unfolding begin
delete-one-leaf a h k P st made some =
    let e = edits.delete k in
    let i = height_of a (root_of a) in
    let q = page_of a (leaf_under format1 k a i (root_of a)) in
    let fine = leaf-fine a h e P st made in
    let j = drop_at (begin a) st (only_leaf format1 a i (root_of a)) i k fine.0 fine.1 (laid a h e P st made) fine.2.rising some (found a h e P st made) (searched k 0 (records q)) refl in
    one-leaf a h e P st made (delete q j.0) line_size line_size (delete-rewrites q (laid a h e P st made) j.0 j.1) j.2
