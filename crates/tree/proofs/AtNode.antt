-- What a page above the leaves takes from the page under it: no record, one, or two, "left first", in its page or in new ones; or the loss of one.
-- Assumes nothing.
use Prim.Native.Nat.{ℕ, zero, suc, ◌+◌, ◌-◌, ◌*◌, ◌≤◌, ◌<◌}
use mathlib.Core.Path.{◌≡◌, refl, sym, ap, ap₂, ◌∙◌, subst}
use mathlib.Core.Logic.{◌⊎◌, inl, inr}
use mathlib.Core.Bool.{true, false, false≢true}
use mathlib.Core.List.{List, [], ◌∷◌, ◌++◌}
use native.Mathlib.Omega.{arith}
use native.Mathlib.Nat.{not-suc-le-zero}
use lib.ListN.{length, set, take, drop, length-append}
use lib.Seq.{set_split}
use Rattle.codec.specs.Lists.{insert_at}
use Rattle.page.specs.Layout.{page_size, line_size, slot_count, Rec, size, read_head, top_key}
use Rattle.page.specs.Page.{records}
use Rattle.page.specs.Operations.{made, sizes, page_of, TwoPages}
use Rattle.page.specs.PageFormat.{format1, Shows}
use Rattle.page.proofs.Facts.{length-records}
use Rattle.page.proofs.Placed.{shows-as}
use Rattle.image.specs.Image.{entry_size, IsEntry, Entries, index_rec, hit, count}
use Rattle.image.proofs.General.{All-append, All-left}
use Rattle.image.proofs.IndexRecords.{index-entry, index_ok, size-entry, sizes-entries}
use Rattle.image.proofs.Times.{hit-self}
use Rattle.edit.proofs.General.{all_right}
use Rattle.tree.specs.State.{State}
use Rattle.tree.specs.Edits.{Change, PageStep, now, stops, kept, gone, one, two, no_keep, put, copy_then, then_into, absorbed}
use Rattle.tree.specs.Good.{inside}
use Rattle.tree.specs.Reasons.{Full, NotFull}
use Rattle.tree.specs.Moved.{start_at, slots_at, Within, offsets, NewPage, last-copies, left-copies, Takes, takes-here, takes-copied, takes-split, takes-both, AtNode}
use Rattle.tree.proofs.Change.{Holds, IfMade, if-made-map, SepsOk}
use Rattle.tree.proofs.Drops.{drop-in}
use Rattle.tree.proofs.General.{inserted-seam, made-seam, remove_at-seam}
use Rattle.tree.proofs.PutTo.{PutTo, to-own, to-new, to-two, put-to}
use Rattle.tree.proofs.Steps.{new-still, split-still, within-both, same-new}

-- ---- steps

-- a copy that stays in place is the page's, one that is copied or split in turn is not
abbrev over : ℕ → Change → Change
over x kept = one x
over x gone = gone
over x (one y) = one y
over x (two a k b) = two a k b

copy-made : (Q : Change → State → Type 0) (x : ℕ) (y : PageStep) → IfMade (λ d t. Q (over x d) t) y → IfMade Q (copy_then x y)
unfolding copy_then
copy-made Q x (stops m) h = tt
copy-made Q x (now kept t) h = h
copy-made Q x (now gone t) h = h
copy-made Q x (now (one y) t) h = h
copy-made Q x (now (two a k b) t) h = h

-- ---- slots

left-first : (k o p : ℕ) (l : List ℕ) → k < length l → insert_at (suc k) p (set l k o) ≡ take k l ++ (o ∷ p ∷ drop (suc k) l)
unfolding insert_at
left-first zero o p [] h = absurd (not-suc-le-zero h)
left-first zero o p (z ∷ l) h = refl
left-first (suc k) o p [] h = absurd (not-suc-le-zero h)
left-first (suc k) o p (z ∷ l) h = ap (λ (r : List ℕ). z ∷ r) (left-first k o p l (omega arith))

-- ---- page q lists the record c after pre

module _ (n : ℕ) (few : n ≤ 64) (st : State) (long : length st.image ≡ page_size * n) (q kind : ℕ) (small : kind < 256) (pre : List Rec) (c : Rec) (post : List Rec)
    (L : Holds format1 st.image kind q (pre ++ c ∷ post)) (E : Entries (pre ++ c ∷ post)) (most : length (pre ++ c ∷ post) ≤ slot_count)
    (apart : (x : ℕ) → hit x q + count x st.free ≤ inside n x) where
  abbrev own : List Rec
  own = pre ++ c ∷ post

  abbrev i : ℕ
  i = length pre

  -- the slot of c
  there : length pre < length (slots_at st q)
  there = omega (arith, ap length L.lists.recs, length-append pre (c ∷ post), length-records (page_of st.image q))

  -- ---- one record in place of c

  module _ (low a : ℕ) (ok : low ≤ top_key) where
    abbrev left : Rec
    left = index_rec low a

    abbrev ds : List Rec
    ds = pre ++ left ∷ post

    same_length : length (pre ++ index_rec low a ∷ post) ≡ length (pre ++ c ∷ post)
    same_length = length-append pre (left ∷ post) ∙ sym (length-append pre (c ∷ post))

    all : Entries (pre ++ index_rec low a ∷ post)
    all = All-append IsEntry pre (left ∷ post) (All-left IsEntry pre (c ∷ post) E) (index-entry low a, (all_right IsEntry pre (c ∷ post) E).1)

    bytes : size (index_rec low a) ≡ entry_size
    bytes = size-entry left (index-entry low a)

    total : sizes (pre ++ index_rec low a ∷ post) ≡ entry_size * length (pre ++ index_rec low a ∷ post)
    total = sizes-entries ds all

    first : IfMade (λ d t. PutTo st t kind q false (length pre) (index_rec low a) (pre ++ index_rec low a ∷ post) d) (put format1 no_keep kind false false (length pre) (index_rec low a) q st)
    first =
        let e : made false (length pre) left own ≡ ds = made-seam pre c left post in
        subst (λ (l : List Rec). IfMade (λ d t. PutTo st t kind q false (length pre) left l d) (put format1 no_keep kind false false (length pre) left q st)) e
        (put-to n few st long q kind small own L apart false (length pre) left (index_ok low a ok) (rw e (omega (arith, length-append pre (left ∷ post)))))

    -- an update never splits
    never : TwoPages (pre ++ index_rec low a ∷ post) → ⊥
    never (inl h) = omega (arith, same_length, most)
    never (inr h) = omega (arith, same_length, most, total)

    less : Full false (size (index_rec low a)) (page_of st.image q) → start_at st q - line_size < entry_size
    less (inl h) = omega (arith, bytes)
    less (inr h) = absurd (false≢true h.0)

    one-takes : (d : Change) (t : State) → PutTo st t kind q false (length pre) (index_rec low a) (pre ++ index_rec low a ∷ post) d → Takes st t t kind q pre (index_rec low a ∷ []) post d
    unfolding offsets
    one-takes _ t (to-own room W S slots below) =
        takes-here (omega (arith, room.0, bytes)) (omega (arith, same_length, most)) W (shows-as S (omega (arith, bytes)) refl)
        (slots ∙ set_split (slots_at st q) i (start_at st q - size left) there)
    one-takes _ t (to-new x full fit W N) =
        takes-copied x (omega (arith, less full)) (omega (arith, same_length, most)) (record { root = W.root; free = W.free; long = W.long; other = λ y h. W.other y (omega arith) })
        (shows-as N.shows (ap (λ (k : ℕ). page_size - k) total) refl) (last-copies (omega arith) N)
    one-takes _ t (to-two x k y full over W N) = absurd (never over)

    -- ---- and one more after it

    module _ (k b : ℕ) (ok2 : k ≤ top_key) where
      abbrev right : Rec
      right = index_rec k b

      abbrev es : List Rec
      es = pre ++ left ∷ right ∷ post

      longer : length (pre ++ index_rec low a ∷ index_rec k b ∷ post) ≡ suc (length (pre ++ index_rec low a ∷ post))
      longer = length-append pre (left ∷ right ∷ post) ∙ omega (arith, length-append pre (left ∷ post))

      all2 : Entries (pre ++ index_rec low a ∷ index_rec k b ∷ post)
      all2 = All-append IsEntry pre (left ∷ right ∷ post) (All-left IsEntry pre (c ∷ post) E) (index-entry low a, (index-entry k b, (all_right IsEntry pre (c ∷ post) E).1))

      bytes2 : size (index_rec k b) ≡ entry_size
      bytes2 = size-entry right (index-entry k b)

      total2 : sizes (pre ++ index_rec low a ∷ index_rec k b ∷ post) ≡ entry_size * length (pre ++ index_rec low a ∷ index_rec k b ∷ post)
      total2 = sizes-entries es all2

      -- the second, in the page x that stands for q
      second : (u : State) (x : ℕ) → length u.image ≡ page_size * n → Holds format1 u.image kind x (pre ++ index_rec low a ∷ post) → ((y : ℕ) → hit y x + count y u.free ≤ inside n y) →
          IfMade (λ d t. PutTo u t kind x true (suc (length pre)) (index_rec k b) (pre ++ index_rec low a ∷ index_rec k b ∷ post) d) (put format1 no_keep kind false true (suc (length pre)) (index_rec k b) x u)
      second u x wide M ap-u =
          let e : made true (suc (length pre)) right ds ≡ es = inserted-seam pre left right post in
          subst (λ (l : List Rec). IfMade (λ d t. PutTo u t kind x true (suc (length pre)) right l d) (put format1 no_keep kind false true (suc (length pre)) right x u)) e
          (put-to n few u wide x kind small ds M ap-u true (suc (length pre)) right (index_ok k b ok2) (rw e (omega (arith, length-append pre (left ∷ right ∷ post)))))

      abbrev Both : State → Change → Type 0
      Both t d = Takes st t t kind q pre (left ∷ right ∷ []) post d

      -- no room for it, in a page that lists ds from the start o on
      no_room : (o : ℕ) (p : List ℕ) → (read_head p).start ≡ o → records p ≡ ds → Full true (size (index_rec k b)) p → (o - line_size < entry_size) ⊎ (slot_count ≤ length (pre ++ index_rec low a ∷ post))
      no_room o p s r (inl h) = inl (omega (arith, bytes2, s))
      no_room o p s r (inr h) = inr (omega (arith, h.1, ap length r))

      -- the records of a page that splits
      many : TwoPages (pre ++ index_rec low a ∷ index_rec k b ∷ post) → slot_count < length (pre ++ index_rec low a ∷ index_rec k b ∷ post)
      many (inl h) = h
      many (inr h) = omega (arith, total2, longer, same_length, most)

      -- the first is in its page

      module _ (u : State) (room : NotFull false (size (index_rec low a)) (page_of st.image q)) (W : Within st u (q ∷ []) [])
          (S : Shows (page_of u.image q) kind q (start_at st q - size (index_rec low a)) (pre ++ index_rec low a ∷ post))
          (slots : slots_at u q ≡ set (slots_at st q) (length pre) (start_at st q - size (index_rec low a))) where
        within-own : (t : State) (old new : List ℕ) → ((y : ℕ) → count y old ≤ hit y q) → Within u t old new → Within st t (q ∷ []) new
        within-own t old new h V = within-both n q st u t apart (q ∷ []) [] old new (λ y. omega arith) W V (λ y. omega (arith, h y))

        same : (t : State) (new : List ℕ) → Within u t [] new → (y : ℕ) → 1 ≤ count y new → page_of u.image y ≡ page_of st.image y
        same t new V = same-new n q st u t apart (q ∷ []) [] [] new (λ y. omega arith) W V

        after-own : (d : Change) (t : State) → PutTo u t kind q true (suc (length pre)) (index_rec k b) (pre ++ index_rec low a ∷ index_rec k b ∷ post) d →
            Takes st t t kind q pre (index_rec low a ∷ index_rec k b ∷ []) post d
        unfolding offsets
        after-own _ t (to-own room2 V T slots2 below) =
            takes-here (omega (arith, room.0, room2.0, S.start, bytes, bytes2)) (omega (arith, room2.1 refl, ap length S.recs, longer))
            (within-own t (q ∷ []) [] (λ y. omega arith) V) (shows-as T (omega (arith, S.start, bytes, bytes2)) refl)
            (slots2
            ∙ ap₂ (λ (o : ℕ) (l : List ℕ). insert_at (suc i) (o - size right) l) S.start slots
            ∙ left-first i (start_at st q - size left) (start_at st q - size left - size right) (slots_at st q) there)
        after-own _ t (to-new x full fit V N) =
            takes-copied x (go (no_room (start_at st q - size left) (page_of u.image q) S.start S.recs full)) (omega (arith, fit.few)) (within-own t [] (x ∷ []) (λ y. omega arith) V)
            (shows-as N.shows (ap (λ (m : ℕ). page_size - m) total2) refl)
            (last-copies (omega (arith, room.0, bytes)) (new-still st u t t kind x es N (same t (x ∷ []) V x (omega (arith, hit-self x))) refl))
          where
            go : (start_at st q - size left - line_size < entry_size) ⊎ (slot_count ≤ length ds) → start_at st q - line_size < entry_size * 2
            go (inl h) = omega (arith, bytes)
            go (inr h) = absurd (omega (arith, fit.few, longer))
        after-own _ t (to-two x m y full more V N) =
            takes-split x m y (omega (arith, room.0, bytes)) (many more) (within-own t [] (x ∷ y ∷ []) (λ z. omega arith) V)
            (split-still st u t t kind x m y es N (same t (x ∷ y ∷ []) V x (omega (arith, hit-self x))) (same t (x ∷ y ∷ []) V y (omega (arith, hit-self y))) refl refl)

      -- the first made a copy, x

      module _ (u : State) (x : ℕ) (full1 : Full false (size (index_rec low a)) (page_of st.image q)) (W : Within st u [] (x ∷ []))
          (N1 : NewPage st u kind x (pre ++ index_rec low a ∷ post)) where
        within-new : (t : State) (old new : List ℕ) → ((y : ℕ) → count y old ≤ hit y x) → Within u t old new → Within st t (q ∷ []) (x ∷ new)
        within-new t old new h V = within-both n q st u t apart [] (x ∷ []) old new (λ y. omega arith) W V (λ y. omega (arith, h y))

        same-after : (t : State) (new : List ℕ) → Within u t [] new → (y : ℕ) → 1 ≤ count y new → page_of u.image y ≡ page_of st.image y
        same-after t new V = same-new n q st u t apart [] (x ∷ []) [] new (λ y. omega arith) W V

        tight : start_at st q - line_size < entry_size
        tight = less full1

        start1 : start_at u x ≡ page_size - entry_size * length (pre ++ index_rec low a ∷ post)
        start1 = N1.shows.start ∙ ap (λ (m : ℕ). page_size - m) total

        after-new : (d : Change) (t : State) → PutTo u t kind x true (suc (length pre)) (index_rec k b) (pre ++ index_rec low a ∷ index_rec k b ∷ post) d →
            Takes st t t kind q pre (index_rec low a ∷ index_rec k b ∷ []) post (over x d)
        after-new _ t (to-own room2 V T slots2 below) =
            takes-copied x (omega (arith, tight)) (omega (arith, room2.1 refl, ap length N1.shows.recs, longer)) (within-new t (x ∷ []) [] (λ y. omega arith) V)
            (shows-as T (omega (arith, start1, bytes2, longer)) refl)
            (left-copies left right refl tight (slots2 ∙ ap₂ (insert_at (suc i)) (sym T.start) N1.slots)
            (λ j l g. below j l (omega (arith, T.start)) ∙ N1.stays j l (omega (arith, T.start, N1.shows.start))))
        after-new _ t (to-new y full fit V N) =
            absurd (go (no_room (page_size - entry_size * length ds) (page_of u.image x) start1 N1.shows.recs full))
          where
            go : (page_size - entry_size * length ds - line_size < entry_size) ⊎ (slot_count ≤ length ds) → ⊥
            go (inl h) = omega (arith, same_length, most)
            go (inr h) = omega (arith, fit.few, longer)
        after-new _ t (to-two y m z full more V N) =
            takes-both x y m z tight (many more) (within-new t [] (y ∷ z ∷ []) (λ w. omega arith) V)
            (split-still st u t t kind y m z es N (same-after t (y ∷ z ∷ []) V y (omega (arith, hit-self y))) (same-after t (y ∷ z ∷ []) V z (omega (arith, hit-self z))) refl refl)

      -- both
      abbrev f : ℕ → State → PageStep
      f x u = put format1 no_keep kind false true (suc (length pre)) right x u

      second-step : (d : Change) (u : State) → PutTo st u kind q false (length pre) (index_rec low a) (pre ++ index_rec low a ∷ post) d →
          IfMade (λ e t. Takes st t t kind q pre (index_rec low a ∷ index_rec k b ∷ []) post e) (then_into (now d u) q (λ x s. put format1 no_keep kind false true (suc (length pre)) (index_rec k b) x s))
      unfolding then_into
      second-step _ u (to-own room W S slots below) =
          if-made-map (λ d t. PutTo u t kind q true (suc i) right es d) (λ d t. Both t d) (f q u) (after-own u room W S slots)
          (second u q (W.long ∙ long) (record { lists = record { laid = S.laid; kind = S.kind; own = S.own; recs = S.recs } }) (λ y. omega (arith, apart y, ap (count y) W.free)))
      second-step _ u (to-new x full fit W N) =
          copy-made (λ d t. Both t d) x (f x u)
          (if-made-map (λ d t. PutTo u t kind x true (suc i) right es d) (λ d t. Both t (over x d)) (f x u) (after-new u x full W N)
          (second u x (W.long ∙ long) (record { lists = record { laid = N.shows.laid; kind = N.shows.kind; own = N.shows.own; recs = N.shows.recs } })
          (λ y. omega (arith, apart y, ap (count y) W.free))))
      second-step _ u (to-two x m y full more W N) = absurd (never more)

      two-takes : IfMade (λ d t. Takes st t t kind q pre (index_rec low a ∷ index_rec k b ∷ []) post d)
          (then_into (put format1 no_keep kind false false (length pre) (index_rec low a) q st) q (λ x s. put format1 no_keep kind false true (suc (length pre)) (index_rec k b) x s))
      unfolding then_into
      two-takes = go (put format1 no_keep kind false false i left q st) first
        where
          go : (s : PageStep) → IfMade (λ d u. PutTo st u kind q false i left ds d) s → IfMade (λ d t. Both t d) (then_into s q f)
          go (stops m) h = tt
          go (now d u) h = second-step d u h

  -- ---- any change

  pub absorbed-at : (low : ℕ) (ch : Change) → SepsOk low ch → IfMade (λ d t. AtNode kind q pre low post ch st t t d) (absorbed format1 no_keep kind (length pre) low q ch st)
  unfolding absorbed index_rec
  absorbed-at low kept o = (refl, refl)
  absorbed-at low gone o =
      drop-in n st long q kind own L (omega (arith, apart q, hit-self q)) false ⊥ (λ z. absurd (false≢true z)) (λ z h. h) i (pre ++ post) (remove_at-seam pre c post)
  absorbed-at low (one a) o =
      if-made-map (λ d t. PutTo st t kind q false i (index_rec low a) (pre ++ index_rec low a ∷ post) d) (λ d t. Takes st t t kind q pre (index_rec low a ∷ []) post d)
      (put format1 no_keep kind false false i (index_rec low a) q st) (one-takes low a o) (first low a o)
  absorbed-at low (two a k b) o = two-takes low a o.0 k b o.1
