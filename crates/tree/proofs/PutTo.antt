-- A record put into a page of any kind: in its page, where it has room there, or else with the page's other records in one new page or two; and where the records then lie.
-- Assumes nothing.
use Prim.Native.Nat.{ℕ, suc, ◌+◌, ◌-◌, ◌*◌, ◌≤◌, ◌<◌}
use mathlib.Core.Path.{◌≡◌, refl, sym, ap, ◌∙◌, subst}
use mathlib.Core.Bool.{Bool, false}
use mathlib.Core.List.{List, [], ◌∷◌, ◌++◌}
use native.Mathlib.Omega.{arith}
use lib.ListN.{length, get_or, take, drop, take-append-drop, length-take}
use Rattle.codec.specs.Lists.{All}
use Rattle.device.specs.Calls.{pages_out}
use Rattle.page.specs.Layout.{page_size, line_size, slot_count, Rec, size, read_head}
use Rattle.page.specs.Page.{records, RecOk}
use Rattle.page.specs.Operations.{made, sizes, in_place, fill, page_of, fits_page, OnePage, TwoPages}
use Rattle.page.specs.PageFormat.{format1, Shows}
use Rattle.page.proofs.Made.{All-made}
use Rattle.page.proofs.Facts.{records-ok}
use Rattle.page.proofs.Listed.{few-listed}
use Rattle.page.proofs.Sizes.{page-sizes}
use Rattle.page.proofs.Totals.{size-most, size_most, sizes-made, made-most, one-page, two-pages}
use Rattle.page.proofs.Operations.{fill-stays}
use Rattle.page.proofs.Placed.{laid-length, laid-start, slot_made, place-shows, place-slots, place-below, fill_shows, fill-offsets}
use Rattle.image.specs.Image.{first_key, hit, count}
use Rattle.image.proofs.General.{All-left}
use Rattle.image.proofs.Times.{hit-self, hit-apart}
use Rattle.edit.proofs.General.{by-test, all_right}
use Rattle.tree.specs.State.{State, with_page, filled}
use Rattle.tree.specs.Edits.{Change, stops, kept, one, two, no_keep, is_full, split_point, copied, split, moved, put}
use Rattle.tree.specs.Good.{Fits, inside}
use Rattle.tree.specs.Reasons.{Full, NotFull}
use Rattle.tree.specs.Moved.{start_at, slots_at, Within, NewPage, SplitOver}
use Rattle.tree.proofs.Change.{Holds, IfMade, taken_is}
use Rattle.tree.proofs.Counts.{inside-most, inside-range}
use Rattle.tree.proofs.Pages.{full-exact, test-full, test-room, placed-offsets}
use Rattle.tree.proofs.Separators.{first_of}
use Rattle.tree.proofs.Steps.{new-still}
use Rattle.tree.proofs.Split.{point-reaches, point-smallest, halves}
use Rattle.tree.proofs.States.{page-length, write-length, write-here, write-other}

-- ---- a new page

-- t is s with page q filled
pub record Fills (s t : State) (kind q : ℕ) (rs : List Rec) : Type 0 where
  pub root : t.root ≡ s.root
  pub free : t.free ≡ s.free
  pub page : NewPage s t kind q rs
  pub other : (x : ℕ) → (x ≡ q → ⊥) → page_of t.image x ≡ page_of s.image x
  pub long : length t.image ≡ length s.image

pub fills : (n : ℕ) → n ≤ 64 → (st : State) → length st.image ≡ page_size * n → (q : ℕ) → 1 ≤ inside n q → (kind : ℕ) → kind < 256 → (rs : List Rec) →
    All RecOk rs → line_size + sizes rs ≤ page_size → length rs ≤ slot_count → Fills st (filled format1 kind q rs st) kind q rs
unfolding filled
fills n few st long q page kind small rs good room slots =
    let g = fill (page_of st.image q) kind q rs in
    let before = page-length n st.image long q page in
    let own : q < 65536 = omega (arith, inside-range n q page) in
    let shown : Shows g kind q (page_size - sizes rs) rs = fill_shows (page_of st.image q) kind q rs before small own good room slots in
    let whole = laid-length g shown.laid in
    let here = write-here n st.image long q page g whole in
    record {
      root = refl;
      free = refl;
      page =
          record {
            shows = subst (λ (p : List ℕ). Shows p kind q (page_size - sizes rs) rs) (sym here) shown;
            slots =
                ap (λ (p : List ℕ). (read_head p).slots) here
                ∙ fill-offsets (page_of st.image q) kind q rs before small own good room slots
                ∙ placed-offsets rs page_size;
            stays = λ i low high.
                ap (λ (p : List ℕ). get_or p i 0) here ∙ fill-stays (page_of st.image q) kind q rs before small own good room slots i low (omega (arith, shown.start));
          };
      other = write-other n st.image long q page g whole;
      long = write-length n st.image long q page g whole;
    }

-- ---- a record put in

-- what page q leaves, from s to t, of the record r put in as the i-th or in place of the i-th, with which its records are rs
pub data PutTo (s t : State) (kind q : ℕ) (ins : Bool) (i : ℕ) (r : Rec) (rs : List Rec) : Change → Type 0 where
  to-own : NotFull ins (size r) (page_of s.image q) → Within s t (q ∷ []) [] → Shows (page_of t.image q) kind q (start_at s q - size r) rs →
      slots_at t q ≡ slot_made ins i (start_at s q - size r) (slots_at s q) →
      ((o : ℕ) → line_size ≤ o → o < start_at s q - size r → get_or (page_of t.image q) o 0 ≡ get_or (page_of s.image q) o 0) → PutTo s t kind q ins i r rs kept
  to-new : (x : ℕ) → Full ins (size r) (page_of s.image q) → OnePage rs → Within s t [] (x ∷ []) → NewPage s t kind x rs → PutTo s t kind q ins i r rs (one x)
  to-two : (a k b : ℕ) → Full ins (size r) (page_of s.image q) → TwoPages rs → Within s t [] (a ∷ b ∷ []) → SplitOver s t kind a k b rs → PutTo s t kind q ins i r rs (two a k b)

module _ (n : ℕ) (few : n ≤ 64) (st : State) (long : length st.image ≡ page_size * n) (q kind : ℕ) (small : kind < 256) (rs : List Rec)
    (L : Holds format1 st.image kind q rs) (apart : (x : ℕ) → hit x q + count x st.free ≤ inside n x)
    (ins : Bool) (i : ℕ) (r : Rec) (ok : RecOk r) (some : 1 ≤ length (made ins i r rs)) where
  abbrev p : List ℕ
  p = page_of st.image q

  abbrev new : List Rec
  new = made ins i r rs

  -- what is to be shown of a step
  abbrev To : Change → State → Type 0
  To d t = PutTo st t kind q ins i r new d

  same : made ins i r (records p) ≡ new
  same = ap (made ins i r) L.lists.recs

  good : All RecOk new
  good = subst (All RecOk) same (All-made RecOk ins i r (records p) ok (records-ok p L.lists.laid))

  page : 1 ≤ inside n q
  page = omega (arith, apart q, hit-self q)

  -- a free page
  free-page : (a : ℕ) → 1 ≤ count a st.free → (1 ≤ inside n a) × (hit a q ≡ 0) × (count a st.free ≡ 1)
  free-page a h = (omega (arith, apart a), omega (arith, apart a, inside-most n a), omega (arith, apart a, inside-most n a))

  -- in place
  own : NotFull ins (size r) p → To kept (with_page q (in_place ins i r p) st)
  own e =
      let laid = L.lists.laid in
      let g = in_place ins i r p in
      let below : line_size + size r ≤ (read_head p).start = omega (arith, e.0, laid-start p laid) in
      let shown = place-shows p laid i r ok below ins e.1 in
      let whole = laid-length g shown.laid in
      let here = write-here n st.image long q page g whole in
      to-own e (record { root = refl; free = refl; long = write-length n st.image long q page g whole; other = λ x h. write-other n st.image long q page g whole x (hit-apart x q (omega arith)) })
      (subst (λ (y : List ℕ). Shows y kind q ((read_head p).start - size r) new) (sym here)
      (record { laid = shown.laid; kind = shown.kind ∙ L.lists.kind; own = shown.own ∙ L.lists.own; start = shown.start; recs = shown.recs ∙ same }))
      (ap (λ (y : List ℕ). (read_head y).slots) here ∙ place-slots p laid i r ok below ins e.1)
      (λ o l g. ap (λ (y : List ℕ). get_or y o 0) here ∙ place-below p laid i r ok below ins e.1 o l g)

  -- in one new page
  copy : Full ins (size r) p → OnePage new → (x : ℕ) (f : List ℕ) → st.free ≡ x ∷ f → To (one x) (filled format1 kind x new (record { image = st.image; root = st.root; free = f }))
  copy full fit x f e =
      let u : State = record { image = st.image; root = st.root; free = f } in
      let N = free-page x (omega (arith, ap (count x) e, hit-self x)) in
      let A : Fills u (filled format1 kind x new u) kind x new = fills n few u long x N.0 kind small new good (omega (arith, fit.small)) fit.few in
      to-new x full fit
      (record { root = A.root; free = e ∙ ap (λ (l : List ℕ). x ∷ l) (sym A.free); long = A.long; other = λ y h. A.other y (hit-apart y x (omega arith)) })
      (new-still st u (filled format1 kind x new u) (filled format1 kind x new u) kind x new A.page refl refl)

  -- in two
  module _ (full : Full ins (size r) p) (over : TwoPages new) (F : Fits (take (split_point new) new)) (G : Fits (drop (split_point new) new)) (x y : ℕ) (f : List ℕ) (e : st.free ≡ x ∷ y ∷ f) where
    abbrev m : ℕ
    m = split_point new

    parts : All RecOk (take m new) × All RecOk (drop m new)
    parts =
        let h : All RecOk (take m new ++ drop m new) = rw (take-append-drop m new) good in
        (All-left RecOk (take m new) (drop m new) h, all_right RecOk (take m new) (drop m new) h)

    abbrev u : State
    u = record { image = st.image; root = st.root; free = f }

    abbrev v : State
    v = filled format1 kind x (take m new) u

    abbrev w : State
    w = filled format1 kind y (drop m new) v

    new_left : (1 ≤ inside n x) × (hit x q ≡ 0) × (count x st.free ≡ 1)
    new_left = free-page x (omega (arith, ap (count x) e, hit-self x))

    new_right : (1 ≤ inside n y) × (hit y q ≡ 0) × (count y st.free ≡ 1)
    new_right = free-page y (omega (arith, ap (count y) e, hit-self y))

    distinct : x ≡ y → ⊥
    distinct z = omega (arith, new_left.2, ap (count x) e, hit-self x, ap (hit x) z)

    A : Fills u v kind x (take m new)
    A = fills n few u long x new_left.0 kind small (take m new) parts.0 F.room F.few

    B : Fills v w kind y (drop m new)
    B = fills n few v (A.long ∙ long) y new_right.0 kind small (drop m new) parts.1 G.room G.few

    split-over : SplitOver st w kind x (first_key (drop m new) 0) y new
    split-over =
        let S = first_of (drop m new) G.some in
        record {
          firsts = take m new;
          smallest = S.0;
          more = S.1;
          both = ap (λ (l : List Rec). take m new ++ l) (sym S.2) ∙ take-append-drop m new;
          enough = point-reaches new;
          fewest = λ j h. point-smallest new j (omega (arith, length-take m new));
          key = S.3;
          left_page = new-still st u v w kind x (take m new) A.page refl (B.other x distinct);
          right_page = subst (NewPage st w kind y) S.2 (new-still st v w w kind y (drop m new) B.page (A.other y (λ z. distinct (sym z))) refl);
        }

    both : To (two x (first_key (drop m new) 0) y) w
    both =
        to-two x (first_key (drop m new) 0) y full over
        (record {
          root = B.root ∙ A.root;
          free = e ∙ ap (λ (l : List ℕ). x ∷ y ∷ l) (sym (B.free ∙ A.free));
          long = B.long ∙ A.long;
          other = λ z h. B.other z (hit-apart z y (omega arith)) ∙ A.other z (hit-apart z x (omega arith));
        }) split-over

  -- the records that are moved
  moved-to : Full ins (size r) p → (l : List Rec) → l ≡ made ins i r rs → IfMade To (moved format1 kind false l st)
  unfolding moved copied split
  moved-to full l is =
      let most : length new ≤ suc slot_count = omega (arith, ap length same, made-most ins i r (records p), few-listed p L.lists.laid) in
      let bytes : sizes new ≤ page_size - line_size + size_most = omega (arith, ap sizes same, sizes-made ins i r (records p), size-most r ok, page-sizes p L.lists.laid, laid-start p L.lists.laid) in
      rw is
      (by-test (IfMade To) (fits_page new) (λ e. taken_is (IfMade To) (stops pages_out) st _ tt (λ x f z. copy full (one-page new e) x f z))
      (λ e. let H = halves new good most bytes e in
      taken_is (IfMade To) (stops pages_out) st _ tt (λ x g z.
      taken_is (IfMade To) (stops pages_out) (record { image = st.image; root = st.root; free = g }) _ tt (λ y f k.
      both full (two-pages new e) H.0 H.1 x y f (z ∙ ap (λ (l : List ℕ). x ∷ l) k)))))

  pub put-to : IfMade (λ d t. PutTo st t kind q ins i r (made ins i r rs) d) (put format1 no_keep kind false ins i r q st)
  unfolding put
  put-to =
      by-test (IfMade To) (is_full format1 tt ins (size r) p) (λ e. moved-to (test-full ins (size r) p (sym (full-exact ins (size r) p) ∙ e)) _ same)
      (λ e. own (test-room ins (size r) p (sym (full-exact ins (size r) p) ∙ e)))
