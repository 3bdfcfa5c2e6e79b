-- What a pass over the listed records keeps: the least key that may come next and the units taken, with what is left to be shown of the rest.
-- Assumes nothing.
use Rattle.std.proofs.Common.{◌≡◌, ℕ, suc, ◌+◌, ◌-◌, ◌*◌, ◌/◌, ◌^◌, ◌<◌, ◌≤◌, Bool, true, false, eqb, leb, ◌⊎◌, List, [], ◌∷◌, length, drop, sym, refl, ap, ◌∙◌, inl, inr, arith, drop_of_length-le, le-leb, leb-true, eq-eqb, eqb-true}
use mathlib.Core.Bool.{false≢true}
use lib.Bits.{bit_and, bit_or, and_comm}
use Rattle.codec.specs.Lists.{part, All, pick}
use Rattle.codec.specs.Numbers.{number}
use Rattle.codec.proofs.Tests.{first, second, both, All-map}
use Rattle.page.specs.Layout.{page_size, leaf_kind, Rec, up8, size, record_at, read_head}
use Rattle.page.specs.Page.{Entry, entry_at, recs, entries, records, form_ok, starts_at, keys_rise, page_ok, Held, Off, Apart}
use Rattle.page.specs.PageFormat.{PageOk}
use Rattle.page.proofs.Records.{size-even, size-least}
use Rattle.page.proofs.Listed.{entries_next}
use Rattle.page.proofs.Facts.{length-entries, length-records, at-entries, recs-entries, is_ok, ok-is, true-page_ok, not-page_ok}
use Rattle.page.proofs.CheckRecord.{fitting, Numbers, held-numbers, record_b, record-held, record-fits, held-record}
use Rattle.page.proofs.CheckHeader.{start_is, Headed, head_b, headed-head}
use Rattle.page.proofs.CheckBits.{run, run-before, run-off, free-first, free-second, free-both}

-- ---- the units of a record

-- the eight-byte units of the page that the record e covers
abbrev pub units : Entry → ℕ
units e = run (e.at / 8) (size e.rec / 8)

pub units-are : (p : List ℕ) (o n : ℕ) → n ≡ length (record_at p o).value → (2 ^ (2 + (n + 7) / 8) - 1) * 2 ^ (o / 8) ≡ units (entry_at p o)
unfolding run size up8
units-are p o n e =
    let f : 2 + (n + 7) / 8 ≡ (16 + (length (record_at p o).value + 7) / 8 * 8) / 8 = omega arith in
    ap (λ (k : ℕ). (2 ^ k - 1) * 2 ^ (o / 8)) f

-- two records are apart exactly if they have no unit in common
module _ (p : List ℕ) (start : ℕ) (e f : Entry) (he : Held p start e) (hf : Held p start f) where
  off-units : Off e f → bit_and (units e) (units f) ≡ 0
  off-units (inl h) = run-before _ _ _ _ (omega (arith, he.even, hf.even, size-even e.rec))
  off-units (inr h) = and_comm (units e) (units f) ∙ run-before _ _ _ _ (omega (arith, he.even, hf.even, size-even f.rec))

  units-off : bit_and (units e) (units f) ≡ 0 → Off e f
  units-off h = go (run-off _ _ _ _ (omega (arith, size-least e.rec)) (omega (arith, size-least f.rec)) h)
    where
      go : (e.at / 8 + size e.rec / 8 ≤ f.at / 8) ⊎ (f.at / 8 + size f.rec / 8 ≤ e.at / 8) → Off e f
      go (inl k) = inl (omega (arith, he.even, hf.even, size-even e.rec))
      go (inr k) = inr (omega (arith, he.even, hf.even, size-even f.rec))

-- ---- what is left to be shown of the rest

-- no unit of the record e is in marks
abbrev pub Clear : ℕ → Entry → Type 0
Clear marks e = bit_and marks (units e) ≡ 0

-- the record e may come next, where no key may be below `low` and the units in `marks` are taken
pub record Next (kind : ℕ) (p : List ℕ) (low marks : ℕ) (e : Entry) : Type 0 where
  pub held : Held p (read_head p).start e
  pub form : form_ok kind e.rec ≡ true
  pub above : low ≤ e.rec.key
  pub clear : Clear marks e

-- the records es may come next
pub record Left (kind : ℕ) (p : List ℕ) (low marks : ℕ) (es : List Entry) : Type 0 where
  pub held : All (Held p (read_head p).start) es
  pub apart : Apart es
  pub clear : All (Clear marks) es
  pub forms : All (λ (r : Rec). form_ok kind r ≡ true) (recs es)
  pub above : starts_at low (recs es) ≡ true
  pub rise : keys_rise (recs es) ≡ true

module _ {ℓ} {A : Type ℓ} (P Q R : A → Type 0) (f : (x : A) → P x → Q x → R x) where
  All-zip : (l : List A) → All P l → All Q l → All R l
  All-zip [] p q = tt
  All-zip (x ∷ l) p q = (f x p.0 q.0, All-zip l p.1 q.1)

module _ (kind : ℕ) (p : List ℕ) (low marks : ℕ) where
  left_end : Left kind p low marks []
  unfolding starts_at keys_rise
  left_end = record { held = tt; apart = tt; clear = tt; forms = tt; above = refl; rise = refl }

  module _ (e : Entry) (es : List Entry) where
    left-first : Left kind p low marks (e ∷ es) → Next kind p low marks e
    unfolding starts_at
    left-first k = record { held = k.held.0; form = k.forms.0; above = leb-true _ _ k.above; clear = k.clear.0 }

    left-rest : Left kind p low marks (e ∷ es) → Left kind p (suc e.rec.key) (bit_or marks (units e)) es
    unfolding keys_rise
    left-rest k =
        let others = All-zip (Held p (read_head p).start) (Off e) (Clear (units e)) (λ f h o. off-units p (read_head p).start e f k.held.0 h o) es k.held.1 k.apart.0 in
        record {
          held = k.held.1;
          apart = k.apart.1;
          clear = All-zip (Clear marks) (Clear (units e)) (Clear (bit_or marks (units e))) (λ f a b. free-both marks (units e) (units f) a b) es k.clear.1 others;
          forms = k.forms.1;
          above = first (starts_at (suc e.rec.key) (recs es)) (keys_rise (recs es)) k.rise;
          rise = second (starts_at (suc e.rec.key) (recs es)) (keys_rise (recs es)) k.rise;
        }

    next-left : Next kind p low marks e → Left kind p (suc e.rec.key) (bit_or marks (units e)) es → Left kind p low marks (e ∷ es)
    unfolding keys_rise starts_at
    next-left n k =
        let taken = bit_or marks (units e) in
        let others =
        All-zip (Held p (read_head p).start) (Clear taken) (Off e) (λ f h a. units-off p (read_head p).start e f n.held h (free-second marks (units e) (units f) a)) es k.held k.clear in
        record {
          held = (n.held, k.held);
          apart = (others, k.apart);
          clear = (n.clear, All-map (Clear taken) (Clear marks) (λ f a. free-first marks (units e) (units f) a) es k.clear);
          forms = (n.form, k.forms);
          above = le-leb _ _ n.above;
          rise = both k.above k.rise;
        }

-- ---- the form of a record, by its key and its length

-- the least key: 1 in a leaf
abbrev pub least : ℕ → ℕ
least kind = pick (eqb kind leaf_kind) 1 0

module _ (kind : ℕ) (r : Rec) where
  form-least : form_ok kind r ≡ true → leb (least kind) r.key ≡ true
  unfolding form_ok
  form-least = go (eqb kind leaf_kind)
    where
      go : (b : Bool) → pick b (leb 1 r.key) (eqb (length r.value) 2) ≡ true → leb (pick b 1 0) r.key ≡ true
      go true h = h
      go false h = le-leb 0 r.key (omega arith)

  pub form-fitting : form_ok kind r ≡ true → fitting kind (length r.value) ≡ true
  unfolding form_ok
  form-fitting = go (eqb kind leaf_kind)
    where
      go : (b : Bool) → pick b (leb 1 r.key) (eqb (length r.value) 2) ≡ true → pick b true (eqb (length r.value) 2) ≡ true
      go true h = refl
      go false h = h

  pub fitting-form : least kind ≤ r.key → fitting kind (length r.value) ≡ true → form_ok kind r ≡ true
  unfolding form_ok
  fitting-form = go (eqb kind leaf_kind)
    where
      go : (b : Bool) → pick b 1 0 ≤ r.key → pick b true (eqb (length r.value) 2) ≡ true → pick b (leb 1 r.key) (eqb (length r.value) 2) ≡ true
      go true h k = le-leb 1 r.key h
      go false h k = k

-- ---- the whole page

starts-least : (kind : ℕ) (rs : List Rec) → All (λ (r : Rec). form_ok kind r ≡ true) rs → starts_at (least kind) rs ≡ true
unfolding starts_at
starts-least kind [] h = refl
starts-least kind (r ∷ rs) h = form-least kind r h.0

none-taken : (es : List Entry) → All (Clear 0) es
none-taken [] = tt
none-taken (e ∷ es) = (refl, none-taken es)

module _ (kind own : ℕ) (p : List ℕ) where
  page-headed : PageOk kind own p → Headed kind own p
  page-headed k =
      let i = ok-is p k.laid in
      record { whole = i.body.whole; head = i.body.head; line = i.line; kind = k.kind; own = k.own }

  pub head-stop : head_b kind own p ≡ false → page_ok kind own p ≡ false
  head-stop e = not-page_ok kind own p (λ k. false≢true (sym e ∙ headed-head kind own p (page-headed k)))

  page-left : PageOk kind own p → Left kind p (least kind) 0 (entries p)
  page-left k =
      let i = ok-is p k.laid in
      let e = recs-entries p in
      let forms = rw (← e) at k.forms in
      record {
        held = i.body.held;
        apart = i.body.apart;
        clear = none-taken (entries p);
        forms = forms;
        above = starts-least kind (recs (entries p)) forms;
        rise = rw (← e) at k.rise;
      }

  left-page : Headed kind own p → Left kind p (least kind) 0 (entries p) → PageOk kind own p
  left-page h k =
      let e = recs-entries p in
      record {
        laid = is_ok (read_head p) p (entries p) (record { line = h.line; body = record { whole = h.whole; head = h.head; listed = at-entries p; held = k.held; apart = k.apart } });
        kind = h.kind;
        own = h.own;
        forms = rw e at k.forms;
        rise = rw e at k.rise;
      }

-- ---- a pass: the i-th record comes next, and what is left to be shown of the rest is as much as of all

pub record Pass (kind : ℕ) (p : List ℕ) (low marks i : ℕ) : Type 0 where
  pub above : least kind ≤ low
  pub there : Left kind p (least kind) 0 (entries p) → Left kind p low marks (drop i (entries p))
  pub back : Left kind p low marks (drop i (entries p)) → Left kind p (least kind) 0 (entries p)

pub pass-start : (kind : ℕ) (p : List ℕ) (low marks : ℕ) → low ≡ least kind → marks ≡ 0 → Pass kind p low marks 0
pass-start kind p low marks e f = rw (e, f) (record { above = omega arith; there = λ k. k; back = λ k. k })

module _ (kind own : ℕ) (p : List ℕ) (low marks i : ℕ) (pass : Pass kind p low marks i) where
  pub pass-end : Headed kind own p → length (records p) ≤ i → page_ok kind own p ≡ true
  pass-end h done =
      let none : drop i (entries p) ≡ [] = drop_of_length-le (entries p) {i = i} (omega (arith, length-entries p, length-records p)) in
      true-page_ok kind own p (left-page kind own p h (pass.back (rw none (left_end kind p low marks))))

  module _ (o : ℕ) (at : o ≡ number (part p (8 + 2 * i) 2)) (less : i < length (records p)) where
    next : drop i (entries p) ≡ entry_at p o ∷ drop (i + 1) (entries p)
    next = entries_next p i less o at

    pub pass-stop : (Next kind p low marks (entry_at p o) → ⊥) → page_ok kind own p ≡ false
    pass-stop not = not-page_ok kind own p (λ k. not (left-first kind p low marks (entry_at p o) (drop (i + 1) (entries p)) (rw next at (pass.there (page-left kind own p k)))))

    pub pass-next : Next kind p low marks (entry_at p o) → (low' marks' : ℕ) → low' ≡ suc (record_at p o).key → marks' ≡ bit_or marks (units (entry_at p o)) →
        Pass kind p low' marks' (i + 1)
    pass-next n low' marks' e f =
        let rest = drop (i + 1) (entries p) in
        rw (e, f)
        (record {
          above = omega (arith, pass.above, n.above);
          there = λ k. left-rest kind p low marks (entry_at p o) rest (rw next at (pass.there k));
          back = λ k. pass.back (rw next (next-left kind p low marks (entry_at p o) rest n k));
        })

-- ---- the test of a record, in the pass

-- the record at o passed it
pub record Tested (kind : ℕ) (p : List ℕ) (o : ℕ) : Type 0 where
  pub held : Held p (read_head p).start (entry_at p o)
  pub fits : fitting kind (length (record_at p o).value) ≡ true
  pub numbers : Numbers p o

module _ (kind : ℕ) (p : List ℕ) (start o : ℕ) (r : Bool) (from : start ≡ number (part p 2 2)) (test : r ≡ record_b kind p start o) where
  test_is : r ≡ record_b kind p (read_head p).start o
  test_is = test ∙ ap (λ (n : ℕ). record_b kind p n o) (from ∙ sym (start_is p))

  pub tested : length p ≡ page_size → r ≡ true → Tested kind p o
  tested whole t =
      let b = sym test_is ∙ t in
      let k = record-held kind p _ o b in
      record { held = k; fits = record-fits kind p _ o b; numbers = held-numbers p _ o whole k }

  -- it failed, so the record may not come next
  pub not-next : (low marks : ℕ) → r ≡ false → Next kind p low marks (entry_at p o) → ⊥
  not-next low marks f n = false≢true (sym f ∙ test_is ∙ held-record kind p _ o n.held (form-fitting kind _ n.form))

module _ (kind : ℕ) (p : List ℕ) (low marks o u : ℕ) (r : Bool) (t : Tested kind p o) (mine : u ≡ units (entry_at p o)) (test : r ≡ eqb (bit_and marks u) 0) where
  clear_is : r ≡ eqb (bit_and marks (units (entry_at p o))) 0
  clear_is = test ∙ ap (λ (n : ℕ). eqb (bit_and marks n) 0) mine

  -- the key is not too low and the units are free, so the record may come next
  pub may-next : least kind ≤ low → low ≤ number (part p o 8) → r ≡ true → Next kind p low marks (entry_at p o)
  may-next h k c =
      let key = t.numbers.key in
      record {
        held = t.held;
        form = fitting-form kind _ (omega arith) t.fits;
        above = omega arith;
        clear = eqb-true _ 0 (sym clear_is ∙ c);
      }

  -- a unit is taken, so it may not
  pub taken : r ≡ false → Next kind p low marks (entry_at p o) → ⊥
  taken f n = false≢true (sym f ∙ clear_is ∙ eq-eqb _ 0 n.clear)
