-- Each test of a page's layout holds exactly if its facts do.
-- Assumes nothing.
use Rattle.std.proofs.Common.{◌≡◌, ◌==◌, ℕ, suc, ◌≤◌, true, false, leb, ◌⊎◌, List, [], ◌∷◌, ◌++◌, map, length, drop, sym, refl, ap, ◌∙◌, inl, inr, arith, take-append-drop, ltb-true, lt-ltb, eq-eqb, eqb-true, ne_eqb, le-leb, leb-true}
use mathlib.Core.Bool.{or-true}
use lib.ListN.{length-map}
use Rattle.codec.specs.Lists.{all_b, All}
use Rattle.codec.proofs.Tests.{both, first, second, everything, all-every, eqs-true, eqs-same, all_b-true, true-all_b, not-true}
use Rattle.codec.proofs.Agree.{either}
use Rattle.page.specs.Layout.{line_size, leaf_kind, index_kind, Rec, record_at, Head, header_bytes, read_head}
use Rattle.page.specs.Page.{
  Entry,
  entry_at,
  end,
  recs,
  entries,
  records,
  rec_ok,
  head_ok,
  held_b,
  off_b,
  apart_b,
  laid_out,
  form_ok,
  keys_rise,
  page_ok,
  RecOk,
  HeadOk,
  Held,
  Off,
  Apart,
  Is,
  Page,
}
use Rattle.page.specs.PageFormat.{PageOk}
use Rattle.page.proofs.Records.{record-at}
use Rattle.page.proofs.Headers.{Small, head-back}

-- ---- a record, a header, a record where it stands

pub rec_ok-true : (r : Rec) → rec_ok r ≡ true → RecOk r
unfolding rec_ok
rec_ok-true r h = let t = everything _ h in record { low = leb-true _ _ t.0; few = leb-true _ _ t.1.0 }

pub true-rec_ok : (r : Rec) → RecOk r → rec_ok r ≡ true
unfolding rec_ok
true-rec_ok r k = all-every _ (le-leb _ _ k.low, (le-leb _ _ k.few, tt))

pub head_ok-true : (h : Head) → head_ok h ≡ true → HeadOk h
unfolding head_ok
head_ok-true h q =
    let t = everything _ q in
    record {
      few = leb-true _ _ t.0;
      even = eqb-true _ _ t.1.0;
      low = leb-true _ _ t.1.1.0;
      high = leb-true _ _ t.1.1.1.0;
      kind_fits = ltb-true _ _ t.1.1.1.1.0;
      own_fits = ltb-true _ _ t.1.1.1.1.1.0;
    }

pub true-head_ok : (h : Head) → HeadOk h → head_ok h ≡ true
unfolding head_ok
true-head_ok h k =
    all-every _ (le-leb _ _ k.few, (eq-eqb _ _ k.even, (le-leb _ _ k.low, (le-leb _ _ k.high, (lt-ltb _ _ k.kind_fits, (lt-ltb _ _ k.own_fits, tt))))))

module _ (p : List ℕ) (start : ℕ) (e : Entry) where
  pub held-true : held_b p start e ≡ true → Held p start e
  unfolding held_b
  held-true q =
      let t = everything _ q in
      record {
        low = leb-true _ _ t.0;
        even = eqb-true _ _ t.1.0;
        high = leb-true _ _ t.1.1.0;
        ok = rec_ok-true _ t.1.1.1.0;
        bytes = eqs-true _ _ t.1.1.1.1.0;
      }

  pub true-held : Held p start e → held_b p start e ≡ true
  unfolding held_b
  true-held k =
      all-every _ (le-leb _ _ k.low, (eq-eqb _ _ k.even, (le-leb _ _ k.high, (true-rec_ok _ k.ok, (rw k.bytes (eqs-same _), tt)))))

-- ---- records apart

pub off-true : (e f : Entry) → off_b e f ≡ true → Off e f
unfolding off_b
off-true e f t = go (either _ _ t)
  where
    go : (leb (end e) f.at ≡ true) ⊎ (leb (end f) e.at ≡ true) → Off e f
    go (inl a) = inl (leb-true _ _ a)
    go (inr a) = inr (leb-true _ _ a)

pub true-off : (e f : Entry) → Off e f → off_b e f ≡ true
unfolding off_b
true-off e f (inl a) = rw (le-leb (end e) f.at a)
true-off e f (inr a) = rw (le-leb (end f) e.at a) (or-true (leb (end e) f.at))

pub apart-true : (es : List Entry) → apart_b es ≡ true → Apart es
unfolding apart_b
apart-true [] t = tt
apart-true (e ∷ es) t = (
  all_b-true (off_b e) (Off e) (off-true e) es (first (all_b (off_b e) es) (apart_b es) t),
  apart-true es (second (all_b (off_b e) es) (apart_b es) t),
)

pub true-apart : (es : List Entry) → Apart es → apart_b es ≡ true
unfolding apart_b
true-apart [] k = refl
true-apart (e ∷ es) k = both (true-all_b (off_b e) (Off e) (true-off e) es k.0) (true-apart es k.1)

-- ---- the listed records

pub length-records : (p : List ℕ) → length (records p) ≡ length (read_head p).slots
unfolding records
length-records p = length-map (read_head p).slots (record_at p)

pub length-entries : (p : List ℕ) → length (entries p) ≡ length (read_head p).slots
unfolding entries
length-entries p = length-map (read_head p).slots (entry_at p)

at_slots : (p os : List ℕ) → os ≡ map (λ (e : Entry). e.at) (map (entry_at p) os)
at_slots p [] = refl
at_slots p (o ∷ os) = ap (λ (l : List ℕ). o ∷ l) (at_slots p os)

pub at-entries : (p : List ℕ) → (read_head p).slots ≡ map (λ (e : Entry). e.at) (entries p)
unfolding entries
at-entries p = at_slots p (read_head p).slots

recs-slots : (p os : List ℕ) → recs (map (entry_at p) os) ≡ map (record_at p) os
recs-slots p [] = refl
recs-slots p (o ∷ os) = ap (λ (l : List Rec). record_at p o ∷ l) (recs-slots p os)

pub recs-entries : (p : List ℕ) → recs (entries p) ≡ records p
unfolding entries records
recs-entries p = recs-slots p (read_head p).slots

-- ---- a page that is what its facts say is read so

small_at : (p : List ℕ) (start : ℕ) (es : List Entry) → All (Held p start) es → Small (map (λ (e : Entry). e.at) es)
small_at p start [] h = tt
small_at p start (e ∷ es) h = (omega (arith, h.0.high), small_at p start es h.1)

reread : (p : List ℕ) (start : ℕ) (es : List Entry) → All (Held p start) es → map (entry_at p) (map (λ (e : Entry). e.at) es) ≡ es
reread p start [] h = refl
reread p start (e ∷ es) h =
    let q : record_at p e.at ≡ e.rec = record-at p e.at e.rec h.0.ok h.0.bytes in
    rw (q, reread p start es h.1)

module _ (h : Head) (p : List ℕ) (es : List Entry) (i : Is h p es) where
  pub is-small : Small h.slots
  is-small = rw i.body.listed (small_at p h.start es i.body.held)

  pub is-line : p ≡ header_bytes h ++ drop line_size p
  is-line = sym (take-append-drop line_size p) ∙ ap (λ (l : List ℕ). l ++ drop line_size p) i.line

  pub is-head : read_head p ≡ h
  is-head = ap read_head is-line ∙ head-back h (drop line_size p) i.body.head is-small

  pub is-entries : entries p ≡ es
  unfolding entries
  is-entries = rw (is-head, i.body.listed) (reread p h.start es i.body.held)

  pub is-records : records p ≡ recs es
  is-records = sym (recs-entries p) ∙ ap recs is-entries

  pub is_ok : laid_out p ≡ true
  unfolding laid_out
  is_ok =
      rw (is-head, is-entries)
      (all-every _ (
        eq-eqb _ _ i.body.whole,
        (
          true-head_ok h i.body.head,
          (
            rw i.line (eqs-same _),
            (true-all_b (held_b p h.start) (Held p h.start) (true-held p h.start) es i.body.held, (true-apart es i.body.apart, tt)),
          ),
        ),
      ))

  pub is-page : Page p h (recs es)
  is-page = record { ok = is_ok; head = is-head; recs = is-records }

-- ---- a page that is laid out

pub ok-is : (p : List ℕ) → laid_out p ≡ true → Is (read_head p) p (entries p)
unfolding laid_out
ok-is p q =
    let t = everything _ q in
    record {
      line = eqs-true _ _ t.1.1.0;
      body =
          record {
            whole = eqb-true _ _ t.0;
            head = head_ok-true _ t.1.0;
            listed = at-entries p;
            held = all_b-true (held_b p (read_head p).start) (Held p (read_head p).start) (held-true p (read_head p).start) (entries p) t.1.1.1.0;
            apart = apart-true _ t.1.1.1.1.0;
          };
    }

pub not-laid_out : (p : List ℕ) → (Is (read_head p) p (entries p) → ⊥) → laid_out p ≡ false
not-laid_out p h = not-true (laid_out p) (λ t. h (ok-is p t))

pub page-is : (q : List ℕ) (h : Head) (rs : List Rec) → Page q h rs → Is h q (entries q)
page-is q h rs k = rw k.head at (ok-is q k.ok)

recs-ok : (p : List ℕ) (start : ℕ) (es : List Entry) → All (Held p start) es → All RecOk (recs es)
recs-ok p start [] h = tt
recs-ok p start (e ∷ es) h = (h.0.ok, recs-ok p start es h.1)

pub records-ok : (p : List ℕ) → laid_out p ≡ true → All RecOk (records p)
records-ok p q = rw (recs-entries p) at (recs-ok p (read_head p).start (entries p) (ok-is p q).body.held)

-- ---- a page that is sound by itself

module _ (kind own : ℕ) (p : List ℕ) where
  pub page_ok-true : page_ok kind own p ≡ true → PageOk kind own p
  unfolding page_ok
  page_ok-true q =
      let t = everything _ q in
      record {
        laid = t.0;
        kind = eqb-true _ _ t.1.0;
        own = eqb-true _ _ t.1.1.0;
        forms = all_b-true (form_ok kind) (λ (r : Rec). form_ok kind r ≡ true) (λ r f. f) (records p) t.1.1.1.0;
        rise = t.1.1.1.1.0;
      }

  pub true-page_ok : PageOk kind own p → page_ok kind own p ≡ true
  unfolding page_ok
  true-page_ok k =
      all-every _ (
        k.laid,
        (
          eq-eqb _ _ k.kind,
          (eq-eqb _ _ k.own, (true-all_b (form_ok kind) (λ (r : Rec). form_ok kind r ≡ true) (λ r f. f) (records p) k.forms, (k.rise, tt))),
        ),
      )

  pub not-page_ok : (PageOk kind own p → ⊥) → page_ok kind own p ≡ false
  not-page_ok h = not-true (page_ok kind own p) (λ t. h (page_ok-true t))

-- a page that is laid out with the header h and the records rs
pub page-sound : (kind own : ℕ) (q : List ℕ) (h : Head) (rs : List Rec) → Page q h rs → h.kind ≡ kind → h.own ≡ own →
    All (λ (r : Rec). form_ok kind r ≡ true) rs → keys_rise rs ≡ true → page_ok kind own q ≡ true
page-sound kind own q h rs k ek eo forms rise =
    true-page_ok kind own q
    (record {
      laid = k.ok;
      kind = ap (λ (x : Head). x.kind) k.head ∙ ek;
      own = ap (λ (x : Head). x.own) k.head ∙ eo;
      forms = rw k.recs forms;
      rise = rw k.recs rise;
    })

-- the form of a leaf's record, and of an index's
pub leaf-form : (r : Rec) → form_ok leaf_kind r ≡ true → 1 ≤ r.key
unfolding form_ok
leaf-form r t = leb-true _ _ t

pub form-leaf : (r : Rec) → 1 ≤ r.key → form_ok leaf_kind r ≡ true
unfolding form_ok
form-leaf r h = le-leb _ _ h

-- a kind above a leaf's is not the leaf's
not-leaf : (h : ℕ) → (suc (suc h) == leaf_kind) ≡ false
not-leaf h = ne_eqb (suc (suc h)) leaf_kind (λ e. omega arith)

pub index-form : (h : ℕ) (r : Rec) → form_ok (suc (suc h)) r ≡ true → length r.value ≡ 2
unfolding form_ok
index-form h r t = eqb-true (length r.value) 2 (rw (not-leaf h) at t)

pub form-index : (h : ℕ) (r : Rec) → length r.value ≡ 2 → form_ok (suc (suc h)) r ≡ true
unfolding form_ok
form-index h r k = rw (not-leaf h) (eq-eqb (length r.value) 2 k)
