-- The edit list: it is read exactly if it is the encodings of 1 to 16 proper edits end to end, none with an empty value, and refused exactly as the first faulty edit decides.
-- Assumes nothing.
use Prim.Native.Nat.{ℕ, zero, suc, ◌+◌, ◌-◌, ◌≤◌}
use mathlib.Core.Path.{◌≡◌, refl, sym, ◌∙◌, subst}
use mathlib.Core.Logic.{◌⊎◌, inl, inr}
use mathlib.Core.Bool.{Bool, true, false}
use mathlib.Core.List.{List, [], ◌∷◌, ◌++◌, append_assoc, append-nil}
use native.Mathlib.Omega.{arith}
use native.Mathlib.Nat.{not-suc-le-zero}
use lib.ListN.{length, drop}
use lib.Dec.{eqb}
use borrow.Author.Tests.{eqb-true, eqb-false, eq-eqb, ne_eqb}
use Rattle.codec.specs.Lists.{pick, All}
use Rattle.edit.specs.EditList.{Edit, edits_most, head_size, edit_bytes, length_in, edit_in, fault_in, Listed, listed, faulty, joined, edits_in, edit_list}
use Rattle.edit.specs.Reads.{Bytes, edit_value, Proper, Filled, Faultless, Fault, Reads, list_bytes, Whole, Stops, FirstFault, ListFault}
use Rattle.edit.proofs.Faults.{fault-case, case-fault, fault-numbered}
use Rattle.edit.proofs.Reading.{bytes_drop, faultless, no-fault, edit-proper, edit-filled, edit-bytes, edit-encoded, encoded-reads}

-- ---- what is read

-- what each edit without fault is
reads-each : (P : Edit → Type 0) → ((t : List ℕ) → Faultless t → P (edit_in t)) → (t : List ℕ) (es : List Edit) (rest : List ℕ) → Reads t es rest → All P es
reads-each P f t [] rest r = tt
reads-each P f t (e ∷ es) rest r = (subst P r.1 (f t r.0), reads-each P f (drop (head_size + length_in t) t) es rest r.2)

pub reads-proper : (t : List ℕ) (es : List Edit) (rest : List ℕ) → Reads t es rest → All Proper es
reads-proper = reads-each Proper edit-proper

pub reads-filled : (t : List ℕ) (es : List Edit) (rest : List ℕ) → Reads t es rest → All Filled es
reads-filled = reads-each Filled edit-filled

pub reads_bytes : (t : List ℕ) (es : List Edit) (rest : List ℕ) → Reads t es rest → Bytes t → All (λ (e : Edit). Bytes (edit_value e)) es
reads_bytes t [] rest r h = tt
reads_bytes t (e ∷ es) rest r h = (
  subst (λ (x : Edit). Bytes (edit_value x)) r.1 (edit-bytes t r.0 h),
  reads_bytes (drop (head_size + length_in t) t) es rest r.2 (bytes_drop (head_size + length_in t) t h),
)

-- the bytes are the encodings, and then the rest
pub reads-encoded : (t : List ℕ) (es : List Edit) (rest : List ℕ) → Reads t es rest → Bytes t → t ≡ list_bytes es ++ rest
reads-encoded t [] rest r h = r
reads-encoded t (e ∷ es) rest r h =
    let n = head_size + length_in t in
    edit-encoded t r.0 h
    ∙ rw (r.1, reads-encoded (drop n t) es rest r.2 (bytes_drop n t h)) (sym (append_assoc (edit_bytes e) (list_bytes es) rest))

pub encoded-list : (es : List Edit) (rest : List ℕ) → All Proper es → All Filled es → Reads (list_bytes es ++ rest) es rest
encoded-list [] rest p f = refl
encoded-list (e ∷ es) rest p f =
    rw (append_assoc (edit_bytes e) (list_bytes es) rest)
    (let a = encoded-reads e (list_bytes es ++ rest) p.0 f.0 in (a.0, a.1, rw a.2 (encoded-list es rest p.1 f.1)))

-- ---- the whole list, read

read_all : (n i : ℕ) (t : List ℕ) (es : List Edit) → edits_in n i t ≡ listed es → Reads t es [] × (length es ≤ n)
unfolding edits_in joined
read_all zero i [] es q = let z : [] ≡ es = cc in rw (← z) (refl, omega arith)
read_all zero i (b ∷ t) es q = let z : ◌≡◌ {A = ℕ} 0 1 = cc in absurd (omega arith)
read_all (suc n) i [] es q = let z : [] ≡ es = cc in rw (← z) (refl, omega arith)
read_all (suc n) i (b ∷ t) es q = go (eqb (fault_in u) 0) refl (edits_in n (suc i) rest) q (read_all n (suc i) rest)
  where
    u : List ℕ
    u = b ∷ t

    rest : List ℕ
    rest = drop (head_size + length_in u) u

    go : (c : Bool) → eqb (fault_in u) 0 ≡ c → (x : Listed) → pick c (joined (edit_in u) x) (faulty (fault_in u) i) ≡ listed es →
        ((fs : List Edit) → x ≡ listed fs → Reads rest fs [] × (length fs ≤ n)) → Reads u es [] × (length es ≤ suc n)
    go true c (listed fs) q f =
        let z : edit_in u ∷ fs ≡ es = cc in
        let r = f fs refl in
        rw (← z) ((faultless u (eqb-true (fault_in u) 0 c), refl, r.0), omega (arith, r.1))
    go true c (faulty k j) q f = let z : ◌≡◌ {A = ℕ} 0 1 = cc in absurd (omega arith)
    go false c x q f = let z : ◌≡◌ {A = ℕ} 0 1 = cc in absurd (omega arith)

all_read : (n i : ℕ) (t : List ℕ) (es : List Edit) → Reads t es [] → length es ≤ n → edits_in n i t ≡ listed es
unfolding edits_in joined
all_read zero i t [] r h = rw r
all_read (suc n) i t [] r h = rw r
all_read zero i t (e ∷ es) r h = absurd (not-suc-le-zero h)
all_read (suc n) i [] (e ∷ es) r h = absurd (omega (arith, r.0.whole))
all_read (suc n) i (b ∷ t) (e ∷ es) r h =
    rw (eq-eqb (fault_in (b ∷ t)) 0 (no-fault (b ∷ t) r.0), all_read n (suc i) (drop (head_size + length_in (b ∷ t)) (b ∷ t)) es r.2 (omega arith), r.1)

pub list-whole : (bytes : List ℕ) (es : List Edit) → edit_list bytes ≡ listed es → Whole bytes es
unfolding edit_list
list-whole [] es q = let z : ◌≡◌ {A = ℕ} 0 1 = cc in absurd (omega arith)
list-whole (b ∷ t) es q =
    let r = read_all edits_most 0 (b ∷ t) es q in
    record { some = nonempty es r.0; few = r.1; reads = r.0 }
  where
    nonempty : (es : List Edit) → Reads (b ∷ t) es [] → 1 ≤ length es
    nonempty [] r = let z : ◌≡◌ {A = ℕ} 0 1 = cc in absurd (omega arith)
    nonempty (e ∷ es) r = omega arith

pub whole-list : (bytes : List ℕ) (es : List Edit) → Whole bytes es → edit_list bytes ≡ listed es
unfolding edit_list
whole-list bytes [] w = absurd (not-suc-le-zero w.some)
whole-list [] (e ∷ es) w = absurd (omega (arith, w.reads.0.whole))
whole-list (b ∷ t) (e ∷ es) w = all_read edits_most 0 (b ∷ t) (e ∷ es) w.reads w.few

-- the encodings of 1 to 16 proper edits, none with an empty value, are read as those edits
pub proper-list : (es : List Edit) → 1 ≤ length es → length es ≤ edits_most → All Proper es → All Filled es → edit_list (list_bytes es) ≡ listed es
proper-list es some few p f =
    whole-list (list_bytes es) es (record { some = some; few = few; reads = subst (λ (t : List ℕ). Reads t es []) (append-nil (list_bytes es)) (encoded-list es [] p f) })

-- and a list of bytes that is read is such encodings
pub list-proper : (bytes : List ℕ) (es : List Edit) → edit_list bytes ≡ listed es → All Proper es
list-proper bytes es q = reads-proper bytes es [] (list-whole bytes es q).reads

pub list-filled : (bytes : List ℕ) (es : List Edit) → edit_list bytes ≡ listed es → All Filled es
list-filled bytes es q = reads-filled bytes es [] (list-whole bytes es q).reads

pub list-encoded : (bytes : List ℕ) (es : List Edit) → edit_list bytes ≡ listed es → Bytes bytes → bytes ≡ list_bytes es
list-encoded bytes es q h = reads-encoded bytes es [] (list-whole bytes es q).reads h ∙ append-nil (list_bytes es)

-- ---- refused

first-fault : (n i : ℕ) (t : List ℕ) (k j : ℕ) → edits_in n i t ≡ faulty k j → FirstFault n i t k j
unfolding edits_in joined
first-fault zero i [] k j q = let z : ◌≡◌ {A = ℕ} 0 1 = cc in absurd (omega arith)
first-fault zero i (b ∷ t) k j q =
    let z : 5 ≡ k = cc in
    let y : i ≡ j = cc in
    record { before = []; rest = b ∷ t; reads = refl; number = omega arith; some = omega arith; why = inr (refl, sym z) }
first-fault (suc n) i [] k j q = let z : ◌≡◌ {A = ℕ} 0 1 = cc in absurd (omega arith)
first-fault (suc n) i (b ∷ t) k j q = go (eqb (fault_in u) 0) refl (edits_in n (suc i) rest) q (first-fault n (suc i) rest k j)
  where
    u : List ℕ
    u = b ∷ t

    rest : List ℕ
    rest = drop (head_size + length_in u) u

    further : (m : ℕ) (r : List ℕ) → Stops n m r k → Stops (suc n) (suc m) r k
    further m r (inl w) = inl (omega (arith, w.0), w.1, w.2)
    further m r (inr w) = inr (omega (arith, w.0), w.1)

    go : (c : Bool) → eqb (fault_in u) 0 ≡ c → (x : Listed) → pick c (joined (edit_in u) x) (faulty (fault_in u) i) ≡ faulty k j →
        (x ≡ faulty k j → FirstFault n (suc i) rest k j) → FirstFault (suc n) i u k j
    go true c (listed fs) q f = let z : ◌≡◌ {A = ℕ} 0 1 = cc in absurd (omega arith)
    go true c (faulty l m) q f =
        let r = f q in
        record {
          before = edit_in u ∷ r.before;
          rest = r.rest;
          reads = (faultless u (eqb-true (fault_in u) 0 c), refl, r.reads);
          number = omega (arith, r.number);
          some = r.some;
          why = further (length r.before) r.rest r.why;
        }
    go false c x q f =
        let z : fault_in u ≡ k = cc in
        let y : i ≡ j = cc in
        record {
          before = [];
          rest = u;
          reads = refl;
          number = omega arith;
          some = omega arith;
          why = inl (omega arith, subst (Fault u) z (fault-case u), λ w. eqb-false (fault_in u) 0 c (z ∙ w));
        }

-- edits without fault are read, and what follows them decides
read-on : (m n h i : ℕ) (t : List ℕ) (es : List Edit) (rest : List ℕ) (k j : ℕ) → n ≡ length es + m → h ≡ i + length es → Reads t es rest →
    edits_in m h rest ≡ faulty k j → edits_in n i t ≡ faulty k j
unfolding edits_in joined
read-on m n h i t [] rest k j a c r q =
    let same : n ≡ m = omega arith in
    let here : i ≡ h = omega arith in
    rw (same, here, r) q
read-on m zero h i t (e ∷ es) rest k j a c r q = absurd (omega arith)
read-on m (suc n) h i [] (e ∷ es) rest k j a c r q = absurd (omega (arith, r.0.whole))
read-on m (suc n) h i (b ∷ t) (e ∷ es) rest k j a c r q =
    rw (eq-eqb (fault_in (b ∷ t)) 0 (no-fault (b ∷ t) r.0), read-on m n h (suc i) (drop (head_size + length_in (b ∷ t)) (b ∷ t)) es rest k j (omega arith) (omega arith) r.2 q)

fault-first : (n i : ℕ) (t : List ℕ) (k j : ℕ) → FirstFault n i t k j → edits_in n i t ≡ faulty k j
unfolding edits_in
fault-first n i t k j f = go f.why
  where
    m : ℕ
    m = length f.before

    own : (n : ℕ) (rest : List ℕ) → 1 ≤ length rest → Fault rest k → (k ≡ 0 → ⊥) → edits_in (suc n) j rest ≡ faulty k j
    own n [] some g z = absurd (omega arith)
    own n (b ∷ rest) some g z = rw (case-fault (b ∷ rest) k g, ne_eqb k 0 z)

    past : (rest : List ℕ) → 1 ≤ length rest → k ≡ 5 → edits_in 0 j rest ≡ faulty k j
    past [] some e = absurd (omega arith)
    past (b ∷ rest) some e = rw e

    go : Stops n m f.rest k → edits_in n i t ≡ faulty k j
    go (inl w) = read-on (suc (n - suc m)) n j i t f.before f.rest k j (omega (arith, w.0)) f.number f.reads (own (n - suc m) f.rest f.some w.1 w.2)
    go (inr w) = read-on 0 n j i t f.before f.rest k j (omega (arith, w.0)) f.number f.reads (past f.rest f.some w.1)

-- "5 (no edit, ..)", or the first faulty edit decides
pub list-fault : (bytes : List ℕ) (k i : ℕ) → edit_list bytes ≡ faulty k i → ListFault bytes k i
unfolding edit_list
list-fault [] k i q =
    let z : 5 ≡ k = cc in
    let y : 0 ≡ i = cc in
    inl (refl, sym z, sym y)
list-fault (b ∷ t) k i q = inr (first-fault edits_most 0 (b ∷ t) k i q)

-- and a list of which that holds is refused so
pub fault-list : (bytes : List ℕ) (k i : ℕ) → ListFault bytes k i → edit_list bytes ≡ faulty k i
unfolding edit_list edits_in
fault-list bytes k i (inl w) = rw (w.0, w.1, w.2)
fault-list [] k i (inr f) =
    let q : listed [] ≡ faulty k i = fault-first 16 0 [] k i f in
    let z : ◌≡◌ {A = ℕ} 0 1 = cc in
    absurd (omega arith)
fault-list (b ∷ t) k i (inr f) = fault-first 16 0 (b ∷ t) k i f

-- with 5, 6, 7 or 19
pub list-numbered : (bytes : List ℕ) (k i : ℕ) → ListFault bytes k i → ((5 ≤ k) × (k ≤ 7)) ⊎ (k ≡ 19)
list-numbered bytes k i (inl h) = inl (omega (arith, h.1), omega (arith, h.1))
list-numbered bytes k i (inr f) = go f.why
  where
    go : Stops 16 (length f.before) f.rest k → ((5 ≤ k) × (k ≤ 7)) ⊎ (k ≡ 19)
    go (inl s) = fault-numbered f.rest k s.1 s.2
    go (inr s) = inl (omega (arith, s.1), omega (arith, s.1))
