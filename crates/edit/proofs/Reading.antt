-- One edit of the list: an edit without fault is proper and not empty, and its bytes are its encoding; such an edit's encoding has no fault.
-- Assumes nothing.
use Prim.Native.Nat.{ℕ, ◌+◌, ◌≤◌, ◌<◌}
use mathlib.Core.Path.{◌≡◌, refl, sym, ap, ◌∙◌, subst}
use mathlib.Core.Bool.{Bool, true, false}
use mathlib.Core.List.{List, [], ◌∷◌, ◌++◌, append_assoc, append-nil}
use native.Mathlib.Omega.{arith}
use lib.ListN.{length, take, drop, take-append-drop, length-append}
use lib.Seq.{drop-cons, take_at, drop_at}
use lib.Dec.{eqb}
use borrow.Author.Tests.{eqb-true, eqb-false}
use Rattle.codec.specs.Lists.{part, pick}
use Rattle.codec.specs.Numbers.{number, bytes_of}
use Rattle.codec.proofs.Lists.{length_part, part-rest}
use Rattle.codec.proofs.Numbers.{length-bytes_of, number-bytes_of, bytes_of-number}
use Rattle.page.specs.Layout.{top_key, value_most}
use Rattle.image.proofs.General.{All-left}
use Rattle.edit.specs.EditList.{Edit, insert, update, delete, head_size, edit_bytes, kind_in, length_in, key_in, edit_of, edit_in, fault_in}
use Rattle.edit.specs.Reads.{Bytes, edit_value, Proper, Filled, Faultless, Fault, none}
use Rattle.edit.proofs.General.{by-test, all_right}
use Rattle.edit.proofs.Faults.{fault-case, case-fault}

pub bytes_take : (n : ℕ) (l : List ℕ) → Bytes l → Bytes (take n l)
bytes_take n l h = All-left (λ (b : ℕ). b < 256) (take n l) (drop n l) (rw (take-append-drop n l) h)

pub bytes_drop : (n : ℕ) (l : List ℕ) → Bytes l → Bytes (drop n l)
bytes_drop n l h = all_right (λ (b : ℕ). b < 256) (take n l) (drop n l) (rw (take-append-drop n l) h)

pub bytes-part : (l : List ℕ) (o n : ℕ) → Bytes l → Bytes (part l o n)
unfolding part
bytes-part l o n h = bytes_take n (drop o l) (bytes_drop o l h)

-- ---- an edit without fault

pub faultless : (t : List ℕ) → fault_in t ≡ 0 → Faultless t
faultless t e = go (subst (Fault t) e (fault-case t))
  where
    go : Fault t 0 → Faultless t
    go (none f) = f

pub no-fault : (t : List ℕ) → Faultless t → fault_in t ≡ 0
no-fault t f = case-fault t 0 (none f)

-- ---- what it is

part_none : (l : List ℕ) (o : ℕ) → part l o 0 ≡ []
unfolding part
part_none l o = refl

module _ (t : List ℕ) (f : Faultless t) where
  value-length : length (part t head_size (length_in t)) ≡ length_in t
  value-length = length_part t head_size (length_in t) f.whole

  -- a kind that is neither 1 nor 2 is a delete, which has no length
  delete-kind : eqb (kind_in t) 1 ≡ false → eqb (kind_in t) 2 ≡ false → kind_in t ≡ 3
  delete-kind p q = omega (arith, f.known.kind-low, f.known.kind-high, eqb-false (kind_in t) 1 p, eqb-false (kind_in t) 2 q)

  delete-bare : eqb (kind_in t) 1 ≡ false → eqb (kind_in t) 2 ≡ false → length_in t ≡ 0
  delete-bare p q = f.known.delete-bare (delete-kind p q)

  pub edit-proper : Proper (edit_in t)
  unfolding edit_in edit_of
  edit-proper =
      by-test Proper (eqb (kind_in t) 1) (λ c. record { low = f.key-low; high = f.key-high; short = omega (arith, value-length, f.short) })
      (λ c. by-test Proper (eqb (kind_in t) 2) (λ d. record { low = f.key-low; high = f.key-high; short = omega (arith, value-length, f.short) })
      (λ d. record { low = f.key-low; high = f.key-high; short = omega arith }))

  pub edit-filled : Filled (edit_in t)
  unfolding edit_in edit_of
  edit-filled =
      by-test Filled (eqb (kind_in t) 1) (λ c. omega (arith, value-length, f.filled (omega (arith, eqb-true (kind_in t) 1 c))))
      (λ c. by-test Filled (eqb (kind_in t) 2) (λ d. omega (arith, value-length, f.filled (omega (arith, eqb-true (kind_in t) 2 d)))) (λ d. tt))

  pub edit-size : length (edit_bytes (edit_in t)) ≡ head_size + length_in t
  unfolding edit_in edit_of edit_bytes
  edit-size =
      let long : length (bytes_of 8 (key_in t)) ≡ 8 = length-bytes_of 8 (key_in t) in
      by-test (λ (e : Edit). length (edit_bytes e) ≡ head_size + length_in t) (eqb (kind_in t) 1) (λ c. simp length-append (omega (arith, long, value-length)))
      (λ c. by-test (λ (e : Edit). length (edit_bytes e) ≡ head_size + length_in t) (eqb (kind_in t) 2) (λ d. simp length-append (omega (arith, long, value-length)))
      (λ d. omega (arith, long, delete-bare c d)))

  pub edit-value : edit_value (edit_in t) ≡ part t head_size (length_in t)
  unfolding edit_in edit_of
  edit-value =
      by-test (λ (e : Edit). edit_value e ≡ part t head_size (length_in t)) (eqb (kind_in t) 1) (λ c. refl)
      (λ c. by-test (λ (e : Edit). edit_value e ≡ part t head_size (length_in t)) (eqb (kind_in t) 2) (λ d. refl)
      (λ d. sym (ap (part t head_size) (delete-bare c d) ∙ part_none t head_size)))

  pub edit-bytes : Bytes t → Bytes (edit_value (edit_in t))
  unfolding edit_in edit_of
  edit-bytes h =
      let v = bytes-part t head_size (length_in t) h in
      by-test (λ (e : Edit). Bytes (edit_value e)) (eqb (kind_in t) 1) (λ c. v)
      (λ c. by-test (λ (e : Edit). Bytes (edit_value e)) (eqb (kind_in t) 2) (λ d. v) (λ d. tt))

  -- the bytes of t field by field
  fields : Bytes t → t ≡ kind_in t ∷ length_in t ∷ (bytes_of 8 (key_in t) ++ (part t head_size (length_in t) ++ drop (head_size + length_in t) t))
  fields h =
      let l : length (part t 2 8) ≡ 8 = length_part t 2 8 (omega (arith, f.whole)) in
      let k : bytes_of 8 (key_in t) ≡ part t 2 8 = subst (λ (n : ℕ). bytes_of n (number (part t 2 8)) ≡ part t 2 8) l (bytes_of-number (part t 2 8) (bytes-part t 2 8 h)) in
      drop-cons t 0 0 (omega (arith, f.whole))
      ∙ ap (λ (x : List ℕ). kind_in t ∷ x) (drop-cons t 1 0 (omega (arith, f.whole)))
      ∙ ap (λ (x : List ℕ). kind_in t ∷ length_in t ∷ x) (part-rest t 2 8)
      ∙ rw (k, ← part-rest t head_size (length_in t))

  -- "kind .., value length .., key (8), value"
  pub edit-encoded : Bytes t → t ≡ edit_bytes (edit_in t) ++ drop (head_size + length_in t) t
  unfolding edit_in edit_of edit_bytes
  edit-encoded h = fields h ∙ go (eqb (kind_in t) 1) refl (eqb (kind_in t) 2) refl
    where
      v : List ℕ
      v = part t head_size (length_in t)

      rest : List ℕ
      rest = drop (head_size + length_in t) t

      go : (a : Bool) → eqb (kind_in t) 1 ≡ a → (b : Bool) → eqb (kind_in t) 2 ≡ b →
          kind_in t ∷ length_in t ∷ (bytes_of 8 (key_in t) ++ (v ++ rest)) ≡ edit_bytes (pick a (insert (key_in t) v) (pick b (update (key_in t) v) (delete (key_in t)))) ++ rest
      go true p b q = rw (eqb-true (kind_in t) 1 p, value-length, append_assoc (bytes_of 8 (key_in t)) v rest)
      go false p true q = rw (eqb-true (kind_in t) 2 q, value-length, append_assoc (bytes_of 8 (key_in t)) v rest)
      go false p false q = rw (delete-kind p q, delete-bare p q, part_none t head_size)

-- ---- a proper edit's encoding

-- of this kind, key and value, and with any bytes behind it
module _ (kind k : ℕ) (v rest : List ℕ) where
  abbrev t : List ℕ
  t = kind ∷ length v ∷ ((bytes_of 8 k ++ v) ++ rest)

  key_back : k ≤ top_key → key_in t ≡ k
  unfolding part bytes_of
  key_back h = number-bytes_of 8 k (omega arith)

  value-back : part t head_size (length v) ≡ v
  unfolding part bytes_of
  value-back = take_at v rest (length v) refl

  rest_back : drop (head_size + length v) t ≡ rest
  rest_back =
      let e : head_size + length v ≡ length (kind ∷ length v ∷ (bytes_of 8 k ++ v)) = simp length-append (omega (arith, length-bytes_of 8 k)) in
      drop_at (kind ∷ length v ∷ (bytes_of 8 k ++ v)) rest (head_size + length v) (sym e)

  back : 1 ≤ kind → kind ≤ 3 → (kind ≡ 3 → length v ≡ 0) → (kind < 3 → 1 ≤ length v) → 1 ≤ k → k ≤ top_key → length v ≤ value_most →
      Faultless t × (edit_in t ≡ edit_of kind k v) × (drop (head_size + length_in t) t ≡ rest)
  unfolding edit_in
  back low high bare filled one top short = (
    record {
      known = record { kind-low = low; kind-high = high; delete-bare = bare };
      short = short;
      filled = filled;
      whole = simp length-append (omega (arith, length-bytes_of 8 k));
      key-low = rw (key_back top) one;
      key-high = rw (key_back top) top;
    },
    rw (key_back top, value-back),
    rest_back,
  )

pub encoded-reads : (e : Edit) (rest : List ℕ) → Proper e → Filled e →
    Faultless (edit_bytes e ++ rest) × (edit_in (edit_bytes e ++ rest) ≡ e) × (drop (head_size + length_in (edit_bytes e ++ rest)) (edit_bytes e ++ rest) ≡ rest)
unfolding edit_bytes edit_of
encoded-reads (insert k v) rest p f = back 1 k v rest (omega arith) (omega arith) (λ z. absurd (omega arith)) (λ z. f) p.low p.high p.short
encoded-reads (update k v) rest p f = back 2 k v rest (omega arith) (omega arith) (λ z. absurd (omega arith)) (λ z. f) p.low p.high p.short
encoded-reads (delete k) rest p f = rw (← append-nil (bytes_of 8 k)) (back 3 k [] rest (omega arith) (omega arith) (λ z. refl) (λ z. absurd (omega arith)) p.low p.high p.short)
