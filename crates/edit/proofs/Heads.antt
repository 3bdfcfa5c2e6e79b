-- The edit at a place of a list that is read from there on, by the numbers that stand there: what it is, how far it reaches, and what follows it.
-- Assumes nothing.
use Prim.Native.Nat.{ℕ, ◌+◌, ◌-◌, ◌≤◌, ◌<◌}
use mathlib.Core.Path.{◌≡◌, refl, sym, ap, ◌∙◌, subst}
use mathlib.Core.List.{List, [], ◌∷◌}
use native.Mathlib.Omega.{arith}
use lib.ListN.{length, get_or, take, drop, length-drop}
use lib.Seq.{drop-drop}
use Rattle.codec.specs.Lists.{part}
use Rattle.codec.specs.Numbers.{number}
use Rattle.edit.specs.EditList.{Edit, head_size, kind_in, length_in, key_in, edit_bytes, edit_of, edit_in}
use Rattle.edit.specs.Reads.{Proper, Faultless, Reads}
use Rattle.edit.proofs.Reading.{edit-proper, edit-size}
use Rattle.edit.proofs.Judging.{kind_at, length_at, key-at}

-- the bytes t begin with the first of the edits es
pub record Head (t : List ℕ) (es : List Edit) : Type 0 where
  pub next : Edit
  pub rest : List Edit
  pub shape : es ≡ next ∷ rest
  pub ok : Faultless t
  pub is : edit_in t ≡ next
  pub reads : Reads (drop (head_size + length_in t) t) rest []

head-of : (t : List ℕ) (es : List Edit) → 1 ≤ length t → Reads t es [] → Head t es
head-of t [] h r = absurd (omega (arith, ap length r))
head-of t (e ∷ es) h r = record { next = e; rest = es; shape = refl; ok = r.0; is = r.1; reads = r.2 }

none_left : (t : List ℕ) (es : List Edit) → length t ≡ 0 → Reads t es [] → es ≡ []
none_left t [] h r = refl
none_left t (e ∷ es) h r = absurd (omega (arith, r.0.whole))

-- the edits from the place `at` of a list on
pub record Ahead (list : List ℕ) (at : ℕ) : Type 0 where
  pub edits : List Edit
  pub reads : Reads (drop at list) edits []

module _ {list : List ℕ} {at : ℕ} (A : Ahead list at) where
  pub head-none : length list ≤ at → A.edits ≡ []
  head-none h = none_left (drop at list) A.edits (simp length-drop (omega arith)) A.reads

  module _ (more : at < length list) where
    pub head : Head (drop at list) A.edits
    head = head-of (drop at list) A.edits (simp length-drop (omega arith)) A.reads

    pub head-proper : Proper head.next
    head-proper = subst Proper head.is (edit-proper (drop at list) head.ok)

    -- by what the code reads of it: the length m
    module _ (m : ℕ) (long : m ≡ get_or list (at + 1) 0) where
      length-is : length_in (drop at list) ≡ m
      length-is = length_at list at ∙ sym long

      pub head-fits : at + 10 + m ≤ length list
      head-fits = omega (arith, head.ok.whole, length-is, length-drop at list)

      pub head-size : length (edit_bytes head.next) ≡ 10 + m
      head-size = ap (λ (e : Edit). length (edit_bytes e)) (sym head.is) ∙ edit-size (drop at list) head.ok ∙ ap (λ (n : ℕ). head_size + n) length-is

      pub head-past : drop (head_size + length_in (drop at list)) (drop at list) ≡ drop (at + 10 + m) list
      head-past =
          let skip : at + (head_size + length_in (drop at list)) ≡ at + 10 + m = omega (arith, length-is) in
          drop-drop (head_size + length_in (drop at list)) at list ∙ ap (λ (x : ℕ). drop x list) skip

      pub rest-reads : Reads (drop (at + 10 + m) list) head.rest []
      rest-reads = subst (λ (l : List ℕ). Reads l head.rest []) head-past head.reads

      abbrev pub head-rest : Ahead list (at + 10 + m)
      head-rest = record { edits = head.rest; reads = rest-reads }

      -- and the key k
      pub head-is : (k : ℕ) → k ≡ number (part list (at + 2) 8) → edit_of (get_or list at 0) k (take (at + 10 + m - (at + 10)) (drop (at + 10) list)) ≡ head.next
      unfolding part edit_in
      head-is k key =
          let s = drop at list in
          let value : List ℕ = take (at + 10 + m - (at + 10)) (drop (at + 10) list) in
          let c : at + 10 + m - (at + 10) ≡ m = omega arith in
          let d : part s head_size (length_in s) ≡ value =
          ap (λ (l : List ℕ). take (length_in s) l) (drop-drop 10 at list) ∙ ap (λ (x : ℕ). take x (drop (at + 10) list)) (length-is ∙ sym c) in
          ap (λ (x : ℕ). edit_of x k value) (sym (kind_at list at))
          ∙ ap (λ (x : ℕ). edit_of (kind_in s) x value) (sym (key-at list at ∙ sym key))
          ∙ ap (edit_of (kind_in s) (key_in s)) (sym d)
          ∙ head.is
