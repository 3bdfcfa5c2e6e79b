-- One step of the walk over a list of edits: what is seen of a key past the edit at a place.
-- Assumes nothing.
use Rattle.std.specs.Prelude.{None, Ok, Option, Result, Some}
use Prim.Native.Nat.{ℕ, ◌+◌, ◌-◌, ◌≤◌, ◌<◌}
use mathlib.Core.Path.{◌≡◌, refl, sym, ap, ap₂, ◌∙◌}
use mathlib.Core.Bool.{Bool, true, false}
use mathlib.Core.List.{List}
use native.Mathlib.Omega.{arith}
use lib.ListN.{length, get_or, take, drop, length-drop}
use lib.Seq.{length-take-le}
use lib.Dec.{eqb}
use borrow.Author.Tests.{eqb-true, eqb-false, eq-eqb, ne_eqb}
use Rattle.preview.specs.declared.Preview.{Preview}
use Rattle.device.specs.declared.Refusal.{Refusal}
use Rattle.preview.specs.declared.Preview.TheVariants.{InList}
use Rattle.codec.specs.Lists.{part, pick}
use Rattle.codec.specs.Numbers.{number}
use Rattle.edit.specs.EditList.{Edit, insert, update, delete, key_of, edit_bytes, kind_in, edit_of}
use Rattle.edit.proofs.Judging.{kind_at}
use Rattle.edit.proofs.Heads.{Ahead, head, head-fits, head-size, head-rest, head-is}
use Rattle.preview.specs.Calls.{brings, seen_from}

edit-key : (kind k : ℕ) (v : List ℕ) → key_of (edit_of kind k v) ≡ k
unfolding edit_of
edit-key kind k v = go (eqb kind 1) (eqb kind 2)
  where
    go : (a b : Bool) → key_of (pick a (insert k v) (pick b (update k v) (delete k))) ≡ k
    go true b = refl
    go false true = refl
    go false false = refl

edit-brings : (kind k : ℕ) (v : List ℕ) (at m : ℕ) → 1 ≤ kind → kind ≤ 3 → length v ≡ m → brings at (edit_of kind k v) ≡ Ok (pick (eqb kind 3) None (Some (InList (record { offset = at + 10; length = m }))))
unfolding edit_of brings
edit-brings kind k v at m low high long = go (eqb kind 1) refl (eqb kind 2) refl
  where
    go : (a : Bool) → eqb kind 1 ≡ a → (b : Bool) → eqb kind 2 ≡ b → brings at (pick a (insert k v) (pick b (update k v) (delete k))) ≡ Ok (pick (eqb kind 3) None (Some (InList (record { offset = at + 10; length = m }))))
    go true p b q = rw (eqb-true kind 1 p, long)
    go false p true q = rw (eqb-true kind 2 q, long)
    go false p false q = rw (eq-eqb kind 3 (omega (arith, low, high, eqb-false kind 1 p, eqb-false kind 2 q)))

module _ {list : List ℕ} {at : ℕ} (A : Ahead list at) (more : at < length list) (m : ℕ) (long : m ≡ get_or list (at + 1) 0) (k : ℕ) (key : k ≡ number (part list (at + 2) 8)) where
  abbrev next : Edit
  next = (head A more).next

  -- its key, and what it brings, by the numbers that stand there
  pub next-key : key_of next ≡ k
  next-key = ap key_of (sym (head-is A more m long k key)) ∙ edit-key (get_or list at 0) k (take (at + 10 + m - (at + 10)) (drop (at + 10) list))

  next-brings : brings at next ≡ Ok (pick (eqb (get_or list at 0) 3) None (Some (InList (record { offset = at + 10; length = m }))))
  next-brings =
      let kind : kind_in (drop at list) ≡ get_or list at 0 = kind_at list at in
      let known = (head A more).ok.known in
      let size : length (take (at + 10 + m - (at + 10)) (drop (at + 10) list)) ≡ m =
      length-take-le (at + 10 + m - (at + 10)) (drop (at + 10) list) (simp length-drop (omega (arith, head-fits A more m long))) ∙ omega arith in
      ap (brings at) (sym (head-is A more m long k key))
      ∙ edit-brings (get_or list at 0) k (take (at + 10 + m - (at + 10)) (drop (at + 10) list)) at m (omega (arith, kind, known.kind-low)) (omega (arith, kind, known.kind-high)) size

  module _ (j : ℕ) (answer : Result (Option Preview) Refusal) where
    step : seen_from j at answer A.edits ≡ seen_from j (at + 10 + m) (pick (eqb k j) (brings at next) answer) (head-rest A more m long).edits
    unfolding seen_from
    step =
        let past : at + length (edit_bytes next) ≡ at + 10 + m = omega (arith, head-size A more m long) in
        ap (seen_from j at answer) (head A more).shape
        ∙ ap₂ (λ (o : ℕ) (a : Result (Option Preview) Refusal). seen_from j o a (head A more).rest) past (ap (λ (x : ℕ). pick (eqb x j) (brings at next) answer) next-key)

    pub seen-own : k ≡ j → seen_from j at answer A.edits ≡ seen_from j (at + 10 + m) (Ok (pick (eqb (get_or list at 0) 3) None (Some (InList (record { offset = at + 10; length = m }))))) (head-rest A more m long).edits
    seen-own e = step ∙ rw (eq-eqb k j e, next-brings)

    pub seen_other : (k ≡ j → ⊥) → seen_from j at answer A.edits ≡ seen_from j (at + 10 + m) answer (head-rest A more m long).edits
    seen_other e = step ∙ rw (ne_eqb k j e)

-- what is seen so far of a key: what the last edit of it brought, else what the image holds
abbrev pub seen_by : Option (Option Preview) → Result (Option Preview) Refusal → Result (Option Preview) Refusal
seen_by (Some shown) stored = Ok shown
seen_by None stored = stored
