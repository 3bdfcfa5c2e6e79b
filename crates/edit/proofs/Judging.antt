-- The laws that the judge of the edit list cites: one edit's fault read at its place in the list, and one edit more judged.
-- Assumes nothing.
use Rattle.std.specs.Prelude.{Option, Some, None, Err, Ok}
use Prim.Native.Nat.{ℕ, zero, suc, ◌+◌, ◌-◌, ◌≤◌, ◌<◌}
use mathlib.Core.Path.{◌≡◌, refl, sym, ap, ◌∙◌}
use mathlib.Core.Bool.{Bool, true, false, ◌&&◌, ◌||◌}
use mathlib.Core.List.{List, [], ◌∷◌}
use native.Mathlib.Omega.{arith}
use native.Mathlib.Numerals.{add-one}
use native.Mathlib.Nat.{add-zero}
use lib.ListN.{length, get_or, drop, length-drop, drop_of_length-le}
use lib.Seq.{drop-drop, drop-cons, get_or-drop}
use lib.Dec.{ltb, eqb}
use borrow.Author.Tests.{lt-ltb, le-ltb, eq-eqb, ne_eqb, eqb-true, eqb-false}
use Rattle.device.specs.Calls.{cause_of, refusal_at}
use Rattle.codec.specs.Lists.{pick, part}
use Rattle.codec.specs.Numbers.{number}
use Rattle.codec.proofs.Lists.{part-drop}
use Rattle.device.specs.declared.Cause.{Cause}
use Rattle.device.specs.declared.Refusal.{Refusal}
use Rattle.page.specs.Layout.{value_most}
use Rattle.image.specs.Calls.{key_ok}
use Rattle.edit.specs.EditList.{Edit, edits_most, head_size, kind_in, length_in, key_in, edit_in, fault_in, Listed, joined, edits_in, edit_list, listed, faulty, edits_of}
use Rattle.edit.specs.Judged.{cause_named, judged_of}
use Rattle.edit.proofs.Reading.{faultless}

-- ---- one edit, at its place in the list

-- an unknown kind, or a delete with a length
abbrev pub bad_head : ℕ → ℕ → Bool
bad_head kind n = (ltb kind 1 || ltb 3 kind) || (eqb kind 3 && ltb 0 n)

module _ (l : List ℕ) (at : ℕ) where
  pub kind_at : kind_in (drop at l) ≡ get_or l at 0
  kind_at = get_or-drop at l 0 0 ∙ ap (λ (i : ℕ). get_or l i 0) (add-zero at)

  pub length_at : length_in (drop at l) ≡ get_or l (at + 1) 0
  length_at = get_or-drop at l 1 0

  pub key-at : key_in (drop at l) ≡ number (part l (at + 2) 8)
  key-at = ap number (part-drop l at 2 8)

  pub fault-short : length l - at < head_size → fault_in (drop at l) ≡ 5
  unfolding fault_in
  fault-short h = rw (length-drop at l, lt-ltb (length l - at) head_size h)

  module _ (long : head_size ≤ length l - at) (n : ℕ) (there : n ≡ get_or l (at + 1) 0) where
    -- the tests past the first, by the numbers that stand there
    fault-long : fault_in (drop at l)
        ≡ pick (bad_head (get_or l at 0) n) 5
        (pick (ltb value_most n) 7 (pick (ltb (get_or l at 0) 3 && eqb n 0) 19 (pick (ltb (length l - at) (head_size + n)) 5 (pick (key_ok (number (part l (at + 2) 8))) 0 6))))
    unfolding fault_in
    fault-long =
        rw (length-drop at l, le-ltb (length l - at) head_size long, kind_at, length_at ∙ sym there, key-at)
        (go (ltb (get_or l at 0) 1 || ltb 3 (get_or l at 0)) (eqb (get_or l at 0) 3 && ltb 0 n) _)
      where
        go : (a b : Bool) (x : ℕ) → pick a 5 (pick b 5 x) ≡ pick (a || b) 5 x
        go true b x = refl
        go false b x = refl

    pub fault-head : bad_head (get_or l at 0) n ≡ true → fault_in (drop at l) ≡ 5
    fault-head h = fault-long ∙ rw h

    module _ (good : bad_head (get_or l at 0) n ≡ false) where
      pub fault-value : value_most < n → fault_in (drop at l) ≡ 7
      fault-value h = fault-long ∙ rw (good, lt-ltb value_most n h)

      module _ (short : n ≤ value_most) where
        pub fault-empty : (ltb (get_or l at 0) 3 && eqb n 0) ≡ true → fault_in (drop at l) ≡ 19
        fault-empty h = fault-long ∙ rw (good, le-ltb value_most n short, h)

        module _ (filled : (ltb (get_or l at 0) 3 && eqb n 0) ≡ false) where
          pub fault-cut : length l - at < head_size + n → fault_in (drop at l) ≡ 5
          fault-cut h = fault-long ∙ rw (good, le-ltb value_most n short, filled, lt-ltb (length l - at) (head_size + n) h)

          pub fault-key : head_size + n ≤ length l - at → fault_in (drop at l) ≡ pick (key_ok (number (part l (at + 2) 8))) 0 6
          fault-key h = fault-long ∙ rw (good, le-ltb value_most n short, filled, le-ltb (length l - at) (head_size + n) h)

-- ---- the list, from an edit on

pub judged-none : (l : List ℕ) → length l ≡ 0 → judged_of (edit_list l) ≡ Err (refusal_at 5 0)
unfolding judged_of edit_list
judged-none [] e = refl
judged-none (b ∷ l) e = absurd (omega arith)

pub judged-start : (l : List ℕ) → (length l ≡ 0 → ⊥) → judged_of (edits_in edits_most 0 (drop 0 l)) ≡ judged_of (edit_list l)
unfolding edit_list
judged-start [] e = absurd (e refl)
judged-start (b ∷ l) e = refl

-- the edit is without fault, so that what follows decides
judged-joined : (e : Edit) (x : Listed) → judged_of (joined e x) ≡ judged_of x
unfolding judged_of joined
judged-joined e (listed es) = refl
judged-joined e (faulty k i) = refl

module _ (l : List ℕ) (at : ℕ) where
  pub judged-end : (n i : ℕ) → length l ≤ at → judged_of (edits_in n i (drop at l)) ≡ Ok tt
  unfolding judged_of edits_in
  judged-end n i h = rw (drop_of_length-le l {i = at} h) (go n)
    where
      go : (m : ℕ) → judged_of (edits_in m i []) ≡ Ok tt
      go zero = refl
      go (suc m) = refl

  module _ (more : at < length l) (n i : ℕ) where
    -- "a seventeenth"
    pub judged-past : n ≡ 0 → judged_of (edits_in n i (drop at l)) ≡ Err (refusal_at 5 i)
    unfolding judged_of edits_in
    judged-past e = rw (e, drop-cons l at 0 more)

    module _ (m : ℕ) (some : n ≡ suc m) where
      step : judged_of (edits_in n i (drop at l))
          ≡ judged_of (pick (eqb (fault_in (drop at l)) 0) (joined (edit_in (drop at l)) (edits_in m (suc i) (drop (head_size + length_in (drop at l)) (drop at l)))) (faulty (fault_in (drop at l)) i))
      unfolding edits_in
      step = rw (some, drop-cons l at 0 more)

      pub judged-fault : (k : ℕ) → k ≡ fault_in (drop at l) → (k ≡ 0 → ⊥) → judged_of (edits_in n i (drop at l)) ≡ Err (refusal_at k i)
      unfolding judged_of
      judged-fault k e h = step ∙ rw (← e, ne_eqb k 0 h)

      -- the edit is without fault, and the next one stands at `next`
      pub judged-next : (next : ℕ) → fault_in (drop at l) ≡ 0 → next ≡ at + (head_size + get_or l (at + 1) 0) → judged_of (edits_in n i (drop at l)) ≡ judged_of (edits_in m (i + 1) (drop next l))
      judged-next next e there =
          step
          ∙ rw (eq-eqb (fault_in (drop at l)) 0 e, add-one i, there)
          (judged-joined (edit_in (drop at l)) (edits_in m (suc i) (drop (head_size + length_in (drop at l)) (drop at l)))
          ∙ ap (λ (t : List ℕ). judged_of (edits_in m (suc i) t)) (drop-drop (head_size + length_in (drop at l)) at l ∙ ap (λ (m : ℕ). drop (at + (head_size + m)) l) (length_at l at)))

  -- an edit without fault lies in the list
  pub faultless-in : fault_in (drop at l) ≡ 0 → at ≤ length l → at + (head_size + get_or l (at + 1) 0) ≤ length l
  faultless-in e h = omega (arith, (faultless (drop at l) e).whole, length_at l at, length-drop at l)

-- ---- what the answer says of the list

pub good-listed : (l : Listed) → judged_of l ≡ Ok tt → l ≡ listed (edits_of l)
unfolding judged_of
good-listed (listed es) e = refl
good-listed (faulty k i) e = let z : ◌≡◌ {A = ℕ} 0 1 = cc in absurd (omega arith)

pub faulty-listed : (l : Listed) (r : Refusal) → judged_of l ≡ Err r → (k : ℕ) × (i : ℕ) × (l ≡ faulty k i) × (refusal_at k i ≡ r)
unfolding judged_of
faulty-listed (listed es) r e = let z : ◌≡◌ {A = ℕ} 0 1 = cc in absurd (omega arith)
faulty-listed (faulty k i) r e = (k, i, refl, cc)

-- ---- what names a cause

pub none-named : (k : ℕ) → ◌≡◌ {A = Option Cause} None (cause_named k) → k ≡ 0
none-named k e = go (eqb k 0) refl e
  where
    go : (t : Bool) → eqb k 0 ≡ t → ◌≡◌ {A = Option Cause} None (pick t None (Some (cause_of k))) → k ≡ 0
    go true q f = eqb-true k 0 q
    go false q f = let z : ◌≡◌ {A = ℕ} 0 1 = cc in absurd (omega arith)

pub some-named : (k : ℕ) (cause : Cause) → ◌≡◌ {A = Option Cause} (Some cause) (cause_named k) → (k ≡ 0 → ⊥) × (cause_of k ≡ cause)
some-named k cause e = go (eqb k 0) refl e
  where
    go : (t : Bool) → eqb k 0 ≡ t → ◌≡◌ {A = Option Cause} (Some cause) (pick t None (Some (cause_of k))) → (k ≡ 0 → ⊥) × (cause_of k ≡ cause)
    go true q f = let z : ◌≡◌ {A = ℕ} 0 1 = cc in absurd (omega arith)
    go false q f = (eqb-false k 0 q, cc)
