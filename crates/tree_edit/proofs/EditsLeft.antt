-- The edits of a list that are left to be made: what the head of the next one says, and what is left after it.
-- Assumes nothing.
use Prim.Native.Nat.{ℕ, suc, ◌+◌, ◌-◌, ◌≤◌, ◌<◌}
use mathlib.Core.Path.{◌≡◌, refl, sym, ap, ◌∙◌, subst}
use mathlib.Core.List.{List}
use native.Mathlib.Omega.{arith}
use native.Mathlib.Numerals.{add-one}
use lib.ListN.{length, get_or, take, drop}
use Rattle.codec.specs.Lists.{part}
use Rattle.codec.specs.Numbers.{number}
use Rattle.edit.specs.EditList.{Edit, edits_most, edit_of, listed, edit_list}
use Rattle.edit.specs.Reads.{Proper}
use Rattle.edit.specs.Keys.{key_rule}
use Rattle.edit.proofs.Heads.{Ahead, Head, head, head-none, head-proper, head-rest, head-is}
use Rattle.edit.proofs.Parsing.{list-whole}
use Rattle.page.specs.PageFormat.{format1}
use Rattle.page.proofs.Format1.{format1-rules}
use Rattle.tree.specs.State.{State, Step, done, refused}
use Rattle.tree.specs.Edits.{no_keep, edited}
use Rattle.tree.specs.Whole.{Outcome, finished, stopped, onward, edits_from, edits_from_in}
use Rattle.tree.specs.Good.{Good}
use Rattle.tree.proofs.Height.{table_at}
use Rattle.tree.proofs.Root.{Ended, Made, ended-made, edited-ended}
use Rattle.tree_edit.specs.Steps.{state_of}
use Rattle.tree_edit.specs.declared.Tree.{Tree}

-- from the place `at` of the list and edit i on, with the tree t in work, the edits that are left come to `all`
pub record Left (n : ℕ) (before list : List ℕ) (all : Outcome) (work : List ℕ) (t : Tree) (at i : ℕ) : Type 0 where
  pub ahead : Ahead list at
  pub few : i + length ahead.edits ≤ edits_most
  pub good : Good n (state_of before work t)
  pub low : t.top ≤ 64
  pub goes : edits_from i ahead.edits (state_of before work t) ≡ all

pub left-all : (n : ℕ) (before list work : List ℕ) (t : Tree) → Good n (state_of before work t) → t.top ≤ 64 → (es : List Edit) → edit_list list ≡ listed es →
    Left n before list (edits_from 0 es (state_of before work t)) work t 0 0
left-all n before list work t G low es e =
    let w = list-whole list es e in
    record { ahead = record { edits = es; reads = w.reads }; few = omega (arith, w.few); good = G; low = low; goes = refl }

-- ---- the next edit

module _ {n : ℕ} {before list : List ℕ} {all : Outcome} {work : List ℕ} {t : Tree} {at i : ℕ} (L : Left n before list all work t at i) where
  abbrev st : State
  st = state_of before work t

  pub left_end : length list ≤ at → finished (state_of before work t) ≡ all
  unfolding edits_from_in
  left_end h = sym (ap (λ (es : List Edit). edits_from i es st) (head-none L.ahead h)) ∙ L.goes

  module _ (more : at < length list) where
    abbrev H : Head (drop at list) L.ahead.edits
    H = head L.ahead more

    pub one_more : i + 1 ≤ edits_most
    one_more = omega (arith, L.few, ap (λ (es : List Edit). length es) H.shape)

    -- by what the code reads of it: the length m and the key
    module _ (m : ℕ) (long : m ≡ get_or list (at + 1) 0) (k : ℕ) (key : k ≡ number (part list (at + 2) 8)) where
      abbrev e : Edit
      e = edit_of (get_or list at 0) k (take (at + 10 + m - (at + 10)) (drop (at + 10) list))

      pub left-proper : Proper (edit_of (get_or list at 0) k (take (at + 10 + m - (at + 10)) (drop (at + 10) list)))
      left-proper = subst Proper (sym (head-is L.ahead more m long k key)) (head-proper L.ahead more)

      -- the edit e, and then the rest
      onward-is : onward (edited e st) i (λ (s : State). edits_from (suc i) H.rest s) ≡ all
      unfolding edits_from_in
      onward-is =
          ap (λ (x : Edit). onward (edited x st) i (λ (s : State). edits_from (suc i) H.rest s)) (head-is L.ahead more m long k key)
          ∙ sym (ap (λ (es : List Edit). edits_from i es st) H.shape)
          ∙ L.goes

      pub left-stop : (c : ℕ) → refused c ≡ edited (edit_of (get_or list at 0) k (take (at + 10 + m - (at + 10)) (drop (at + 10) list))) (state_of before work t) → stopped c i ≡ all
      unfolding onward
      left-stop c q = ap (λ (x : Step). onward x i (λ (s : State). edits_from (suc i) H.rest s)) q ∙ onward-is

      left-made : (u : State) → done u ≡ edited e st → Made format1 no_keep n st.free e st u
      left-made u q =
          let g = key_rule e (table_at format1 st) in
          ended-made (Made format1 no_keep n st.free e st) g u
          (subst (Ended g (Made format1 no_keep n st.free e st)) (sym q) (edited-ended format1 format1-rules no_keep n st.free st L.good (λ x. omega arith) e left-proper))

      pub left-next : (w : List ℕ) (u : Tree) → done (state_of before w u) ≡ edited (edit_of (get_or list at 0) k (take (at + 10 + m - (at + 10)) (drop (at + 10) list))) (state_of before work t) →
          u.top ≤ 64 → Left n before list all w u (at + 10 + m) (i + 1)
      unfolding onward
      left-next w u q low =
          let M : Made format1 no_keep n st.free e st (state_of before w u) = left-made (state_of before w u) q in
          record {
            ahead = head-rest L.ahead more m long;
            few = omega (arith, L.few, ap (λ (es : List Edit). length es) H.shape);
            good = M.good;
            low = low;
            goes =
                ap (λ (x : ℕ). edits_from x H.rest (state_of before w u)) (add-one i)
                ∙ ap (λ (x : Step). onward x i (λ (s : State). edits_from (suc i) H.rest s)) q
                ∙ onward-is;
          }
