-- What merge answers: each refusal where its ground is the first that holds, and acceptance where none does.
-- Assumes nothing.
use Rattle.std.specs.Prelude.{Err, Ok}
use Prim.Native.Nat.{ℕ, suc, ◌+◌, ◌-◌, ◌≤◌, ◌<◌}
use mathlib.Core.Path.{◌≡◌, refl, sym, ap, ◌∙◌, subst}
use mathlib.Core.Bool.{Bool, true, false, true≢false}
use mathlib.Core.List.{List}
use native.Mathlib.Omega.{arith}
use native.Mathlib.Decide.{dec_lt}
use lib.ListN.{length}
use borrow.Author.Tests.{le-leb, lt-leb}
use Rattle.codec.specs.Lists.{pick, All}
use Rattle.device.specs.Calls.{number_of, is_image_size, Ran, accepted, refused, refusal, refusal_at, unless, Answer}
use Rattle.page.specs.Layout.{Rec}
use Rattle.page.specs.Page.{RecOk}
use Rattle.image.specs.PageZero.{page_count, page_zero}
use Rattle.image.specs.declared.PageZero.{PageZero}
use Rattle.image.specs.declared.PageZero.TheVariants.{Wrong, Waiting, Ready}
use Rattle.image.specs.Image.{tree_ok, sound}
use Rattle.image.specs.Table.{table}
use Rattle.image.specs.Fresh.{index_count, pages_above, Storable, stored}
use Rattle.image.specs.Calls.{root_from, root_call, check_from, check_call}
use Rattle.image.proofs.Answers.{check_sound}
use Rattle.image.proofs.Order.{table-rising, table-ok}
use Rattle.merge.specs.Tables.{merged, apart, Joins}
use Rattle.merge.specs.Leaves.{leaves_of}
use Rattle.merge.specs.Calls.{store_leaves, merge_tables, if_checked, merge_call}
use Rattle.merge.specs.Says.{Begun, Filling, MergeSays, bad-buffer, bad-first, bad-second, in_both, no_index, no-pages, merges}
use Rattle.merge.proofs.Tables.{All-merged}
use Rattle.merge.proofs.Joined as joined
use Rattle.merge.proofs.Packing.{packed-is, is-packed, packed-storable}
use Rattle.merge.proofs.Bounds.{leaves-few, indexes-few, indexes-fit, indexes-pass, above-is, above-only, above-some}

-- ---- the tables of two books that are sound

module _ (a b : List ℕ) (one : sound a ≡ true) (two : sound b ≡ true) where
  pub both_ok : All RecOk (merged (table a) (table b))
  both_ok = All-merged RecOk (table a) (table b) (table-ok a one) (table-ok b two)

  both-joins : apart (table a) (table b) ≡ true → Joins (table a) (table b) (merged (table a) (table b))
  both-joins h = joined.merged-joins (table a) (table b) (table-rising a one) (table-rising b two) h

  -- a store can be made of their leaves
  pub both-storable : apart (table a) (table b) ≡ true → Storable (leaves_of (merged (table a) (table b)))
  both-storable h = packed-storable (merged (table a) (table b)) both_ok (both-joins h).rising (indexes-few a b one two both_ok)

-- ---- room for the leaves and the pages above them

module _ (ls : List (List Rec)) (out : List ℕ) where
  pub store_many : 28 < index_count (length ls) → store_leaves ls out ≡ refused 10 out
  unfolding store_leaves unless
  store_many many = rw lt-leb

  pub store-short : index_count (length ls) ≤ 28 → page_count out < suc (pages_above (length ls) + length ls) → store_leaves ls out ≡ refused 11 out
  unfolding store_leaves unless
  store-short few short = rw (le-leb, lt-leb)

  pub store-fits : index_count (length ls) ≤ 28 → suc (pages_above (length ls) + length ls) ≤ page_count out → store_leaves ls out ≡ accepted (stored (page_count out) ls)
  unfolding store_leaves unless
  store-fits few fit = rw (le-leb, le-leb)

module _ (a b out : List ℕ) where
  -- ---- what the answers speak of

  -- the leaves of the definition hold the records of both, and no others do
  pub fills : Begun a b out → apart (table a) (table b) ≡ true → Filling a b out (leaves_of (merged (table a) (table b)))
  fills B h =
      let one = check_sound a B.first in
      let two = check_sound b B.second in
      record {
        begun = B;
        none = λ i. true≢false (sym h ∙ joined.both-in (table a) (table b) i);
        both = merged (table a) (table b);
        joins = both-joins a b one two h;
        packed = packed-is (merged (table a) (table b)) (both_ok a b one two);
      }

  pub no_key : (ls : List (List Rec)) → Filling a b out ls → apart (table a) (table b) ≡ true
  no_key ls f = go (apart (table a) (table b)) refl
    where
      go : (t : Bool) → apart (table a) (table b) ≡ t → t ≡ true
      go true e = refl
      go false e = absurd (f.none (joined.in_both (table a) (table b) e))

  pub leaves-are : (ls : List (List Rec)) → Filling a b out ls → ls ≡ leaves_of (merged (table a) (table b))
  leaves-are ls f =
      let up = table-rising a (check_sound a f.begun.first) in
      let up' = table-rising b (check_sound b f.begun.second) in
      is-packed f.both ls f.packed ∙ ap leaves_of (joined.joins-merged (table a) (table b) up up' (no_key ls f) f.both f.joins)

  -- ---- the cases exclude each other: each is the call's result where it holds

  pub begun-call : Begun a b out → merge_call a b out ≡ merge_tables (table a) (table b) out
  unfolding merge_call unless if_checked
  begun-call B = rw (B.size, B.first, B.second)

  filled-call : (ls : List (List Rec)) → Filling a b out ls → merge_call a b out ≡ store_leaves ls out
  unfolding merge_tables unless
  filled-call ls f = begun-call f.begun ∙ rw (no_key ls f) (ap (λ (ms : List (List Rec)). store_leaves ms out) (sym (leaves-are ls f)))

  pub says-merge : (r : Ran) → MergeSays a b out r → merge_call a b out ≡ r
  unfolding merge_call merge_tables unless if_checked
  says-merge _ (bad-buffer e) = rw e
  says-merge _ (bad-first e r c) = rw (e, c)
  says-merge _ (bad-second e one r c) = rw (e, one, c)
  says-merge _ (in_both B i) = begun-call B ∙ rw (joined.both-in (table a) (table b) i)
  says-merge _ (no_index ls f many) = filled-call ls f ∙ store_many ls out (indexes-pass (length ls) many)
  says-merge _ (no-pages ls f few m above short) = filled-call ls f ∙ store-short ls out (indexes-fit (length ls) few) (omega (arith, short, above-only (length ls) m above))
  says-merge _ (merges ls f few m above fit) = filled-call ls f ∙ store-fits ls out (indexes-fit (length ls) few) (omega (arith, fit, above-only (length ls) m above, above-some (length ls) m above))

  -- ---- and one of them holds

  told : (r : Ran) → MergeSays a b out r → MergeSays a b out (merge_call a b out)
  told r s = subst (MergeSays a b out) (sym (says-merge r s)) s

  room_says : (ls : List (List Rec)) → Filling a b out ls → MergeSays a b out (merge_call a b out)
  room_says ls f = go (dec_lt 784 (length ls)) (dec_lt (page_count out - 1) (pages_above (length ls) + length ls))
    where
      go : Dec (784 < length ls) → Dec (page_count out - 1 < pages_above (length ls) + length ls) → MergeSays a b out (merge_call a b out)
      go (yes many) d = told _ (no_index ls f many)
      go (no h) (yes short) = told _ (no-pages ls f (omega arith) (pages_above (length ls)) (above-is (length ls)) short)
      go (no h) (no k) = told _ (merges ls f (omega arith) (pages_above (length ls)) (above-is (length ls)) (omega arith))

  begun-says : Begun a b out → (t : Bool) → apart (table a) (table b) ≡ t → MergeSays a b out (merge_call a b out)
  begun-says B true e = room_says (leaves_of (merged (table a) (table b))) (fills B e)
  begun-says B false e = told _ (in_both B (joined.in_both (table a) (table b) e))

  pub merge-says : MergeSays a b out (merge_call a b out)
  merge-says = go (is_image_size (length out)) refl (check_call a) refl (check_call b) refl
    where
      go : (s : Bool) → is_image_size (length out) ≡ s → (c : Answer) → check_call a ≡ c → (d : Answer) → check_call b ≡ d → MergeSays a b out (merge_call a b out)
      go false size c one d two = told _ (bad-buffer size)
      go true size (Err r) one d two = told _ (bad-first size r one)
      go true size (Ok done) one (Err r) two = told _ (bad-second size one r two)
      go true size (Ok done) one (Ok also) two = begun-says (record { size = size; first = one; second = two }) (apart (table a) (table b)) refl

  -- ---- "10 .. is shown never to occur"

  checks-few : (img : List ℕ) → number_of (check_call img) ≤ 4
  unfolding check_call root_call check_from root_from
  checks-few img = go (is_image_size (length img)) (page_zero img)
    where
      tree : (t : Bool) → number_of (pick {A = Answer} t (Ok tt) (Err (refusal 4))) ≤ 4
      tree true = omega arith
      tree false = omega arith

      go : (s : Bool) (z : PageZero) → number_of (check_from img (pick s (root_from z) (Err (refusal 1)))) ≤ 4
      go false z = omega arith
      go true Wrong = omega arith
      go true (Waiting k root) = omega arith
      go true (Ready root) = tree (tree_ok img root)

  pub merge-never-ten : (merge_call a b out).answer ≡ Err (refusal_at 10 0) → ⊥
  merge-never-ten e = go (merge_call a b out) merge-says (ap (λ (x : Answer). number_of x) e)
    where
      go : (r : Ran) → MergeSays a b out r → number_of r.answer ≡ 10 → ⊥
      go _ (bad-buffer _) n = omega (arith, n)
      go _ (bad-first _ r c) n = omega (arith, n, checks-few a, ap (λ (x : Answer). number_of x) c)
      go _ (bad-second _ _ r c) n = omega (arith, n, checks-few b, ap (λ (x : Answer). number_of x) c)
      go _ (in_both _ _) n = omega (arith, n)
      go _ (no_index ls f many) n =
          let one = check_sound a f.begun.first in
          let two = check_sound b f.begun.second in
          omega (arith, many, ap length (leaves-are ls f), leaves-few a b one two (both_ok a b one two))
      go _ (no-pages _ _ _ _ _ _) n = omega (arith, n)
      go _ (merges _ _ _ _ _ _) n = omega (arith, n)
