-- A leaf that is being filled with the records of two books: one record more, until it takes none.
-- Assumes nothing.
use Prim.Native.Nat.{ℕ, ◌+◌, ◌-◌, ◌≤◌, ◌<◌}
use mathlib.Core.Path.{◌≡◌, refl, sym, ap, subst, ◌∙◌}
use mathlib.Core.Bool.{true, false, true≢false}
use mathlib.Core.List.{List, [], ◌∷◌, ◌++◌}
use native.Mathlib.Omega.{arith}
use lib.ListN.{length, take, drop}
use Rattle.codec.specs.Lists.{All}
use Rattle.page.specs.Layout.{page_size, line_size, leaf_kind, Rec, size, unused_head, header_of, head_of, raw_bytes}
use Rattle.page.specs.Page.{RecOk}
use Rattle.page.specs.Operations.{sizes, OnePage, fill_head, fill_bytes}
use Rattle.page.specs.declared.header.Header.{Header}
use Rattle.page_edit.specs.Filling.{Room, Filled}
use Rattle.page_edit.proofs.Filled.{filled-clean, filled-start, filled-count, filled_more, room-unused, filled-page}
use Rattle.merge.specs.Leaves.{packed}
use Rattle.merge.specs.Cursors.{Ready, left_of, apart_at, Passed, takes_next, onward, LeafFilled}
use Rattle.merge.specs.declared.Cursors.{Cursors}
use Rattle.merge.proofs.Stepping.{left-ok, none-taken, first_taken}
use Rattle.merge.proofs.Coming.{next_of, next-is, passed_is}
use Rattle.merge.proofs.Counting.{takes_one, closes-two}
use Rattle.merge.proofs.Packing.{length_last, sizes-last, packed-end, packed-takes, packed-starts}

-- from the place `from`, the page p₀ and its unused header h₀, up to the place `at`: h and p are what is there now
pub record InLeaf (a b : List ℕ) (own : ℕ) (from : Cursors) (h₀ : Header) (p₀ : List ℕ) (at : Cursors) (h : Header) (p : List ℕ) : Type 0 where
  pub ready : Ready a b at
  pub still : apart_at a b at ≡ true
  pub unused : h₀ ≡ header_of (unused_head leaf_kind own)
  pub long : length p ≡ page_size
  pub leaf : List Rec
  pub one : OnePage leaf
  pub filled : Filled h₀ p₀ leaf h p
  pub split : packed leaf (left_of a b at) ≡ packed [] (left_of a b from)

pub leaf-starts : {a b : List ℕ} {own : ℕ} {from : Cursors} {h : Header} {p : List ℕ} → (length p ≡ page_size) × Ready a b from × (apart_at a b from ≡ true) →
    h ≡ header_of (unused_head leaf_kind own) → InLeaf a b own from h p from h p
unfolding sizes fill_head fill_bytes
leaf-starts {own = own} {h = h} k e =
    record {
      ready = k.1;
      still = k.2;
      unused = e;
      long = k.0;
      leaf = [];
      one = record { few = omega arith; small = omega arith };
      filled = record { head = (room-unused leaf_kind own h [] e (omega arith) (omega arith)).clean; bytes = refl };
      split = refl;
    }

unused-is : (own : ℕ) (h : Header) → h ≡ header_of (unused_head leaf_kind own) → (h ≡ header_of (head_of h)) × (h.count ≡ 0) × (h.start ≡ page_size)
unfolding header_of unused_head sizes
unused-is own h e =
    ((room-unused leaf_kind own h [] e (omega arith) (omega arith)).clean, ap (λ (x : Header). x.count) e, ap (λ (x : Header). x.start) e)

module _ {a b : List ℕ} {own : ℕ} {from : Cursors} {h₀ : Header} {p₀ : List ℕ} {at : Cursors} {h : Header} {p : List ℕ} (k : InLeaf a b own from h₀ p₀ at h p) where
  leaf-count : h.count ≡ length k.leaf
  leaf-count = let u = unused-is own h₀ k.unused in omega (arith, filled-count k.filled u.0, u.1)

  leaf-start : h.start + sizes k.leaf ≡ page_size
  leaf-start = omega (arith, filled-start k.filled, (unused-is own h₀ k.unused).2, k.one.small)

  leaf-sum : page_size - h.start ≡ sizes k.leaf
  leaf-sum = omega (arith, leaf-start)

  pub leaf-high : (h.start ≤ page_size) × (page_size - h.start < page_size)
  leaf-high = (omega (arith, leaf-start), omega (arith, leaf-start, k.one.small))

  -- it takes the record that comes next
  module _ (t : takes_next h.count (page_size - h.start) (left_of a b at) ≡ true) where
    pub takes-differ : at.first.key ≡ at.second.key → ⊥
    takes-differ e = true≢false (sym t ∙ none-taken k.ready h.count (page_size - h.start) e k.still)

    abbrev r : Rec
    r = next_of a b at

    taken-one : OnePage (k.leaf ++ (r ∷ []))
    taken-one = takes_one k.leaf r h.count (page_size - h.start) (size r) leaf-count leaf-sum refl (sym (first_taken k.ready h.count (page_size - h.start) takes-differ) ∙ t)

    first-is : take 1 (left_of a b at) ≡ r ∷ []
    first-is = ap (take 1) (next-is k.ready takes-differ)

    pub leaf_room : Room h (take 1 (left_of a b at))
    unfolding sizes
    leaf_room =
        subst (Room h) (sym first-is)
        (record {
          clean = filled-clean k.filled;
          few = omega (arith, leaf-count, taken-one.few, length_last k.leaf r);
          high = leaf-high.0;
          room = omega (arith, leaf-start, taken-one.small, sizes-last k.leaf r);
        })

    pub leaf-next : {to : Cursors} → Passed a b at to → {h' : Header} {p' : List ℕ} → length p' ≡ length p → Filled h p (take 1 (left_of a b at)) h' p' → InLeaf a b own from h₀ p₀ to h' p'
    leaf-next {to} q {h'} {p'} e f =
        record {
          ready = q.ready;
          still = q.still ∙ k.still;
          unused = k.unused;
          long = e ∙ k.long;
          leaf = k.leaf ++ (r ∷ []);
          one = taken-one;
          filled = filled_more k.filled (r ∷ []) h' p' (subst (λ (l : List Rec). Filled h p l h' p') first-is f);
          split =
              sym (ap (packed k.leaf) (passed_is k.ready takes-differ q) ∙ packed-takes k.leaf r (left_of a b to) taken-one) ∙ k.split;
        }

  -- it does not: it is filled
  pub leaf-ends : {q : List ℕ} → takes_next h.count (page_size - h.start) (left_of a b at) ≡ false → q ≡ raw_bytes h ++ drop line_size p → LeafFilled a b own from p₀ at q
  unfolding onward takes_next
  leaf-ends t e =
      record {
        ready = k.ready;
        still = k.still;
        leaf = k.leaf;
        is_page = e ∙ filled-page leaf_kind own h₀ h p₀ p k.leaf k.unused k.filled;
        split = sym k.split ∙ closes (left_of a b at) (left-ok k.ready) t;
      }
    where
      closes : (rs : List Rec) → All RecOk rs → takes_next h.count (page_size - h.start) rs ≡ false → packed k.leaf rs ≡ k.leaf ∷ onward rs
      closes [] ok f = packed-end k.leaf
      closes (x ∷ rs) ok f =
          closes-two k.leaf x rs h.count (page_size - h.start) (size x) leaf-count leaf-sum refl f
          ∙ ap (λ (ls : List (List Rec)). k.leaf ∷ ls) (sym (packed-starts x rs ok.0))
