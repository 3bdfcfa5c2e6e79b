-- What an accepted merge leaves, what a refused one leaves, and that the third buffer counts by its length alone.
-- Assumes nothing.
use Rattle.std.specs.Prelude.{Err, Ok}
use Prim.Native.Nat.{ℕ, zero, suc, ◌+◌, ◌-◌, ◌*◌, ◌/◌, ◌≤◌, ◌<◌}
use mathlib.Core.Path.{◌≡◌, refl, sym, ap, ap₂, ◌∙◌, subst}
use mathlib.Core.Bool.{Bool, true, false}
use mathlib.Core.Logic.{◌⊎◌, inl, inr, ⊎_elim}
use mathlib.Core.List.{List, [], ◌∷◌, map, append-nil}
use native.Mathlib.Omega.{arith}
use lib.ListN.{length, drop, length-take, length-drop, length-map}
use lib.Dec.{eqb}
use borrow.Author.Tests.{le-leb, lt-leb}
use Rattle.device.specs.Calls.{is_image_size, Ran, accepted, unless, Answer}
use Rattle.device.specs.declared.Refusal.{Refusal}
use Rattle.device.proofs.Calls.{not-accepted}
use Rattle.codec.specs.Lists.{pick}
use Rattle.page.specs.Layout.{page_size, slot_count, index_kind, top_key, Rec}
use Rattle.image.specs.PageZero.{page_count}
use Rattle.page.specs.PageFormat.{format1}
use Rattle.image.specs.Image.{child_of, index_rec, children, names_of, leaves_in, height_of, first_key}
use Rattle.image.specs.Table.{table}
use Rattle.image.specs.Says.{Member}
use Rattle.image.specs.Fresh.{separators, named, numbered, index_count, pages_above, in_pages, index_over, index_pages, top_over, all_records, stored, Storable, fresh}
use Rattle.image.specs.Calls.{check_call}
use Rattle.image.proofs.Zero.{size-true}
use Rattle.image.proofs.Answers.{check_sound}
use Rattle.image.proofs.FilledPages.{length-separators, length-index, named-keys, named-pages}
use Rattle.image.proofs.Levels.{pages-records}
use Rattle.image.proofs.InPages.{count-high, count-low, index-all, length-index_pages}
use Rattle.image.proofs.Stored.{first_leaf, few-or-many, small, indexes-filled, stored-root, stored-length, stored-indexes, stored-children, stored-above, stored-height, stored-leaves, stored-table, stored-sound}
use Rattle.image.proofs.Zeros.{stored-zeros}
use Rattle.merge.specs.Tables.{merged, Joins}
use Rattle.merge.specs.Leaves.{leaves_of, Packed}
use Rattle.merge.specs.Calls.{store_leaves, merge_tables, if_checked, merge_call}
use Rattle.merge.specs.Says.{Filling, Above, MergeSays, bad-buffer, bad-first, bad-second, in_both, no_index, no-pages, merges, lists_on, leaf_lists, index_numbers, index_lists, To28, keys_of, Alone, UnderTop, Merges}
use Rattle.merge.proofs.Bounds.{above-is, above-only, above-some}
use Rattle.merge.proofs.Joined.{same-members}
use Rattle.merge.proofs.Packing.{packed-end, is-packed}
use Rattle.merge.proofs.Grounds.{both-storable, no_key, leaves-are, merge-says, says-merge}

-- an image is whole pages
whole-pages : (n : ℕ) → is_image_size n ≡ true → page_size * (n / page_size) ≡ n
whole-pages n h = let w = (size-true n h).whole in omega arith

-- ---- the store that is made

-- "filled to 28 each"
to-28 : (n : ℕ) (cs : List Rec) → slot_count * suc n < length cs + slot_count → To28 (in_pages (suc n) cs)
unfolding in_pages
to-28 zero cs h = omega (arith, length-take slot_count cs)
to-28 (suc n) cs h = (omega (arith, h, length-take slot_count cs), to-28 n (drop slot_count cs) (omega (arith, h, length-drop slot_count cs)))

-- the top's first separator is that of the first index page, which is 0
first-zero : (n k : ℕ) (l : List Rec) (ls : List (List Rec)) →
    let ips = in_pages (suc n) (named k (separators (l ∷ ls))) in map (λ (cs : List Rec). first_key cs 0) ips ≡ separators ips
unfolding in_pages named separators index_rec
first-zero n k l ls = refl

module _ (n : ℕ) (ls : List (List Rec)) (s : Storable ls) where
  abbrev img : List ℕ
  img = stored n ls

  -- the leaves that are read from a store are those that it was made of
  lists-leaves : leaf_lists img ≡ ls
  lists-leaves = ap (λ (r : ℕ). lists_on img (leaves_in format1 img (height_of img r) r)) (stored-root n ls) ∙ stored-leaves n ls s

  numbers-by : (h : ℕ) → height_of img 1 ≡ h → index_numbers img ≡ pick (eqb h 1) (1 ∷ []) (names_of img 1)
  numbers-by h e =
      ap (λ (r : ℕ). pick (eqb (height_of img r) 1) (r ∷ []) (names_of img r)) (stored-root n ls) ∙ ap (λ (j : ℕ). pick (eqb j 1) (1 ∷ []) (names_of img 1)) e

  module _ (few : length ls ≤ slot_count) where
    height-one : height_of img 1 ≡ 1
    height-one = stored-height n ls s ∙ ap (λ (t : Bool). pick t 1 2) (le-leb (length ls) slot_count few)

    lists-one : index_lists img ≡ index_over ls ∷ []
    unfolding children
    lists-one = ap (lists_on img) (numbers-by 1 height-one) ∙ ap (λ (cs : List Rec). cs ∷ []) (stored-children n ls s few)

  module _ (many : slot_count < length ls) where
    height-top : height_of img 1 ≡ 2
    height-top = stored-height n ls s ∙ ap (λ (t : Bool). pick t 1 2) (lt-leb (length ls) slot_count many)

    names-top : names_of img 1 ≡ numbered 2 (index_pages ls)
    unfolding top_over
    names-top =
        let firsts = map (λ (cs : List Rec). first_key cs 0) (index_pages ls) in
        ap (map child_of) (stored-above n ls s many)
        ∙ named-pages 2 firsts (index_pages ls) (length-map (index_pages ls) (λ (cs : List Rec). first_key cs 0)) (omega (arith, length-index_pages ls, s.few))

    lists-top : index_lists img ≡ index_pages ls
    lists-top =
        ap (lists_on img) (numbers-by 2 height-top ∙ names-top) ∙ pages-records img index_kind 2 (index_pages ls) (stored-indexes n ls s many) (indexes-filled ls s)

    seps-top : keys_of (children img 1) ≡ separators (index_pages ls)
    unfolding top_over index_pages index_over
    seps-top =
        ap keys_of (stored-above n ls s many) ∙ named-keys 2 (map (λ (cs : List Rec). first_key cs 0) (index_pages ls)) ∙ go (index_count (length ls)) ls (omega (arith, count-high (length ls))) s.some
      where
        go : (m : ℕ) (ms : List (List Rec)) → 1 ≤ m → 1 ≤ length ms → let ips = in_pages m (named (first_leaf ls) (separators ms)) in map (λ (cs : List Rec). first_key cs 0) ips ≡ separators ips
        go zero ms h k = absurd (omega (arith, h))
        go (suc m) [] h k = absurd (omega (arith, k))
        go (suc m) (l ∷ ms) h k = first-zero m (first_leaf ls) l ms

  shape-is : Alone img ⊎ UnderTop img
  shape-is = go (few-or-many (length ls))
    where
      go : (length ls ≤ slot_count) ⊎ (slot_count < length ls) → Alone img ⊎ UnderTop img
      go (inl few) = inl (record { height = height-one few; few = omega (arith, few, ap length lists-leaves) })
      go (inr many) =
          let e = lists-top many in
          inr (record {
            height = height-top many;
            many = omega (arith, many, ap length lists-leaves);
            pages = names-top many ∙ ap (numbered 2) (sym e);
            seps = seps-top many ∙ ap separators (sym e);
          })

  full-is : To28 (index_lists img)
  unfolding index_pages
  full-is = go (few-or-many (length ls))
    where
      top : (m : ℕ) → 1 ≤ m → slot_count * m < length (index_over ls) + slot_count → To28 (in_pages m (index_over ls))
      top zero h k = absurd (omega (arith, h))
      top (suc m) h k = to-28 m (index_over ls) k

      go : (length ls ≤ slot_count) ⊎ (slot_count < length ls) → To28 (index_lists img)
      go (inl few) = subst To28 (sym (lists-one few)) (omega (arith, few, length-index ls))
      go (inr many) =
          subst To28 (sym (lists-top many)) (top (index_count (length ls)) (omega (arith, many, count-high (length ls))) (omega (arith, length-index ls, count-low (length ls))))

  rows-are : all_records (index_lists img) ≡ index_over ls
  unfolding all_records
  rows-are = go (few-or-many (length ls))
    where
      go : (length ls ≤ slot_count) ⊎ (slot_count < length ls) → all_records (index_lists img) ≡ index_over ls
      go (inl few) = ap all_records (lists-one few) ∙ append-nil (index_over ls)
      go (inr many) = ap all_records (lists-top many) ∙ index-all ls

  names-are : map child_of (all_records (index_lists img)) ≡ numbered (first_leaf ls) ls
  unfolding index_over
  names-are = ap (map child_of) rows-are ∙ named-pages (first_leaf ls) (separators ls) ls (length-separators ls) (small ls s)

  seps-are : keys_of (all_records (index_lists img)) ≡ separators ls
  unfolding index_over
  seps-are = ap keys_of rows-are ∙ named-keys (first_leaf ls) (separators ls)

-- "With no records the result is a fresh store."
none-fresh : (n : ℕ) → stored n (leaves_of (merged [] [])) ≡ fresh n
unfolding leaves_of merged fresh
none-fresh n = ap (stored n) (packed-end [])

module _ (a b out : List ℕ) where
  filling-storable : (ls : List (List Rec)) → Filling a b out ls → Storable ls
  filling-storable ls f =
      subst Storable (sym (leaves-are a b out ls f)) (both-storable a b (check_sound a f.begun.first) (check_sound b f.begun.second) (no_key a b out ls f))

  made-merges : (ls : List (List Rec)) → Filling a b out ls → first_leaf ls + length ls ≤ page_count out → Merges a b out (stored (page_count out) ls)
  made-merges ls f fit =
      let n = page_count out in
      let s = filling-storable ls f in
      let whole = whole-pages (length out) f.begun.size in
      let read = lists-leaves n ls s in
      let holds : f.both ≡ table (stored n ls) = sym (stored-table n ls s ∙ f.packed.in_order) in
      record {
        size = stored-length n ls s fit ∙ whole;
        is_sound = stored-sound n ls (subst (λ (m : ℕ). is_image_size m ≡ true) (sym whole) f.begun.size) fit s;
        is_table = subst (Joins (table a) (table b)) holds f.joins;
        root = stored-root n ls;
        shape = shape-is n ls s;
        full = full-is n ls s;
        nodes = pages_above (length ls);
        above = subst (λ (k : ℕ). Above k (pages_above (length ls))) (sym (ap length read)) (above-is (length ls));
        pages = names-are n ls s ∙ ap (numbered (first_leaf ls)) (sym read);
        leaves = subst (λ (t : List Rec). Packed t (leaf_lists (stored n ls))) holds (subst (Packed f.both) (sym read) f.packed);
        seps = seps-are n ls s ∙ ap separators (sym read);
        zeros = stored-zeros n ls s fit;
        empty = λ p q. ap (stored n) (leaves-are a b out ls f ∙ ap₂ (λ (t u : List Rec). leaves_of (merged t u)) p q) ∙ none-fresh n;
      }

  -- the leaves of an accepted merge
  record Made (c : List ℕ) : Type 0 where
    ls : List (List Rec)
    fills : Filling a b out ls
    few : length ls ≤ 784
    nodes : ℕ
    above : Above (length ls) nodes
    fit : nodes + length ls ≤ page_count out - 1
    is : stored (page_count out) ls ≡ c

  accepted-made : (c : List ℕ) → merge_call a b out ≡ accepted c → Made c
  accepted-made c e = go (merge_call a b out) (merge-says a b out) (ap (λ (r : Ran). r.answer) e) (ap (λ (r : Ran). r.work) e)
    where
      go : (r : Ran) → MergeSays a b out r → r.answer ≡ Ok tt → r.work ≡ c → Made c
      go _ (bad-buffer _) e w = absurd (not-accepted _ e)
      go _ (bad-first _ _ _) e w = absurd (not-accepted _ e)
      go _ (bad-second _ _ _ _) e w = absurd (not-accepted _ e)
      go _ (in_both _ _) e w = absurd (not-accepted _ e)
      go _ (no_index _ _ _) e w = absurd (not-accepted _ e)
      go _ (no-pages _ _ _ _ _ _) e w = absurd (not-accepted _ e)
      go _ (merges ls f few m above fit) e w = record { ls = ls; fills = f; few = few; nodes = m; above = above; fit = fit; is = w }

  pub merge-leaves : (c : List ℕ) → merge_call a b out ≡ accepted c → Merges a b out c
  merge-leaves c e =
      let m = accepted-made c e in
      subst (Merges a b out) m.is (made-merges m.ls m.fills (omega (arith, m.fit, above-only (length m.ls) m.nodes m.above, above-some (length m.ls) m.nodes m.above)))

  -- which of two books is the first makes no difference to what is merged
  other_way : (ls : List (List Rec)) → Filling a b out ls → Filling b a out ls
  other_way ls f =
      record {
        begun = record { size = f.begun.size; first = f.begun.second; second = f.begun.first };
        none = λ i. f.none (record { one = i.other; other = i.one; in_first = i.in_second; in_second = i.in_first; same = sym i.same });
        both = f.both;
        joins =
            record {
              rising = f.joins.rising;
              every = λ r m. f.joins.every r (⊎_elim inr inl m);
              nothing-else = λ r m. ⊎_elim inr inl (f.joins.nothing-else r m);
            };
        packed = f.packed;
      }

  pub merge-either : (c : List ℕ) → merge_call a b out ≡ accepted c → merge_call b a out ≡ accepted c
  merge-either c e =
      let m = accepted-made c e in
      says-merge b a out _ (merges m.ls (other_way m.ls m.fills) m.few m.nodes m.above m.fit) ∙ ap accepted m.is

  -- "each leaving the third buffer unchanged"
  pub merge-refused : (r : Refusal) → (merge_call a b out).answer ≡ Err r → (merge_call a b out).work ≡ out
  merge-refused r e = go (merge_call a b out) (merge-says a b out) e
    where
      go : (x : Ran) → MergeSays a b out x → x.answer ≡ Err r → x.work ≡ out
      go _ (bad-buffer _) e = refl
      go _ (bad-first _ _ _) e = refl
      go _ (bad-second _ _ _ _) e = refl
      go _ (in_both _ _) e = refl
      go _ (no_index _ _ _) e = refl
      go _ (no-pages _ _ _ _ _ _) e = refl
      go _ (merges _ _ _ _ _ _) e = absurd (not-accepted _ (sym e))

-- what is merged depends on the records of both together, not on which book has which
pub merge-same : (a b a' b' out c c' : List ℕ) → merge_call a b out ≡ accepted c → merge_call a' b' out ≡ accepted c' →
    ((r : Rec) → Member r (table a) ⊎ Member r (table b) → Member r (table a') ⊎ Member r (table b')) →
    ((r : Rec) → Member r (table a') ⊎ Member r (table b') → Member r (table a) ⊎ Member r (table b)) → c ≡ c'
merge-same a b a' b' out c c' e e' to fro =
    let m = accepted-made a b out c e in
    let m' = accepted-made a' b' out c' e' in
    let j = m.fills.joins in
    let j' = m'.fills.joins in
    let one : m.fills.both ≡ m'.fills.both =
    same-members 1 1 m.fills.both m'.fills.both (suc top_key) j.rising j'.rising (λ r h. j'.every r (to r (j.nothing-else r h)))
    (λ r h. j.every r (fro r (j'.nothing-else r h))) in
    sym m.is
    ∙ ap (stored (page_count out)) (is-packed m.fills.both m.ls m.fills.packed ∙ ap leaves_of one ∙ sym (is-packed m'.fills.both m'.ls m'.fills.packed))
    ∙ m'.is

-- ---- the third buffer counts by its length alone

-- two results with the same answer, and the same buffer where it is accepted
abbrev Alike : Ran → Ran → Type 0
Alike r s = (s.answer ≡ r.answer) × (r.answer ≡ Ok tt → s.work ≡ r.work)

module _ (out out' : List ℕ) where
  unless-alike : (t : Bool) (k : ℕ) (r s : Ran) → Alike r s → Alike (unless t k out r) (unless t k out' s)
  unfolding unless
  unless-alike true k r s h = h
  unless-alike false k r s h = (refl, λ e. absurd (not-accepted _ e))

  checked-alike : (c : Answer) (r s : Ran) → Alike r s → Alike (if_checked c out r) (if_checked c out' s)
  unfolding if_checked
  checked-alike (Ok done) r s h = h
  checked-alike (Err k) r s h = (refl, λ e. absurd (not-accepted _ e))

  store-alike : length out' ≡ length out → (ls : List (List Rec)) → Alike (store_leaves ls out) (store_leaves ls out')
  unfolding store_leaves
  store-alike same ls = rw same (unless-alike _ _ _ _ (unless-alike _ _ _ _ (refl, λ e. refl)))

pub merge-any : (a b out out' : List ℕ) → length out' ≡ length out →
    ((merge_call a b out').answer ≡ (merge_call a b out).answer) × ((merge_call a b out).answer ≡ Ok tt → (merge_call a b out').work ≡ (merge_call a b out).work)
unfolding merge_call merge_tables
merge-any a b out out' same =
    let stores = store-alike out out' same (leaves_of (merged (table a) (table b))) in
    rw same (unless-alike out out' _ _ _ _ (checked-alike out out' (check_call a) _ _ (checked-alike out out' (check_call b) _ _ (unless-alike out out' _ _ _ _ stores))))
