-- Leaves put into the pages from `first` on, with their separators: what is left to be put, put over what is there, is the whole.
-- Assumes nothing.
use Prim.Native.Nat.{ℕ, suc, ◌+◌, ◌*◌, ◌≤◌, ◌<◌, min}
use mathlib.Core.Path.{◌≡◌, refl, sym, ap, subst, ◌∙◌}
use mathlib.Core.Logic.{◌⊎◌, inl, inr}
use mathlib.Core.Bool.{true}
use mathlib.Core.List.{List, [], ◌∷◌, ◌++◌, map, append_assoc, append-nil}
use native.Mathlib.Omega.{arith}
use native.Mathlib.Numerals.{add-one}
use lib.ListN.{length, take, set, length-set, drop_of_length-le}
use lib.Seq.{take-suc-set, take_all}
use Rattle.codec.specs.Lists.{All}
use Rattle.page.specs.Layout.{page_size, leaf_kind, top_key, Rec}
use Rattle.page.specs.Page.{RecOk}
use Rattle.page.specs.Operations.{fill, page_of, put_page}
use Rattle.page.proofs.Images.{put-length}
use Rattle.image.specs.Image.{first_key}
use Rattle.image.specs.Table.{table}
use Rattle.image.specs.Fresh.{separators, put_filled}
use Rattle.merge.specs.Tables.{merged, apart}
use Rattle.merge.specs.Leaves.{packed, leaves_of}
use Rattle.merge.specs.Cursors.{Ready, left_of, apart_at, onward, LeafFilled}
use Rattle.merge.specs.declared.Cursors.{Cursors}
use Rattle.merge.proofs.Packing.{Starts, packed-starts, packed-first}
use Rattle.merge.proofs.Stepping.{left-ok}
use Rattle.merge.proofs.Coming.{next-key}

-- ---- separators

abbrev first_keys : List (List Rec) → List ℕ
first_keys ls = map (λ (m : List Rec). first_key m 0) ls

-- the separators of leaves of which the first has the separator sep
abbrev pub seps_from : ℕ → List (List Rec) → List ℕ
seps_from sep [] = []
seps_from sep (l ∷ ls) = sep ∷ first_keys ls

seps-all : (ls : List (List Rec)) → seps_from 0 ls ≡ separators ls
unfolding separators
seps-all [] = refl
seps-all (l ∷ ls) = refl

starts-keys : (r : Rec) (ls : List (List Rec)) → Starts r ls → first_keys ls ≡ seps_from r.key ls
starts-keys r [] s = absurd s
starts-keys r ([] ∷ ls) s = absurd s
starts-keys r ((x ∷ m) ∷ ls) s = ap (λ (y : Rec). y.key ∷ first_keys ls) s

-- the leaf that comes next starts with the record that comes next
onward-keys : (rs : List Rec) (hi : ℕ) → All RecOk rs → first_keys (onward rs) ≡ seps_from (first_key rs hi) (onward rs)
unfolding onward
onward-keys [] hi ok = refl
onward-keys (r ∷ rs) hi ok =
    subst (λ (ls : List (List Rec)). first_keys ls ≡ seps_from r.key ls) (sym (packed-starts r rs ok.0)) (starts-keys r (packed (r ∷ []) rs) (packed-first r [] rs))

onward-is : (rs : List Rec) → (onward rs ≡ packed [] rs) ⊎ (onward rs ≡ [])
unfolding onward
onward-is [] = inr refl
onward-is (r ∷ rs) = inl refl

-- ---- the leaves

abbrev pub all_leaves : List ℕ → List ℕ → List (List Rec)
all_leaves a b = leaves_of (merged (table a) (table b))

-- i leaves are put, and the leaves ls are left, from the place `at` on; `sep` is the separator of the next
pub record Putting (a b out₀ out seps : List ℕ) (first : ℕ) (at : Cursors) (sep i : ℕ) : Type 0 where
  pub ready : Ready a b at
  pub still : apart_at a b at ≡ true
  pub ls : List (List Rec)
  pub come : (ls ≡ packed [] (left_of a b at)) ⊎ (ls ≡ [])
  pub count : i + length ls ≡ length seps
  pub long : length out ≡ length out₀
  pub whole : put_filled leaf_kind out (i + first) ls ≡ put_filled leaf_kind out₀ first (leaves_of (merged (table a) (table b)))
  pub names : take i seps ++ seps_from sep ls ≡ separators (leaves_of (merged (table a) (table b)))

pub put-starts : {a b out seps : List ℕ} (first : ℕ) {at : Cursors} → (apart (table a) (table b) ≡ true) × (length seps ≡ length (leaves_of (merged (table a) (table b)))) →
    Ready a b at × (left_of a b at ≡ merged (table a) (table b)) × (apart_at a b at ≡ apart (table a) (table b)) → Putting a b out out seps first at 0 0
unfolding leaves_of
put-starts {a = a} {b = b} {out = out} first h k =
    let z : 0 + first ≡ first = omega arith in
    record {
      ready = k.0;
      still = k.2 ∙ h.0;
      ls = all_leaves a b;
      come = inl (ap (packed []) (sym k.1));
      count = omega (arith, h.1);
      long = refl;
      whole = ap (λ (n : ℕ). put_filled leaf_kind out n (all_leaves a b)) z;
      names = seps-all (all_leaves a b);
    }

module _ {a b out₀ out seps : List ℕ} {first : ℕ} {at : Cursors} {sep i : ℕ} (k : Putting a b out₀ out seps first at sep i) where
  -- one leaf more
  module _ (less : i < length seps) (fits : page_size * (i + first) + page_size ≤ length out) {to : Cursors} {p q : List ℕ} (same : p ≡ page_of out (i + first)) (f : LeafFilled a b (i + first) at p to q) where
    leaves-left : k.ls ≡ f.leaf ∷ onward (left_of a b to)
    leaves-left = go k.come
      where
        go : (k.ls ≡ packed [] (left_of a b at)) ⊎ (k.ls ≡ []) → k.ls ≡ f.leaf ∷ onward (left_of a b to)
        go (inl e) = e ∙ f.split
        go (inr e) = absurd (omega (arith, less, k.count, ap length e))

    pub put_next : (out' : List ℕ) (sep' : ℕ) → out' ≡ put_page out (i + first) q → length q ≡ page_size → sep' ≡ min to.first.key to.second.key →
        Putting a b out₀ out' (set seps i sep) first to sep' (i + 1)
    unfolding put_filled
    put_next out' sep' e l m =
        let rest = onward (left_of a b to) in
        let put : out' ≡ put_page out (i + first) (fill (page_of out (i + first)) leaf_kind (i + first) f.leaf) =
        e ∙ ap (put_page out (i + first)) (f.is_page ∙ ap (λ (x : List ℕ). fill x leaf_kind (i + first) f.leaf) same) in
        let on : i + 1 + first ≡ suc (i + first) = omega arith in
        let named : first_keys rest ≡ seps_from sep' rest =
        onward-keys (left_of a b to) (suc top_key) (left-ok f.ready) ∙ ap (λ (n : ℕ). seps_from n rest) (sym (m ∙ next-key f.ready f.still)) in
        record {
          ready = f.ready;
          still = f.still;
          ls = rest;
          come = onward-is (left_of a b to);
          count = omega (arith, k.count, ap length leaves-left, length-set seps i sep);
          long = ap length e ∙ put-length out q (i + first) l fits ∙ k.long;
          whole =
              ap (λ (n : ℕ). put_filled leaf_kind out' n rest) on
              ∙ ap (λ (x : List ℕ). put_filled leaf_kind x (suc (i + first)) rest) put
              ∙ sym (ap (put_filled leaf_kind out (i + first)) leaves-left)
              ∙ k.whole;
          names =
              ap (λ (n : ℕ). take n (set seps i sep) ++ seps_from sep' rest) (add-one i)
              ∙ ap (λ (x : List ℕ). x ++ seps_from sep' rest) (take-suc-set seps i sep less)
              ∙ append_assoc (take i seps) (sep ∷ []) (seps_from sep' rest)
              ∙ ap (λ (x : List ℕ). take i seps ++ (sep ∷ x)) (sym named)
              ∙ sym (ap (λ (x : List (List Rec)). take i seps ++ seps_from sep x) leaves-left)
              ∙ k.names;
        }

  -- all are put
  pub put-ends : length seps ≤ i → (out ≡ put_filled leaf_kind out₀ first (leaves_of (merged (table a) (table b)))) × (seps ≡ separators (leaves_of (merged (table a) (table b))))
  unfolding put_filled
  put-ends h =
      let none : k.ls ≡ [] = drop_of_length-le k.ls {i = 0} (omega (arith, h, k.count)) in (
        sym (ap (put_filled leaf_kind out (i + first)) none) ∙ k.whole,
        sym (take_all i seps h) ∙ sym (append-nil (take i seps)) ∙ sym (ap (λ (x : List (List Rec)). take i seps ++ seps_from sep x) none) ∙ k.names,
      )
