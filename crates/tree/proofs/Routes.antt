-- One page down: of the pages that a page names, the one that the key of an edit belongs to. The pages beside it say nothing of that key.
-- Assumes nothing.
use Rattle.std.specs.Prelude.{None, Some}
use Prim.Native.Nat.{ℕ, suc, ◌≤◌, ◌<◌}
use mathlib.Core.Path.{◌≡◌, refl, sym, ap, ◌∙◌, subst}
use mathlib.Core.List.{List, [], ◌∷◌, ◌++◌}
use native.Mathlib.Omega.{arith}
use lib.ListN.{drop, get_or, length, take}
use lib.Seq.{length-take-le, split_at}
use Rattle.page.specs.Layout.{Rec, rec_of}
use Rattle.page.specs.PageFormat.{PageFormat}
use Rattle.image.specs.Facts.{Rising, Spans, Under}
use Rattle.image.specs.Image.{child_of, first_key, gathered, joined, records_at, start_of}
use Rattle.image.specs.Route.{route}
use Rattle.image.specs.Says.{Belongs}
use Rattle.image.specs.Table.{find, table_in}
use Rattle.image.proofs.Alike.{under-rising}
use Rattle.image.proofs.Belonging.{belongs-to}
use Rattle.image.proofs.Ranges.{joined-append, spans-cut}
use Rattle.image.proofs.Rising.{Below, From}
use Rattle.image.proofs.Routing.{Routed, find-seek, pages-after, pages-before, routed, seek-middle}
use Rattle.edit.specs.EditList.{Edit, key_of}
use Rattle.edit.specs.Keys.{holds, key_rule}
use Rattle.edit.specs.Ledger.{apply_edit}
use Rattle.edit.specs.EditList as edits
use Rattle.edit.proofs.Ledger.{above-lacks, apply-middle, below-lacks}
use Rattle.tree.specs.Edits.{low_of}
use Rattle.tree.specs.Grounds.{next_page, next_slot}

-- ---- a key in the middle one of three lists

find-middle : (k : ℕ) (a b d : List Rec) → Below a k → From (suc k) d → find k (a ++ (b ++ d)) ≡ find k b
find-middle k a b d low high =
    find-seek k (a ++ (b ++ d))
    ∙ seek-middle (λ (r : Rec). r.key) (λ (r : Rec). Some r.value) None k a b d (below-lacks k a low) (above-lacks k d high)
    ∙ sym (find-seek k b)

rule-middle : (e : Edit) (a b d : List Rec) → Below a (key_of e) → From (suc (key_of e)) d → key_rule e (a ++ (b ++ d)) ≡ key_rule e b
unfolding key_rule holds
rule-middle (edits.insert k v) a b d low high = rw (find-middle k a b d low high)
rule-middle (edits.update k v) a b d low high = rw (find-middle k a b d low high)
rule-middle (edits.delete k) a b d low high = rw (find-middle k a b d low high)

-- ---- where the routed page starts and ends

abbrev pub no_rec : Rec
no_rec = rec_of 0 []

low-start : (pre : List Rec) (lo sep : ℕ) → low_of (length pre) lo sep ≡ start_of pre lo sep
unfolding low_of
low-start [] lo sep = refl
low-start (p ∷ pre) lo sep = refl

start-low : (ps : List Rec) (lo sep k : ℕ) → lo ≤ k → start_of ps 0 sep ≤ k → start_of ps lo sep ≤ k
start-low [] lo sep k a b = a
start-low (p ∷ ps) lo sep k a b = b

first-high : (cs : List Rec) (hi k : ℕ) → k < hi → k < first_key cs (suc k) → k < first_key cs hi
first-high [] hi k a b = a
first-high (c ∷ cs) hi k a b = b

-- ---- one page down

module _ (Pg : PageFormat) where
  -- page q of height h + 1, whose range is lo to hi: the record of the page that the key of e belongs to, and those before and after it
  pub record Down (img : List ℕ) (h lo hi q : ℕ) (e : Edit) : Type 0 where
    pub pre : List Rec
    pub here : Rec
    pub post : List Rec
    pub shape : records_at Pg img q ≡ pre ++ here ∷ post
    pub slot : next_slot Pg (key_of e) img q ≡ length pre
    pub next : next_page Pg (key_of e) img q ≡ child_of here
    pub is : get_or (records_at Pg img q) (length pre) no_rec ≡ here
    pub start : low_of (length pre) lo here.key ≡ start_of pre lo here.key
    pub low : start_of pre lo here.key ≤ key_of e
    pub high : key_of e < first_key post hi
    pub under : Under Pg img h (start_of pre lo here.key) (first_key post hi) (child_of here)
    -- the tables of the other pages say nothing of the key
    pub rule : key_rule e (table_in Pg img (suc h) q) ≡ key_rule e (table_in Pg img h (child_of here))
    pub makes : apply_edit e (table_in Pg img (suc h) q)
        ≡ joined (λ x. table_in Pg img h x) pre ++ (apply_edit e (table_in Pg img h (child_of here)) ++ joined (λ x. table_in Pg img h x) post)

  pub down : (img : List ℕ) (h lo hi q : ℕ) → Under Pg img (suc h) lo hi q → (e : Edit) → lo ≤ key_of e → key_of e < hi → Down img h lo hi q e
  unfolding next_slot next_page table_in gathered
  down img h lo hi q u e low high =
      let k = key_of e in
      let cs = records_at Pg img q in
      let R : Routed k cs no_rec = routed k lo cs hi no_rec u.0.rising u.1.0 in
      let i = route k cs in
      let c = get_or cs i no_rec in
      let pre = take i cs in
      let post = drop (suc i) cs in
      let f : ℕ → List Rec = λ x. table_in Pg img h x in
      let P : ℕ → ℕ → ℕ → Type 0 = λ a b x. Under Pg img h a b x in
      let rises : (a b x : ℕ) → P a b x → Rising a (f x) b = λ a b x v. under-rising Pg img h a b x v in
      let shape : cs ≡ pre ++ c ∷ post = split_at cs i no_rec R.inside in
      let slot : i ≡ length pre = sym (length-take-le i cs (omega (arith, R.inside))) in
      let seps : Rising lo (pre ++ c ∷ post) hi = subst (λ (l : List Rec). Rising lo l hi) shape u.0.rising in
      let spans : Spans P lo (pre ++ c ∷ post) hi = subst (λ (l : List Rec). Spans P lo l hi) shape u.1.1 in
      let below : Below (joined f pre) k = pages-before P f rises lo pre c post hi seps spans k (start-low pre lo c.key k low R.low) in
      let above : From (suc k) (joined f post) = pages-after P f rises lo pre c post hi seps spans k R.high in
      let table : joined f cs ≡ joined f pre ++ (f (child_of c) ++ joined f post) = ap (joined f) shape ∙ joined-append f pre (c ∷ post) in
      record {
        pre = pre;
        here = c;
        post = post;
        shape = shape;
        slot = slot;
        next = refl;
        is = ap (λ (j : ℕ). get_or cs j no_rec) (sym slot);
        start = low-start pre lo c.key;
        low = start-low pre lo c.key k low R.low;
        high = first-high post hi k high R.high;
        under = (spans-cut P lo pre (c ∷ post) hi spans).1.0;
        rule = ap (key_rule e) table ∙ rule-middle e (joined f pre) (f (child_of c)) (joined f post) below above;
        makes = ap (apply_edit e) table ∙ apply-middle e (joined f pre) (f (child_of c)) (joined f post) below above;
      }

  -- the same of any number k: the page that it belongs to lies within its range, between those before and after it
  module _ (k : ℕ) (img : List ℕ) (h lo hi q : ℕ) (u : Under Pg img (suc h) lo hi q) where
    abbrev pub belongs : Belongs k (records_at Pg img q)
    belongs = belongs-to k lo (records_at Pg img q) hi u.0.rising u.1.0

    pub belongs-spans : let b = belongs-to k lo (records_at Pg img q) hi u.0.rising u.1.0 in
        Spans (λ x y z. Under Pg img h x y z) lo b.before b.own.key × Spans (λ x y z. Under Pg img h x y z) (start_of b.before lo b.own.key) (b.own ∷ b.later) hi
    belongs-spans =
        let P : ℕ → ℕ → ℕ → Type 0 = λ x y z. Under Pg img h x y z in
        spans-cut P lo belongs.before (belongs.own ∷ belongs.later) hi (subst (λ (l : List Rec). Spans P lo l hi) belongs.shape u.1.1)
