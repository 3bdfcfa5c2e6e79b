-- The descent comes to the leaf that the key belongs to, with that leaf's range of keys. In a sound image that leaf alone answers a lookup.
-- Assumes nothing.
use Rattle.std.specs.Prelude.{None, Ok, Some}
use Prim.Native.Nat.{ℕ, zero, suc, ◌+◌, ◌≤◌, ◌<◌}
use mathlib.Core.Path.{◌≡◌, refl, sym, ap, ◌∙◌, subst}
use mathlib.Core.Logic.{◌⊎◌, inl, inr}
use mathlib.Core.Bool.{Bool, true, false}
use mathlib.Core.List.{List, [], ◌∷◌, ◌++◌, map}
use native.Mathlib.Omega.{arith}
use lib.ListN.{length, get_or, take, drop}
use lib.Seq.{split_at}
use lib.Dec.{leb}
use borrow.Author.Tests.{le-leb, lt-leb}
use Rattle.codec.specs.Lists.{pick, All}
use Rattle.codec.proofs.Tests.{All-map}
use Rattle.page.specs.Layout.{Rec, rec_of}
use Rattle.page.specs.Page.{Entry, records}
use Rattle.page.specs.PageFormat.{format1}
use Rattle.page.specs.Operations.{page_of}
use Rattle.image.specs.PageZero.{root_of}
use Rattle.image.specs.Image.{child_of, children, names_of, among, joined, gathered, height_of, first_key, start_of, places, top_place, sound}
use Rattle.image.specs.Facts.{Rising, Spans, Under}
use Rattle.image.specs.Table.{table_in, table, page_entries, listing, find, found_in}
use Rattle.image.specs.Route.{last_from, route}
use Rattle.image.specs.Descent.{down, descend, leaf_for}
use Rattle.image.specs.Says.{Belongs, own_place}
use Rattle.image.specs.declared.Place.{Place}
use Rattle.image.proofs.General.{map-append, map_same, All-any}
use Rattle.image.proofs.Apart.{among_first, among-right}
use Rattle.image.proofs.Rising.{From, rising_le, rising-from, rising-split}
use Rattle.image.proofs.Ranges.{first-least, first-most, spans-cut, joined-append, joined-map, joined_same}
use Rattle.image.proofs.Alike.{under-rising}
use Rattle.image.proofs.Soundness.{sound-tree_in}
use Rattle.image.proofs.Order.{recs-page, gathered-records}
use Rattle.image.proofs.Routing.{routed, seek, find-seek, found-seek, pages-before, pages-after, seek-between}

-- ---- the slot

-- separators above k do not count
pub above-all : (k d i : ℕ) (cs : List Rec) → From (suc k) cs → last_from k d i cs ≡ d
unfolding last_from
above-all k d i [] f = refl
above-all k d i (c ∷ cs) f = rw (lt-leb c.key k f.0) (above-all k d (suc i) cs f.1)

-- the last separator that is not above k stands behind those of `before`
last-at : (k d i : ℕ) (before : List Rec) (own : Rec) (later : List Rec) → own.key ≤ k → From (suc k) later → last_from k d i (before ++ own ∷ later) ≡ i + length before
unfolding last_from
last-at k d i [] own later low high = ap (λ (t : Bool). last_from k (pick t i d) (suc i) later) (le-leb own.key k low) ∙ above-all k i (suc i) later high ∙ omega arith
last-at k d i (c ∷ before) own later low high = last-at k (pick (leb c.key k) i d) (suc i) before own later low high ∙ omega arith

pub route-is : (k : ℕ) (cs : List Rec) (b : Belongs k cs) → route k cs ≡ length b.before
unfolding route last_from
route-is k cs b = ap (route k) b.shape ∙ go b.low
  where
    first : (own : Rec) (later : List Rec) (t : Bool) → From (suc k) later → last_from k (pick t 0 0) 1 later ≡ 0
    first own later true f = above-all k 0 1 later f
    first own later false f = above-all k 0 1 later f

    go : (b.before ≡ []) ⊎ (b.own.key ≤ k) → route k (b.before ++ b.own ∷ b.later) ≡ length b.before
    go (inl e) = rw e (first b.own b.later (leb b.own.key k) b.high)
    go (inr low) = last-at k 0 0 b.before b.own b.later low b.high ∙ omega arith

-- ---- its place

-- the range of the page that the index record c names, where those of all are from lo on and below hi
abbrev pub place_in : ℕ → List Rec → Rec → List Rec → ℕ → Place
place_in lo before c later hi = record { page = child_of c; from = start_of before lo c.key; below = first_key later hi }

pub place_at : (lo : ℕ) (before : List Rec) (c : Rec) (later : List Rec) (hi : ℕ) (z : Place) → get_or (places lo (before ++ c ∷ later) hi) (length before) z ≡ place_in lo before c later hi
unfolding places
place_at lo [] c later hi z = refl
place_at lo (b ∷ []) c later hi z = refl
place_at lo (b ∷ d ∷ before) c later hi z = place_at d.key (d ∷ before) c later hi z

-- one step down comes to the page that k belongs to, with its range
pub down_is : (img : List ℕ) (k : ℕ) (p : Place) (b : Belongs k (children img p.page)) → down img k p ≡ place_in p.from b.before b.own b.later p.below
unfolding down
down_is img k p b =
    let cs = children img p.page in
    ap (λ (i : ℕ). get_or (places p.from cs p.below) i p) (route-is k cs b)
    ∙ ap (λ (l : List Rec). get_or (places p.from l p.below) (length b.before) p) b.shape
    ∙ place_at p.from b.before b.own b.later p.below p

-- what is left of separators that rise, past those before a place
pub later-rising : (lo : ℕ) (before : List Rec) (c : Rec) (later : List Rec) (hi : ℕ) → Rising lo (before ++ c ∷ later) hi → Rising (suc c.key) later hi
later-rising lo before c later hi s = (rising-split lo before (c ∷ later) hi s).1.1

-- every number belongs to one of some records
abbrev pub belongs-to : (k lo : ℕ) (cs : List Rec) (hi : ℕ) → Rising lo cs hi → 1 ≤ length cs → Belongs k cs
belongs-to k lo cs hi seps filled =
    let r = routed k lo cs hi (rec_of 0 []) seps filled in
    let i = route k cs in
    let shape = split_at cs i (rec_of 0 []) r.inside in
    record {
      before = take i cs;
      own = get_or cs i (rec_of 0 []);
      later = drop (suc i) cs;
      shape = shape;
      low = low (take i cs) _ r.low;
      high = high (drop (suc i) cs) _ (later-rising lo (take i cs) (get_or cs i (rec_of 0 [])) (drop (suc i) cs) hi (subst (λ (l : List Rec). Rising lo l hi) shape seps)) r.high;
    }
  where
    low : (l : List Rec) (sep : ℕ) → start_of l 0 sep ≤ k → (l ≡ []) ⊎ (sep ≤ k)
    low [] sep h = inl refl
    low (x ∷ l) sep h = inr h

    high : (l : List Rec) (lo : ℕ) → Rising lo l hi → k < first_key l (suc k) → All (λ (c : Rec). k < c.key) l
    high [] lo h q = tt
    high (d ∷ l) lo h q = (q, All-map (λ (c : Rec). suc d.key ≤ c.key) (λ (c : Rec). k < c.key) (λ c le. omega arith) l (rising-from (suc d.key) l hi h.1))

-- a number in the range of a page that is named belongs to it
abbrev pub belongs-in : (k lo : ℕ) (cs before : List Rec) (c : Rec) (later : List Rec) (hi : ℕ) → Rising lo cs hi → cs ≡ before ++ c ∷ later → start_of before lo c.key ≤ k → k < first_key later hi → Belongs k cs
belongs-in k lo cs before c later hi seps shape low high =
    record { before = before; own = c; later = later; shape = shape; low = lows before low; high = highs later (later-rising lo before c later hi (subst (λ (l : List Rec). Rising lo l hi) shape seps)) high }
  where
    lows : (l : List Rec) → start_of l lo c.key ≤ k → (l ≡ []) ⊎ (c.key ≤ k)
    lows [] q = inl refl
    lows (x ∷ l) q = inr q

    highs : (l : List Rec) → Rising (suc c.key) l hi → k < first_key l hi → All (λ (d : Rec). k < d.key) l
    highs [] r q = tt
    highs (d ∷ l) r q = (q, All-map (λ (e : Rec). suc d.key ≤ e.key) (λ (e : Rec). k < e.key) (λ e t. omega arith) l (rising-from (suc d.key) l hi r.1))

-- the page that it belongs to is named
pub own-among : (img : List ℕ) (k q : ℕ) (b : Belongs k (children img q)) → among (child_of b.own) (names_of img q) ≡ true
own-among img k q b =
    ap (λ (l : List Rec). among (child_of b.own) (map child_of l)) b.shape
    ∙ ap (among (child_of b.own)) (map-append child_of b.before (b.own ∷ b.later))
    ∙ among-right (child_of b.own) (map child_of b.before) (child_of b.own ∷ map child_of b.later) (among_first (child_of b.own) (map child_of b.later))

-- that range holds a number, and lies in the range of them all
pub range-in : (lo : ℕ) (before : List Rec) (c : Rec) (later : List Rec) (hi : ℕ) → Rising lo (before ++ c ∷ later) hi →
    (lo ≤ start_of before lo c.key) × (start_of before lo c.key < first_key later hi) × (first_key later hi ≤ hi)
range-in lo before c later hi s =
    let r = later-rising lo before c later hi s in
    go before s (first-least (suc c.key) later hi r) (first-most (suc c.key) later hi r)
  where
    go : (l : List Rec) → Rising lo (l ++ c ∷ later) hi → suc c.key ≤ first_key later hi → first_key later hi ≤ hi →
        (lo ≤ start_of l lo c.key) × (start_of l lo c.key < first_key later hi) × (first_key later hi ≤ hi)
    go [] s a b = (omega arith, omega (arith, s.0), b)
    go (x ∷ l) s a b = (let t = rising_le lo (x ∷ l) c.key (rising-split lo (x ∷ l) (c ∷ later) hi s).0 in omega (arith, t), omega arith, b)

-- ---- at any height: the leaf that k belongs to alone has it

-- where its own range starts, and where the next page's does
pub own-low : (k lo : ℕ) (cs : List Rec) (b : Belongs k cs) → lo ≤ k → start_of b.before lo b.own.key ≤ k
own-low k lo cs b h = go b.before b.low
  where
    go : (l : List Rec) → (l ≡ []) ⊎ (b.own.key ≤ k) → start_of l lo b.own.key ≤ k
    go [] q = h
    go (x ∷ l) (inl e) = let z : ◌≡◌ {A = ℕ} 0 1 = cc in absurd (omega arith)
    go (x ∷ l) (inr q) = q

later-high : (k : ℕ) (l : List Rec) → All (λ (c : Rec). k < c.key) l → k < first_key l (suc k)
later-high k [] h = omega arith
later-high k (c ∷ l) h = h.0

-- whatever the leaves say, by records
module _ {A B : Type 0} (rec : A → Rec) (answer : A → B) (nothing : B) (img : List ℕ) (leaf : ℕ → List A) (lists : (x : ℕ) → map rec (leaf x) ≡ records (page_of img x)) (k : ℕ) where
  joined-records : (h : ℕ) (cs : List Rec) → map rec (joined (λ x. gathered format1 leaf (λ y. []) img h x) cs) ≡ joined (λ x. table_in format1 img h x) cs
  joined-records h cs =
      joined-map (λ x. gathered format1 leaf (λ y. []) img h x) rec cs
      ∙ joined_same (λ x. map rec (gathered format1 leaf (λ y. []) img h x)) (λ x. table_in format1 img h x) cs
      (All-any (λ (c : Rec). map rec (gathered format1 leaf (λ y. []) img h (child_of c)) ≡ table_in format1 img h (child_of c)) (λ c. gathered-records rec leaf img lists h (child_of c)) cs)

  pub seek-leaf : (h : ℕ) (p : Place) → Under format1 img h p.from p.below p.page → p.from ≤ k →
      seek (λ (x : A). (rec x).key) answer nothing k (gathered format1 leaf (λ x. []) img h p.page) ≡ seek (λ (x : A). (rec x).key) answer nothing k (leaf (descend img k h p).page)
  unfolding gathered descend children
  seek-leaf zero p u low = refl
  seek-leaf (suc h) p u low =
      let said : ℕ → List A = λ x. gathered format1 leaf (λ y. []) img h x in
      let asked : List A → B = λ l. seek (λ (x : A). (rec x).key) answer nothing k l in
      let cs = children img p.page in
      let b : Belongs k cs = belongs-to k p.from cs p.below u.0.rising u.1.0 in
      let pre = b.before in
      let c = b.own in
      let post = b.later in
      let P : ℕ → ℕ → ℕ → Type 0 = λ y z x. Under format1 img h y z x in
      let start : start_of pre p.from c.key ≤ k = own-low k p.from cs b low in
      let seps : Rising p.from (pre ++ c ∷ post) p.below = subst (λ (l : List Rec). Rising p.from l p.below) b.shape u.0.rising in
      let spans : Spans P p.from (pre ++ c ∷ post) p.below = subst (λ (l : List Rec). Spans P p.from l p.below) b.shape u.1.1 in
      let rises : (x y z : ℕ) → P x y z → Rising x (table_in format1 img h z) y = λ x y z v. under-rising format1 img h x y z v in
      let next : Place = place_in p.from pre c post p.below in
      ap asked (ap (joined said) b.shape ∙ joined-append said pre (c ∷ post))
      ∙ seek-between rec answer nothing k (joined said pre) (said (child_of c)) (joined said post)
      (rw (joined-records h pre) (pages-before P (λ x. table_in format1 img h x) rises p.from pre c post p.below seps spans k start))
      (rw (joined-records h post) (pages-after P (λ x. table_in format1 img h x) rises p.from pre c post p.below seps spans k (later-high k post b.high)))
      ∙ seek-leaf h next (spans-cut P p.from pre (c ∷ post) p.below spans).1.0 start
      ∙ ap (λ (q : Place). asked (leaf (descend img k h q).page)) (sym (down_is img k p b))

-- ---- all numbers in a leaf's range belong to it

module _ (img : List ℕ) (k : ℕ) where
  module _ (h : ℕ) (p : Place) (u : Under format1 img (suc h) p.from p.below p.page) where
    here : Belongs k (children img p.page)
    unfolding children
    here = belongs-to k p.from (children img p.page) p.below u.0.rising u.1.0

    named-seps : Rising p.from (children img p.page) p.below
    unfolding children
    named-seps = u.0.rising

    around : Rising p.from (here.before ++ here.own ∷ here.later) p.below
    around = subst (λ (l : List Rec). Rising p.from l p.below) here.shape named-seps

    next-under : Under format1 img h (start_of here.before p.from here.own.key) (first_key here.later p.below) (child_of here.own)
    unfolding children
    next-under =
        let P : ℕ → ℕ → ℕ → Type 0 = λ y z x. Under format1 img h y z x in
        (spans-cut P p.from here.before (here.own ∷ here.later) p.below (subst (λ (l : List Rec). Spans P p.from l p.below) here.shape u.1.1)).1.0

  -- a leaf's range lies in that of each page on its way
  pub descend-in : (h : ℕ) (p : Place) → Under format1 img h p.from p.below p.page → (p.from ≤ (descend img k h p).from) × ((descend img k h p).below ≤ p.below)
  unfolding descend
  descend-in zero p u = (omega arith, omega arith)
  descend-in (suc h) p u =
      let b = here h p u in
      let q = own_place p b in
      let r = range-in p.from b.before b.own b.later p.below (around h p u) in
      let d = descend-in h q (next-under h p u) in
      let e : descend img k h (down img k p) ≡ descend img k h q = ap (descend img k h) (down_is img k p b) in
      let f : (descend img k h (down img k p)).from ≡ (descend img k h q).from = ap (λ (x : Place). x.from) e in
      let g : (descend img k h (down img k p)).below ≡ (descend img k h q).below = ap (λ (x : Place). x.below) e in
      (omega (arith, r, d, f), omega (arith, r, d, g))

  pub descend-low : (h : ℕ) (p : Place) → Under format1 img h p.from p.below p.page → p.from ≤ k → (descend img k h p).from ≤ k
  unfolding descend
  descend-low zero p u low = low
  descend-low (suc h) p u low =
      let b = here h p u in
      let q = own_place p b in
      let d = descend-low h q (next-under h p u) (own-low k p.from (children img p.page) b low) in
      let f : (descend img k h (down img k p)).from ≡ (descend img k h q).from = ap (λ (x : Place). (descend img k h x).from) (down_is img k p b) in
      omega (arith, d, f)

  pub descend-same : (j h : ℕ) (p : Place) → Under format1 img h p.from p.below p.page → (descend img k h p).from ≤ j → j < (descend img k h p).below → descend img j h p ≡ descend img k h p
  unfolding descend
  descend-same j zero p u low high = refl
  descend-same j (suc h) p u low high =
      let b = here h p u in
      let q = own_place p b in
      let d = descend-in h q (next-under h p u) in
      let e = down_is img k p b in
      let f : (descend img k h (down img k p)).from ≡ (descend img k h q).from = ap (λ (x : Place). (descend img k h x).from) e in
      let g : (descend img k h (down img k p)).below ≡ (descend img k h q).below = ap (λ (x : Place). (descend img k h x).below) e in
      let c = belongs-in j p.from (children img p.page) b.before b.own b.later p.below (named-seps h p u) b.shape (omega (arith, low, d, f)) (omega (arith, high, d, g)) in
      ap (descend img j h) (down_is img j p c) ∙ descend-same j h q (next-under h p u) (omega (arith, low, f)) (omega (arith, high, g)) ∙ ap (descend img k h) (sym e)

-- in a sound image
module _ (img : List ℕ) (s : sound img ≡ true) (k : ℕ) where
  pub find-leaf : find k (table img) ≡ find k (records (page_of img (leaf_for img (root_of img) k).page))
  unfolding table table_in leaf_for top_place
  find-leaf =
      let root = root_of img in
      find-seek k (table img)
      ∙ seek-leaf (λ (r : Rec). r) (λ (r : Rec). Some r.value) None img (λ x. records (page_of img x)) (λ x. map_same (records (page_of img x))) k (height_of img root) (top_place root)
      (sound-tree_in img s).under (omega arith)
      ∙ sym (find-seek k (records (page_of img (leaf_for img root k).page)))

  pub found-leaf : found_in k (listing img) ≡ found_in k (page_entries img (leaf_for img (root_of img) k).page)
  unfolding listing leaf_for top_place
  found-leaf =
      let root = root_of img in
      found-seek k (listing img)
      ∙ seek-leaf (λ (e : Entry). e.rec) (λ (e : Entry). Ok (Some (record { offset = e.at + 16; length = length e.rec.value }))) (Ok None) img (λ x. page_entries img x) (λ x. recs-page img x) k (height_of img root) (top_place root)
      (sound-tree_in img s).under (omega arith)
      ∙ sym (found-seek k (page_entries img (leaf_for img root k).page))
