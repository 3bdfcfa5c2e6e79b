-- The leaf after: the end of a leaf's range belongs to a leaf that starts there and is not empty, so that a next key reads no third one. On any image.
-- Assumes nothing.
use Rattle.std.specs.Prelude.{Some}
use Prim.Native.Nat.{ℕ, zero, suc, ◌≤◌, ◌<◌}
use mathlib.Core.Path.{◌≡◌, refl, sym, ap, ◌∙◌, subst}
use mathlib.Core.Logic.{◌⊎◌, inl, inr}
use mathlib.Core.Bool.{Bool, true, false, ◌&&◌, true≢false}
use mathlib.Core.List.{List, [], ◌∷◌, ◌++◌, map, append_assoc}
use native.Mathlib.Omega.{arith}
use lib.ListN.{length}
use lib.Dec.{ltb, eqb}
use borrow.Author.Tests.{ltb-true, ltb-false}
use Rattle.codec.specs.Lists.{All}
use Rattle.codec.proofs.Tests.{not-true, All-map}
use Rattle.page.specs.Layout.{top_key, Rec}
use Rattle.image.specs.Image.{child_of, children, names_of, among, start_of, first_key, height_of, top_place, hit, count}
use Rattle.image.specs.Facts.{Rising, Node, Index}
use Rattle.image.specs.Descent.{down, named_by, Way, way_from, way_to, root_read}
use Rattle.image.specs.Says.{Belongs, own_place, Comes, at_leaf, through}
use Rattle.image.specs.declared.Place.{Place}
use Rattle.image.proofs.Parts.{some-injective}
use Rattle.image.proofs.General.{map-append}
use Rattle.image.proofs.Rising.{rising-from, rising-split, rising_le}
use Rattle.image.proofs.Ranges.{first-most}
use Rattle.image.proofs.Apart.{among_first, among-right}
use Rattle.image.proofs.Soundness.{node-some, node-rising}
use Rattle.image.proofs.Belonging.{own-among, belongs-to, down_is, later-rising}
use Rattle.image.proofs.Times.{hit-self, count-append, apart-among, distinct-count}
use Rattle.image.proofs.Ways.{height-in, read-again, comes-way, way-step, way-end, way-leaf, only-leaf}
use Rattle.image.proofs.FromReads.{start-past}
use Rattle.image.proofs.Once.{among-either, Once, read-as, once-on, once-root}

module _ (img : List ℕ) (root : ℕ) where
  -- ---- a page above the leaves that is sound, and what it names

  module _ (h : ℕ) (names : List ℕ) (p : Place) (n : Node img (suc h) names p) (k : ℕ) where
    node-belongs : Belongs k (children img p.page)
    node-belongs = belongs-to k p.from (children img p.page) p.below (node-rising img (suc h) names p n) (node-some img (suc h) names p n)

  -- ---- what is read on a way from a page that is named and not read

  record Grown (ns : List ℕ) (q : ℕ) (w : Way) : Type 0 where
    more : (x : ℕ) → among x ns ≡ true → among x w.nodes ≡ true
    named : (x : ℕ) → among x (named_by img root ns) ≡ true → among x (named_by img root w.nodes) ≡ true
    held : (x : ℕ) → among x w.nodes ≡ true → among x (named_by img root w.nodes) ≡ true
    fresh : (x : ℕ) → among x w.nodes ≡ true → (among x ns ≡ true) ⊎ ((x ≡ q) ⊎ (among x (named_by img root ns) ≡ false))

  -- the page itself is read, if it is no leaf
  abbrev Own : ℕ → ℕ → Way → Type 0
  Own zero q w = Unit {0}
  Own (suc h) q w = among q w.nodes ≡ true

  -- the range's end falls on the way
  grown : (k h : ℕ) (only : Bool) (p : Place) (ns : List ℕ) (w : Way) → Once img root ns p.page → way_from img root k h only p ns ≡ Some w → Grown ns p.page w × (w.leaf.below ≤ p.below) × Own h p.page w
  unfolding named_by
  grown k zero only p ns w o e =
      let f = way-end img root k only p ns w e in
      let g : ns ≡ w.nodes = ap (λ (x : Way). x.nodes) (sym f) in
      let b : w.leaf.below ≡ p.below = ap (λ (x : Way). x.leaf.below) f in
      (subst (λ (l : List ℕ). Grown ns p.page (record { nodes = l; only = w.only; leaf = w.leaf })) g (record { more = λ x m. m; named = λ x m. m; held = o.held; fresh = λ x m. inl m }), omega (arith, b), tt)
  grown k (suc h) only p ns w o e =
      let s = way-step img root k h only p ns w e in
      let r = read-as img root h p ns s.nodes' o.new s.read in
      let names = named_by img root ns in
      let n : Node img (suc h) names p = r.0 in
      let one : Bool = only && eqb (length (children img p.page)) 1 in
      let b = node-belongs h names p n k in
      let q = own_place p b in
      let m = own-among img k p.page b in
      let c : way_from img root k h one q (p.page ∷ ns) ≡ Some w =
      ap (λ (l : List ℕ). way_from img root k h one q l) (sym r.1) ∙ ap (λ (x : Place). way_from img root k h one x s.nodes') (sym (down_is img k p b)) ∙ s.on in
      let g = grown k h one q (p.page ∷ ns) w (once-on img root h p ns o n q.page m) c in
      let below : first_key b.later p.below ≤ p.below =
      first-most (suc b.own.key) b.later p.below (later-rising p.from b.before b.own b.later p.below (subst (λ (l : List Rec). Rising p.from l p.below) b.shape (node-rising img (suc h) names p n))) in (
        record {
          more = λ x t. g.0.more x (among-right x (p.page ∷ []) ns t);
          named = λ x t. g.0.named x (among-right x (names_of img p.page) names t);
          held = g.0.held;
          fresh = λ x t. turn x q.page (apart-among (names_of img p.page) names n.apart q.page m) (g.0.fresh x t);
        },
        omega (arith, g.1, below),
        g.0.more p.page (among_first p.page ns),
      )
    where
      first : (x : ℕ) → among x (p.page ∷ ns) ≡ true → (among x ns ≡ true) ⊎ ((x ≡ p.page) ⊎ (among x (named_by img root ns) ≡ false))
      first = among-either p.page ns (λ (x : ℕ). (among x ns ≡ true) ⊎ ((x ≡ p.page) ⊎ (among x (named_by img root ns) ≡ false))) (inr (inl refl)) (λ y t. inl t)

      turn : (x q : ℕ) → among q (named_by img root ns) ≡ false → (among x (p.page ∷ ns) ≡ true) ⊎ ((x ≡ q) ⊎ (among x (names_of img p.page ++ named_by img root ns) ≡ false)) →
          (among x ns ≡ true) ⊎ ((x ≡ p.page) ⊎ (among x (named_by img root ns) ≡ false))
      turn x q a (inl t) = first x t
      turn x q a (inr (inl e)) = inr (inr (ap (λ (y : ℕ). among y (named_by img root ns)) e ∙ a))
      turn x q a (inr (inr f)) = inr (inr (not-true (among x (named_by img root ns)) (λ t. true≢false (sym (among-right x (names_of img p.page) (named_by img root ns) t) ∙ f))))

  -- ---- a page that starts where the key is: so does the leaf

  starts : (k h : ℕ) (only : Bool) (p : Place) (ns : List ℕ) (w : Way) → Once img root ns p.page → p.from ≡ k → way_from img root k h only p ns ≡ Some w → w.leaf.from ≡ k
  starts k zero only p ns w o f e = ap (λ (x : Way). x.leaf.from) (way-end img root k only p ns w e) ∙ f
  starts k (suc h) only p ns w o f e =
      let s = way-step img root k h only p ns w e in
      let r = read-as img root h p ns s.nodes' o.new s.read in
      let names = named_by img root ns in
      let n : Node img (suc h) names p = r.0 in
      let one : Bool = only && eqb (length (children img p.page)) 1 in
      let b = node-belongs h names p n k in
      let q = own_place p b in
      let c : way_from img root k h one q (p.page ∷ ns) ≡ Some w =
      ap (λ (l : List ℕ). way_from img root k h one q l) (sym r.1) ∙ ap (λ (x : Place). way_from img root k h one x s.nodes') (sym (down_is img k p b)) ∙ s.on in
      starts k h one q (p.page ∷ ns) w (once-on img root h p ns o n q.page (own-among img k p.page b))
      (first b.before b.own b.later b.low (subst (λ (l : List Rec). Rising p.from l p.below) b.shape (node-rising img (suc h) names p n))) c
    where
      first : (l : List Rec) (c : Rec) (later : List Rec) → (l ≡ []) ⊎ (c.key ≤ k) → Rising p.from (l ++ c ∷ later) p.below → start_of l p.from c.key ≡ k
      first [] c later q s = f
      first (x ∷ l) c later (inl z) s = let z' : ◌≡◌ {A = ℕ} 0 1 = cc in absurd (omega arith)
      first (x ∷ l) c later (inr z) s = let t = rising_le (suc x.key) l c.key (rising-split (suc x.key) l (c ∷ later) p.below s.1).0 in absurd (omega (arith, t, s.0, f))

  -- a number below the end of its leaf, unless that ends where the range of all does
  ends : (k h : ℕ) (only : Bool) (p : Place) (ns : List ℕ) (w : Way) → Comes img root k h only p ns w → (k < w.leaf.below) ⊎ (w.leaf.below ≡ p.below)
  ends k _ _ _ _ _ (at_leaf only p ns) = inr refl
  ends k _ _ _ _ _ (through h only p ns ns' w r b c) = go b.later b.high (ends k h (only && eqb (length (children img p.page)) 1) (own_place p b) ns' w c)
    where
      go : (l : List Rec) → All (λ (c : Rec). k < c.key) l → (k < w.leaf.below) ⊎ (w.leaf.below ≡ first_key l p.below) → (k < w.leaf.below) ⊎ (w.leaf.below ≡ p.below)
      go l a (inl q) = inl q
      go [] a (inr e) = inr e
      go (d ∷ l) a (inr e) = inl (omega (arith, a.0, e))

  -- ---- two ways that part below the page at p

  -- a page above the leaves that was read, what it names, and that none of that was read before
  record Stood (h : ℕ) (p : Place) (ns : List ℕ) : Type 0 where
    names : List ℕ
    node : Node img (suc h) names p
    keep : (x : ℕ) → among x (names_of img p.page) ≡ true → Once img root ns x

  module _ (k : ℕ) (w v : Way) (past : k < w.leaf.below) where
    abbrev end : ℕ
    end = w.leaf.below

    -- the one way goes on below p, and so does the other, of the first one's end, with what the first one read
    record Parts (h : ℕ) (p : Place) (ns : List ℕ) : Type 0 where
      stood : Stood h p ns
      one : Bool
      two : Bool
      way : way_from img root k h one (down img k p) ns ≡ Some w
      after : way_from img root w.leaf.below h two (down img w.leaf.below p) w.nodes ≡ Some v
      inside : w.leaf.below < p.below

    module _ (h : ℕ) (p : Place) (ns : List ℕ) (t : Parts h p ns) where
      abbrev b : Belongs k (children img p.page)
      b = node-belongs h t.stood.names p t.stood.node k

      abbrev q : Place
      q = own_place p b

      seps : Rising p.from (b.before ++ b.own ∷ b.later) p.below
      seps = subst (λ (l : List Rec). Rising p.from l p.below) b.shape (node-rising img (suc h) t.stood.names p t.stood.node)

      later : Rising (suc b.own.key) b.later p.below
      later = later-rising p.from b.before b.own b.later p.below seps

      unread : Once img root ns q.page
      unread = t.stood.keep q.page (own-among img k p.page b)

      first-way : way_from img root k h t.one q ns ≡ Some w
      first-way = ap (λ (x : Place). way_from img root k h t.one x ns) (sym (down_is img k p b)) ∙ t.way

      grows : Grown ns q.page w × (w.leaf.below ≤ first_key b.later p.below) × Own h q.page w
      grows = grown k h t.one q ns w unread first-way

      -- they go down to the same page
      one-page : end < first_key b.later p.below → down img end p ≡ q
      one-page less = down_is img end p (record { before = b.before; own = b.own; later = b.later; shape = b.shape; low = low b.low; high = high b.later later less })
        where
          low : (b.before ≡ []) ⊎ (b.own.key ≤ k) → (b.before ≡ []) ⊎ (b.own.key ≤ end)
          low (inl e) = inl e
          low (inr e) = inr (omega arith)

          high : (l : List Rec) → Rising (suc b.own.key) l p.below → end < first_key l p.below → All (λ (c : Rec). end < c.key) l
          high [] r m = tt
          high (d ∷ l) r m = (m, All-map (λ (c : Rec). suc d.key ≤ c.key) (λ (c : Rec). end < c.key) (λ c y. omega arith) l (rising-from (suc d.key) l p.below r.1))

      -- or the second goes to the page after, which was not read
      next-page : (d : Rec) (ds : List Rec) → b.later ≡ d ∷ ds → end ≡ d.key → v.leaf.from ≡ end
      next-page d ds e z =
          let shape : children img p.page ≡ (b.before ++ b.own ∷ []) ++ d ∷ ds = b.shape ∙ ap (λ (l : List Rec). b.before ++ b.own ∷ l) e ∙ sym (append_assoc b.before (b.own ∷ []) (d ∷ ds)) in
          let r : Rising (suc b.own.key) (d ∷ ds) p.below = subst (λ (l : List Rec). Rising (suc b.own.key) l p.below) e later in
          let c : Belongs end (children img p.page) =
          record {
            before = b.before ++ b.own ∷ [];
            own = d;
            later = ds;
            shape = shape;
            low = inr (omega (arith, z));
            high = All-map (λ (c : Rec). suc d.key ≤ c.key) (λ (c : Rec). end < c.key) (λ c y. omega (arith, y, z)) ds (rising-from (suc d.key) ds p.below r.1);
          } in
          let at = own_place p c in
          let m = own-among img end p.page c in
          let o = t.stood.keep at.page m in
          let way : way_from img root end h t.two at w.nodes ≡ Some v = ap (λ (x : Place). way_from img root end h t.two x w.nodes) (sym (down_is img end p c)) ∙ t.after in
          starts end h t.two at w.nodes v
          (record { new = not-true (among at.page w.nodes) (λ y. other o (grows.0.fresh at.page y)); named = grows.0.named at.page o.named; held = grows.0.held })
          (start-past b.before b.own p.from d.key ∙ sym z) way
        where
          -- "its pages are distinct"
          two-slots : child_of d ≡ child_of b.own → ⊥
          two-slots y =
              let x = child_of d in
              let names = names_of img p.page in
              let one = distinct-count (names ++ t.stood.names) t.stood.node.apart x in
              let a = count-append x names t.stood.names in
              let f : count x names ≡ count x (map child_of b.before ++ child_of b.own ∷ x ∷ map child_of ds) =
              ap (λ (l : List Rec). count x (map child_of l)) (b.shape ∙ ap (λ (l : List Rec). b.before ++ b.own ∷ l) e) ∙ ap (count x) (map-append child_of b.before (b.own ∷ d ∷ ds)) in
              let g = count-append x (map child_of b.before) (child_of b.own ∷ x ∷ map child_of ds) in
              let i = hit-self x in
              let j : hit x (child_of b.own) ≡ 1 = ap (hit x) (sym y) ∙ i in
              omega (arith, one, a, f, g, i, j)

          other : Once img root ns (child_of d) → (among (child_of d) ns ≡ true) ⊎ ((child_of d ≡ q.page) ⊎ (among (child_of d) (named_by img root ns) ≡ false)) → ⊥
          other o (inl y) = true≢false (sym y ∙ o.new)
          other o (inr (inl y)) = two-slots y
          other o (inr (inr y)) = true≢false (sym o.named ∙ y)

      by-end : (end < first_key b.later p.below → v.leaf.from ≡ end) → v.leaf.from ≡ end
      by-end same = go (ltb end (first_key b.later p.below)) refl
        where
          next : (l : List Rec) → b.later ≡ l → end ≡ first_key l p.below → v.leaf.from ≡ end
          next [] e z = let i = t.inside in absurd (omega (arith, z))
          next (d ∷ ds) e z = next-page d ds e z

          go : (u : Bool) → ltb end (first_key b.later p.below) ≡ u → v.leaf.from ≡ end
          go true u = same (ltb-true end (first_key b.later p.below) u)
          go false u = let m = ltb-false end (first_key b.later p.below) u in next b.later refl (omega (arith, m, grows.1))

    part-ways : (h : ℕ) (p : Place) (ns : List ℕ) → Parts h p ns → v.leaf.from ≡ w.leaf.below
    part-ways zero p ns t =
        by-end zero p ns t (λ less. let e = ap (λ (x : Way). x.leaf.below) (way-end img root k t.one (q zero p ns t) ns w (first-way zero p ns t)) in absurd (omega (arith, less, e)))
    part-ways (suc h) p ns t = by-end (suc h) p ns t (λ less. part-ways h (q (suc h) p ns t) ((q (suc h) p ns t).page ∷ ns) (down-parts less))
      where
        down-parts : end < first_key (b (suc h) p ns t).later p.below → Parts h (q (suc h) p ns t) ((q (suc h) p ns t).page ∷ ns)
        down-parts less =
            let c = q (suc h) p ns t in
            let o = unread (suc h) p ns t in
            let s = way-step img root k h t.one c ns w (first-way (suc h) p ns t) in
            let r = read-as img root h c ns s.nodes' o.new s.read in
            let f = way-step img root end h t.two c w.nodes v (ap (λ (x : Place). way_from img root end (suc h) t.two x w.nodes) (sym (one-page (suc h) p ns t less)) ∙ t.after) in
            let g : f.nodes' ≡ w.nodes = some-injective f.nodes' w.nodes (sym f.read ∙ read-again img root (suc h) c w.nodes (grows (suc h) p ns t).2) in
            record {
              stood = record { names = named_by img root ns; node = r.0; keep = once-on img root h c ns o r.0 };
              one = t.one && eqb (length (children img c.page)) 1;
              two = t.two && eqb (length (children img c.page)) 1;
              way = ap (λ (l : List ℕ). way_from img root k h (t.one && eqb (length (children img c.page)) 1) (down img k c) l) (sym r.1) ∙ s.on;
              after = ap (λ (l : List ℕ). way_from img root end h (t.two && eqb (length (children img c.page)) 1) (down img end c) l) (sym g) ∙ f.on;
              inside = less;
            }

  -- ---- from the root

  -- one page down
  record Down (k h : ℕ) (w : Way) : Type 0 where
    way : way_from img root k h (true && eqb (length (children img root)) 1) (down img k (top_place root)) (root ∷ []) ≡ Some w
    read : among root w.nodes ≡ true
    inside : w.leaf.below ≤ suc top_key

  from-root : (k h : ℕ) (w : Way) → Node img (suc h) (root ∷ []) (top_place root) → way_from img root k (suc h) true (top_place root) (root ∷ []) ≡ Some w → Down k h w
  unfolding top_place
  from-root k h w n e =
      let p = top_place root in
      let ns = root ∷ [] in
      let one : Bool = true && eqb (length (children img root)) 1 in
      let s = way-step img root k h true p ns w e in
      let a : s.nodes' ≡ ns = some-injective s.nodes' ns (sym s.read ∙ read-again img root (suc h) p ns (among_first root [])) in
      let way : way_from img root k h one (down img k p) ns ≡ Some w = ap (λ (l : List ℕ). way_from img root k h one (down img k p) l) (sym a) ∙ s.on in
      let b = node-belongs h ns p n k in
      let o = once-root img root n.apart (own_place p b).page (own-among img k root b) in
      let g = grown k h one (own_place p b) ns w o (ap (λ (x : Place). way_from img root k h one x ns) (sym (down_is img k p b)) ∙ way) in
      let m = first-most (suc b.own.key) b.later p.below (later-rising p.from b.before b.own b.later p.below (subst (λ (l : List Rec). Rising p.from l p.below) b.shape (node-rising img (suc h) ns p n))) in
      record { way = way; read = g.0.more root (among_first root []); inside = omega (arith, g.1, m) }

  module _ (i : Index img root) (k : ℕ) (w : Way) (c : Comes img root k (height_of img root) true (top_place root) (root_read root) w) where
    pub end-inside : w.leaf.below ≤ suc top_key
    end-inside = go (height_of img root) (height-in img root).0 i c
      where
        go : (h : ℕ) → 1 ≤ h → Node img h (root ∷ []) (top_place root) → Comes img root k h true (top_place root) (root ∷ []) w → w.leaf.below ≤ suc top_key
        go zero q n c = absurd (omega arith)
        go (suc h) q n c = (from-root k h w n (comes-way img root k (suc h) true (top_place root) (root ∷ []) w c)).inside

    pub record After (v : Way) : Type 0 where
      pub past : k < w.leaf.below
      pub starts : v.leaf.from ≡ w.leaf.below
      pub others : v.only ≡ false

    pub after-leaf : w.leaf.below ≤ top_key → (v : Way) → way_to img root w.nodes w.leaf.below ≡ Some v → After v
    unfolding way_to top_place
    after-leaf inside v e = go (height_of img root) (height-in img root).0 i c e
      where
        past : (k < w.leaf.below) ⊎ (w.leaf.below ≡ suc top_key) → k < w.leaf.below
        past (inl q) = q
        past (inr q) = absurd (omega arith)

        go : (h : ℕ) → 1 ≤ h → Node img h (root ∷ []) (top_place root) → Comes img root k h true (top_place root) (root ∷ []) w →
            way_from img root w.leaf.below h true (top_place root) w.nodes ≡ Some v → After v
        go zero q n c e = absurd (omega arith)
        go (suc h) q n c e =
            let p = top_place root in
            let ns = root ∷ [] in
            let one : Bool = true && eqb (length (children img root)) 1 in
            let first = comes-way img root k (suc h) true p ns w c in
            let over = past (ends k (suc h) true p ns w c) in
            let d = from-root k h w n first in
            let f = way-step img root w.leaf.below h true p w.nodes v e in
            let m : f.nodes' ≡ w.nodes = some-injective f.nodes' w.nodes (sym f.read ∙ read-again img root (suc h) p w.nodes d.read) in
            record {
              past = over;
              starts = part-ways k w v over h p ns
                  (record {
                    stood = record { names = ns; node = n; keep = once-root img root n.apart };
                    one = one;
                    two = one;
                    way = d.way;
                    after = ap (λ (l : List ℕ). way_from img root w.leaf.below h one (down img w.leaf.below p) l) (sym m) ∙ f.on;
                    inside = omega arith;
                  });
              others = not-true v.only (λ y.
                  let t = only-leaf img root w.leaf.below (suc h) true p w.nodes v e y in
                  let l = way-leaf img root k (suc h) true p ns w first in
                  let z : w.leaf.below ≡ v.leaf.below = ap (λ (x : Place). x.below) (l ∙ t.all k) in
                  omega (arith, z, t.below));
            }
