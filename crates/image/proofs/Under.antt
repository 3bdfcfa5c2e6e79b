-- A page within its range, all that lies under a page, a tree: each test holds exactly if its facts do, for pages of any format and at any height.
-- Assumes nothing.
use Prim.Native.Nat.{ℕ, zero, suc, ◌≤◌, ◌<◌}
use mathlib.Core.Path.{◌≡◌, refl}
use mathlib.Core.Logic.{◌⊎◌, inl, inr}
use mathlib.Core.Bool.{Bool, true, false, ◌||◌, false≢true, or-true}
use mathlib.Core.List.{List, [], ◌∷◌, ◌++◌}
use native.Mathlib.Omega.{arith}
use lib.ListN.{length}
use lib.Dec.{leb, ltb, eqb}
use borrow.Author.Tests.{leb-true, le-leb, ltb-true, lt-ltb, eqb-true, eq-eqb}
use Rattle.codec.specs.Lists.{all_b, All}
use Rattle.codec.proofs.Tests.{both, first, second, everything, all-every, all_b-true, true-all_b}
use Rattle.codec.proofs.Agree.{either}
use Rattle.page.specs.Layout.{leaf_kind, top_key, Rec}
use Rattle.page.specs.PageFormat.{PageFormat, ReadRules}
use Rattle.page.specs.Operations.{page_of}
use Rattle.image.specs.PageZero.{page_count, is_page}
use Rattle.image.specs.Image.{child_of, records_at, joined, gathered, pages_in, leaves_in, first_key, places, bound_ok, under_ok, tree_in}
use Rattle.image.specs.Facts.{Bound, Spans, Under, Nonempty, TreeIn}
use Rattle.image.specs.declared.Place.{Place}
use Rattle.image.proofs.General.{All-any, All-append, All-left, All-right}
use Rattle.image.proofs.Rising.{From, Below, rising-from, rising-below, rise-rising}
use Rattle.image.proofs.Ranges.{spans-map, each-facts, facts-each}

module _ (Pg : PageFormat) where
  -- ---- a page within its range

  module _ (kind : ℕ) (empty : Bool) (lo hi own : ℕ) (p : List ℕ) where
    pub bound-facts : ReadRules Pg → lo ≤ hi → bound_ok Pg kind empty lo hi own p ≡ true → Bound Pg kind empty lo hi own p
    unfolding bound_ok
    bound-facts rules le h =
        let rs = Pg.recs p in
        let t = everything _ h in
        let from : From lo rs = all_b-true (λ (r : Rec). leb lo r.key) (λ (r : Rec). lo ≤ r.key) (λ r e. leb-true _ _ e) rs t.1.1.0 in
        let below : Below rs hi = all_b-true (λ (r : Rec). ltb r.key hi) (λ (r : Rec). r.key < hi) (λ r e. ltb-true _ _ e) rs t.1.1.1.0 in
        record {
          page = t.0;
          filled = some (either empty (leb 1 (length rs)) t.1.0);
          rising = rise-rising lo rs hi le from (rules.ok-true kind own p t.0).rise below;
        }
      where
        some : (empty ≡ true) ⊎ (leb 1 (length (Pg.recs p)) ≡ true) → (empty ≡ true) ⊎ (1 ≤ length (Pg.recs p))
        some (inl e) = inl e
        some (inr e) = inr (leb-true _ _ e)

    pub facts-bound : Bound Pg kind empty lo hi own p → bound_ok Pg kind empty lo hi own p ≡ true
    unfolding bound_ok
    facts-bound k =
        let rs = Pg.recs p in
        all-every _ (
          k.page,
          (
            some k.filled,
            (
              true-all_b (λ (r : Rec). leb lo r.key) (λ (r : Rec). lo ≤ r.key) (λ r h. le-leb _ _ h) rs (rising-from lo rs hi k.rising),
              (true-all_b (λ (r : Rec). ltb r.key hi) (λ (r : Rec). r.key < hi) (λ r h. lt-ltb _ _ h) rs (rising-below lo rs hi k.rising), tt),
            ),
          ),
        )
      where
        some : (empty ≡ true) ⊎ (1 ≤ length (Pg.recs p)) → (empty || leb 1 (length (Pg.recs p))) ≡ true
        some (inl e) = rw e
        some (inr h) = rw (le-leb 1 (length (Pg.recs p)) h) (or-true empty)

    -- "no leaf is empty unless ..", apart from the rest
    pub bound-fine : Bound Pg kind empty lo hi own p → Bound Pg kind true lo hi own p
    bound-fine k = record { page = k.page; filled = inl refl; rising = k.rising }

    pub fine-bound : Bound Pg kind true lo hi own p → (empty ≡ true) ⊎ (1 ≤ length (Pg.recs p)) → Bound Pg kind empty lo hi own p
    fine-bound k f = record { page = k.page; filled = f; rising = k.rising }

  -- ---- all that lies under a page

  -- no leaf of l is empty, unless leaves may be
  abbrev Filled : Bool → List ℕ → List ℕ → Type 0
  Filled only img l = (only ≡ true) ⊎ All (Nonempty Pg img) l

  filled-append : (only : Bool) (img a b : List ℕ) → Filled only img a → Filled only img b → Filled only img (a ++ b)
  filled-append only img a b (inl x) y = inl x
  filled-append only img a b (inr x) (inl y) = inl y
  filled-append only img a b (inr x) (inr y) = inr (All-append (Nonempty Pg img) a b x y)

  filled-left : (only : Bool) (img a b : List ℕ) → Filled only img (a ++ b) → Filled only img a
  filled-left only img a b (inl x) = inl x
  filled-left only img a b (inr x) = inr (All-left (Nonempty Pg img) a b x)

  filled-right : (only : Bool) (img a b : List ℕ) → Filled only img (a ++ b) → Filled only img b
  filled-right only img a b (inl x) = inl x
  filled-right only img a b (inr x) = inr (All-right (Nonempty Pg img) a b x)

  module _ (only : Bool) (img : List ℕ) where
    -- both facts of a page of height h
    abbrev Both : ℕ → ℕ → ℕ → ℕ → Type 0
    Both h a b x = Under Pg img h a b x × Filled only img (leaves_in Pg img h x)

    filled-joined : (h lo : ℕ) (cs : List Rec) (hi : ℕ) → Spans (λ a b x. Both h a b x) lo cs hi → Filled only img (joined (λ x. leaves_in Pg img h x) cs)
    filled-joined h lo [] hi s = inr tt
    filled-joined h lo (c ∷ cs) hi s = filled-append only img (leaves_in Pg img h (child_of c)) (joined (λ x. leaves_in Pg img h x) cs) s.0.1 (filled-joined h (first_key cs hi) cs hi s.1)

    joined-filled : (h lo : ℕ) (cs : List Rec) (hi : ℕ) → Spans (λ a b x. Under Pg img h a b x) lo cs hi → Filled only img (joined (λ x. leaves_in Pg img h x) cs) → Spans (λ a b x. Both h a b x) lo cs hi
    joined-filled h lo [] hi s f = tt
    joined-filled h lo (c ∷ cs) hi s f = (
      (s.0, filled-left only img (leaves_in Pg img h (child_of c)) (joined (λ x. leaves_in Pg img h x) cs) f),
      joined-filled h (first_key cs hi) cs hi s.1 (filled-right only img (leaves_in Pg img h (child_of c)) (joined (λ x. leaves_in Pg img h x) cs) f),
    )

    pub under-facts : ReadRules Pg → (h lo hi q : ℕ) → lo ≤ hi → under_ok Pg only img h lo hi q ≡ true → Under Pg img h lo hi q × ((only ≡ true) ⊎ All (Nonempty Pg img) (leaves_in Pg img h q))
    unfolding under_ok leaves_in gathered
    under-facts rules zero lo hi q le z =
        let k = bound-facts leaf_kind only lo hi q (page_of img q) rules le z in
        (bound-fine leaf_kind only lo hi q (page_of img q) k, some k.filled)
      where
        some : (only ≡ true) ⊎ (1 ≤ length (records_at Pg img q)) → (only ≡ true) ⊎ All (Nonempty Pg img) (q ∷ [])
        some (inl e) = inl e
        some (inr h) = inr (h, tt)
    under-facts rules (suc h) lo hi q le z =
        let cs = records_at Pg img q in
        let test : Place → Bool = λ p. under_ok Pg only img h p.from p.below p.page in
        let here : Bool = bound_ok Pg (suc (suc h)) false lo hi q (page_of img q) in
        let rest : Bool = all_b test (places lo cs hi) in
        let k = bound-facts (suc (suc h)) false lo hi q (page_of img q) rules le (first here rest z) in
        let s : Spans (λ a b x. Both h a b x) lo cs hi = each-facts (λ a b x. Both h a b x) test (λ a b x l t. under-facts rules h a b x l t) lo cs hi k.rising (second here rest z) in (
          (
            bound-fine (suc (suc h)) false lo hi q (page_of img q) k,
            (some k.filled, spans-map (λ a b x. Both h a b x) (λ a b x. Under Pg img h a b x) lo cs hi (All-any (λ (c : Rec). (a b : ℕ) → Both h a b (child_of c) → Under Pg img h a b (child_of c)) (λ c a b t. t.0) cs) s),
          ),
          filled-joined h lo cs hi s,
        )
      where
        some : (false ≡ true) ⊎ (1 ≤ length (records_at Pg img q)) → 1 ≤ length (records_at Pg img q)
        some (inl e) = absurd (false≢true e)
        some (inr k) = k

    pub facts-under : (h lo hi q : ℕ) → Under Pg img h lo hi q → (only ≡ true) ⊎ All (Nonempty Pg img) (leaves_in Pg img h q) → under_ok Pg only img h lo hi q ≡ true
    unfolding under_ok leaves_in gathered
    facts-under zero lo hi q u f = facts-bound leaf_kind only lo hi q (page_of img q) (fine-bound leaf_kind only lo hi q (page_of img q) u (some f))
      where
        some : (only ≡ true) ⊎ All (Nonempty Pg img) (q ∷ []) → (only ≡ true) ⊎ (1 ≤ length (records_at Pg img q))
        some (inl e) = inl e
        some (inr h) = inr h.0
    facts-under (suc h) lo hi q u f =
        let cs = records_at Pg img q in
        both (facts-bound (suc (suc h)) false lo hi q (page_of img q) (fine-bound (suc (suc h)) false lo hi q (page_of img q) u.0 (inr u.1.0)))
        (facts-each (λ a b x. Both h a b x) (λ (p : Place). under_ok Pg only img h p.from p.below p.page) (λ a b x t. facts-under h a b x t.0 t.1) lo cs hi
        (joined-filled h lo cs hi u.1.1 f))

  -- ---- a tree

  module _ (img : List ℕ) (h root : ℕ) where
    abbrev ps : List ℕ
    ps = pages_in Pg img h root

    abbrev ls : List ℕ
    ls = leaves_in Pg img h root

    pub tree_in-facts : ReadRules Pg → tree_in Pg img h root ≡ true → TreeIn Pg img h root
    unfolding tree_in
    tree_in-facts rules z =
        let t = everything _ z in
        let u = under-facts (eqb (length ls) 1) img rules h 0 (suc top_key) root (omega arith) t.0 in
        record {
          under = u.0;
          filled = some u.1;
          inside = all_b-true (is_page (page_count img)) (λ (p : ℕ). is_page (page_count img) p ≡ true) (λ p e. e) ps t.1.0;
          apart = t.1.1.0;
        }
      where
        some : (eqb (length ls) 1 ≡ true) ⊎ All (Nonempty Pg img) ls → (length ls ≡ 1) ⊎ All (Nonempty Pg img) ls
        some (inl e) = inl (eqb-true (length ls) 1 e)
        some (inr f) = inr f

    pub facts-tree_in : TreeIn Pg img h root → tree_in Pg img h root ≡ true
    unfolding tree_in
    facts-tree_in t =
        all-every _ (
          facts-under (eqb (length ls) 1) img h 0 (suc top_key) root t.under (some t.filled),
          (true-all_b (is_page (page_count img)) (λ (p : ℕ). is_page (page_count img) p ≡ true) (λ p e. e) ps t.inside, (t.apart, tt)),
        )
      where
        some : (length ls ≡ 1) ⊎ All (Nonempty Pg img) ls → (eqb (length ls) 1 ≡ true) ⊎ All (Nonempty Pg img) ls
        some (inl e) = inl (eq-eqb (length ls) 1 e)
        some (inr f) = inr f
