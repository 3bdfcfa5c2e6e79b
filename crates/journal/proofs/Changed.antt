-- The changed headers: which pages they are, that each says its own page, and that no other header differs.
-- Assumes nothing.
use Prim.Native.Nat.{ℕ, zero, suc, ◌+◌, ◌-◌, ◌*◌, ◌≤◌, ◌<◌}
use mathlib.Core.Path.{◌≡◌, refl, sym, ap, ◌∙◌, subst}
use mathlib.Core.Logic.{◌⊎◌, inl, inr}
use mathlib.Core.Bool.{Bool, true, false, ◌&&◌, ◌||◌, or-true, true≢false}
use mathlib.Core.List.{List, [], ◌∷◌}
use native.Mathlib.Decide.{dec_lt}
use native.Mathlib.Omega.{arith}
use lib.Dec.{eqb}
use borrow.Author.Tests.{eq-eqb, ne_eqb}
use Rattle.codec.specs.Lists.{eqs, pick, All}
use Rattle.codec.specs.Numbers.{number}
use Rattle.codec.proofs.Tests.{both, first, second, All-map, eqs-true}
use Rattle.page.specs.Layout.{page_size, line_size, read_head}
use Rattle.page.specs.Operations.{page_of}
use Rattle.page.proofs.Facts.{page_ok-true}
use Rattle.image.specs.PageZero.{page_count, is_page, root_of}
use Rattle.image.specs.Image.{reached, among, distinct, sound}
use Rattle.image.proofs.General.{part-part}
use Rattle.image.proofs.Zero.{is_page-true, true-is_page, ready-facts}
use Rattle.image.proofs.Soundness.{sound-tree_in}
use Rattle.image.proofs.Frame.{Reached, tree_in-reached}
use Rattle.journal.specs.Changes.{header_line, changed_from, changed_pages}
use Rattle.journal.specs.Log.{own_page}

-- ---- the pages that a sound image reaches

module _ (img : List ℕ) (s : sound img ≡ true) (p : ℕ) (h : among p (reached img (root_of img)) ≡ true) where
  reached-facts : Reached img p
  reached-facts = tree_in-reached img (root_of img) (sound-tree_in img s) p h

  pub reached-page : is_page (page_count img) p ≡ true
  reached-page = reached-facts.page

  -- "its own number"
  pub reached-own : own_page (header_line img p) ≡ p
  unfolding own_page header_line read_head page_of
  reached-own =
      ap number (part-part img (page_size * p) line_size 6 2 (omega arith) ∙ sym (part-part img (page_size * p) page_size 6 2 (omega arith)))
      ∙ (page_ok-true reached-facts.kind p (page_of img p) reached-facts.ok).own

-- ---- of the pages from p on

module _ (before after a w : List ℕ) where
  abbrev from : ℕ → ℕ → List ℕ
  from n p = changed_from before after a w n p

  abbrev Passed : ℕ → Type 0
  Passed p = ((among p before && among p after) ≡ false) ⊎ (header_line a p ≡ header_line w p)

  -- what holds of the empty list, is kept past a page that is not listed, and by one that is, holds of the list
  pub from_all : (P : ℕ → ℕ → List ℕ → Type 0) →
      ((p : ℕ) → P zero p []) →
      ((n p : ℕ) (qs : List ℕ) → Passed p → P n (suc p) qs → P (suc n) p qs) →
      ((n p : ℕ) (qs : List ℕ) → (among p before && among p after) ≡ true → P n (suc p) qs → P (suc n) p (p ∷ qs)) →
      (n p : ℕ) → P n p (from n p)
  unfolding changed_from
  from_all P none past listed zero p = none p
  from_all P none past listed (suc n) p =
      go (among p before && among p after) refl (eqs (header_line a p) (header_line w p)) refl (from_all P none past listed n (suc p))
    where
      rest : List ℕ
      rest = from n (suc p)

      go : (t : Bool) → (among p before && among p after) ≡ t → (u : Bool) → eqs (header_line a p) (header_line w p) ≡ u → P n (suc p) rest → P (suc n) p (pick t (pick u rest (p ∷ rest)) rest)
      go false e u f h = past n p rest (inl e) h
      go true e true f h = past n p rest (inr (eqs-true _ _ f)) h
      go true e false f h = listed n p rest e h

  abbrev pub In : ℕ → ℕ → ℕ → Type 0
  In low high q = (low ≤ q) × (q < high) × (among q before ≡ true) × (among q after ≡ true)

  absent : (p high : ℕ) (qs : List ℕ) → All (In (suc p) high) qs → among p qs ≡ false
  unfolding among
  absent p high [] h = refl
  absent p high (q ∷ qs) h = rw (ne_eqb p q (λ e. omega (arith, h.0.0)), absent p high qs h.1)

  from_in : (n p : ℕ) → All (In p (p + n)) (from n p) × (distinct (from n p) ≡ true)
  unfolding distinct
  from_in = from_all P (λ p. (tt, refl)) past listed
    where
      P : ℕ → ℕ → List ℕ → Type 0
      P n p qs = All (In p (p + n)) qs × (distinct qs ≡ true)

      wider : (n p q : ℕ) → In (suc p) (suc p + n) q → In p (p + suc n) q
      wider n p q h = (omega (arith, h.0), omega (arith, h.1), h.2, h.3)

      past : (n p : ℕ) (qs : List ℕ) → Passed p → P n (suc p) qs → P (suc n) p qs
      past n p qs q h = (All-map (In (suc p) (suc p + n)) (In p (p + suc n)) (wider n p) qs h.0, h.1)

      listed : (n p : ℕ) (qs : List ℕ) → (among p before && among p after) ≡ true → P n (suc p) qs → P (suc n) p (p ∷ qs)
      listed n p qs e h = (
        (
          (omega arith, omega arith, first (among p before) (among p after) e, second (among p before) (among p after) e),
          All-map (In (suc p) (suc p + n)) (In p (p + suc n)) (wider n p) qs h.0,
        ),
        rw (absent p (suc p + n) qs h.0, h.1),
      )

  -- a page reached before and after is listed, or its header does not differ
  from-covers : (q : ℕ) → (among q before && among q after) ≡ true → (n p : ℕ) → p ≤ q → q < p + n → (header_line a q ≡ header_line w q) ⊎ (among q (from n p) ≡ true)
  unfolding among
  from-covers q reached n p = from_all P (λ p low high. absurd (omega arith)) past listed n p
    where
      P : ℕ → ℕ → List ℕ → Type 0
      P n p qs = p ≤ q → q < p + n → (header_line a q ≡ header_line w q) ⊎ (among q qs ≡ true)

      past : (n p : ℕ) (qs : List ℕ) → Passed p → P n (suc p) qs → P (suc n) p qs
      past n p qs u h low high = go (dec_lt p q) u
        where
          go : Dec (p < q) → Passed p → (header_line a q ≡ header_line w q) ⊎ (among q qs ≡ true)
          go (yes k) v = h k (omega arith)
          go (no k) (inl e) =
              let here : p ≡ q = omega arith in
              absurd (true≢false (sym reached ∙ ap (λ (r : ℕ). among r before && among r after) (sym here) ∙ e))
          go (no k) (inr e) = let here : p ≡ q = omega arith in inl (subst (λ (r : ℕ). header_line a r ≡ header_line w r) here e)

      listed : (n p : ℕ) (qs : List ℕ) → (among p before && among p after) ≡ true → P n (suc p) qs → P (suc n) p (p ∷ qs)
      listed n p qs e h low high = go (dec_lt p q)
        where
          more : (header_line a q ≡ header_line w q) ⊎ (among q qs ≡ true) → (header_line a q ≡ header_line w q) ⊎ ((eqb q p || among q qs) ≡ true)
          more (inl k) = inl k
          more (inr k) = inr (rw k (or-true (eqb q p)))

          go : Dec (p < q) → (header_line a q ≡ header_line w q) ⊎ ((eqb q p || among q qs) ≡ true)
          go (yes k) = more (h k (omega arith))
          go (no k) = inr (rw (eq-eqb q p (omega arith)))

-- ---- the changed pages of a transaction

-- page p is reached before and after
pub record InBoth (a w : List ℕ) (p : ℕ) : Type 0 where
  pub page : is_page (page_count a) p ≡ true
  pub was : among p (reached a (root_of a)) ≡ true
  pub stays : among p (reached w (root_of w)) ≡ true

module _ (a w : List ℕ) where
  pub changed-both : 1 ≤ page_count a → All (InBoth a w) (changed_pages a w)
  unfolding changed_pages
  changed-both some =
      let before = reached a (root_of a) in
      let after = reached w (root_of w) in
      All-map (In before after a w 1 (1 + (page_count a - 1))) (InBoth a w) (λ p h. record { page = true-is_page (page_count a) p h.0 (omega (arith, h.1)); was = h.2; stays = h.3 })
      (changed_pages a w) (from_in before after a w (page_count a - 1) 1).0

  pub changed-distinct : distinct (changed_pages a w) ≡ true
  unfolding changed_pages
  changed-distinct = (from_in (reached a (root_of a)) (reached w (root_of w)) a w (page_count a - 1) 1).1

  -- no other header differs
  pub changed-all : (p : ℕ) → InBoth a w p → (header_line a p ≡ header_line w p) ⊎ (among p (changed_pages a w) ≡ true)
  unfolding changed_pages
  changed-all p h =
      let q = is_page-true (page_count a) p h.page in
      from-covers (reached a (root_of a)) (reached w (root_of w)) a w p (both h.was h.stays) (page_count a - 1) 1 q.0 (omega arith)
