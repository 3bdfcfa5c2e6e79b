-- An accepted list of edits leaves a changed place: another root, or another header of a page reached before and after.
-- Assumes nothing.
use Prim.Native.Nat.{ℕ, zero, suc, ◌+◌, ◌-◌, ◌*◌, ◌≤◌, ◌<◌}
use mathlib.Core.Path.{◌≡◌, refl, sym, ap, ◌∙◌, subst}
use mathlib.Core.Logic.{◌⊎◌, inl, inr}
use mathlib.Core.Bool.{Bool, true, false, ◌&&◌}
use mathlib.Core.List.{List, [], ◌∷◌}
use native.Mathlib.Omega.{arith}
use lib.ListN.{length, drop}
use lib.Seq.{take-take}
use lib.Dec.{eqb}
use borrow.Author.Tests.{eqb-true, eqb-false}
use Rattle.codec.specs.Lists.{part, eqs, pick, All}
use Rattle.codec.specs.Numbers.{number}
use Rattle.codec.proofs.Tests.{eqs-differ}
use Rattle.page.specs.Layout.{page_size, line_size, Rec, read_head}
use Rattle.page.specs.Page.{records}
use Rattle.page.specs.Operations.{page_of}
use Rattle.page.specs.PageFormat.{PageFormat, Lower, format1}
use Rattle.page.proofs.Listed.{count_at}
use Rattle.page.proofs.Format1.{format1-sinks}
use Rattle.image.specs.PageZero.{page_count, root_of}
use Rattle.image.specs.Image.{child_of, records_at, joined, gathered, pages_in, height_of, reached, among, sound, hit, count}
use Rattle.image.proofs.General.{part-part}
use Rattle.image.proofs.Times.{hit-self, hit_other, count-append, count-among}
use Rattle.edit.specs.EditList.{Edit}
use Rattle.edit.specs.Reads.{Proper}
use Rattle.edit.proofs.General.{by-test}
use Rattle.journal.specs.Changes.{header_line, changed_from, changed_pages, same_root}
use Rattle.tree.specs.State.{State, begin}
use Rattle.tree.specs.Whole.{finished, edits_on, edited_image}
use Rattle.tree.proofs.Counts.{inside-most, inside-range}
use Rattle.tree.proofs.Runs.{Run, begin-good, edits-run}
use Rattle.tree.proofs.SameTree.{same-height, own-page}
use Rattle.tree.proofs.Touched.{Touch, edits-touch}
use Rattle.tree.proofs.Accepted.{reached-page, reached-are, root_is}

-- ---- a header that has sunk is another header

pub line-page : (img : List ℕ) (p : ℕ) → header_line img p ≡ part (page_of img p) 0 line_size
unfolding header_line page_of part
line-page img p = sym (take-take line_size page_size (drop (page_size * p) img) (omega arith))

line-start : (p : List ℕ) → (read_head p).start ≡ number (part (part p 0 line_size) 2 2)
unfolding read_head
line-start p = ap number (sym (part-part p 0 line_size 2 2 (omega arith)))

line-count : (p : List ℕ) → length (records p) ≡ number (part (part p 0 line_size) 0 2)
line-count p = sym (ap number (part-part p 0 line_size 0 2 (omega arith)) ∙ count_at p)

pub lower-differs : (p q : List ℕ) → Lower p q → part p 0 line_size ≡ part q 0 line_size → ⊥
lower-differs p q l e =
    let start : (read_head p).start ≡ (read_head q).start = line-start p ∙ ap (λ (x : List ℕ). number (part x 2 2)) e ∙ sym (line-start q) in
    let few : length (records p) ≡ length (records q) = line-count p ∙ ap (λ (x : List ℕ). number (part x 0 2)) e ∙ sym (line-count q) in
    go start few l
  where
    go : (read_head p).start ≡ (read_head q).start → length (records p) ≡ length (records q) → Lower p q → ⊥
    go a b (inl h) = omega arith
    go a b (inr h) = omega (arith, h.1)

-- ---- it is among the changed pages

changed-some : (before after a w : List ℕ) (n p x : ℕ) → p ≤ x → x < p + n → among x before ≡ true → among x after ≡ true → (header_line a x ≡ header_line w x → ⊥) →
    1 ≤ length (changed_from before after a w n p)
unfolding changed_from
changed-some before after a w zero p x low high b f d = absurd (omega arith)
changed-some before after a w (suc n) p x low high b f d = go (eqb x p) refl (λ l. changed-some before after a w n (suc p) x l)
  where
    rest : List ℕ
    rest = changed_from before after a w n (suc p)

    go : (t : Bool) → eqb x p ≡ t → (suc p ≤ x → x < suc p + n → among x before ≡ true → among x after ≡ true → (header_line a x ≡ header_line w x → ⊥) → 1 ≤ length rest) →
        1 ≤ length (pick (among p before && among p after) (pick (eqs (header_line a p) (header_line w p)) rest (p ∷ rest)) rest)
    go true e k =
        let z : x ≡ p = eqb-true x p e in
        rw (← z, b, f, eqs-differ (header_line a x) (header_line w x) d) (omega arith)
    go false e k =
        let r : 1 ≤ length rest = k (omega (arith, eqb-false x p e)) (omega arith) b f d in
        by-test (λ (l : List ℕ). 1 ≤ length l) (among p before && among p after) (λ c. by-test (λ (l : List ℕ). 1 ≤ length l) (eqs (header_line a p) (header_line w p)) (λ c. r) (λ c. omega arith)) (λ c. r)

-- ---- a page that has sunk, reached before and after

hit-is : (x q : ℕ) → 1 ≤ hit x q → x ≡ q
hit-is x q h = go (eqb x q) refl
  where
    go : (b : Bool) → eqb x q ≡ b → x ≡ q
    go true e = eqb-true x q e
    go false e = absurd (omega (arith, hit_other x q (eqb-false x q e)))

module _ (Pg : PageFormat) (Sunken : List ℕ → List ℕ → Type 0) (a w : List ℕ) where
  -- a page of ps and of qs has sunk from a to w
  pub record InBoth (ps qs : List ℕ) : Type 0 where
    pub page : ℕ
    pub before : 1 ≤ count page ps
    pub after : 1 ≤ count page qs
    pub lower : Sunken (page_of a page) (page_of w page)

  -- a page is as it was, or has sunk
  abbrev pub Stayed : ℕ → Type 0
  Stayed x = (page_of w x ≡ page_of a x) ⊎ Sunken (page_of a x) (page_of w x)

  -- page x, which page q of height h reached, has sunk: so, of the pages on the way to it, has the first that is not as it was
  pub sunk-both : (h q x : ℕ) → ((y : ℕ) → 1 ≤ count y (pages_in Pg a h q) → Stayed y) → 1 ≤ count x (pages_in Pg a h q) → Sunken (page_of a x) (page_of w x) →
      InBoth (pages_in Pg a h q) (pages_in Pg w h q)
  unfolding pages_in gathered
  sunk-both zero q x f k l =
      record { page = q; before = omega (arith, hit-self q); after = omega (arith, hit-self q); lower = subst (λ (y : ℕ). Sunken (page_of a y) (page_of w y)) (hit-is x q (omega arith)) l }
  sunk-both (suc h) q x f k l = go (f q (omega (arith, hit-self q))) (λ y g m. sunk-both h y x g m l)
    where
      own : Sunken (page_of a q) (page_of w q) → InBoth (pages_in Pg a (suc h) q) (pages_in Pg w (suc h) q)
      own s = record { page = q; before = omega (arith, hit-self q); after = omega (arith, hit-self q); lower = s }

      -- under the pages that cs name
      each : (cs : List Rec) → ((y : ℕ) → 1 ≤ count y (joined (λ z. pages_in Pg a h z) cs) → Stayed y) → 1 ≤ count x (joined (λ z. pages_in Pg a h z) cs) →
          ((y : ℕ) → ((z : ℕ) → 1 ≤ count z (pages_in Pg a h y) → Stayed z) → 1 ≤ count x (pages_in Pg a h y) → InBoth (pages_in Pg a h y) (pages_in Pg w h y)) →
          InBoth (joined (λ z. pages_in Pg a h z) cs) (joined (λ z. pages_in Pg w h z) cs)
      each [] f k r = absurd (omega arith)
      each (c ∷ cs) f k r = here (count x (pages_in Pg a h (child_of c))) refl (λ g m. each cs g m r)
        where
          both : (y : ℕ) → count y (joined (λ z. pages_in Pg a h z) (c ∷ cs)) ≡ count y (pages_in Pg a h (child_of c)) + count y (joined (λ z. pages_in Pg a h z) cs)
          both y = count-append y (pages_in Pg a h (child_of c)) (joined (λ z. pages_in Pg a h z) cs)

          after : (y : ℕ) → count y (joined (λ z. pages_in Pg w h z) (c ∷ cs)) ≡ count y (pages_in Pg w h (child_of c)) + count y (joined (λ z. pages_in Pg w h z) cs)
          after y = count-append y (pages_in Pg w h (child_of c)) (joined (λ z. pages_in Pg w h z) cs)

          here : (m : ℕ) → count x (pages_in Pg a h (child_of c)) ≡ m →
              (((y : ℕ) → 1 ≤ count y (joined (λ z. pages_in Pg a h z) cs) → Stayed y) → 1 ≤ count x (joined (λ z. pages_in Pg a h z) cs) → InBoth (joined (λ z. pages_in Pg a h z) cs) (joined (λ z. pages_in Pg w h z) cs)) →
              InBoth (joined (λ z. pages_in Pg a h z) (c ∷ cs)) (joined (λ z. pages_in Pg w h z) (c ∷ cs))
          here (suc m) e g =
              let B = r (child_of c) (λ y j. f y (omega (arith, both y))) (omega arith) in
              record { page = B.page; before = omega (arith, both B.page, B.before); after = omega (arith, after B.page, B.after); lower = B.lower }
          here zero e g =
              let B = g (λ y j. f y (omega (arith, both y))) (omega (arith, both x)) in
              record { page = B.page; before = omega (arith, both B.page, B.before); after = omega (arith, after B.page, B.after); lower = B.lower }

      go : Stayed q → ((y : ℕ) → ((z : ℕ) → 1 ≤ count z (pages_in Pg a h y) → Stayed z) → 1 ≤ count x (pages_in Pg a h y) → InBoth (pages_in Pg a h y) (pages_in Pg w h y)) →
          InBoth (pages_in Pg a (suc h) q) (pages_in Pg w (suc h) q)
      go (inr s) r = own s
      go (inl e) r = at (hit x q) refl
        where
          at : (m : ℕ) → hit x q ≡ m → InBoth (pages_in Pg a (suc h) q) (pages_in Pg w (suc h) q)
          at (suc m) z = own (subst (λ (y : ℕ). Sunken (page_of a y) (page_of w y)) (hit-is x q (omega arith)) l)
          at zero z =
              let B = each (records_at Pg a q) (λ y j. f y (omega arith)) (omega (arith, k)) r in
              let same : count B.page (joined (λ y. pages_in Pg w h y) (records_at Pg w q)) ≡ count B.page (joined (λ y. pages_in Pg w h y) (records_at Pg a q)) =
              ap (λ (p : List ℕ). count B.page (joined (λ y. pages_in Pg w h y) (Pg.recs p))) e in
              record { page = B.page; before = omega (arith, B.before); after = omega (arith, same, B.after); lower = B.lower }

-- ---- the changed place

module _ (a : List ℕ) (h : sound a ≡ true) (e : Edit) (es : List Edit) (P : All Proper (e ∷ es)) (st : State) (q : edits_on a (e ∷ es) ≡ finished st) where
  abbrev w : List ℕ
  w = edited_image a st

  abbrev F : List ℕ
  F = (begin a).free

  R : Run (page_count a) F (e ∷ es) (begin a) st
  R = edits-run a h (e ∷ es) P st q

  -- a page reached before and after whose header has sunk
  page-changed : (x : ℕ) → 1 ≤ count x (reached a (root_of a)) → 1 ≤ count x (reached st.image st.root) → Lower (page_of a x) (page_of st.image x) → 1 ≤ length (changed_pages a w)
  unfolding changed_pages begin reached
  page-changed x b f l =
      let n = page_count a in
      let G = begin-good a h in
      let range = inside-range n x (omega (arith, G.apart x)) in
      let differs : header_line a x ≡ header_line w x → ⊥ =
      λ z.
      lower-differs (page_of a x) (page_of st.image x) l
      (sym (line-page a x) ∙ z ∙ line-page w x ∙ ap (λ (p : List ℕ). part p 0 line_size) (reached-page a h (e ∷ es) st R x f)) in
      changed-some (reached a (root_of a)) (reached w (root_of w)) a w (n - 1) 1 x range.0 (omega (arith, range.1)) (count-among x (reached a (root_of a)) b)
      (rw (reached-are a h (e ∷ es) st R) (count-among x (reached st.image st.root) f)) differs

  -- another root
  root-changed : (st.root ≡ root_of a → ⊥) → same_root a w ≡ false
  unfolding same_root root_of
  root-changed k = eqs-differ (part a 8 8) (part w 8 8) (λ z. k (sym (root_is a h (e ∷ es) st R) ∙ ap number (sym z)))

  pub place-changed : (1 ≤ length (changed_pages a (edited_image a st))) ⊎ (same_root a (edited_image a st) ≡ false)
  unfolding begin reached
  place-changed = go (edits-touch a h e es P st q)
    where
      r : ℕ
      r = root_of a

      not_free : (x : ℕ) → 1 ≤ count x (pages_in format1 a (height_of a (root_of a)) (root_of a)) → count x F ≡ 0
      not_free x k = omega (arith, (begin-good a h).apart x, inside-most (page_count a) x)

      stayed : (x : ℕ) → 1 ≤ count x (pages_in format1 a (height_of a (root_of a)) (root_of a)) → Stayed format1 Lower a st.image x
      stayed x k = (R.leads.old x (not_free x k)).sinks

      own : 1 ≤ count (root_of a) (pages_in format1 a (height_of a (root_of a)) (root_of a))
      own = own-page format1 a (height_of a (root_of a)) (root_of a)

      reaches : st.root ≡ root_of a → (x : ℕ) → 1 ≤ count x (pages_in format1 st.image (height_of st.image (root_of a)) (root_of a)) →
          1 ≤ count x (pages_in format1 st.image (height_of st.image st.root) st.root)
      reaches z x k = subst (λ (y : ℕ). 1 ≤ count x (pages_in format1 st.image (height_of st.image y) y)) (sym z) k

      -- the root is the same: its page has sunk, or it is as it was, and so is its height
      under : st.root ≡ root_of a → (x : ℕ) → 1 ≤ count x (pages_in format1 a (height_of a (root_of a)) (root_of a)) → Lower (page_of a x) (page_of st.image x) → Stayed format1 Lower a st.image (root_of a) →
          1 ≤ length (changed_pages a w)
      under z x k l (inr low) = page-changed r own (reaches z r (own-page format1 st.image (height_of st.image r) r)) low
      under z x k l (inl same) =
          let B = sunk-both format1 Lower a st.image (height_of a r) r x stayed k l in
          let height : height_of st.image r ≡ height_of a r = same-height format1 a st.image r same in
          page-changed B.page B.before (reaches z B.page (subst (λ (k : ℕ). 1 ≤ count B.page (pages_in format1 st.image k r)) (sym height) B.after)) B.lower

      go : Touch format1 format1-sinks F (begin a) st → (1 ≤ length (changed_pages a w)) ⊎ (same_root a w ≡ false)
      go (inl k) = inr (root-changed (λ z. omega (arith, not_free r own, ap (λ (x : ℕ). count x F) z)))
      go (inr k) = inl (under k.0 k.1.page k.1.there k.1.lower (stayed r own))
