-- A page above another: what is known of the page below it, and of the pages beside that one.
-- Assumes nothing.
use Prim.Native.Nat.{ℕ, suc, ◌+◌, ◌*◌, ◌≤◌, ◌<◌}
use mathlib.Core.Path.{◌≡◌, refl, ap, ◌∙◌, subst}
use mathlib.Core.Logic.{◌⊎◌, inl, inr}
use mathlib.Core.Bool.{Bool, true}
use mathlib.Core.List.{List, [], ◌∷◌, ◌++◌}
use native.Mathlib.Omega.{arith}
use lib.ListN.{length, length-append}
use Rattle.codec.specs.Lists.{All}
use Rattle.codec.proofs.Tests.{All-map}
use Rattle.page.specs.Layout.{Rec, page_size, top_key}
use Rattle.page.specs.Operations.{page_of}
use Rattle.page.specs.Page.{form_ok}
use Rattle.page.proofs.Facts.{form-index, index-form}
use Rattle.page.specs.PageFormat.{PageFormat, Rules}
use Rattle.image.specs.Facts.{Nonempty, Rising, Spans, Under}
use Rattle.image.specs.Image.{Entries, IsEntry, child_of, first_key, gathered, joined, leaves_in, pages_in, records_at, start_of, count, hit}
use Rattle.image.proofs.Alike.{leaves-some}
use Rattle.image.proofs.General.{All-left}
use Rattle.image.proofs.Ranges.{first-least, first-most, joined-append, spans-cut}
use Rattle.image.proofs.Rising.{rising_le, rising-split}
use Rattle.image.proofs.Times.{count-append}
use Rattle.edit.proofs.General.{all_right}
use Rattle.tree.specs.Good.{inside}
use Rattle.tree.specs.State.{State}
use Rattle.tree.proofs.Counts.{count-joined}
use Rattle.tree.proofs.Settle.{Forms}

pub entry-forms : (h : ℕ) (rs : List Rec) → Entries rs → Forms (suc h) rs
entry-forms h rs e = All-map IsEntry (λ (r : Rec). form_ok (suc (suc h)) r ≡ true) (form-index h) rs e

pub form-entries : (h : ℕ) (rs : List Rec) → Forms (suc h) rs → Entries rs
form-entries h rs e = All-map (λ (r : Rec). form_ok (suc (suc h)) r ≡ true) IsEntry (index-form h) rs e

module _ (Pg : PageFormat) where
  -- the page of the record c, of height h, and all under it stand for the range lo to hi in the state st
  pub record Here (n : ℕ) (F : List ℕ) (only : Bool) (st : State) (h lo hi : ℕ) (c : Rec) : Type 0 where
    pub few : n ≤ 64
    pub long : length st.image ≡ page_size * n
    pub sub : (x : ℕ) → count x st.free ≤ count x F
    pub high : hi ≤ suc top_key
    pub under : Under Pg st.image h lo hi (child_of c)
    pub apart : (x : ℕ) → count x (pages_in Pg st.image h (child_of c)) + count x st.free ≤ inside n x
    pub entry : IsEntry c
    pub low : lo ≤ c.key
    pub below : c.key < hi
    -- no leaf is empty unless it is the only one
    pub full : All (Nonempty Pg st.image) (leaves_in Pg st.image h (child_of c)) ⊎ (only ≡ true)
    pub alone : only ≡ true → length (leaves_in Pg st.image h (child_of c)) ≡ 1

  -- ---- the page of c₀, of height h + 1, whose records are pre, c and post

  -- all that is known of it
  pub record Parts (n : ℕ) (F : List ℕ) (only : Bool) (st : State) (h lo hi : ℕ) (c₀ : Rec) (pre : List Rec) (c : Rec) (post : List Rec) : Type 0 where
    pub shape : records_at Pg st.image (child_of c₀) ≡ pre ++ c ∷ post
    -- its pages are its own, those under pre, those under c and those under post
    pub pages : (x : ℕ) → hit x (child_of c₀) + (count x (joined (λ y. pages_in Pg st.image h y) pre) + (count x (pages_in Pg st.image h (child_of c)) + count x (joined (λ y. pages_in Pg st.image h y) post)))
        ≡ count x (pages_in Pg st.image (suc h) (child_of c₀))
    pub leaves : length (leaves_in Pg st.image (suc h) (child_of c₀))
        ≡ length (joined (λ y. leaves_in Pg st.image h y) pre) + (length (leaves_in Pg st.image h (child_of c)) + length (joined (λ y. leaves_in Pg st.image h y) post))
    pub cut : Rising lo pre c.key × Rising c.key (c ∷ post) hi
    pub spans : Spans (λ a b x. Under Pg st.image h a b x) lo pre c.key × Spans (λ a b x. Under Pg st.image h a b x) (start_of pre lo c.key) (c ∷ post) hi
    pub below : c.key < first_key post hi
    pub entries : Entries (pre ++ c ∷ post)
    pub most : length (pre ++ c ∷ post) ≤ Pg.cap
    pub some : 1 ≤ length (leaves_in Pg st.image h (child_of c))
    -- no leaf beside the child is empty
    pub beside : All (Nonempty Pg st.image) (joined (λ y. leaves_in Pg st.image h y) pre) × All (Nonempty Pg st.image) (joined (λ y. leaves_in Pg st.image h y) post)
    pub child : Here n F only st h (start_of pre lo c.key) (first_key post hi) c

module _ (Pg : PageFormat) (rules : Rules Pg) where
  -- the pages of a page with what is under it
  pages-in : (img : List ℕ) (h q : ℕ) → pages_in Pg img (suc h) q ≡ q ∷ joined (λ y. pages_in Pg img h y) (records_at Pg img q)
  unfolding pages_in gathered
  pages-in img h q = refl

  module _ (n : ℕ) (F : List ℕ) (only : Bool) (st : State) (h lo hi : ℕ) (c₀ : Rec) (H : Here Pg n F only st (suc h) lo hi c₀) (pre : List Rec) (c : Rec) (post : List Rec)
      (shape : records_at Pg st.image (child_of c₀) ≡ pre ++ c ∷ post) where
    abbrev q : ℕ
    q = child_of c₀

    -- the pages are q, those under pre, those under c and those under post
    pages-here : (x : ℕ) → hit x (child_of c₀) + (count x (joined (λ y. pages_in Pg st.image h y) pre) + (count x (pages_in Pg st.image h (child_of c)) + count x (joined (λ y. pages_in Pg st.image h y) post)))
        ≡ count x (pages_in Pg st.image (suc h) (child_of c₀))
    pages-here x =
        omega (
          arith,
          ap (count x) (pages-in st.image h q),
          ap (λ (l : List Rec). count x (joined (λ y. pages_in Pg st.image h y) l)) shape,
          count-joined (λ y. pages_in Pg st.image h y) x pre (c ∷ post),
          count-append x (pages_in Pg st.image h (child_of c)) (joined (λ y. pages_in Pg st.image h y) post),
        )

    -- separators and pages, before, at and after c
    seps : Rising lo (pre ++ c ∷ post) hi
    seps = subst (λ (l : List Rec). Rising lo l hi) shape H.under.0.rising

    cut : Rising lo pre c.key × Rising c.key (c ∷ post) hi
    cut = rising-split lo pre (c ∷ post) hi seps

    spans : Spans (λ a b x. Under Pg st.image h a b x) lo pre c.key × Spans (λ a b x. Under Pg st.image h a b x) (start_of pre lo c.key) (c ∷ post) hi
    spans = spans-cut (λ a b x. Under Pg st.image h a b x) lo pre (c ∷ post) hi (subst (λ (l : List Rec). Spans (λ a b x. Under Pg st.image h a b x) lo l hi) shape H.under.1.1)

    -- the leaves likewise
    leaves-here : leaves_in Pg st.image (suc h) (child_of c₀) ≡ joined (λ y. leaves_in Pg st.image h y) pre ++ (leaves_in Pg st.image h (child_of c) ++ joined (λ y. leaves_in Pg st.image h y) post)
    unfolding leaves_in gathered
    leaves-here = ap (λ (l : List Rec). joined (λ y. leaves_in Pg st.image h y) l) shape ∙ joined-append (λ y. leaves_in Pg st.image h y) pre (c ∷ post)

    leaves-length : length (leaves_in Pg st.image (suc h) (child_of c₀))
        ≡ length (joined (λ y. leaves_in Pg st.image h y) pre) + (length (leaves_in Pg st.image h (child_of c)) + length (joined (λ y. leaves_in Pg st.image h y) post))
    leaves-length =
        ap length leaves-here
        ∙ omega (
          arith,
          length-append (joined (λ y. leaves_in Pg st.image h y) pre) (leaves_in Pg st.image h (child_of c) ++ joined (λ y. leaves_in Pg st.image h y) post),
          length-append (leaves_in Pg st.image h (child_of c)) (joined (λ y. leaves_in Pg st.image h y) post),
        )

    child-some : 1 ≤ length (leaves_in Pg st.image h (child_of c))
    child-some = leaves-some Pg st.image h (start_of pre lo c.key) (first_key post hi) (child_of c) spans.1.0

    sep-below : c.key < first_key post hi
    sep-below = first-least (suc c.key) post hi cut.1.1

    low-sep : start_of pre lo c.key ≤ c.key
    low-sep = go pre (rising_le lo pre c.key cut.0)
      where
        go : (ps : List Rec) → lo ≤ c.key → start_of ps lo c.key ≤ c.key
        go [] e = e
        go (p ∷ ps) e = omega arith

    entries-here : Entries (pre ++ c ∷ post)
    entries-here =
        form-entries h (pre ++ c ∷ post) (subst (Forms (suc h)) shape (rules.reads.ok-true (suc (suc h)) q (page_of st.image q) H.under.0.page).forms)

    child-full : All (Nonempty Pg st.image) (leaves_in Pg st.image (suc h) (child_of c₀)) ⊎ (only ≡ true) → All (Nonempty Pg st.image) (leaves_in Pg st.image h (child_of c)) ⊎ (only ≡ true)
    child-full (inl a) =
        let s = subst (All (Nonempty Pg st.image)) leaves-here a in
        inl (All-left (Nonempty Pg st.image) (leaves_in Pg st.image h (child_of c)) (joined (λ y. leaves_in Pg st.image h y) post)
        (all_right (Nonempty Pg st.image) (joined (λ y. leaves_in Pg st.image h y) pre) (leaves_in Pg st.image h (child_of c) ++ joined (λ y. leaves_in Pg st.image h y) post) s))
    child-full (inr z) = inr z

    -- the child
    child-here : Here Pg n F only st h (start_of pre lo c.key) (first_key post hi) c
    child-here =
        record {
          few = H.few;
          long = H.long;
          sub = H.sub;
          high = omega (arith, H.high, first-most (suc c.key) post hi cut.1.1);
          under = spans.1.0;
          apart = λ x. omega (arith, H.apart x, pages-here x);
          entry = (all_right IsEntry pre (c ∷ post) entries-here).0;
          low = low-sep;
          below = sep-below;
          full = child-full H.full;
          alone = λ z. omega (arith, H.alone z, leaves-length, child-some);
        }

    empty-all : (img : List ℕ) (l : List ℕ) → length l ≡ 0 → All (Nonempty Pg img) l
    empty-all img [] z = tt
    empty-all img (x ∷ l) z = absurd (omega arith)

    beside : All (Nonempty Pg st.image) (joined (λ y. leaves_in Pg st.image h y) pre) × All (Nonempty Pg st.image) (joined (λ y. leaves_in Pg st.image h y) post)
    beside = go H.full
      where
        go : All (Nonempty Pg st.image) (leaves_in Pg st.image (suc h) q) ⊎ (only ≡ true) →
            All (Nonempty Pg st.image) (joined (λ y. leaves_in Pg st.image h y) pre) × All (Nonempty Pg st.image) (joined (λ y. leaves_in Pg st.image h y) post)
        go (inl a) =
            let s = subst (All (Nonempty Pg st.image)) leaves-here a in
            let r = all_right (Nonempty Pg st.image) (joined (λ y. leaves_in Pg st.image h y) pre) (leaves_in Pg st.image h (child_of c) ++ joined (λ y. leaves_in Pg st.image h y) post) s in (
              All-left (Nonempty Pg st.image) (joined (λ y. leaves_in Pg st.image h y) pre) (leaves_in Pg st.image h (child_of c) ++ joined (λ y. leaves_in Pg st.image h y) post) s,
              all_right (Nonempty Pg st.image) (leaves_in Pg st.image h (child_of c)) (joined (λ y. leaves_in Pg st.image h y) post) r,
            )
        go (inr z) = (
          empty-all st.image (joined (λ y. leaves_in Pg st.image h y) pre) (omega (arith, H.alone z, leaves-length, child-some)),
          empty-all st.image (joined (λ y. leaves_in Pg st.image h y) post) (omega (arith, H.alone z, leaves-length, child-some)),
        )

    most-here : length (pre ++ c ∷ post) ≤ Pg.cap
    most-here = omega (arith, ap length shape, rules.few (page_of st.image q) (rules.reads.ok-true (suc (suc h)) q (page_of st.image q) H.under.0.page).laid)

    pub parts : Parts Pg n F only st h lo hi c₀ pre c post
    parts =
        record {
          shape = shape;
          pages = pages-here;
          leaves = leaves-length;
          cut = cut;
          spans = spans;
          below = sep-below;
          entries = entries-here;
          most = most-here;
          some = child-some;
          beside = beside;
          child = child-here;
        }
