-- A page above a page that an edit has changed: what it takes from it leaves a sound tree over the same range, with the table that the edit makes.
-- Assumes nothing.
use Prim.Native.Nat.{ℕ, suc, ◌+◌, ◌-◌, ◌≤◌, ◌<◌}
use mathlib.Core.Path.{◌≡◌, refl, sym, ap, ap₂, ◌∙◌, subst}
use mathlib.Core.Logic.{◌⊎◌, inl, inr}
use mathlib.Core.Bool.{Bool, true, false, true≢false}
use mathlib.Core.List.{List, [], ◌∷◌, ◌++◌}
use native.Mathlib.Omega.{arith}
use lib.ListN.{length, length-append}
use lib.Dec.{leb}
use borrow.Author.Tests.{le-leb, leb-false, leb-true}
use Rattle.codec.specs.Lists.{All}
use Rattle.codec.proofs.Tests.{both}
use Rattle.page.specs.Layout.{Rec, line_size, page_size}
use Rattle.page.specs.Operations.{fits_in, page_of, sizes}
use Rattle.page.specs.PageFormat.{Lists, PageFormat, Rules}
use Rattle.image.specs.Facts.{Nonempty, Rising, Spans, Under}
use Rattle.image.specs.Image.{Entries, IsEntry, child_of, first_key, joined, leaves_in, pages_in, records_at, start_of, count, hit}
use Rattle.image.specs.Table.{table_in}
use Rattle.image.proofs.Alike.{AllAlike, all_alike, like, under-wide}
use Rattle.image.proofs.General.{All-append, All-left}
use Rattle.image.proofs.IndexRecords.{sizes-entries}
use Rattle.image.proofs.Ranges.{joined-append, rising-first}
use Rattle.image.proofs.Rising.{rising_le}
use Rattle.image.proofs.Times.{among-count, hit-self}
use Rattle.edit.proofs.General.{all_right}
use Rattle.tree.specs.Edits.{Change, absorbed, gone, kept, one, two}
use Rattle.tree.specs.State.{State}
use Rattle.tree.proofs.Absorb.{absorbed-out, newer}
use Rattle.tree.proofs.Change.{Held, Holds, NewIn, Out, SepsOk, Some, lists-sound, out-map, stand, raised}
use Rattle.tree.proofs.Child.{Here, Parts, entry-forms}
use Rattle.tree.proofs.Counts.{count-joined, inside-most}
use Rattle.tree.proofs.Puts.{Puts}
use Rattle.tree.proofs.Settle.{InnerFor, replaced-rising, replaced-spans, settled}
use Rattle.tree.proofs.States.{Leads, leads-free, leads-trans}

-- records that stand for one page
stand-most : (c : Rec) (low : ℕ) (ch : Change) → length (stand c low ch) ≤ 2
stand-most c low kept = omega arith
stand-most c low gone = omega arith
stand-most c low (one a) = omega arith
stand-most c low (two a k b) = omega arith

stand-two : (c : Rec) (low : ℕ) (ch : Change) → 2 ≤ length (stand c low ch) → raised ch ≡ 2
stand-two c low kept h = absurd (omega arith)
stand-two c low gone h = absurd (omega arith)
stand-two c low (one a) h = absurd (omega arith)
stand-two c low (two a k b) h = refl

module _ (Pg : PageFormat) (keep : ℕ → Pg.Keep) where
  -- t has the change ch of the page of the record c: what stands for it has the table rs, over the same range
  pub record Altered (n : ℕ) (F : List ℕ) (only : Bool) (st : State) (h lo hi : ℕ) (c : Rec) (rs : List Rec) (W : Type 0) (ch : Change) (t : State) : Type 0 where
    pub leads : Leads Pg keep F st t
    pub root : t.root ≡ st.root
    pub other : (x : ℕ) → count x (pages_in Pg st.image h (child_of c)) + count x st.free ≡ 0 → page_of t.image x ≡ page_of st.image x
    pub spans : Spans (λ a b x. Under Pg t.image h a b x) lo (stand c lo ch) hi
    pub seps : Rising lo (stand c lo ch) hi
    pub seps-ok : SepsOk lo ch
    pub entries : Entries (stand c lo ch)
    pub lists : joined (λ x. table_in Pg t.image h x) (stand c lo ch) ≡ rs
    pub pages : (x : ℕ) → count x (joined (λ y. pages_in Pg t.image h y) (stand c lo ch)) + count x t.free ≤ count x (pages_in Pg st.image h (child_of c)) + count x st.free
    pub fresh : NewIn st.free ch
    pub full : All (Nonempty Pg t.image) (joined (λ y. leaves_in Pg t.image h y) (stand c lo ch)) ⊎ ((only ≡ true) × (length (joined (λ y. leaves_in Pg t.image h y) (stand c lo ch)) ≡ 1))
    -- at most one leaf is lost, and not the only one
    pub lost : length (leaves_in Pg st.image h (child_of c)) ≤ suc (length (joined (λ y. leaves_in Pg t.image h y) (stand c lo ch)))
    pub stays : only ≡ true → ch ≡ gone → ⊥
    -- two pages stand for it only if W holds
    pub raises-two : raised ch ≡ 2 → W

module _ (Pg : PageFormat) (rules : Rules Pg) (keep : ℕ → Pg.Keep) where
  -- index records that have no room in one page are more than a page lists
  entries_over : (rs : List Rec) → Entries rs → fits_in Pg.cap rs ≡ false → Pg.cap < length rs
  entries_over rs e h = go (leb (length rs) Pg.cap) refl
    where
      go : (b : Bool) → leb (length rs) Pg.cap ≡ b → Pg.cap < length rs
      go true z =
          let few = leb-true (length rs) Pg.cap z in
          absurd (true≢false (sym (both z (le-leb (sizes rs) (page_size - line_size) (omega (arith, rules.cap-most, sizes-entries rs e)))) ∙ h))
      go false z = leb-false (length rs) Pg.cap z

  -- ---- the page of c₀, of height h + 1, whose records are pre, c and post, once the child is changed

  module _ (n : ℕ) (F : List ℕ) (only : Bool) (st : State) (h lo hi : ℕ) (c₀ : Rec) (H : Here Pg n F only st (suc h) lo hi c₀) (pre : List Rec) (c : Rec) (post : List Rec)
      (K : Parts Pg n F only st h lo hi c₀ pre c post) where
    abbrev q : ℕ
    q = child_of c₀

    abbrev low : ℕ
    low = start_of pre lo c.key

    module _ (rs : List Rec) (W : Type 0) (ch : Change) (t : State) (M : Altered Pg keep n F only st h (start_of pre lo c.key) (first_key post hi) c rs W ch t) where
      -- what becomes of the page of c₀
      abbrev Above : Change → State → Type 0
      Above d u =
          Altered Pg keep n F only st (suc h) lo hi c₀ (joined (λ x. table_in Pg st.image h x) pre ++ (rs ++ joined (λ x. table_in Pg st.image h x) post))
          ((Pg.cap ≤ length (records_at Pg st.image (child_of c₀))) × W) d u

      abbrev ds : List Rec
      ds = stand c low ch

      -- the page of c₀, and the pages under pre and post, are as they were
      before_same : AllAlike Pg st.image t.image h pre
      before_same =
          all_alike Pg st.image t.image h pre
          (λ x k. like Pg (page_of st.image x) (page_of t.image x) (M.other x (omega (arith, among-count x (joined (λ y. pages_in Pg st.image h y) pre) k, H.apart x, K.pages x, inside-most n x))))

      after_same : AllAlike Pg st.image t.image h post
      after_same =
          all_alike Pg st.image t.image h post
          (λ x k. like Pg (page_of st.image x) (page_of t.image x) (M.other x (omega (arith, among-count x (joined (λ y. pages_in Pg st.image h y) post) k, H.apart x, K.pages x, inside-most n x))))

      pub own_same : page_of t.image (child_of c₀) ≡ page_of st.image (child_of c₀)
      own_same = M.other q (omega (arith, H.apart q, K.pages q, inside-most n q, hit-self q))

      pub lists-own : Holds Pg t.image (suc (suc h)) (child_of c₀) (pre ++ c ∷ post)
      lists-own =
          let S = lists-sound Pg rules (suc (suc h)) q (page_of st.image q) H.under.0.page in
          record {
            lists =
                subst (λ (p : List ℕ). Lists Pg p (suc (suc h)) q (pre ++ c ∷ post)) (sym own_same)
                (record { laid = S.laid; kind = S.kind; own = S.own; recs = K.shape });
          }

      -- all pages of t that matter are distinct
      under-count : (x : ℕ) → count x (joined (λ y. pages_in Pg t.image h y) (pre ++ (ds ++ post)))
          ≡ count x (joined (λ y. pages_in Pg st.image h y) pre) + (count x (joined (λ y. pages_in Pg t.image h y) (ds)) + count x (joined (λ y. pages_in Pg st.image h y) post))
      under-count x =
          omega (
            arith,
            count-joined (λ y. pages_in Pg t.image h y) x pre (ds ++ post),
            count-joined (λ y. pages_in Pg t.image h y) x ds post,
            ap (count x) before_same.pages,
            ap (count x) after_same.pages,
          )

      -- where it stays within what was reached or free
      pub no_more : (x : ℕ) → hit x (child_of c₀) + (count x (joined (λ y. pages_in Pg t.image h y) (pre ++ (ds ++ post))) + count x t.free)
          ≤ count x (pages_in Pg st.image (suc h) (child_of c₀)) + count x st.free
      no_more x = omega (arith, under-count x, M.pages x, K.pages x)

      new-seps : Rising lo (pre ++ (ds ++ post)) hi
      new-seps = replaced-rising lo pre c.key ds post hi K.cut.0 M.seps (rising-first (suc c.key) post hi K.cut.1.1)

      new-entries : Entries (pre ++ (ds ++ post))
      new-entries =
          All-append IsEntry pre (ds ++ post) (All-left IsEntry pre (c ∷ post) K.entries)
          (All-append IsEntry ds post M.entries (all_right IsEntry pre (c ∷ post) K.entries).1)

      new-spans : Spans (λ a b x. Under Pg t.image h a b x) lo (pre ++ (ds ++ post)) hi
      new-spans =
          replaced-spans (λ a b x. Under Pg t.image h a b x) (λ a b a' b' x u v k. under-wide Pg t.image h a b a' b' x u v k) lo pre c post hi ch
          (before_same.spans lo c.key K.spans.0) M.spans (after_same.spans (first_key post hi) hi K.spans.1.1)
          (omega (arith, K.below, rising_le lo pre c.key K.cut.0)) (omega (arith, K.below))

      new-table : joined (λ x. table_in Pg t.image h x) (pre ++ (ds ++ post))
          ≡ joined (λ x. table_in Pg st.image h x) pre ++ (rs ++ joined (λ x. table_in Pg st.image h x) post)
      new-table =
          joined-append (λ x. table_in Pg t.image h x) pre (ds ++ post)
          ∙ ap₂ (λ (x y : List Rec). x ++ y) before_same.table
          (joined-append (λ x. table_in Pg t.image h x) ds post ∙ ap₂ (λ (x y : List Rec). x ++ y) M.lists after_same.table)

      -- the leaves of t
      new-leaves : joined (λ y. leaves_in Pg t.image h y) (pre ++ (ds ++ post))
          ≡ joined (λ y. leaves_in Pg t.image h y) pre ++ (joined (λ y. leaves_in Pg t.image h y) (ds) ++ joined (λ y. leaves_in Pg t.image h y) post)
      new-leaves =
          joined-append (λ y. leaves_in Pg t.image h y) pre (ds ++ post)
          ∙ ap (λ (l : List ℕ). joined (λ y. leaves_in Pg t.image h y) pre ++ l) (joined-append (λ y. leaves_in Pg t.image h y) ds post)

      new-length : length (joined (λ y. leaves_in Pg t.image h y) (pre ++ (ds ++ post)))
          ≡ length (joined (λ y. leaves_in Pg st.image h y) pre) + (length (joined (λ y. leaves_in Pg t.image h y) (ds)) + length (joined (λ y. leaves_in Pg st.image h y) post))
      new-length =
          ap length new-leaves
          ∙ omega (
            arith,
            length-append (joined (λ y. leaves_in Pg t.image h y) pre) (joined (λ y. leaves_in Pg t.image h y) ds ++ joined (λ y. leaves_in Pg t.image h y) post),
            length-append (joined (λ y. leaves_in Pg t.image h y) ds) (joined (λ y. leaves_in Pg t.image h y) post),
            ap length before_same.leaves,
            ap length after_same.leaves,
          )

      new-full : All (Nonempty Pg t.image) (joined (λ y. leaves_in Pg t.image h y) (pre ++ (ds ++ post)))
          ⊎ ((only ≡ true) × (length (joined (λ y. leaves_in Pg t.image h y) (pre ++ (ds ++ post))) ≡ 1))
      new-full = go M.full
        where
          go : All (Nonempty Pg t.image) (joined (λ y. leaves_in Pg t.image h y) ds) ⊎ ((only ≡ true) × (length (joined (λ y. leaves_in Pg t.image h y) ds) ≡ 1)) →
              All (Nonempty Pg t.image) (joined (λ y. leaves_in Pg t.image h y) (pre ++ (ds ++ post))) ⊎ ((only ≡ true) × (length (joined (λ y. leaves_in Pg t.image h y) (pre ++ (ds ++ post))) ≡ 1))
          go (inl a) =
              inl (subst (All (Nonempty Pg t.image)) (sym new-leaves)
              (All-append (Nonempty Pg t.image) (joined (λ y. leaves_in Pg t.image h y) pre) (joined (λ y. leaves_in Pg t.image h y) ds ++ joined (λ y. leaves_in Pg t.image h y) post) (before_same.full K.beside.0)
              (All-append (Nonempty Pg t.image) (joined (λ y. leaves_in Pg t.image h y) ds) (joined (λ y. leaves_in Pg t.image h y) post) a (after_same.full K.beside.1))))
          go (inr z) = inr (z.0, omega (arith, new-length, z.1, H.alone z.0, K.leaves, K.some))

      -- nothing is left only where the child is gone
      gone-child : pre ++ (ds ++ post) ≡ [] → ch ≡ gone
      gone-child e = go ch (omega (arith, ap length e, length-append pre (ds ++ post), length-append ds post))
        where
          go : (d : Change) → length (stand c (start_of pre lo c.key) d) ≡ 0 → d ≡ gone
          go kept z = absurd (omega arith)
          go gone z = refl
          go (one a) z = absurd (omega arith)
          go (two a k b) z = absurd (omega arith)

      held-gone : (d : Change) (u : State) → Held Pg u.image (suc (suc h)) (child_of c₀) d (pre ++ (ds ++ post)) → d ≡ gone → pre ++ (ds ++ post) ≡ []
      held-gone gone u k z = k
      held-gone kept u k z = let y : ◌≡◌ {A = ℕ} 0 1 = cc in absurd (omega arith)
      held-gone (one a) u k z = let y : ◌≡◌ {A = ℕ} 0 1 = cc in absurd (omega arith)
      held-gone (two a m b) u k z = let y : ◌≡◌ {A = ℕ} 0 1 = cc in absurd (omega arith)

      -- ---- and the page of c₀ has taken it

      inner-for : (d : Change) (u : State) → Some d (pre ++ (ds ++ post)) → Spans (λ a b x. Under Pg u.image h a b x) lo (pre ++ (ds ++ post)) hi →
          InnerFor Pg d u.image (suc h) lo (pre ++ (ds ++ post)) hi
      inner-for kept u s k = (s, k)
      inner-for gone u s k = tt
      inner-for (one a) u s k = (s, k)
      inner-for (two a m b) u s k = (s, k)

      full-above : {u : List ℕ} {l : List ℕ} → l ≡ joined (λ y. leaves_in Pg u h y) (pre ++ (ds ++ post)) →
          AllAlike Pg t.image u h (pre ++ (ds ++ post)) →
          All (Nonempty Pg t.image) (joined (λ y. leaves_in Pg t.image h y) (pre ++ (ds ++ post)))
          ⊎ ((only ≡ true) × (length (joined (λ y. leaves_in Pg t.image h y) (pre ++ (ds ++ post))) ≡ 1)) →
          All (Nonempty Pg u) l ⊎ ((only ≡ true) × (length l ≡ 1))
      full-above {u} {l} e A (inl a) = inl (subst (All (Nonempty Pg u)) (sym e) (A.full a))
      full-above {u} {l} e A (inr z) = inr (z.0, ap length e ∙ ap length A.leaves ∙ z.1)

      made-node : (d : Change) (u : State) → Puts Pg keep F t (child_of c₀) (suc (suc h)) (pre ++ (ds ++ post)) d u × Some d (pre ++ (ds ++ post)) →
          Above d u
      made-node d u T =
          let P = T.0 in
          let A =
          all_alike Pg t.image u.image h (pre ++ (ds ++ post))
          (λ x k. like Pg (page_of t.image x) (page_of u.image x) (P.other x (omega (arith, among-count x (joined (λ y. pages_in Pg t.image h y) (pre ++ (ds ++ post))) k, no_more x, H.apart x, inside-most n x)))) in
          let S = settled Pg rules n H.few u.image (suc h) lo hi H.high c₀ H.entry H.low H.below (pre ++ (ds ++ post))
          (entry-forms h (pre ++ (ds ++ post)) new-entries) new-seps d P.held
          (λ x. omega (arith, P.pages x, no_more x, H.apart x)) (inner-for d u T.1 (A.spans lo hi new-spans)) in
          record {
            leads = leads-trans Pg rules keep F st t u M.leads P.leads;
            root = P.root ∙ M.root;
            other = λ x k. P.other x (omega (arith, no_more x, k)) ∙ M.other x (omega (arith, k, K.pages x));
            spans = S.spans;
            seps = S.seps;
            seps-ok = S.seps-ok;
            entries = S.entries;
            lists = S.lists ∙ A.table ∙ new-table;
            pages = λ x. omega (arith, S.pages x, ap (count x) A.pages, P.pages x, no_more x);
            fresh = newer Pg rules keep F st t M.leads d P.fresh;
            full = full-above S.leaves A new-full;
            lost = omega (arith, ap length S.leaves, ap length A.leaves, new-length, K.leaves, M.lost);
            stays = λ z y. M.stays z (gone-child (held-gone d u P.held y));
            raises-two = λ z.
                let over = entries_over (pre ++ (ds ++ post)) new-entries (P.split-over z) in
                let long : length (pre ++ (ds ++ post)) ≡ length pre + (length ds + length post) = length-append pre (ds ++ post) ∙ omega (arith, length-append ds post) in (
                  omega (arith, long, over, length-append pre (c ∷ post), stand-most c low ch, ap length K.shape),
                  M.raises-two (stand-two c low ch (omega (arith, long, over, length-append pre (c ∷ post), K.most))),
                );
          }

      pub node-out : suc (suc h) < 256 →
          Out Above (absorbed Pg keep (suc (suc h)) (length pre) (start_of pre lo c.key) (child_of c₀) ch t)
      node-out small =
          out-map (λ d u. Puts Pg keep F t q (suc (suc h)) (pre ++ (ds ++ post)) d u × Some d (pre ++ (ds ++ post))) Above
          (absorbed Pg keep (suc (suc h)) (length pre) low q ch t) made-node
          (absorbed-out Pg rules keep n H.few F t (M.leads.long ∙ H.long) q (suc (suc h)) small pre c post lists-own K.entries (λ x. omega (arith, no_more x, H.apart x))
          (λ x. omega (arith, H.sub x, leads-free Pg keep F st t M.leads x)) low ch M.seps-ok)
