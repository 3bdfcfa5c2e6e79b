-- A page's records with a new one put in, copied to one new page: what the copy asks for, and that it is `copied`.
-- Assumes nothing.
use Prim.Native.Nat.{ℕ, suc, ◌+◌, ◌*◌, ◌≤◌, ◌<◌}
use mathlib.Core.Path.{◌≡◌, sym, ap, ◌∙◌}
use mathlib.Core.List.{List, [], ◌∷◌}
use native.Mathlib.Omega.{arith}
use lib.ListN.{length}
use Rattle.codec.specs.Lists.{pick, All}
use Rattle.page.specs.Layout.{page_size, Rec}
use Rattle.page.specs.Page.{records, RecOk}
use Rattle.page.specs.Operations.{between, fill, page_of, put_page}
use Rattle.page.specs.PageFormat.{format1}
use Rattle.page.proofs.Made.{All-made, length-made, between-all}
use Rattle.page.proofs.Facts.{records-ok}
use Rattle.page.proofs.Format1.{format1-rules}
use Rattle.page_edit.specs.Filling.{CanFill}
use Rattle.image.specs.Image.{count}
use Rattle.image.proofs.Times.{hit-self}
use Rattle.tree.specs.State.{State, filled}
use Rattle.tree.specs.Edits.{now, stops, one, no_keep, copied}
use Rattle.tree.specs.Good.{inside, Fits}
use Rattle.tree.proofs.Counts.{inside-most, inside-range}
use Rattle.tree.proofs.States.{Filled, filled-facts}
use Rattle.tree_edit.specs.Steps.{rec_by, made_by}
use Rattle.tree_edit.specs.Asked.{CanTake}
use Rattle.tree_edit.specs.declared.Put.{Put}
use Rattle.tree_edit.proofs.Free.{taken_none, taken-first}

module _ {n : ℕ} {st : State} {q : ℕ} {new : Put} {v : List ℕ} (can : CanTake n st q new v) where
  abbrev old : List ℕ
  old = page_of st.image q

  abbrev rs : List Rec
  rs = made_by new v old

  -- ---- the page

  page-inside : 1 ≤ inside n q
  page-inside = omega (arith, can.apart q, hit-self q)

  pub page-fits : page_size * q + page_size ≤ length st.image
  page-fits = omega (arith, can.long, inside-range n q page-inside)

  pub made-good : All RecOk (made_by new v (page_of st.image q))
  made-good = All-made RecOk new.ins new.at (rec_by new v) (records old) can.put.good (records-ok old can.put.ok)

  pub fill-run : (a b : ℕ) (ps : List Rec) → between (made_by new v (page_of st.image q)) a b ≡ ps → a ≤ b → b ≤ length (made_by new v (page_of st.image q)) → Fits ps →
      CanFill (page_of st.image q) new.ins new.at (rec_by new v) a b
  fill-run a b ps e order within fits =
      record { ok = can.put.ok; good = can.put.good; place = can.put.place; order = order; within = within; few = rw e fits.few; room = rw e fits.room }

  -- as x, and the number of its records with the new one
  module _ (x : List ℕ) (page : x ≡ page_of st.image q) where
    pub made-count : (m : ℕ) → m ≡ pick new.ins (suc (length (records x))) (length (records x)) → m ≡ length (made_by new v (page_of st.image q))
    made-count m listed =
        listed
        ∙ ap (λ (g : List ℕ). pick new.ins (suc (length (records g))) (length (records g))) page
        ∙ sym (length-made new.ins new.at (rec_by new v) (records old))

  -- ---- a free page p

  module _ (p : ℕ) (free : 1 ≤ count p st.free) where
    new-inside : 1 ≤ inside n p
    new-inside = omega (arith, can.apart p)

    pub new-fits : page_size * p + page_size ≤ length st.image
    new-fits = omega (arith, can.long, inside-range n p new-inside)

    pub new_apart : q ≡ p → ⊥
    new_apart e = omega (arith, can.apart q, hit-self q, inside-most n q, ap (λ (x : ℕ). count x st.free) e)

    pub new-filled : (kind : ℕ) → kind < 256 → (u : State) → length u.image ≡ page_size * n → (ps : List Rec) → All RecOk ps → Fits ps →
        Filled format1 no_keep st.free u (filled format1 kind p ps u) kind p ps
    new-filled kind small u long ps good fits =
        filled-facts format1 format1-rules no_keep n can.few st.free u long p new-inside free kind small ps good fits.room fits.few

  -- ---- the copy, in the free page p, if there is one

  module _ (kind : ℕ) where
    pub copied_none : st.free ≡ [] → stops 11 ≡ copied format1 kind (made_by new v (page_of st.image q)) st
    unfolding copied
    copied_none none = sym (taken_none (stops 11) st _ none)

    module _ (p : ℕ) (f : List ℕ) (first : st.free ≡ p ∷ f) where
      pub copy-fits : page_size * p + page_size ≤ length st.image
      copy-fits = new-fits p (omega (arith, ap (count p) first, hit-self p))

      module _ (x : List ℕ) (page : x ≡ page_of st.image q) (m : ℕ) (listed : m ≡ pick new.ins (suc (length (records x))) (length (records x))) where
        all : between rs 0 m ≡ rs
        all = between-all rs m (made-count x page m listed)

        pub copy-fill : Fits (made_by new v (page_of st.image q)) → CanFill (page_of st.image q) new.ins new.at (rec_by new v) 0 m
        copy-fill fits = fill-run 0 m rs all (omega arith) (omega (arith, made-count x page m listed)) fits

        pub copied_is : (w : List ℕ) → w ≡ put_page st.image p (fill (page_of st.image p) kind p (between (made_by new v (page_of st.image q)) 0 m)) →
            now (one p) (record { image = w; root = st.root; free = f }) ≡ copied format1 kind (made_by new v (page_of st.image q)) st
        unfolding copied filled
        copied_is w copy =
            ap (λ (i : List ℕ). now (one p) (record { image = i; root = st.root; free = f }))
            (copy ∙ ap (λ (l : List Rec). put_page st.image p (fill (page_of st.image p) kind p l)) all)
            ∙ sym (taken-first (stops 11) st _ p f first)
