-- A page's records with a new one put in, split over two new pages: what the copies ask for, and that with the pages taken they are `split`.
-- Assumes nothing.
use Prim.Native.Nat.{ℕ, suc, ◌+◌, ◌-◌, ◌*◌, ◌≤◌, ◌<◌}
use mathlib.Core.Path.{◌≡◌, refl, sym, ap, ◌∙◌, subst}
use mathlib.Core.Bool.{true}
use mathlib.Core.List.{List, [], ◌∷◌, ◌++◌}
use native.Mathlib.Omega.{arith}
use native.Mathlib.Nat.{sub-zero, not-suc-le-zero}
use lib.ListN.{length, get_or, take, drop, length-drop, take-append-drop}
use lib.Seq.{take-length}
use Rattle.codec.specs.Lists.{pick, All}
use Rattle.page.specs.Layout.{page_size, Rec, rec_of}
use Rattle.page.specs.Page.{records, laid_out, RecOk}
use Rattle.page.specs.Operations.{between, fill, page_of, put_page}
use Rattle.page.specs.PageFormat.{Lists, format1}
use Rattle.page_edit.specs.Filling.{CanFill}
use Rattle.image.specs.Image.{first_key, count}
use Rattle.image.proofs.General.{All-left}
use Rattle.image.proofs.Times.{hit-self}
use Rattle.edit.proofs.General.{all_right}
use Rattle.tree.specs.State.{State, filled}
use Rattle.tree.specs.Edits.{now, stops, two, no_keep, split_point, split}
use Rattle.tree.proofs.States.{Filled}
use Rattle.tree_edit.specs.Steps.{rec_by, made_by}
use Rattle.tree_edit.specs.Asked.{CanTake, CanSplit}
use Rattle.tree_edit.specs.declared.Put.{Put}
use Rattle.tree_edit.proofs.Free.{taken_none, taken-first}
use Rattle.tree_edit.proofs.Copied.{page-fits, made-good, fill-run, made-count, new-fits, new_apart, new-filled}

-- ---- runs of records

between-front : (l : List Rec) (m : ℕ) → between l 0 m ≡ take m l
between-front l m = rw (sub-zero m)

between-rest : (l : List Rec) (m n : ℕ) → n ≡ length l → between l m n ≡ drop m l
between-rest l m n e =
    let k : n - m ≡ length (drop m l) = simp length-drop (omega arith) in
    rw k (take-length (drop m l))

first_of : (l : List Rec) → 1 ≤ length l → (get_or l 0 (rec_of 0 [])).key ≡ first_key l 0
first_of [] h = absurd (not-suc-le-zero h)
first_of (r ∷ l) h = refl

module _ {n : ℕ} {st : State} {page : ℕ} {new : Put} {v : List ℕ} (can : CanTake n st page new v) (kind : ℕ) where
  abbrev old : List ℕ
  old = page_of st.image page

  abbrev rs : List Rec
  rs = made_by new v old

  -- ---- the pages are taken, left first

  pub split-none : st.free ≡ [] → stops 11 ≡ split format1 kind (made_by new v (page_of st.image page)) st
  unfolding split
  split-none none = sym (taken_none (stops 11) st _ none)

  module _ (p : ℕ) (f : List ℕ) (first : st.free ≡ p ∷ f) where
    abbrev less : State
    less = record { image = st.image; root = st.root; free = f }

    pub split-short : f ≡ [] → stops 11 ≡ split format1 kind (made_by new v (page_of st.image page)) st
    unfolding split
    split-short none = sym (taken-first (stops 11) st _ p f first ∙ taken_none (stops 11) less _ none)

    -- ---- both are there, the old page is x, and m is its split point

    module _ (q : ℕ) (g : List ℕ) (second : f ≡ q ∷ g) (halves : CanSplit (made_by new v (page_of st.image page))) (small : kind < 256) (x : List ℕ) (is : x ≡ page_of st.image page) (m : ℕ)
        (point : m ≡ split_point (made_by new v x)) where
      abbrev left : List Rec
      left = take (split_point rs) rs

      abbrev right : List Rec
      right = drop (split_point rs) rs

      abbrev s : State
      s = record { image = st.image; root = st.root; free = g }

      parts : All RecOk left × All RecOk right
      parts =
          let h : All RecOk (left ++ right) = rw (take-append-drop (split_point rs) rs) (made-good can) in
          (All-left RecOk left right h, all_right RecOk left right h)

      left-free : 1 ≤ count p st.free
      left-free = omega (arith, ap (count p) first, hit-self p)

      right-free : 1 ≤ count q st.free
      right-free = omega (arith, ap (count q) first, ap (count q) second, hit-self q)

      point-is : m ≡ split_point rs
      point-is = point ∙ ap (λ (g : List ℕ). split_point (made_by new v g)) is

      inside-rs : m < length rs
      inside-rs = omega (arith, point-is, halves.right.some, length-drop (split_point rs) rs)

      left-run : between rs 0 m ≡ left
      left-run = between-front rs m ∙ ap (λ (k : ℕ). take k rs) point-is

      pub left-fits : page_size * p + page_size ≤ length st.image
      left-fits = new-fits can p left-free

      pub left-fill : CanFill (page_of st.image page) new.ins new.at (rec_by new v) 0 m
      left-fill = fill-run can 0 m left left-run (omega arith) (omega (arith, inside-rs)) halves.left

      left-page : Filled format1 no_keep st.free s (filled format1 kind p left s) kind p left
      left-page = new-filled can p left-free kind small s can.long left parts.0 halves.left

      -- ---- the left page is filled in w; the old page lists k records with the new one

      module _ (w : List ℕ) (copy : w ≡ put_page st.image p (fill (page_of st.image p) kind p (between (made_by new v (page_of st.image page)) 0 m)))
          (k : ℕ) (listed : k ≡ pick new.ins (suc (length (records x))) (length (records x))) where
        w-left : w ≡ (filled format1 kind p left s).image
        unfolding filled
        w-left = copy ∙ ap (λ (l : List Rec). put_page st.image p (fill (page_of st.image p) kind p l)) left-run

        left-long : length w ≡ length st.image
        left-long = ap length w-left ∙ left-page.long

        old-same : page_of w page ≡ old
        old-same = ap (λ (i : List ℕ). page_of i page) w-left ∙ left-page.other page (new_apart can p left-free)

        right-run : between rs m k ≡ right
        right-run = between-rest rs m k (made-count can x is k listed) ∙ ap (λ (j : ℕ). drop j rs) point-is

        pub old-fits : page_size * page + page_size ≤ length w
        old-fits = omega (arith, left-long, page-fits can)

        pub right-fits : page_size * q + page_size ≤ length w
        right-fits = omega (arith, left-long, new-fits can q right-free)

        pub right-fill : CanFill (page_of w page) new.ins new.at (rec_by new v) m k
        right-fill =
            let all = made-count can x is k listed in
            rw old-same (fill-run can m k right right-run (omega (arith, inside-rs)) (omega arith) halves.right)

        -- ---- and the right page in z

        module _ (z : List ℕ) (copy2 : z ≡ put_page w q (fill (page_of w q) kind q (between (made_by new v (page_of w page)) m k))) where
          abbrev t : State
          t = filled format1 kind q right (filled format1 kind p left s)

          z-right : z ≡ t.image
          unfolding filled
          z-right =
              copy2
              ∙ ap (λ (o : List ℕ). put_page w q (fill (page_of w q) kind q (between (made_by new v o) m k))) old-same
              ∙ ap (λ (l : List Rec). put_page w q (fill (page_of w q) kind q l)) right-run
              ∙ ap (λ (i : List ℕ). put_page i q (fill (page_of i q) kind q right)) w-left

          right-page : Filled format1 no_keep st.free (filled format1 kind p left s) t kind q right
          right-page = new-filled can q right-free kind small (filled format1 kind p left s) (left-page.long ∙ can.long) right parts.1 halves.right

          pub key-read : (page_size * q + page_size ≤ length z) × (laid_out (page_of z q) ≡ true)
          key-read = (
            omega (arith, ap length z-right, right-page.long, left-page.long, new-fits can q right-free),
            ap (λ (i : List ℕ). laid_out (page_of i q)) z-right ∙ right-page.lists.laid,
          )

          module _ (y : List ℕ) (at : y ≡ page_of z q) where
            right-lists : Lists format1 y kind q right
            right-lists = subst (λ (b : List ℕ). Lists format1 b kind q right) (sym (at ∙ ap (λ (i : List ℕ). page_of i q) z-right)) right-page.lists

            pub key-some : 0 < length (records y)
            key-some = rw right-lists.recs halves.right.some

            pub split-is : (sep : ℕ) → sep ≡ (get_or (records y) 0 (rec_of 0 [])).key →
                now (two p sep q) (record { image = z; root = st.root; free = g }) ≡ split format1 kind (made_by new v (page_of st.image page)) st
            unfolding split filled
            split-is sep key =
                let e : sep ≡ first_key right 0 = key ∙ ap (λ (l : List Rec). (get_or l 0 (rec_of 0 [])).key) right-lists.recs ∙ first_of right halves.right.some in
                ap (λ (i : List ℕ). now (two p sep q) (record { image = i; root = st.root; free = g })) z-right
                ∙ ap (λ (k : ℕ). now (two p k q) (record { image = t.image; root = st.root; free = g })) e
                ∙ sym (taken-first (stops 11) st _ p f first ∙ taken-first (stops 11) less _ q g second)
