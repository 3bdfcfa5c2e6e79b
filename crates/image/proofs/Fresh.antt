-- A fresh store, as the store with one empty leaf: its pages, its length, that it is sound, and that its table is empty.
-- Assumes nothing.
use Rattle.std.specs.Prelude.{Err, Ok}
use Prim.Native.Nat.{ℕ, ◌-◌, ◌*◌, ◌≤◌}
use mathlib.Core.Path.{◌≡◌, refl, ap, ◌∙◌}
use mathlib.Core.Logic.{inl}
use mathlib.Core.Bool.{true, false}
use mathlib.Core.List.{List, [], ◌∷◌, ◌++◌, append-nil}
use native.Mathlib.Omega.{arith}
use lib.ListN.{length, replicate}
use Rattle.codec.specs.Numbers.{bytes_of}
use Rattle.device.specs.Calls.{is_image_size, refusal}
use Rattle.page.specs.Layout.{page_size, leaf_kind, index_kind, Rec, rec_of, up8, size}
use Rattle.page.specs.Page.{entries}
use Rattle.page.specs.Operations.{fill, placed, sizes, page_of, put_page}
use Rattle.image.specs.PageZero.{page_count, root_of}
use Rattle.image.specs.Image.{index_rec, children, sound}
use Rattle.image.specs.Table.{table}
use Rattle.image.specs.Fresh.{zero_page, fresh_zero, separators, named, filled_pages, index_count, pages_above, index_over, pages_over, stored, all_records, Storable, blank, put_filled, fresh}
use Rattle.image.specs.Calls.{format_call}
use Rattle.image.proofs.Zero.{size-true}
use Rattle.image.proofs.Stored.{index-filled, stored-length, stored-root, stored-index, stored-leaf, stored-children, stored-table, stored-sound, stored-made-one}

-- ---- one empty leaf

abbrev no_records : List (List Rec)
no_records = [] ∷ []

pub empty-storable : Storable no_records
unfolding index_count all_records sizes
empty-storable =
    record { some = omega arith; few = omega arith; good = (tt, tt); fit = (record { few = omega arith; small = omega arith }, tt); filled = inl refl; rising = omega arith }

-- the index record, and the pages 1 and 2
abbrev only_leaf : Rec
only_leaf = rec_of 0 (bytes_of 2 2)

abbrev index_page : List ℕ
index_page = fill zero_page index_kind 1 (only_leaf ∷ [])

abbrev leaf_page : List ℕ
leaf_page = fill zero_page leaf_kind 2 []

only-index : index_over no_records ≡ only_leaf ∷ []
unfolding index_over pages_above separators named index_rec
only-index = refl

module _ (n : ℕ) where
  is-stored : fresh n ≡ stored n no_records
  unfolding fresh
  is-stored = refl

  -- "root 1 with one record (separator 0, page 2) .., an empty leaf 2 .., and zeros elsewhere"
  pub fresh-pages : fresh n ≡ fresh_zero n ++ (index_page ++ (leaf_page ++ replicate (page_size * (n - 3)) 0))
  unfolding fresh stored pages_above pages_over filled_pages
  fresh-pages =
      let zeros : List ℕ = replicate (page_size * (n - 3)) 0 in
      ap (λ (cs : List Rec). fresh_zero n ++ ((fill zero_page index_kind 1 cs ++ []) ++ ((leaf_page ++ []) ++ zeros))) only-index
      ∙ ap (λ (l : List ℕ). fresh_zero n ++ (l ++ ((leaf_page ++ []) ++ zeros))) (append-nil index_page)
      ∙ ap (λ (l : List ℕ). fresh_zero n ++ (index_page ++ (l ++ zeros))) (append-nil leaf_page)

  pub fresh-length : 3 ≤ n → length (fresh n) ≡ page_size * n
  unfolding pages_above
  fresh-length h = ap length is-stored ∙ stored-length n no_records empty-storable h

  -- ---- read back

  pub fresh-index : page_of (fresh n) 1 ≡ index_page
  fresh-index = ap (λ (l : List ℕ). page_of l 1) is-stored ∙ stored-index n no_records empty-storable (omega arith) ∙ ap (fill zero_page index_kind 1) only-index

  pub fresh-leaf : page_of (fresh n) 2 ≡ leaf_page
  unfolding pages_above
  fresh-leaf = ap (λ (l : List ℕ). page_of l 2) is-stored ∙ (stored-leaf n no_records empty-storable).0

  -- "one record (separator 0, page 2) at offset 1,000"
  pub fresh-listed : entries (page_of (fresh n) 1) ≡ record { at = 1000; rec = rec_of 0 (bytes_of 2 2) } ∷ []
  unfolding placed size up8 bytes_of
  fresh-listed =
      ap (λ (l : List ℕ). entries (page_of l 1)) is-stored
      ∙ ap entries (stored-index n no_records empty-storable (omega arith))
      ∙ (index-filled no_records empty-storable (omega arith)).0.listed
      ∙ ap (placed page_size) only-index

  pub fresh-children : children (fresh n) 1 ≡ only_leaf ∷ []
  fresh-children = ap (λ (l : List ℕ). children l 1) is-stored ∙ stored-children n no_records empty-storable (omega arith) ∙ only-index

  pub fresh-root : root_of (fresh n) ≡ 1
  fresh-root = ap root_of is-stored ∙ stored-root n no_records

pub fresh-table : (n : ℕ) → table (fresh n) ≡ []
unfolding all_records
fresh-table n = ap table (is-stored n) ∙ stored-table n no_records empty-storable

pub fresh-sound : (n : ℕ) → is_image_size (page_size * n) ≡ true → sound (fresh n) ≡ true
unfolding pages_above
fresh-sound n s = ap sound (is-stored n) ∙ stored-sound n no_records s (omega (arith, (size-true (page_size * n) s).low)) empty-storable

-- page 0 and zeros first, then the leaf, then the index
pub fresh-made : (n : ℕ) → 3 ≤ n → (b c d : List ℕ) → b ≡ blank n → c ≡ put_page b 2 (fill (page_of b 2) leaf_kind 2 []) →
    d ≡ put_page c 1 (fill (page_of c 1) index_kind 1 (only_leaf ∷ [])) → d ≡ fresh n
unfolding fresh put_filled pages_above index_over separators named index_rec
fresh-made n h b c d eb ec ed =
    ed ∙ stored-made-one n no_records empty-storable h (omega arith) c (ec ∙ ap (λ (i : List ℕ). put_page i 2 (fill (page_of i 2) leaf_kind 2 [])) eb)

-- ---- format

pub format-accepted : (img : List ℕ) → is_image_size (length img) ≡ true → format_call img ≡ record { answer = Ok tt; image = fresh (page_count img) }
unfolding format_call
format-accepted img s = rw s

pub format-refused : (img : List ℕ) → is_image_size (length img) ≡ false → format_call img ≡ record { answer = Err (refusal 1); image = img }
unfolding format_call
format-refused img s = rw s

-- what format writes has the image's length, is sound and has an empty table
pub format-sound : (img : List ℕ) → is_image_size (length img) ≡ true →
    (length (fresh (page_count img)) ≡ length img) × (sound (fresh (page_count img)) ≡ true) × (table (fresh (page_count img)) ≡ [])
format-sound img s =
    let z = size-true (length img) s in
    let e : page_size * page_count img ≡ length img = omega arith in
    (fresh-length (page_count img) (omega arith) ∙ e, fresh-sound (page_count img) (ap is_image_size e ∙ s), fresh-table (page_count img))
