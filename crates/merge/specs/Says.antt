-- What an answer of merge says, each refusal with its ground, the first that holds; and what an accepted merge leaves (document 02 (i) and (j)).
-- Assumes nothing.
use Rattle.std.specs.Prelude.{ℕ, suc, ◌+◌, ◌-◌, ◌*◌, ◌≤◌, ◌<◌, ◌≡◌, ◌⊎◌, true, false, List, [], ◌∷◌, map, length, get_or, eqb, Err, Ok}
use Rattle.codec.specs.Lists.{pick}
use Rattle.device.specs.Calls.{is_image_size, Ran, accepted, refused}
use Rattle.device.specs.declared.Refusal.{Refusal}
use Rattle.page.specs.Layout.{Rec}
use Rattle.page.specs.Page.{records}
use Rattle.page.specs.Operations.{page_of}
use Rattle.image.specs.PageZero.{page_count, root_of}
use Rattle.image.specs.Image.{child_of, children, names_of, height_of, sound}
use Rattle.image.specs.Table.{table}
use Rattle.image.specs.Live.{live}
use Rattle.image.specs.Fresh.{separators, numbered, stored, all_records, fresh}
use Rattle.image.specs.Calls.{check_call}
use Rattle.merge.specs.Tables.{InBoth, Joins}
use Rattle.merge.specs.Leaves.{leaf_pages, Packed}

-- 1 and check's refusals do not hold
pub record Begun (a b out : List ℕ) : Type 0 where
  pub size : is_image_size (length out) ≡ true
  pub first : check_call a ≡ Ok tt
  pub second : check_call b ≡ Ok tt

-- nor does 20: the leaves ls hold the records of both, each leaf as many as it may
pub record Filling (a b out : List ℕ) (ls : List (List Rec)) : Type 0 where
  pub begun : Begun a b out
  pub none : InBoth (table a) (table b) → ⊥
  pub both : List Rec
  pub joins : Joins (table a) (table b) both
  pub packed : Packed both ls

-- m pages stand above n leaves: one index page, or, "only if 28 leaves aren't enough", a top page and k index pages, "filled to 28 each"
pub data Above (n : ℕ) : ℕ → Type 0 where
  index_alone : n ≤ 28 → Above n 1
  under_top : 28 < n → (k : ℕ) → n ≤ 28 * k → 28 * k < n + 28 → Above n (suc k)

-- the result with its ground. N is the third buffer's; more leaves than 28 index pages of 28 records name are 10 even if pages are short too
pub data MergeSays (a b out : List ℕ) : Ran → Type 0 where
  bad-buffer : is_image_size (length out) ≡ false → MergeSays a b out (refused 1 out)
  bad-first : is_image_size (length out) ≡ true → (r : Refusal) → check_call a ≡ Err r → MergeSays a b out (record { answer = Err r; work = out })
  bad-second : is_image_size (length out) ≡ true → check_call a ≡ Ok tt → (r : Refusal) → check_call b ≡ Err r → MergeSays a b out (record { answer = Err r; work = out })
  in_both : Begun a b out → InBoth (table a) (table b) → MergeSays a b out (refused 20 out)
  no_index : (ls : List (List Rec)) → Filling a b out ls → 784 < length ls → MergeSays a b out (refused 10 out)
  no-pages : (ls : List (List Rec)) → Filling a b out ls → length ls ≤ 784 → (m : ℕ) → Above (length ls) m → page_count out - 1 < m + length ls → MergeSays a b out (refused 11 out)
  merges : (ls : List (List Rec)) → Filling a b out ls → length ls ≤ 784 → (m : ℕ) → Above (length ls) m → m + length ls ≤ page_count out - 1 →
      MergeSays a b out (accepted (stored (page_count out) ls))

-- ---- what an accepted merge leaves

-- the records of some pages, in order
abbrev pub lists_on : List ℕ → List ℕ → List (List Rec)
lists_on img ps = map (λ (p : ℕ). records (page_of img p)) ps

-- the records of each leaf of an image
abbrev pub leaf_lists : List ℕ → List (List Rec)
leaf_lists img = lists_on img (leaf_pages img)

-- the index pages of an image: the root, or those that a top page names; and the records of each
abbrev pub index_numbers : List ℕ → List ℕ
index_numbers img = pick (eqb (height_of img (root_of img)) 1) (root_of img ∷ []) (names_of img (root_of img))

abbrev pub index_lists : List ℕ → List (List Rec)
index_lists img = lists_on img (index_numbers img)

-- "filled to 28 each": the last one takes the rest
abbrev pub To28 : List (List Rec) → Type 0
To28 [] = ⊥
To28 (cs ∷ []) = length cs ≤ 28
To28 (cs ∷ ds ∷ ls) = (length cs ≡ 28) × To28 (ds ∷ ls)

abbrev pub keys_of : List Rec → List ℕ
keys_of cs = map (λ (c : Rec). c.key) cs

-- the index pages are page 1, which is the root
pub record Alone (c : List ℕ) : Type 0 where
  pub height : height_of c 1 ≡ 1
  pub few : length (leaf_lists c) ≤ 28

-- or they are the pages from 2 on, under a top page
pub record UnderTop (c : List ℕ) : Type 0 where
  pub height : height_of c 1 ≡ 2
  -- "a top only if 28 leaves aren't enough"
  pub many : 28 < length (leaf_lists c)
  -- "as page 1, then index pages"
  pub pages : map child_of (children c 1) ≡ numbered 2 (index_lists c)
  -- 0 and then each index page's first separator
  pub seps : keys_of (children c 1) ≡ separators (index_lists c)

-- from the images a and b the store c was made
pub record Merges (a b out c : List ℕ) : Type 0 where
  pub size : length c ≡ length out
  pub is_sound : sound c ≡ true
  -- "every record of both and nothing else"
  pub is_table : Joins (table a) (table b) (table c)
  pub root : root_of c ≡ 1
  pub shape : Alone c ⊎ UnderTop c
  -- "index pages filled to 28 each"
  pub full : To28 (index_lists c)
  -- "page 1 as index and page 2 onward as leaves", or page 1, then index pages, "then leaves": the index records name the leaves' pages in order
  pub nodes : ℕ
  pub above : Above (length (leaf_lists c)) nodes
  pub pages : map child_of (all_records (index_lists c)) ≡ numbered (suc nodes) (leaf_lists c)
  -- "each as many as 28 records and 960 bytes allow"
  pub leaves : Packed (table c) (leaf_lists c)
  -- "The first separator is 0 and the others are smallest keys."
  pub seps : keys_of (all_records (index_lists c)) ≡ separators (leaf_lists c)
  -- "All other bytes are as in a fresh store": what no header and no record takes is zero
  pub zeros : (i : ℕ) → live c i ≡ false → get_or c i 0 ≡ 0
  -- "With no records the result is a fresh store."
  pub empty : table a ≡ [] → table b ≡ [] → c ≡ fresh (page_count out)
