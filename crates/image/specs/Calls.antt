-- What format, check, lookup, its companion and next key answer, and what they leave (document 01, 'Each call and when it says no'; document 02 (b)).
-- Assumes nothing.
use Rattle.std.specs.Prelude.{ℕ, Bool, ◌&&◌, List, [], length, leb, Err, None, Ok, Option, Result, Some}
use Rattle.device.specs.declared.Refusal.{Refusal}
use Rattle.image.specs.declared.Part.{Part}
use Rattle.codec.specs.Lists.{part, pick}
use Rattle.device.specs.Calls.{image_size, mark_waits, unsound, key_range, refusal, is_image_size, Answer}
use Rattle.page.specs.Layout.{top_key}
use Rattle.image.specs.PageZero.{page_count, page_zero}
use Rattle.page.specs.Page.{records}
use Rattle.page.specs.Operations.{page_of}
use Rattle.image.specs.Image.{index_ok, tree_ok}
use Rattle.image.specs.Table.{page_entries, found_in, above, or_else}
use Rattle.image.specs.Descent.{Way, leaf_read, root_read}
use Rattle.image.specs.Fresh.{fresh}
use Rattle.image.specs.declared.PageZero.{PageZero}
use Rattle.image.specs.declared.PageZero.TheVariants.{Wrong, Waiting, Ready}

-- ---- format

pub record Formatted : Type 0 where
  pub answer : Answer
  pub image : List ℕ

-- "Format (writes a fresh store): 1 if the length isn't 8 to 64 whole pages."
unfoldable pub format_call : List ℕ → Formatted
format_call img =
    pick (is_image_size (length img)) (record { answer = Ok tt; image = fresh (page_count img) }) (record { answer = Err (refusal image_size); image = img })

-- ---- page 0 and the root

-- "4 if page 0 is wrong; 3 if a well-formed mark waits", else the root
unfoldable pub root_from : PageZero → Result ℕ Refusal
root_from Wrong = Err (refusal unsound)
root_from (Waiting k root) = Err (refusal mark_waits)
root_from (Ready root) = Ok root

unfoldable pub root_call : List ℕ → Result ℕ Refusal
root_call img = pick (is_image_size (length img)) (root_from (page_zero img)) (Err (refusal image_size))

-- what the reading calls read first, "page 0, the index": 4 if the root page breaks soundness by itself
unfoldable pub index_from : List ℕ → Result ℕ Refusal → Result ℕ Refusal
index_from img (Err r) = Err r
index_from img (Ok root) = pick (index_ok img root) (Ok root) (Err (refusal unsound))

unfoldable pub index_call : List ℕ → Result ℕ Refusal
index_call img = index_from img (root_call img)

-- ---- check

-- "4 if unsound": the root and every page under it
unfoldable pub check_from : List ℕ → Result ℕ Refusal → Answer
check_from img (Err r) = Err r
check_from img (Ok root) = pick (tree_ok img root) (Ok tt) (Err (refusal unsound))

-- "Check: 1; 4 if page 0 is wrong; 3 if a well-formed mark waits; 4 if unsound."
unfoldable pub check_call : List ℕ → Answer
check_call img = check_from img (root_call img)

-- ---- lookup and its companion

-- "Keys are 1 to 999,999,999,999"
unfoldable pub key_ok : ℕ → Bool
key_ok k = leb 1 k && leb k top_key

-- what the way of a key comes to: 4 if a page that is read on it "breaks soundness", "separator bounds included"
abbrev pub by_way : {A : Type 0} → Option Way → (Way → Result A Refusal) → Result A Refusal
by_way None f = Err (refusal unsound)
by_way (Some w) f = f w

-- "one leaf": the one that the key belongs to, once the pages `nodes` are read
unfoldable pub leaf_lookup : List ℕ → ℕ → List ℕ → ℕ → Result (Option Part) Refusal
leaf_lookup img root nodes k = by_way (leaf_read img root nodes k) (λ w. found_in k (page_entries img w.leaf.page))

-- "1, 3, 4 and 6 in the old order": 6 comes after the leaf's 4
unfoldable pub ranged : ℕ → Result (Option Part) Refusal → Result (Option Part) Refusal
ranged k (Err r) = Err r
ranged k (Ok found) = pick (key_ok k) (Ok found) (Err (refusal key_range))

unfoldable pub lookup_from : List ℕ → ℕ → Result ℕ Refusal → Result (Option Part) Refusal
lookup_from img k (Err r) = Err r
lookup_from img k (Ok root) = ranged k (leaf_lookup img root (root_read root) k)

-- "A lookup now reads page 0, the index and one leaf", and under a top page one index page
unfoldable pub lookup_call : List ℕ → ℕ → Result (Option Part) Refusal
lookup_call img k = lookup_from img k (index_call img)

-- "A companion hands back the value bytes themselves as part of the image, with no copy; empty if refused or missing."
unfoldable pub value_at : List ℕ → Result (Option Part) Refusal → List ℕ
value_at img (Ok (Some x)) = part img x.offset x.length
value_at img (Ok None) = []
value_at img (Err r) = []

unfoldable pub value_call : List ℕ → ℕ → List ℕ
value_call img k = value_at img (lookup_call img k)

-- ---- next key

-- the smallest larger key of the leaf that a way comes to, or none
unfoldable pub leaf_next : List ℕ → ℕ → Way → Result (Option ℕ) Refusal
leaf_next img k w = above k (records (page_of img w.leaf.page))

-- "the leaf after" it, if there is one: the leaf that the end of its range belongs to, judged with what was read before
unfoldable pub next_after : List ℕ → ℕ → ℕ → Way → Result (Option ℕ) Refusal
next_after img root k w = pick (leb w.leaf.below top_key) (by_way (leaf_read img root w.nodes w.leaf.below) (leaf_next img k)) (Ok None)

-- "Next key reads that and, only if that leaf holds no larger key, the leaf after."
unfoldable pub next_from : List ℕ → ℕ → Result ℕ Refusal → Result (Option ℕ) Refusal
next_from img k (Err r) = Err r
next_from img k (Ok root) = by_way (leaf_read img root (root_read root) k) (λ w. or_else (leaf_next img k w) (next_after img root k w))

-- "Next takes any 8-byte number and answers the smallest key above it, or none."
unfoldable pub next_call : List ℕ → ℕ → Result (Option ℕ) Refusal
next_call img k = next_from img k (index_call img)
