-- What a merge answers, and what it leaves in the third buffer (document 02 (i) and (j)).
-- Assumes nothing.
use Rattle.std.specs.Prelude.{ℕ, suc, ◌+◌, List, length, leb, Err, Ok}
use Rattle.device.specs.Calls.{image_size, index_full, pages_out, key_in_both, is_image_size, Ran, accepted, unless, Answer}
use Rattle.page.specs.Layout.{slot_count, Rec}
use Rattle.image.specs.PageZero.{page_count}
use Rattle.image.specs.Table.{table}
use Rattle.image.specs.Fresh.{index_count, pages_above, stored}
use Rattle.image.specs.Calls.{check_call}
use Rattle.merge.specs.Tables.{merged, apart}
use Rattle.merge.specs.Leaves.{leaves_of}

-- "10, then 11": "10 now means a 29th record in the top page" (document 02 (j)), of index pages that are "filled to 28 each"; 11 that the pages above the leaves and the leaves exceed the pages
-- past page 0
unfoldable pub store_leaves : List (List Rec) → List ℕ → Ran
store_leaves ls out =
    unless (leb (index_count (length ls)) slot_count) index_full out
    (unless (leb (suc (pages_above (length ls) + length ls)) (page_count out)) pages_out out
    (accepted (stored (page_count out) ls)))

-- "20 if a key is in both"
unfoldable pub merge_tables : List Rec → List Rec → List ℕ → Ran
merge_tables t u out = unless (apart t u) key_in_both out (store_leaves (leaves_of (merged t u)) out)

-- check's refusals, "each leaving the third buffer unchanged"
unfoldable pub if_checked : Answer → List ℕ → Ran → Ran
if_checked (Ok done) out ran = ran
if_checked (Err r) out ran = record { answer = Err r; work = out }

-- "Refused: 1 for the third buffer, check's for the first image, check's for the second, 20 if a key is in both, 10, then 11"
unfoldable pub merge_call : List ℕ → List ℕ → List ℕ → Ran
merge_call a b out =
    unless (is_image_size (length out)) image_size out
    (if_checked (check_call a) out
    (if_checked (check_call b) out
    (merge_tables (table a) (table b) out)))
