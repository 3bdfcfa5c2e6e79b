-- What a preview answers, and the part that it hands back (document 02 (a), (b) and (j)).
-- Assumes nothing.
use Rattle.std.specs.Prelude.{ℕ, ◌+◌, List, [], ◌∷◌, map, length, eqb, Err, None, Ok, Option, Result, Some}
use Rattle.preview.specs.declared.Preview.{Preview}
use Rattle.device.specs.declared.Refusal.{Refusal}
use Rattle.image.specs.declared.Part.{Part}
use Rattle.preview.specs.declared.Preview.TheVariants.{InImage, InList}
use Rattle.codec.specs.Lists.{part, pick}
use Rattle.device.specs.Calls.{key_range, refusal, Answer, refusal_at}
use Rattle.image.specs.Descent.{root_read, nodes_after, records_for}
use Rattle.image.specs.Calls.{index_call, key_ok, leaf_lookup}
use Rattle.edit.specs.EditList.{Edit, insert, update, delete, key_of, head_size, edit_bytes, Listed, listed, faulty, edit_list}
use Rattle.edit.specs.Keys.{Source, keys_from}

-- ---- what is seen of a key

-- where no edit has the key: what the leaf that it belongs to holds for it, or that leaf's 4, "last of all"
unfoldable pub in_image : Result (Option Part) Refusal → Result (Option Preview) Refusal
in_image (Ok (Some x)) = Ok (Some (InImage x))
in_image (Ok None) = Ok None
in_image (Err r) = Err r

-- what an edit makes of its own key, where it stands in the list from offset `at` on: the part of the list that is its value, or nothing
unfoldable pub brings : ℕ → Edit → Result (Option Preview) Refusal
brings at (insert k v) = Ok (Some (InList (record { offset = at + head_size; length = length v })))
brings at (update k v) = Ok (Some (InList (record { offset = at + head_size; length = length v })))
brings at (delete k) = Ok None

-- "as the last edit of that key decides": the edits es stand in the list from offset `at` on, and `answer` is what is seen of the key k before them
unfoldable pub seen_from : ℕ → ℕ → Result (Option Preview) Refusal → List Edit → Result (Option Preview) Refusal
seen_from k at answer [] = answer
seen_from k at answer (e ∷ es) = seen_from k (at + length (edit_bytes e)) (pick (eqb (key_of e) k) (brings at e) answer) es

-- `stored` is what the image holds for the key
unfoldable pub seen : Result (Option Part) Refusal → ℕ → List Edit → Result (Option Preview) Refusal
seen stored k es = seen_from k 0 (in_image stored) es

-- ---- the call

unfoldable pub rules_of : Result (Option Preview) Refusal → Answer → Result (Option Preview) Refusal
rules_of answer (Err r) = Err r
rules_of answer (Ok done) = answer

-- "then 6 for the key asked, then 8 and 9": "The key rules of edits hold for the whole list", by what is read for each edit's key; `stored` is what the image holds for the key
-- asked once other keys were looked for
unfoldable pub keys_of : Source → (List ℕ → Result (Option Part) Refusal) → ℕ → List Edit → Result (Option Preview) Refusal
keys_of read stored k es = pick (key_ok k) (rules_of (seen (stored (map key_of es)) k es) (keys_from 0 es read)) (Err (refusal key_range))

-- "then the list's"
unfoldable pub list_of : Source → (List ℕ → Result (Option Part) Refusal) → ℕ → Listed → Result (Option Preview) Refusal
list_of read stored k (faulty n i) = Err (refusal_at n i)
list_of read stored k (listed es) = keys_of read stored k es

-- what the image holds for the key k, once the keys ks were looked for
unfoldable pub stored_after : List ℕ → ℕ → ℕ → List ℕ → Result (Option Part) Refusal
stored_after img root k ks = leaf_lookup img root (nodes_after img root (root_read root) ks) k

-- "Refused: check's", of page 0 and the root page; each key is looked for in the one leaf that it belongs to: "In the look an index page's 4 comes where its leaf's would."
unfoldable pub opened_of : List ℕ → List ℕ → ℕ → Result ℕ Refusal → Result (Option Preview) Refusal
opened_of img bytes k (Err r) = Err r
opened_of img bytes k (Ok root) = list_of (records_for img root) (stored_after img root k) k (edit_list bytes)

unfoldable pub preview_call : List ℕ → List ℕ → ℕ → Result (Option Preview) Refusal
preview_call img bytes k = opened_of img bytes k (index_call img)

-- ---- its companion

-- "hands back a part of the edit list or a part of the image"; "refused or missing, the part is empty"
unfoldable pub part_of : List ℕ → List ℕ → Result (Option Preview) Refusal → List ℕ
part_of img bytes (Ok (Some (InList x))) = part bytes x.offset x.length
part_of img bytes (Ok (Some (InImage x))) = part img x.offset x.length
part_of img bytes (Ok None) = []
part_of img bytes (Err r) = []

unfoldable pub preview_value_call : List ℕ → List ℕ → ℕ → List ℕ
preview_value_call img bytes k = part_of img bytes (preview_call img bytes k)
