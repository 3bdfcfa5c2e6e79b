-- The definition, computed: previews on a fresh store of 8 pages, which holds no quote.
-- Assumes nothing.
use Rattle.std.specs.Prelude.{Err, None, Ok, Option, Result, Some}
use Prim.Native.Nat.{ℕ}
use mathlib.Core.Path.{◌≡◌, refl, ap, ap₂, ◌∙◌}
use mathlib.Core.List.{List, [], ◌∷◌, map}
use Rattle.device.specs.Calls.{refusal_at}
use Rattle.preview.specs.declared.Preview.{Preview}
use Rattle.device.specs.declared.Refusal.{Refusal}
use Rattle.image.specs.declared.Part.{Part}
use Rattle.preview.specs.declared.Preview.TheVariants.{InList}
use Rattle.codec.specs.Lists.{part}
use Rattle.codec.specs.Numbers.{number, bytes_of}
use Rattle.page.specs.Layout.{Rec}
use Rattle.image.specs.Table.{find}
use Rattle.image.specs.Fresh.{fresh}
use Rattle.image.specs.Calls.{key_ok}
use Rattle.image.proofs.Fresh.{fresh-sound, fresh-table}
use Rattle.image.proofs.Exact.{missing-lookup}
use Rattle.edit.specs.EditList.{Edit, insert, update, delete, edit_bytes, edit_of, edit_in, fault_in, Listed, joined, edits_in, edit_list}
use Rattle.edit.specs.Ledger.{add, replace, without, apply_edit}
use Rattle.edit.specs.Reads.{list_bytes}
use Rattle.edit.specs.Keys.{holds, key_rule, wholly, key_fault, keys_from}
use Rattle.preview.specs.Calls.{in_image, brings, seen_from, seen, rules_of, keys_of, list_of, preview_call}
use Rattle.preview.proofs.Answers.{preview-sound}

-- the edits of a list, the key that is asked, and the answer
pub record Row : Type 0 where
  pub edits : List Edit
  pub key : ℕ
  pub answer : Result (Option Preview) Refusal

abbrev pub given : Row → Result (Option Preview) Refusal
given r = preview_call (fresh 8) (list_bytes r.edits) r.key

unfoldable pub rows : List Row
rows =
    -- a new quote, and another key
    record { edits = insert 101 (7 ∷ 8 ∷ []) ∷ []; key = 101; answer = Ok (Some (InList (record { offset = 10; length = 2 }))) } ∷
    record { edits = insert 101 (7 ∷ 8 ∷ []) ∷ []; key = 102; answer = Ok None } ∷
    -- the last edit of the key decides: its value stands past two edits of 12 and 10 bytes
    record { edits = insert 5 (1 ∷ 2 ∷ []) ∷ delete 5 ∷ insert 5 (3 ∷ []) ∷ []; key = 5; answer = Ok (Some (InList (record { offset = 32; length = 1 }))) } ∷
    record { edits = insert 5 (1 ∷ 2 ∷ []) ∷ update 5 (3 ∷ []) ∷ delete 5 ∷ []; key = 5; answer = Ok None } ∷
    -- an insert or update of an empty value is 19, whatever its key, and before 6 for the key asked; a delete is not
    record { edits = insert 5 (1 ∷ []) ∷ delete 5 ∷ insert 0 [] ∷ []; key = 0; answer = Err (refusal_at 19 2) } ∷
    record { edits = update 5 [] ∷ []; key = 5; answer = Err (refusal_at 19 0) } ∷
    -- 8 and 9, of keys that are not asked, after the last edit of the one that is
    record { edits = insert 5 (1 ∷ []) ∷ insert 6 (1 ∷ []) ∷ insert 6 (2 ∷ []) ∷ []; key = 5; answer = Err (refusal_at 8 2) } ∷
    record { edits = insert 5 (1 ∷ []) ∷ update 6 (1 ∷ []) ∷ []; key = 5; answer = Err (refusal_at 9 1) } ∷
    -- 6 for the key asked comes before 9, and after the list's
    record { edits = delete 5 ∷ []; key = 0; answer = Err (refusal_at 6 0) } ∷
    record { edits = delete 5 ∷ insert 0 (1 ∷ []) ∷ []; key = 0; answer = Err (refusal_at 6 1) } ∷
    record { edits = []; key = 0; answer = Err (refusal_at 5 0) } ∷
    []

-- what a fresh store leaves of the definition: it is sound, and its table is empty
abbrev on_fresh : ℕ → Listed → Result (Option Preview) Refusal
on_fresh k l = list_of (wholly []) (λ ks. Ok None) k l

fresh-call : (bytes : List ℕ) (k : ℕ) → preview_call (fresh 8) bytes k ≡ on_fresh k (edit_list bytes)
unfolding find
fresh-call bytes k =
    let sound = fresh-sound 8 refl in
    let empty = fresh-table 8 in
    let none = missing-lookup (fresh 8) sound k (ap (find k) empty) in
    preview-sound (fresh 8) bytes sound k ∙ ap₂ (λ (t : List Rec) (a : Result (Option Part) Refusal). list_of (wholly t) (λ ks. a) k (edit_list bytes)) empty none

computed : (rs : List Row) → map given rs ≡ map (λ (r : Row). on_fresh r.key (edit_list (list_bytes r.edits))) rs
computed [] = refl
computed (r ∷ rs) = ap₂ (λ (a : Result (Option Preview) Refusal) (l : List (Result (Option Preview) Refusal)). a ∷ l) (fresh-call (list_bytes r.edits) r.key) (computed rs)

-- every row's answer is the call's
pub previews-worked : map given rows ≡ map (λ (r : Row). r.answer) rows
unfolding rows edit_bytes bytes_of edit_list edits_in joined fault_in edit_in edit_of part number key_ok list_of keys_of rules_of seen in_image seen_from brings keys_from key_fault key_rule holds find apply_edit add replace without
previews-worked = computed rows
