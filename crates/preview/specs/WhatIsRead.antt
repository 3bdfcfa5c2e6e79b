-- What the reading calls read, and what they reply: lookup, next key and preview, each with its companion (document 02 (b) and (j)).
-- Assumes nothing.
use Rattle.std.specs.Prelude.{ℕ, Bool, false, ◌||◌, List, [], ◌∷◌, ◌++◌, eqb, Err, Ok, Option, Result}
use Rattle.preview.specs.declared.Preview.{Preview}
use Rattle.device.specs.declared.Refusal.{Refusal}
use Rattle.image.specs.declared.Part.{Part}
use Rattle.device.specs.Calls.{Answer}
use Rattle.codec.specs.Lists.{pick}
use Rattle.image.specs.Descent.{records_for}
use Rattle.image.specs.Calls.{key_ok, lookup_call, value_call, next_call}
use Rattle.image.specs.WhatIsRead.{lookup_reads, next_reads}
use Rattle.edit.specs.EditList.{Edit, key_of, Listed, listed, faulty, edit_list}
use Rattle.edit.specs.Keys.{Source, keys_from, keys_read}
use Rattle.preview.specs.Calls.{preview_call, preview_value_call}

-- ---- the keys that a preview looks for under the root

-- whether one of the edits is of the key k
unfoldable pub has_edit : ℕ → List Edit → Bool
has_edit k [] = false
has_edit k (e ∷ es) = eqb (key_of e) k || has_edit k es

-- "or last of all for the key asked", only if no edit has it
unfoldable pub last_read : ℕ → List Edit → Answer → List ℕ
last_read k es (Err r) = []
last_read k es (Ok done) = pick (has_edit k es) [] (k ∷ [])

unfoldable pub list_reads : Source → ℕ → Listed → List ℕ
list_reads read k (faulty n i) = []
list_reads read k (listed es) = pick (key_ok k) (keys_read 0 es read ++ last_read k es (keys_from 0 es read)) []

unfoldable pub preview_reads : List ℕ → List ℕ → ℕ → ℕ → List ℕ
preview_reads img bytes k root = list_reads (records_for img root) k (edit_list bytes)

-- ---- the calls

pub data Asking : Type 0 where
  lookup : ℕ → Asking
  next_key : ℕ → Asking
  preview : List ℕ → ℕ → Asking

-- the answer, and the bytes of the companion
pub data Reply : Type 0 where
  looked : Result (Option Part) Refusal → List ℕ → Reply
  next : Result (Option ℕ) Refusal → Reply
  seen : Result (Option Preview) Refusal → List ℕ → Reply

unfoldable pub reply_to : Asking → List ℕ → Reply
reply_to (lookup k) img = looked (lookup_call img k) (value_call img k)
reply_to (next_key k) img = next (next_call img k)
reply_to (preview bytes k) img = seen (preview_call img bytes k) (preview_value_call img bytes k)

-- the keys whose ways and leaves are read
unfoldable pub keys_for : Asking → List ℕ → ℕ → List ℕ
keys_for (lookup k) img root = lookup_reads k root
keys_for (next_key k) img root = next_reads img k root
keys_for (preview bytes k) img root = preview_reads img bytes k root
