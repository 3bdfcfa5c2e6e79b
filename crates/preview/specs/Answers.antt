-- What a preview answers: each refusal with its ground, the first that holds, and where none does, the part that the last edit of the key decides.
-- Assumes nothing.
use Rattle.std.specs.Prelude.{ℕ, ◌+◌, ◌≤◌, ◌<◌, ◌≡◌, ◌⊎◌, List, ◌∷◌, ◌++◌, map, length, Err, None, Ok, Option, Result, Some}
use Rattle.device.specs.Calls.{refusal_at}
use Rattle.preview.specs.declared.Preview.{Preview}
use Rattle.preview.specs.declared.Preview.TheVariants.{InImage, InList}
use Rattle.codec.specs.Lists.{All}
use Rattle.device.specs.declared.Refusal.{Refusal}
use Rattle.image.specs.Table.{table}
use Rattle.image.specs.Descent.{root_read, nodes_after, records_for}
use Rattle.image.specs.Calls.{check_call}
use Rattle.image.specs.Says.{Opened, NotOpened, ReadUnsound}
use Rattle.edit.specs.EditList.{Edit, insert, update, delete, key_of}
use Rattle.edit.specs.Reads.{list_bytes, Whole, ListFault}
use Rattle.edit.specs.Keys.{AllKeptBy, FirstFault, AllKept}
use Rattle.preview.specs.Calls.{stored_after}

-- none of the edits is of the key k
abbrev pub NoEdit : ℕ → List Edit → Type 0
NoEdit k es = All (λ (e : Edit). key_of e ≡ k → ⊥) es

-- "the last edit of that key", with those before and after it
pub record LastEdit (k : ℕ) (es : List Edit) : Type 0 where
  pub before : List Edit
  pub edit : Edit
  pub later : List Edit
  pub shape : es ≡ before ++ edit ∷ later
  pub own : key_of edit ≡ k
  pub last : NoEdit k later

-- nothing is refused up to the key asked: page 0 and the index are sound, the list is that of the edits es, the key is in range, and the key rules hold for
-- the whole list, by the leaf that each edit's key belongs to, judged with the pages read before it
pub record Asked (img bytes : List ℕ) (k root : ℕ) (es : List Edit) : Type 0 where
  pub opened : Opened img root
  pub whole : Whole bytes es
  pub low : 1 ≤ k
  pub high : k ≤ 999999999999
  pub kept : AllKeptBy es (records_for img root)

-- the same of a sound image, by the ledger's table
pub record AskedSound (img bytes : List ℕ) (k : ℕ) (es : List Edit) : Type 0 where
  pub checked : check_call img ≡ Ok tt
  pub whole : Whole bytes es
  pub low : 1 ≤ k
  pub high : k ≤ 999999999999
  pub kept : AllKept es (table img)

-- "Refused: check's, then the list's, then 6 for the key asked, then 8 and 9. Edit numbers are as in a transaction, 0 for the key asked"; "a leaf's 4 comes just before the
-- 8 or 9 of the first edit that needs that leaf, or last of all for the key asked", and "an index page's 4 comes where its leaf's would"; else "a part of the edit list or a part of the image, as the last edit of that key decides": a
-- value stands in the list 10 bytes after its edit's start
pub data Answers (img bytes : List ℕ) (k : ℕ) : Result (Option Preview) Refusal → Type 0 where
  bad-image : (r : Refusal) → NotOpened img r → Answers img bytes k (Err r)
  bad-list : (root : ℕ) → Opened img root → (n i : ℕ) → ListFault bytes n i → Answers img bytes k (Err (refusal_at n i))
  bad-key : (root : ℕ) → Opened img root → (es : List Edit) → Whole bytes es → (k < 1) ⊎ (999999999999 < k) → Answers img bytes k (Err (refusal_at 6 0))
  bad-edit : (root : ℕ) → Opened img root → (es : List Edit) → Whole bytes es → 1 ≤ k → k ≤ 999999999999 → (n i : ℕ) → FirstFault 0 es (records_for img root) n i →
      Answers img bytes k (Err (refusal_at n i))
  in_list : (root : ℕ) (es : List Edit) → Asked img bytes k root es → (l : LastEdit k es) (v : List ℕ) → (l.edit ≡ insert k v) ⊎ (l.edit ≡ update k v) →
      Answers img bytes k (Ok (Some (InList (record { offset = (length (list_bytes l.before) + 10); length = (length v) }))))
  deleted : (root : ℕ) (es : List Edit) → Asked img bytes k root es → (l : LastEdit k es) → l.edit ≡ delete k → Answers img bytes k (Ok None)
  bad-way : (root : ℕ) (es : List Edit) → Asked img bytes k root es → NoEdit k es → ReadUnsound img root (nodes_after img root (root_read root) (map key_of es)) k → Answers img bytes k (Err (refusal_at 4 0))
  of_image : (root : ℕ) (es : List Edit) → Asked img bytes k root es → NoEdit k es → (o n : ℕ) → stored_after img root k (map key_of es) ≡ Ok (Some (record { offset = o; length = n })) → Answers img bytes k (Ok (Some (InImage (record { offset = o; length = n }))))
  missing : (root : ℕ) (es : List Edit) → Asked img bytes k root es → NoEdit k es → stored_after img root k (map key_of es) ≡ Ok None → Answers img bytes k (Ok None)
