-- Answers as numbers, for C: what a call answers besides the refusal's number or 0 (`number_of`), in a lent array.
-- Assumes nothing.
use Rattle.std.specs.Prelude.{ℕ, List, [], ◌∷◌, length, leb, Err, None, Ok, Option, Result, Some}
use Rattle.std.proofs.lemmas.List.Edits.{sets}
use Rattle.preview.specs.declared.Preview.{Preview}
use Rattle.device.specs.declared.Refusal.{Refusal}
use Rattle.journal.specs.declared.Redone.{Redone}
use Rattle.image.specs.declared.Part.{Part}
use Rattle.preview.specs.declared.Preview.TheVariants.{InImage, InList}
use Rattle.codec.specs.Lists.{pick}
use Rattle.journal.specs.declared.CommitPlace.{CommitPlace}
use Rattle.journal.specs.declared.CommitPlace.TheVariants.{Header, Root, Log}
use Rattle.journal.specs.declared.Commit.{Commit}

-- an array with numbers written at its front, if it has room for all of them
unfoldable pub lent : List ℕ → List ℕ → List ℕ
lent old new = pick (leb (length new) (length old)) (sets old 0 new) old

-- the number of cuts, or a cut's count of commands. A refusal writes nothing
unfoldable pub counted_numbers : Result ℕ Refusal → List ℕ
counted_numbers (Ok n) = n ∷ []
counted_numbers (Err r) = []

-- a lookup: 1, the value's offset and its length; or three zeros where the key is missing. A refusal writes nothing
unfoldable pub lookup_numbers : Result (Option Part) Refusal → List ℕ
lookup_numbers (Ok (Some x)) = 1 ∷ x.offset ∷ x.length ∷ []
lookup_numbers (Ok None) = 0 ∷ 0 ∷ 0 ∷ []
lookup_numbers (Err r) = []

-- a next key: 1 and the key; or two zeros where there is none. A refusal writes nothing
unfoldable pub next_numbers : Result (Option ℕ) Refusal → List ℕ
next_numbers (Ok (Some k)) = 1 ∷ k ∷ []
next_numbers (Ok None) = 0 ∷ 0 ∷ []
next_numbers (Err r) = []

-- a preview: edit number, which slice has the value (1 the edit list, 2 the image, 0 where the key is missing), its offset there and its length; a refusal has its edit number
-- and zeros
unfoldable pub preview_numbers : Result (Option Preview) Refusal → List ℕ
preview_numbers (Ok (Some (InList x))) = 0 ∷ 1 ∷ x.offset ∷ x.length ∷ []
preview_numbers (Ok (Some (InImage x))) = 0 ∷ 2 ∷ x.offset ∷ x.length ∷ []
preview_numbers (Ok None) = 0 ∷ 0 ∷ 0 ∷ 0 ∷ []
preview_numbers (Err r) = r.edit ∷ 0 ∷ 0 ∷ 0 ∷ []

-- a commit place: 1 and its page for a header, 2 for the root word, 3 for the log
abbrev pub place_kind : CommitPlace → ℕ
place_kind (Header p) = 1
place_kind Root = 2
place_kind Log = 3

abbrev pub place_page : CommitPlace → ℕ
place_page (Header p) = p
place_page Root = 0
place_page Log = 0

-- a transaction: edit number, commit place, its page, tape bytes and flushes; a refusal has its edit number and zeros
unfoldable pub commit_numbers : Commit → List ℕ
commit_numbers c = 0 ∷ place_kind c.place ∷ place_page c.place ∷ c.bytes ∷ c.flushes ∷ []

unfoldable pub transacted_numbers : Result Commit Refusal → List ℕ
transacted_numbers (Ok c) = commit_numbers c
transacted_numbers (Err r) = r.edit ∷ 0 ∷ 0 ∷ 0 ∷ 0 ∷ []

-- a recovery: tape bytes and flushes. A refusal writes nothing
unfoldable pub recovered_numbers : Result Redone Refusal → List ℕ
recovered_numbers (Ok d) = d.bytes ∷ d.flushes ∷ []
recovered_numbers (Err r) = []
