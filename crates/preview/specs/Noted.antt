-- What the code notes of the edits that it has judged, the key and the kind of each by their numbers; and of the leaves that it has found sound.
-- Assumes nothing.
use Rattle.std.specs.Prelude.{ℕ, ◌≡◌, Bool, true, false, not, List, reverse, length, get_or, eqb, Err, None, Ok, Option, Some, Result, option_map}
use Rattle.std.specs.List.{find}
use Rattle.codec.specs.Lists.{pick}
use Rattle.device.specs.Calls.{unsound, key_present, key_missing, refusal, Answer, refusal_at}
use Rattle.device.specs.declared.Refusal.{Refusal}
use Rattle.page.specs.Layout.{Rec}
use Rattle.image.specs.Image.{leaf_at}
use Rattle.image.specs.Descent.{Way, way_to, leaf_read, nodes_in, records_in}
use Rattle.image.specs.Marks.{Marked}
use Rattle.edit.specs.Keys.{holds}
use Rattle.preview.specs.declared.keys.Noted.{Noted}

-- the kind of the last edit of the key k among those that are noted
unfoldable pub kind_noted : List Noted → ℕ → Option ℕ
kind_noted noted k = option_map (λ (e : Noted). e.kind) (find (λ (e : Noted). eqb e.key k) (reverse noted))

-- whether the key k is there, by the records that are read for it
unfoldable pub presence : ℕ → Option (List Rec) → Result Bool Refusal
presence k None = Err (refusal unsound)
presence k (Some t) = Ok (holds k t)

-- whether the key is there then, where `before` says whether it was before them all: a delete (3) leaves it missing
unfoldable pub there_by : Option ℕ → Result Bool Refusal → Result Bool Refusal
there_by None before = before
there_by (Some kind) before = Ok (not (eqb kind 3))

-- what is said of edit i, an insert or another, whose key is there or not
unfoldable pub fault_by : ℕ → Bool → Result Bool Refusal → Answer
fault_by i inserts (Err r) = Err r
fault_by i inserts (Ok true) = pick inserts (Err (refusal_at key_present i)) (Ok tt)
fault_by i inserts (Ok false) = pick inserts (Ok tt) (Err (refusal_at key_missing i))

-- ---- the leaves that are judged

-- page q is the leaf of a key whose way is among the pages `nodes` that are read, and it is sound
pub record SoundLeaf (img : List ℕ) (root : ℕ) (nodes : List ℕ) (q : ℕ) : Type 0 where
  pub key : ℕ
  pub way : Way
  pub to : way_to img root nodes key ≡ Some way
  pub read : way.nodes ≡ nodes
  pub page : way.leaf.page ≡ q
  pub good : leaf_at img way.only way.leaf ≡ true

-- once the pages `nodes` are read: the marks of them and of the pages that they name, and the marks of pages whose leaf is judged, one for each page that an image can have: only leaves that
-- are sound are marked
pub record Marks (img : List ℕ) (root : ℕ) (nodes marks judged : List ℕ) : Type 0 where
  pub named : Marked img root nodes marks
  pub enough : length judged ≡ 64
  pub only-sound : (q : ℕ) → (get_or judged q 0 ≡ 0 → ⊥) → SoundLeaf img root nodes q

abbrev pub AreMarks : List ℕ → ℕ → List ℕ → List ℕ → Type 0
AreMarks img root marks judged = (nodes : List ℕ) × Marks img root nodes marks judged

-- what is answered for the key k, whose last edit that is noted has this kind, if there is one; and the marks after it, whatever pages `nodes` they stand for: the pages on the way of k
-- are then read too
pub record Looked (img : List ℕ) (root k : ℕ) (kind : Option ℕ) (marks judged : List ℕ) (answer : Result Bool Refusal) (marks-after judged-after : List ℕ) : Type 0 where
  pub value : (nodes : List ℕ) → Marks img root nodes marks judged → answer ≡ there_by kind (presence k (records_in img (leaf_read img root nodes k)))
  pub after : (there : Bool) → answer ≡ Ok there → (nodes : List ℕ) → Marks img root nodes marks judged → ((x : ℕ) → kind ≡ Some x → nodes_in (way_to img root nodes k) nodes ≡ nodes) →
      Marks img root (nodes_in (way_to img root nodes k) nodes) marks-after judged-after
