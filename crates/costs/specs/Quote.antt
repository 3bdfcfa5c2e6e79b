-- "The cost of one quote" (document 02 (f) and (h)): the flushes and barriers of an accepted transaction of one edit on the line-store device. That
-- its image is sound is part of the acceptance.
-- Assumes nothing.
use Rattle.std.specs.Prelude.{ℕ, suc, ◌+◌, ◌≤◌, ◌<◌, ◌≡◌, List, [], ◌∷◌, length, Ok}
use Rattle.device.specs.Tape.{Op, barrier_count}
use Rattle.page.specs.Layout.{rec_of, size, read_head}
use Rattle.page.specs.Page.{records}
use Rattle.page.specs.Operations.{page_of}
use Rattle.image.specs.PageZero.{root_of}
use Rattle.image.specs.Image.{children, child_of, height_of}
use Rattle.image.specs.Says.{Belongs}
use Rattle.edit.specs.EditList.{Edit, insert, update, delete, key_of, listed, edit_list}
use Rattle.journal.specs.Cost.{Costs}
use Rattle.journal.specs.declared.Way.TheVariants.{ByLine}
use Rattle.journal.specs.declared.Commit.{Commit}
use Rattle.transaction.specs.Calls.{commands_on, transaction_call}

-- from page q of height h down to the page of the leaf that the key k belongs to: "A key belongs by the old rule to one index page, then within it to a leaf."
pub data LeafOf (a : List ℕ) (k : ℕ) : ℕ → ℕ → ℕ → Type 0 where
  itself : (q : ℕ) → LeafOf a k 0 q q
  below : (h q leaf : ℕ) → (b : Belongs k (children a q)) → LeafOf a k h (child_of b.own) leaf → LeafOf a k (suc h) q leaf

-- the transaction of a list of the one edit e is accepted with the answer c; the leaf that the key of e belongs to, as each key does to one (`one-leaf`)
pub record OneEdit (a work tape bytes : List ℕ) (e : Edit) (c : Commit) : Type 0 where
  pub is_accepted : (transaction_call ByLine a work tape bytes).answer ≡ Ok c
  pub only : edit_list bytes ≡ listed (e ∷ [])
  pub leaf : ℕ
  pub way : LeafOf a (key_of e) (height_of a (root_of a)) (root_of a) leaf

-- that leaf's page
abbrev pub leaf_page : {a work tape bytes : List ℕ} {e : Edit} {c : Commit} → OneEdit a work tape bytes e c → List ℕ
leaf_page {a} o = page_of a o.leaf

-- the commands on its tape
abbrev pub commands_of : {a work tape bytes : List ℕ} {e : Edit} {c : Commit} → OneEdit a work tape bytes e c → List Op
commands_of {a} {work} {tape} {bytes} {e} {c} o = commands_on a c.bytes (transaction_call ByLine a work tape bytes).tape

-- the answer and the tape: at most `words` words besides the header's line, at most `most` flushes and two barriers
abbrev pub CostsAtMost : {a work tape bytes : List ℕ} {e : Edit} {c : Commit} → OneEdit a work tape bytes e c → ℕ → ℕ → Type 0
CostsAtMost {a} {work} {tape} {bytes} {e} {c} o words most =
    Costs c.place c.flushes (commands_of o) o.leaf words most

-- "one insert or update whose record fits below the content start, an insert finding fewer than 28 records"
abbrev pub FitsBelow : Edit → List ℕ → Type 0
FitsBelow (insert k v) p = (64 + size (rec_of k v) ≤ (read_head p).start) × (length (records p) < 28)
FitsBelow (update k v) p = 64 + size (rec_of k v) ≤ (read_head p).start
FitsBelow (delete k) p = ⊥

-- "must be shown to need at most six flushes", and "(f) gains at most two barriers": it commits by the leaf's header, and stores at most 27 words besides
abbrev pub QuoteCost : Type 0
QuoteCost = (a work tape bytes : List ℕ) (e : Edit) (c : Commit) (o : OneEdit a work tape bytes e c) → FitsBelow e (leaf_page o) → CostsAtMost o 27 6

-- "An accepted delete alone that leaves its leaf with a record needs exactly one.", and one barrier: it commits by the leaf's header, and stores
-- nothing besides
abbrev pub DeleteCost : Type 0
DeleteCost =
    (a work tape bytes : List ℕ) (k : ℕ) (c : Commit) (o : OneEdit a work tape bytes (delete k) c) → 2 ≤ length (records (leaf_page o)) →
    (c.flushes ≡ 1) × (barrier_count (commands_of o) ≡ 1) × CostsAtMost o 0 1
