-- The code's tree, way to a leaf, record to be put and answers, and what of the definitions they stand for.
-- Assumes nothing.
use Rattle.std.specs.Prelude.{ℕ, zero, suc, ◌-◌, ◌≤◌, ◌≡◌, Bool, ◌&&◌, not, List, [], ◌∷◌, length, get_or, slice_set, eqb, leb, Result, Ok, Err}
use Rattle.codec.specs.Lists.{pick}
use Rattle.device.specs.Calls.{cause_number, number_in}
use Rattle.device.specs.declared.Cause.{Cause}
use Rattle.device.specs.declared.Refusal.{Refusal}
use Rattle.page.specs.Layout.{slot_count, index_kind, top_kind, Rec, rec_of}
use Rattle.page.specs.Page.{records}
use Rattle.page.specs.Operations.{made, page_of}
use Rattle.page.specs.PageFormat.{format1}
use Rattle.image.specs.Image.{child_of, among, height_of, tallest}
use Rattle.image.specs.Route.{route}
use Rattle.tree.specs.State.{State, Step, done, refused}
use Rattle.tree.specs.Edits.{PageStep, now, stops, kept, gone, one, two, no_keep, absorbed, onto, low_of, rooted}
use Rattle.tree.specs.Whole as whole
use Rattle.tree_edit.specs.declared.Tree.{Tree}
use Rattle.tree_edit.specs.declared.Child.{Child}
use Rattle.tree_edit.specs.declared.Way.{Way}
use Rattle.tree_edit.specs.declared.Put.{Put}
use Rattle.tree_edit.specs.declared.Turned.{Turned}
use Rattle.tree_edit.specs.declared.Turned.TheVariants as turned

-- ---- marks, one a page

abbrev pub is_marked : List ℕ → ℕ → Bool
is_marked marks p = not (eqb (get_or marks p 0) 0)

-- the marks are those of the pages rs
abbrev pub Marks : List ℕ → List ℕ → Type 0
Marks marks rs = (p : ℕ) → is_marked marks p ≡ among p rs

-- the marks with those of the pages rs
unfoldable pub marked : List ℕ → List ℕ → List ℕ
marked [] marks = marks
marked (p ∷ rs) marks = marked rs (slice_set marks p 1)

-- the pages n, n - 1, .. 1 that are not marked
unfoldable pub unmarked : List ℕ → ℕ → List ℕ
unmarked marks zero = []
unmarked marks (suc n) = let rest = unmarked marks n in pick (is_marked marks (suc n)) rest (suc n ∷ rest)

-- ---- the tree, and what an edit comes to

-- the state that a tree in the image work stands for, where the pages reached before the transaction are marked
abbrev pub state_of : List ℕ → List ℕ → Tree → State
state_of before work t = record { image = work; root = t.root; free = unmarked before (t.top - 1) }

abbrev pub step_of : List ℕ → List ℕ → Result Tree Cause → Step
step_of before work (Ok t) = done (state_of before work t)
step_of before work (Err cause) = refused (cause_number cause)

abbrev pub outcome_of : List ℕ → List ℕ → Result Tree Refusal → whole.Outcome
outcome_of before work (Ok t) = whole.finished (state_of before work t)
outcome_of before work (Err r) = whole.stopped (number_in r) r.edit

-- where new pages are looked for after an edit
abbrev pub top_of : Result Tree Cause → ℕ
top_of (Ok t) = t.top
top_of (Err cause) = 0

-- the answer r, with work as it is left, is what the step s comes to; all marks are of pages below 64
pub record Says (before work : List ℕ) (r : Result Tree Cause) (s : Step) : Type 0 where
  pub same : step_of before work r ≡ s
  pub low : top_of r ≤ 64

-- ---- what an edit under a page comes to

abbrev pub turn_of : List ℕ → List ℕ → ℕ → Turned → PageStep
turn_of before work root (turned.Kept top) = now kept (state_of before work (record { root = root; top = top }))
turn_of before work root (turned.Gone top) = now gone (state_of before work (record { root = root; top = top }))
turn_of before work root (turned.One p top) = now (one p) (state_of before work (record { root = root; top = top }))
turn_of before work root (turned.Two p k q top) = now (two p k q) (state_of before work (record { root = root; top = top }))

abbrev pub top_after : Turned → ℕ
top_after (turned.Kept top) = top
top_after (turned.Gone top) = top
top_after (turned.One p top) = top
top_after (turned.Two p k q top) = top

-- the same where it may be refused
abbrev pub turned_of : List ℕ → List ℕ → ℕ → Result Turned Cause → PageStep
turned_of before work root (Ok r) = turn_of before work root r
turned_of before work root (Err cause) = stops (cause_number cause)

abbrev pub top_in : Result Turned Cause → ℕ
top_in (Ok r) = top_after r
top_in (Err cause) = 0

-- the answer r, with work as it is left, is what the step s comes to
pub record Turns (before work : List ℕ) (root : ℕ) (r : Result Turned Cause) (s : PageStep) : Type 0 where
  pub same : turned_of before work root r ≡ s
  pub low : top_in r ≤ 64

-- ---- the way to a leaf, and records

-- the root, as a page on the way: every key belongs to it
abbrev pub root_place : ℕ → Child
root_place root = record { slot = 0; low = 0; page = root }

-- of the pages that the page c names, the one that the key k belongs to
abbrev pub child_for : List ℕ → Child → ℕ → Child
child_for img c k =
    let rs = records (page_of img c.page) in
    let i = route k rs in
    let r = get_or rs i (rec_of 0 []) in
    record { slot = i; low = low_of i c.low r.key; page = child_of r }

-- "A key belongs by the old rule to one index page, then within it to a leaf." (document 02 (j)): under a root of height h, which is the index page itself or a top page
abbrev pub way_at : ℕ → List ℕ → ℕ → ℕ → Way
way_at h img root k =
    let index = pick (eqb h 1) (root_place root) (child_for img (root_place root) k) in
    record { height = h; index = index; leaf = child_for img index k }

abbrev pub way_of : List ℕ → ℕ → ℕ → Way
way_of img root k = way_at (height_of img root) img root k

-- no page above the leaf has room for one record more, and the root is of the greatest height
abbrev pub filled_above : List ℕ → ℕ → Way → Bool
filled_above img root w =
    eqb w.height tallest && (leb slot_count (length (records (page_of img root))) && leb slot_count (length (records (page_of img w.index.page))))

-- the leaf is "the only one": each page above it names one page
abbrev pub only_below : List ℕ → ℕ → Way → Bool
only_below img root w = eqb (length (records (page_of img root))) 1 && eqb (length (records (page_of img w.index.page))) 1

-- what becomes of the index page, and of the top page, once s is made under it
abbrev pub to_index : Way → PageStep → PageStep
to_index w s = onto s (λ x u. absorbed format1 no_keep index_kind w.leaf.slot w.leaf.low w.index.page x u)

abbrev pub to_top : ℕ → Way → PageStep → PageStep
to_top root w s = onto s (λ x u. absorbed format1 no_keep top_kind w.index.slot w.index.low root x u)

-- what the tree comes to once s is made of the leaf
abbrev pub upward : ℕ → Way → PageStep → Step
upward root w s = pick (eqb w.height 1) (rooted format1 1 (to_index w s)) (rooted format1 2 (to_top root w (to_index w s)))

-- the new record
abbrev pub rec_by : Put → List ℕ → Rec
rec_by new v = rec_of new.key v

-- the records of the page p with the new one put in
abbrev pub made_by : Put → List ℕ → List ℕ → List Rec
made_by new v p = made new.ins new.at (rec_by new v) (records p)
