-- `judge_keys`: what is noted says which keys are there, the marks stand for what was read for the keys so far, and what the edits that are left come to is what all come to.
-- Assumes nothing.
use Prim.Native.Nat.{ℕ, ◌-◌, ◌≤◌}
use mathlib.Core.Path.{◌≡◌}
use mathlib.Core.List.{List, map}
use lib.ListN.{length}
use Rattle.image.specs.Descent.{root_read, nodes_after, records_for}
use Rattle.edit.specs.EditList.{key_of, edits_of, edit_list}
use Rattle.edit.specs.Keys.{keys_from}
use Rattle.preview.specs.Noted.{Marks}
use Rattle.preview.proofs.Judging.{Upto}
use Rattle.preview.proofs.keys.judge_keys.Given as goal

abbrev pub invariant-loop-at : goal.invariant-loop-at
invariant-loop-at l =
    (l.at ≤ length l.list) × (length l.noted ≡ 16) × (keys : List ℕ)
    × Upto (records_for l.index.image.now l.index.root) l.list l.noted (keys_from 0 (edits_of (edit_list l.list)) (records_for l.index.image.now l.index.root)) (map key_of (edits_of (edit_list l.list))) l.at l.n keys
    × Marks l.index.image.now l.index.root (nodes_after l.index.image.now l.index.root (root_read l.index.root) keys) l.marks l.judged

abbrev pub decreases-loop-at : goal.decreases-loop-at
decreases-loop-at l = length l.list - l.at
