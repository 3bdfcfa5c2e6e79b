-- `find_changes`: each count is what its loop counts.
-- Assumes nothing.
use Prim.Native.Nat.{ℕ}
use mathlib.Core.Path.{ap, ◌∙◌}
use mathlib.Core.List.{List}
use lib.ListN.{length}
use Rattle.journal.specs.Changes.{same_root}
use Rattle.tape_write.specs.Words.{lines_past}
use Rattle.tape_write.proofs.find_changes.Goals as goal

pub returns : goal.returns
unfolding same_root
returns c =
    let n = c.changed_words-n.ensures in
    let k = c.changed_headers-k.ensures in
    record { counted = record { words = n.value; lines = c.count_lines.ensures ∙ ap (λ (x : List ℕ). length (lines_past 0 x)) n.words_first; headers = k.value; root = c.same_words.ensures }; words_first = n.words_first; pages_first = k.pages_first }
