-- `changed_words`: the words that are collected and those of the pages still to come are the whole.
-- Assumes nothing.
use Prim.Native.Nat.{◌-◌, ◌*◌, ◌≤◌}
use Rattle.journal.specs.Changes.{page_words}
use Rattle.tape_write.specs.Words.{stored_words, stage_words}
use Rattle.tape_write.specs.Calls.{reached_in}
use Rattle.tape_write.proofs.Collecting.{Collects}
use Rattle.tape_write.proofs.words.changed_words.Given as goal

abbrev pub invariant-loop-p : goal.invariant-loop-p
invariant-loop-p l = (l.n ≤ page_words * l.p) × Collects l.words l.n (stored_words (reached_in l.image) l.image l.work (page_words * (l.pages - l.p)) (page_words * l.p)) l.initial.words 0 (stage_words l.image l.work)
