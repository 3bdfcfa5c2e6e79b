-- `blank`: the joined words are 0 only if the bytes passed are, and are 0 if all bytes are.
-- Assumes nothing.
use Rattle.std.proofs.Common.{◌≡◌}
use Rattle.page.proofs.CheckBlank.{Words}
use Rattle.page.proofs.check.blank.Given as goal

abbrev pub invariant-loop-word : goal.invariant-loop-word
invariant-loop-word l = (l.word-iterator.size ≡ 8) × Words l.page l.at l.end l.joined l.word-iterator.rest.now
