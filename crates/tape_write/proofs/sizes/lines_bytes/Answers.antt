-- `lines_bytes`, by the way.
-- Assumes nothing.
use Rattle.tape_write.specs.Sizes.{lines_bytes}
use Rattle.tape_write.proofs.sizes.lines_bytes.Goals as goal

pub returns-in-ByLine : goal.returns-in-ByLine
unfolding lines_bytes
returns-in-ByLine c = rw c.in-ByLine.is

pub returns-in-ByWords : goal.returns-in-ByWords
unfolding lines_bytes
returns-in-ByWords c = rw c.in-ByWords.is
