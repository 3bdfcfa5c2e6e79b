-- `ranged`: 6 for a key out of range.
-- Assumes nothing.
use Rattle.std.specs.Prelude.{Err}
use mathlib.Core.Path.{ap, ◌∙◌}
use mathlib.Core.Logic.{inl, inr}
use Rattle.image.specs.Calls.{ranged}
use Rattle.image.proofs.KeyRange.{true-key_ok, false-key_ok}
use Rattle.image.proofs.calls.ranged.Goals as goal

pub returns-then-key-lt1 : goal.returns-then-key-lt1
unfolding ranged
returns-then-key-lt1 c = ap Err c.of.ensures ∙ rw (false-key_ok _ (inl c.if-key-lt1.true))

pub returns-then-key-gt-TOP_KEY : goal.returns-then-key-gt-TOP_KEY
unfolding ranged
returns-then-key-gt-TOP_KEY c = ap Err c.of-then-key-gt-TOP_KEY.ensures ∙ rw (false-key_ok _ (inr c.if-key-gt-TOP_KEY.true))

pub returns : goal.returns
unfolding ranged
returns c = rw (true-key_ok _ c.if-key-lt1.false c.if-key-gt-TOP_KEY.false)
