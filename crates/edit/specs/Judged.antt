-- What the code answers of an edit list.
-- Assumes nothing.
use Rattle.std.specs.Prelude.{ℕ, Option, Some, None, Ok, Err, eqb}
use Rattle.codec.specs.Lists.{pick}
use Rattle.device.specs.Calls.{Answer, cause_of, refusal_at}
use Rattle.device.specs.declared.Cause.{Cause}
use Rattle.edit.specs.EditList.{Listed, listed, faulty}

-- the cause that a refusal's number names, and none for 0
abbrev pub cause_named : ℕ → Option Cause
cause_named k = pick (eqb k 0) None (Some (cause_of k))

-- "then the list, first faulty edit": the refusal's number, with the number of that edit
unfoldable pub judged_of : Listed → Answer
judged_of (listed es) = Ok tt
judged_of (faulty k i) = Err (refusal_at k i)
