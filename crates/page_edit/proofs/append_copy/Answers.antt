-- `append_copy`: the record's bytes written below start, and its slot put in as the last.
-- Assumes nothing.
use Prim.Native.Nat.{◌+◌}
use mathlib.Core.Path.{◌≡◌}
use native.Mathlib.Omega.{arith}
use Rattle.page.specs.Layout.{size, record_at}
use Rattle.page.specs.Operations.{sizes}
use Rattle.page.proofs.Records.{size-least}
use Rattle.page_edit.proofs.Filled.{size-at, copied, appended}
use Rattle.page_edit.proofs.append_copy.Goals as goal
use Rattle.page_edit.proofs.append_copy.Goals.{After-round_up-s}

pub number_at-requires : goal.number_at-requires
number_at-requires c =
    omega (arith, c.requires.2.inside, size-least (record_at c.args.old.now c.args.at))

its-size : (c : After-round_up-s) → 16 + c.round_up-s.result ≡ size (record_at c.args.old.now c.args.at)
its-size c = size-at _ _ _ _ c.requires.2 c.number_at.ensures.0 c.round_up-s.ensures

pub overflow_add-s : goal.overflow_add-s
overflow_add-s c = omega (arith, its-size (goal.at.overflow_add-s c).After-round_up-s)

pub overflow_sub-h : goal.overflow_sub-h
unfolding sizes
overflow_sub-h c = omega (arith, its-size (goal.at.overflow_sub-h c).After-round_up-s, c.requires.3.room)

pub copy-requires : goal.copy-requires
unfolding sizes
copy-requires c =
    let z = its-size (goal.at.copy-requires c).After-round_up-s in
    (omega (arith, c.requires.3.room, c.requires.3.high, c.requires.0), omega (arith, c.requires.2.inside))

pub inserted-requires : goal.inserted-requires
unfolding sizes
inserted-requires c =
    let z = its-size (goal.at.inserted-requires c).After-round_up-s in
    (c.requires.3.clean, omega (arith, c.requires.3.few), omega arith, omega (arith, c.requires.3.room), c.requires.3.high)

pub returns : goal.returns
returns c =
    let z = its-size (goal.at.returns c).After-round_up-s in
    appended _ _ _ _ _ _ c.requires.3.clean z c.inserted.ensures (copied _ c.args.old.now _ _ c.args.at _ c.requires.2 z c.copy.ensures)
