-- `put_record`: the pieces one after the other are the record's bytes.
-- Assumes nothing.
use Prim.Native.Nat.{ℕ, ◌+◌, ◌-◌, ◌≤◌}
use mathlib.Core.Path.{refl, ap, ◌∙◌}
use native.Mathlib.Omega.{arith}
use lib.ListN.{length, replicate}
use Rattle.codec.specs.Lists.{splice}
use Rattle.page.specs.Layout.{up8}
use Rattle.page.proofs.Records.{up8-least}
use Rattle.page_edit.proofs.Written.{size_of, record-written}
use Rattle.page_edit.proofs.put_record.Goals as goal
use Rattle.page_edit.proofs.put_record.Goals.{Start}

-- the record fits, and so does each piece
fits : (c : Start) → let n = length c.args.value.now in (c.args.at + 16 + up8 n ≤ length c.args.page.now) × (n ≤ up8 n)
fits c =
    let v = c.args.value.now in
    (omega (arith, size_of c.args.key v (up8 (length v)) refl), up8-least (length v))

pub put_long-requires : goal.put_long-requires
put_long-requires c = omega (arith, fits (goal.at.put_long-requires c).Start)

pub put_long-requires-2 : goal.put_long-requires-2
put_long-requires-2 c = omega (arith, fits (goal.at.put_long-requires-2 c).Start, c.put_long.auto.s)

pub copy-requires : goal.copy-requires
copy-requires c = (omega (arith, fits (goal.at.copy-requires c).Start, c.put_long.auto.s, c.put_long-2.auto.s), omega arith)

pub overflow_sub-round_up : goal.overflow_sub-round_up
overflow_sub-round_up c = omega (arith, up8-least (length c.args.value.now), c.round_up.ensures)

pub fill-requires : goal.fill-requires
fill-requires c =
    omega (arith, fits (goal.at.fill-requires c).Start, up8-least (length c.args.value.now), c.round_up.ensures, c.put_long.auto.s, c.put_long-2.auto.s, c.copy.auto.dst)

pub returns : goal.returns
returns c =
    let v = c.args.value.now in
    let q = c.copy.new.dst in
    record-written _ _ _ v _ _ _ _ c.requires.1 (omega arith)
    c.put_long.ensures
    c.put_long-2.ensures
    c.copy.ensures
    (c.fill.ensures ∙ ap (λ (n : ℕ). splice q (c.args.at + 16 + length v) (replicate (n - length v) 0)) c.round_up.ensures)
