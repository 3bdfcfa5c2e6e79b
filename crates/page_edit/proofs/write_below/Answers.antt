-- `write_below`: the record written below start, and its size.
-- Assumes nothing.
use Prim.Native.Nat.{ℕ, ◌-◌}
use mathlib.Core.Path.{ap, ◌∙◌}
use native.Mathlib.Omega.{arith}
use Rattle.codec.specs.Lists.{splice}
use Rattle.page.specs.Layout.{rec_of, record_bytes}
use Rattle.page.specs.Operations.{written}
use Rattle.page_edit.proofs.Written.{size_of}
use Rattle.page_edit.proofs.write_below.Goals as goal

pub overflow_add-s : goal.overflow_add-s
overflow_add-s c =
    omega (arith, size_of c.args.key c.args.value.now c.round_up-s.result c.round_up-s.ensures)

pub overflow_sub-start : goal.overflow_sub-start
overflow_sub-start c =
    omega (arith, size_of c.args.key c.args.value.now c.round_up-s.result c.round_up-s.ensures)

pub put_record-requires : goal.put_record-requires
put_record-requires c =
    (c.requires.0, omega (arith, size_of c.args.key c.args.value.now c.round_up-s.result c.round_up-s.ensures))

pub returns : goal.returns
unfolding written
returns c =
    let z = size_of c.args.key c.args.value.now c.round_up-s.result c.round_up-s.ensures in
    let r = rec_of c.args.key c.args.value.now in
    (z, c.put_record.ensures ∙ ap (λ (n : ℕ). splice c.args.page.now (c.args.start - n) (record_bytes r)) z)
