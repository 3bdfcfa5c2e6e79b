-- `insert_record`: the record written below start, then the header with its slot put in.
-- Assumes nothing.
use mathlib.Core.Path.{◌∙◌}
use native.Mathlib.Omega.{arith}
use Rattle.page.specs.Layout.{Head}
use Rattle.page.specs.Operations.{insert_head, insert}
use Rattle.page.proofs.Facts.{ok-is}
use Rattle.page_edit.proofs.Written.{Opened, opened, sealed-written}
use Rattle.page_edit.proofs.insert_record.Goals as goal
use Rattle.page_edit.proofs.insert_record.Goals.{After-read-h}

pub read-h-requires : goal.read-h-requires
read-h-requires c = omega (arith, (ok-is _ c.requires.ok).body.whole)

known : (c : After-read-h) → Opened c.args.page.now c.read-h.result
known c = opened _ _ c.requires.ok c.read-h.ensures

pub write_below-s-requires : goal.write_below-s-requires
write_below-s-requires c =
    let o = known (goal.at.write_below-s-requires c).After-read-h in
    (c.requires.good.few, omega (arith, c.requires.room), omega arith)

pub inserted-requires : goal.inserted-requires
inserted-requires c =
    let o = known (goal.at.inserted-requires c).After-read-h in
    (o.clean, omega (arith, c.requires.few), omega (arith, c.requires.place), omega (arith, c.requires.room, c.write_below-s.ensures.0), o.high)

pub write-requires : goal.write-requires
write-requires c = omega (arith, (known (goal.at.write-requires c).After-read-h).whole, c.write_below-s.auto.page)

pub returns : goal.returns
unfolding insert
returns c =
    let i = c.args.i in
    c.write.ensures ∙ sealed-written _ _ _ (λ (x : Head). insert_head x i) _ _ _ (known (goal.at.returns c).After-read-h) c.inserted.ensures c.write_below-s.ensures.0 c.write_below-s.ensures.1
