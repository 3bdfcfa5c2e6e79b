-- `Header::write`: the fields one after the other are the line.
-- Assumes nothing.
use Rattle.std.proofs.Common.{◌≡◌, length, arith, length-set}
use Rattle.page.proofs.Headers.{header-written}
use Rattle.page.proofs.header.Header.write.Goals as goal
use Rattle.page.proofs.header.Header.write.Goals.{After-put_number-3}

pub bounds-page-5 : goal.bounds-page-5
bounds-page-5 c = simp length-set (omega arith)

pub put_number-requires-3 : goal.put_number-requires-3
put_number-requires-3 c = simp length-set (omega arith)

kept : (c : After-put_number-3) → length c.put_number-3.new.s ≡ length c.args.page.now
kept c = omega (arith, simp length-set at c.put_number-3.auto.s, c.put_number-2.auto.s, c.put_number.auto.s)

pub put_slots-requires : goal.put_slots-requires
put_slots-requires c = omega (arith, kept (goal.at.put_slots-requires c).After-put_number-3)

pub shape_of-page : goal.shape_of-page
shape_of-page c = omega (arith, c.put_slots.auto.page, kept (goal.at.shape_of-page c).After-put_number-3)

pub returns : goal.returns
returns c =
    header-written c.args.page.now c.args.self _ _ _ _ c.requires c.put_slots.ensures.1 c.put_number.ensures
    c.put_number-2.ensures
    c.put_number-3.ensures
    c.put_slots.ensures.0
