-- `put_blank` leaves page 0 of a fresh store and zeros, whatever stood in the image.
-- Assumes nothing.
use mathlib.Core.Path.{refl}
use native.Mathlib.Omega.{arith}
use lib.ListN.{length}
use Rattle.image.specs.PageZero.{page_count}
use Rattle.image.proofs.Zero.{size-true}
use Rattle.image.proofs.CodeFormat.{blank-made}
use Rattle.image.proofs.format.put_blank.Goals as goal

pub fill-requires : goal.fill-requires
fill-requires c =
    let z = size-true (length c.args.image.now) c.requires in omega arith

pub put_long-requires : goal.put_long-requires
put_long-requires c =
    let z = size-true (length c.args.image.now) c.requires in omega (arith, c.fill.auto.dst)

pub put_long-requires-2 : goal.put_long-requires-2
put_long-requires-2 c =
    let z = size-true (length c.args.image.now) c.requires in omega (arith, c.fill.auto.dst, c.put_long.auto.s)

pub returns : goal.returns
returns c =
    let a = c.args in
    blank-made a.image.now _ _ _ (size-true (length a.image.now) c.requires) (page_count a.image.now) refl c.fill.ensures c.put_long.ensures c.put_long-2.ensures
