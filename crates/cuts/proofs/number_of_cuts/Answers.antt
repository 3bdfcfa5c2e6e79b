-- `number_of_cuts`: past all cuts, what a number has more than its rest is how many there are.
-- Assumes nothing.
use Prim.Native.Nat.{◌*◌}
use mathlib.Core.Path.{refl, sym}
use Rattle.device.specs.Tape.{decode}
use Rattle.cuts.proofs.Sought.{front-asks, front-gives, all-passed}
use Rattle.cuts.proofs.number_of_cuts.Goals as goal

pub seek-end-requires : goal.seek-end-requires
seek-end-requires c =
    let asks = front-asks c.args.lines c.args.tape.now c.requires.lines_bound c.requires.tape_value.0 c.requires.tape_value.1 in
    record { by_index = (asks.0, asks.0, refl, asks.1, refl); tape_value = asks.2 }

pub returns : goal.returns
returns c =
    let k = front-gives c.args.lines c.args.tape.now c.requires.lines_bound _ _ _ _ c.seek-end.ensures in
    sym (all-passed c.args.lines (decode (64 * c.args.lines) c.args.tape.now) 8191 _ _ _ k c.requires.tape_value.1 refl)
