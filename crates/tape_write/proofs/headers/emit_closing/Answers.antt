-- `emit_closing`: nothing without a flush, else the barrier.
-- Assumes nothing.
use mathlib.Core.Path.{sym, ap, ◌∙◌}
use mathlib.Core.List.{List, []}
use native.Mathlib.Omega.{arith}
use lib.ListN.{length}
use lib.Seq.{sets}
use Rattle.device.specs.Tape.{Op, tape_bytes, barrier}
use Rattle.tape_write.proofs.Encoding.{tape-none, length_none, length-next, barrier-last, closing-none, closing-some}
use Rattle.tape_write.proofs.headers.emit_closing.Goals as goal

pub returns-then-n-eq0 : goal.returns-then-n-eq0
returns-then-n-eq0 c =
    sym (ap (λ (cs : List Op). sets c.args.tape.now c.args.at (tape_bytes cs)) (closing-none c.args.n c.if-n-eq0.true) ∙ tape-none c.args.tape.now c.args.at)

pub emit_barrier-requires : goal.emit_barrier-requires
emit_barrier-requires c = omega (arith, ap (λ (cs : List Op). length (tape_bytes cs)) (closing-some c.args.n c.if-n-eq0.false), length-next barrier [], length_none)

pub returns : goal.returns
returns c =
    let if1 = c.if-n-eq0 in
    barrier-last c.args.tape.now _ c.args.at c.emit_barrier.ensures (omega (arith, ap (λ (cs : List Op). length (tape_bytes cs)) (closing-some c.args.n if1.false), length-next barrier [], length_none))
    ∙ ap (λ (cs : List Op). sets c.args.tape.now c.args.at (tape_bytes cs)) (sym (closing-some c.args.n if1.false))
