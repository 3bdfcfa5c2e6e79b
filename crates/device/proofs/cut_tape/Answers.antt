-- `cut_tape`: each test on the way is one of the definition's, and the rest is `replay`'s.
-- Assumes nothing.
use Prim.Native.Nat.{ℕ}
use mathlib.Core.Path.{ap, ◌∙◌}
use mathlib.Core.List.{List}
use native.Mathlib.Omega.{arith}
use lib.ListN.{length, get_or}
use borrow.Author.Tests.{le-leb, lt-leb}
use Rattle.device.specs.Tape.{decode, well_formed}
use Rattle.device.specs.Cut.{cut_image}
use Rattle.device.specs.Calls.{accepted, refused, cut_tape}
use Rattle.std.specs.Prelude.{Err}
use Rattle.device.proofs.Calls.{holds, fails, said, found-none, found-some}
use Rattle.device.proofs.cut_tape.Goals as goal

pub returns-then-found-c : goal.returns-then-found-c
unfolding cut_tape
returns-then-found-c c =
    let a = c.args in
    let cs = decode (length a.image.now) a.tape.now in
    let found = found-some a.c cs _ _ c.in-Some.ensures in
    let s = said (cut_tape a.image.now a.work.now a.tape.now a.c (λ l. get_or a.left.now l 0)) (refused 15 a.work.now) (holds _ _ _ _ found.0 ∙ fails _ _ _ _ (lt-leb a.c (length cs) (omega (arith, found.1)))) in
    record { value = ap Err c.of-then-found-c.ensures ∙ s.0; work_after = s.1 }

pub replay-requires : goal.replay-requires
replay-requires c =
    let a = c.args in
    let cs = decode (length a.image.now) a.tape.now in
    let found = found-some a.c cs _ _ c.in-Some.ensures in
    let long = ap length c.copy_all.ensures in record { work_len_bound = (omega (arith, c.judge.auto.flushes), omega arith); tape_value = (ap (λ (w : List ℕ). well_formed (decode (length w) a.tape.now)) c.copy_all.ensures ∙ found.0, omega (arith, found.1, ap (λ (w : List ℕ). length (decode (length w) a.tape.now)) c.copy_all.ensures)); tells = rw long found.2 }

pub returns-in_default : goal.returns-in_default
unfolding cut_tape
returns-in_default c =
    let a = c.args in
    let cs = decode (length a.image.now) a.tape.now in
    let s = said (cut_tape a.image.now a.work.now a.tape.now a.c (λ l. get_or a.left.now l 0)) (refused 14 a.work.now) (fails _ _ _ _ (found-none a.c cs _ c.in_default.ensures)) in
    record { value = ap Err c.of.ensures ∙ s.0; work_after = s.1 }

pub returns : goal.returns
unfolding cut_tape
returns c =
    let a = c.args in
    let cs = decode (length a.image.now) a.tape.now in
    let found = found-some a.c cs _ _ c.in-Some.ensures in
    let s = said (cut_tape a.image.now a.work.now a.tape.now a.c (λ l. get_or a.left.now l 0)) (accepted (cut_image a.image.now (λ l. get_or a.left.now l 0) a.c cs)) (holds _ _ _ _ found.0 ∙ holds _ _ _ _ (le-leb a.c (length cs) (omega (arith, found.1)))) in
    record { value = s.0; work_after = c.replay.ensures ∙ ap (λ (w : List ℕ). cut_image w (λ l. get_or a.left.now l 0) a.c (decode (length w) a.tape.now)) c.copy_all.ensures ∙ s.1 }
