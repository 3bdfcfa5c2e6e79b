-- `put_slots`: what is left to write, stored over what is there, is the whole.
-- Assumes nothing.
use Rattle.std.proofs.Common.{◌≡◌, ℕ, ◌+◌, ◌*◌, List, [], length, drop, sym, ap, ◌∙◌, arith, drop_of_length-le, rules}
use lib.Seq.{sets}
use Rattle.codec.specs.Lists.{splice}
use Rattle.codec.specs.Numbers.{bytes_of}
use Rattle.codec.proofs.Lists.{splice-sets}
use Rattle.page.specs.Layout.{slot_count, slot_bytes}
use Rattle.page.proofs.Headers.{length-slot_bytes}
use Rattle.page.proofs.Slots.{slot_bytes-next}
use Rattle.page.proofs.header.put_slots.Goals as goal

pub loop-i-preserved : goal.loop-i-preserved
loop-i-preserved c =
    let xs = c.args.slots in
    let l = c.loop-i in
    let e = c.put_number.ensures ∙ ap (λ (v : ℕ). splice l.page (8 + 2 * l.i) (bytes_of 2 v)) c.from.ensures in
    sym (slot_bytes-next l.page _ 8 xs l.i (omega arith) (omega arith) (omega arith) e) ∙ l.invariant

pub returns : goal.returns
unfolding slot_bytes
returns c =
    let xs = c.args.slots in
    let l = c.loop-i in
    let n : length xs ≡ slot_count = search rules in
    let none : drop l.i xs ≡ [] = drop_of_length-le xs {i = l.i} (omega arith) in
    let done = sym (ap (λ (r : List ℕ). sets l.page (8 + 2 * l.i) (slot_bytes r)) none) ∙ l.invariant in
    (done ∙ sym (splice-sets c.args.page.now 8 (slot_bytes xs) (omega (arith, length-slot_bytes xs))), n)
