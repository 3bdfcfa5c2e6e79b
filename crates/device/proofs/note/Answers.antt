-- `note`: a flush is noted, a barrier is the last one, another command is neither.
-- Assumes nothing.
use Prim.Native.Nat.{◌+◌, ◌/◌}
use mathlib.Core.Path.{◌≡◌, sym, ap, ap₂, ◌∙◌}
use mathlib.Core.Bool.{Bool}
use native.Mathlib.Omega.{arith}
use lib.ListN.{length, get_or, set, length-set}
use borrow.Author.Tests.{eq-eqb, ne_eqb}
use Rattle.codec.specs.Lists.{pick, part}
use Rattle.codec.specs.Numbers.{number}
use Rattle.device.specs.Counts.{flush_done, note_flush}
use Rattle.device.proofs.note.Goals as goal

pub returns-then-kind-eq4 : goal.returns-then-kind-eq4
returns-then-kind-eq4 c =
    let a = c.args in
    let kind : get_or a.tape.now a.at 0 ≡ 4 = c.if-kind-eq4.true in
    record { value = sym (rw (eq-eqb _ 4 kind)); flushes_after = sym (ap (λ (b : Bool). pick b (note_flush a.flushes.now a.fence (number (part a.tape.now (a.at + 2) 2)) (a.at + 4)) a.flushes.now) (ne_eqb (get_or a.tape.now a.at 0) 3 (λ q. omega arith))) }

pub returns-then-kind-ne3 : goal.returns-then-kind-ne3
returns-then-kind-ne3 c =
    let a = c.args in
    record { value = sym (rw (ne_eqb _ 4 c.if-kind-eq4.false)); flushes_after = sym (ap (λ (b : Bool). pick b (note_flush a.flushes.now a.fence (number (part a.tape.now (a.at + 2) 2)) (a.at + 4)) a.flushes.now) (ne_eqb _ 3 c.if-kind-ne3.true)) }

pub flush_done-requires : goal.flush_done-requires
flush_done-requires c = omega (arith, c.number_at-line.ensures.0, c.requires.1 c.if-kind-ne3.false)

pub bounds-flushes-half : goal.bounds-flushes-half
bounds-flushes-half c = omega (arith, c.number_at-line.ensures.0, c.requires.1 c.if-kind-ne3.false)

pub bounds-flushes-line : goal.bounds-flushes-line
bounds-flushes-line c =
    let a = c.args in
    omega (arith, c.number_at-line.ensures.0, c.requires.1 c.if-kind-ne3.false, length-set a.flushes.now (length a.flushes.now / 2 + c.number_at-line.result) c.flush_done.result)

pub returns : goal.returns
returns c =
    let a = c.args in
    let kind : get_or a.tape.now a.at 0 ≡ 3 = c.if-kind-ne3.false in
    let new = ap₂ (λ l done. set (set a.flushes.now (length a.flushes.now / 2 + l) done) l (a.at + 4)) c.number_at-line.ensures.0 (c.flush_done.ensures ∙ ap (flush_done a.flushes.now a.fence) c.number_at-line.ensures.0) in
    record { value = sym (rw (ne_eqb _ 4 c.if-kind-eq4.false)); flushes_after = new ∙ sym (ap (λ (b : Bool). pick b (note_flush a.flushes.now a.fence (number (part a.tape.now (a.at + 2) 2)) (a.at + 4)) a.flushes.now) (eq-eqb _ 3 kind)) }
