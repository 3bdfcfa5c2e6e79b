-- `seek`: one command after the other, as long as enough cuts are left.
-- Assumes nothing.
use Prim.Native.Nat.{ℕ, ◌*◌, ◌<◌}
use mathlib.Core.Path.{◌≡◌, refl, sym, ◌∙◌, subst}
use mathlib.Core.Bool.{true}
use native.Mathlib.Omega.{arith}
use lib.ListN.{length, drop, length-set}
use Rattle.device.specs.Tape.{is_command, front}
use Rattle.device.proofs.Decode.{head_at}
use Rattle.cuts.specs.Products.{Describes, LineIn}
use Rattle.cuts.specs.declared.Does.{Does}
use Rattle.cuts.proofs.Seeking.{Room, walk_start, walk-command, walk-room, walk-next, walk-past}
use Rattle.cuts.proofs.seek.Goals as goal
use Rattle.cuts.proofs.seek.Goals.{After-command_at-next, Else-at-tape}

-- a command stands at the place reached
inside : (c : Else-at-tape) → c.loop-product.at < length c.args.tape.now
inside c = omega (arith, c.loop-product.invariant.3.in_tape, c.if-at-tape.false)

here : (c : Else-at-tape) → is_command (64 * length c.args.pending.now) (drop c.loop-product.at c.args.tape.now) ≡ true
here c = walk-command _ _ _ _ _ _ _ _ _ _ _ c.loop-product.invariant.3 (inside c)

-- what it is
described : (c : After-command_at-next) → (is_command (64 * length c.args.pending.now) (drop c.loop-product.at c.args.tape.now) ≡ true) → Describes (front (64 * length c.args.pending.now) (drop c.loop-product.at c.args.tape.now)) c.command_at-next.result
described c here = c.command_at-next.ensures (64 * length c.args.pending.now) here

room : (c : After-command_at-next) → (c.loop-product.at < length c.args.tape.now) → (is_command (64 * length c.args.pending.now) (drop c.loop-product.at c.args.tape.now) ≡ true) → Room (length c.args.pending.now) c.args.tape.now c.loop-product.at c.loop-product.commands c.loop-product.product c.loop-product.later c.loop-product.pending c.loop-product.unflushed c.command_at-next.result
room c inside here = walk-room _ _ _ _ _ _ _ _ _ _ _ c.loop-product.invariant.3 inside _ (described c here) c.requires.tape_value.1

pub loop-product-init : goal.loop-product-init
loop-product-init c =
    let a = c.args in
    (refl, c.requires.by_index.2, c.requires.by_index.4, walk_start (length a.pending.now) a.tape.now a.r a.pending.now a.unflushed.now a.named.now refl c.requires.by_index.2 c.requires.by_index.0 c.requires.by_index.1 c.requires.tape_value.0)

pub returns-then-at-tape : goal.returns-then-at-tape
returns-then-at-tape c = walk-past _ _ _ _ _ _ _ _ _ _ _ c.loop-product.invariant.3 (omega arith) c.loop-product-test.true _ refl refl

pub command_at-next-requires : goal.command_at-next-requires
command_at-next-requires c = head_at _ _ _ (inside (goal.at.command_at-next-requires c).Else-at-tape) (here (goal.at.command_at-next-requires c).Else-at-tape)

pub bounds-named-commands : goal.bounds-named-commands
bounds-named-commands c = omega (arith, (room (goal.at.bounds-named-commands c).After-command_at-next (inside (goal.at.bounds-named-commands c).Else-at-tape) (here (goal.at.bounds-named-commands c).Else-at-tape)).another, c.loop-product.invariant.2)

-- the line of a command, among as many
line-in : (d : Does) (l m n : ℕ) → m ≡ n → LineIn d l n → LineIn d l m
line-in d l m n e h = subst (LineIn d l) (sym e) h

pub count_pending-product-requires : goal.count_pending-product-requires
count_pending-product-requires c =
    let loop = c.loop-product in
    let r = room (goal.at.count_pending-product-requires c).After-command_at-next (inside (goal.at.count_pending-product-requires c).Else-at-tape) (here (goal.at.count_pending-product-requires c).Else-at-tape) in
    record { line_in = (line-in _ _ _ _ loop.invariant.0 r.in_image, loop.invariant.1 ∙ sym loop.invariant.0, omega (arith, loop.invariant.0, c.requires.by_index.3), r.pending_few); product_value = (loop.invariant.3.choices, loop.invariant.3.choices_later, r.product_few) }

pub count_unflushed-later-requires : goal.count_unflushed-later-requires
count_unflushed-later-requires c =
    let loop = c.loop-product in
    let r = room (goal.at.count_unflushed-later-requires c).After-command_at-next (inside (goal.at.count_unflushed-later-requires c).Else-at-tape) (here (goal.at.count_unflushed-later-requires c).Else-at-tape) in
    record { line_in = (line-in _ _ _ _ loop.invariant.1 r.in_image, r.unflushed_few); later_value = (loop.invariant.3.choices_later, r.later_few) }

pub overflow_add-at : goal.overflow_add-at
overflow_add-at c = omega (arith, (room (goal.at.overflow_add-at c).After-command_at-next (inside (goal.at.overflow_add-at c).Else-at-tape) (here (goal.at.overflow_add-at c).Else-at-tape)).in_tape)

pub loop-product-smaller : goal.loop-product-smaller
loop-product-smaller c = let r = room (goal.at.loop-product-smaller c).After-command_at-next (inside (goal.at.loop-product-smaller c).Else-at-tape) (here (goal.at.loop-product-smaller c).Else-at-tape) in omega (arith, r.in_tape, r.some)

pub loop-product-preserved : goal.loop-product-preserved
loop-product-preserved c =
    let l = c.loop-product in
    let r = room (goal.at.loop-product-preserved c).After-command_at-next (inside (goal.at.loop-product-preserved c).Else-at-tape) (here (goal.at.loop-product-preserved c).Else-at-tape) in (
      c.count_pending-product.auto.pending ∙ l.invariant.0,
      c.count_unflushed-later.auto.unflushed ∙ l.invariant.1,
      simp length-set l.invariant.2,
      walk-next _ _ _ _ _ _ _ _ _ _ _ l.invariant.3 (inside (goal.at.loop-product-preserved c).Else-at-tape) _ (described (goal.at.loop-product-preserved c).After-command_at-next (here (goal.at.loop-product-preserved c).Else-at-tape)) _ _ _ _ c.loop-product-test.true r.in_tape (omega (arith, r.another, l.invariant.2)) c.count_pending-product.ensures.pending_after c.count_pending-product.ensures.value
          c.count_unflushed-later.ensures.unflushed_after c.count_unflushed-later.ensures.value,
    )
