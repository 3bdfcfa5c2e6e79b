-- `find_cut`: the cut at the place found, or none if that lies past the tape.
-- Assumes nothing.
use Rattle.std.specs.Prelude.{Err}
use Prim.Native.Nat.{ℕ, ◌*◌, ◌≤◌}
use mathlib.Core.Path.{◌≡◌, refl, sym, ap, ◌∙◌}
use mathlib.Core.List.{List, [], ◌++◌}
use native.Mathlib.Omega.{arith}
use lib.ListN.{length, get_or, take, drop, replicate}
use lib.Seq.{take_at}
use Rattle.device.specs.Tape.{decode}
use Rattle.cuts.specs.All.{choices_up_to}
use Rattle.cuts.specs.Products.{Sought}
use Rattle.cuts.proofs.Calls.{found-cut, no_cut}
use Rattle.cuts.proofs.Sought.{front_length, front-asks, front-gives, sought-listed, sought-past}
use Rattle.cuts.proofs.find_cut.Goals as goal
use Rattle.cuts.proofs.find_cut.Goals.{After-seek-place, Else-count-commands}

pub seek-place-requires : goal.seek-place-requires
seek-place-requires c =
    let asks = front-asks (length c.args.choices.now) c.args.tape.now c.requires.choices_len_bound c.requires.tape_value.0 (omega (arith, c.requires.tape_value)) in
    record { by_index = (asks.0, asks.0, refl, asks.1, refl); tape_value = asks.2 }

-- the place found, over the lines of the choices
found : (c : After-seek-place) → Sought (length c.args.choices.now) (decode (64 * length c.args.choices.now) c.args.tape.now) c.args.r c.seek-place.result c.seek-place.new.pending c.seek-place.new.named
found c = front-gives (length c.args.choices.now) c.args.tape.now c.requires.choices_len_bound _ _ _ _ c.seek-place.ensures

-- of the array lent, the front is what was left of the pending stores
kept : (c : After-seek-place) → length c.seek-place.new.pending ≡ length c.args.choices.now
kept c =
    c.seek-place.auto.pending ∙ front_length (length c.args.choices.now) 1024 c.requires.choices_len_bound

again : (c : After-seek-place) → take (length c.args.choices.now) (c.seek-place.new.pending ++ drop (length c.args.choices.now) (replicate 1024 0)) ≡ c.seek-place.new.pending
again c = take_at _ _ _ (kept c)

pub returns-then-count-commands : goal.returns-then-count-commands
returns-then-count-commands c =
    let k = found (goal.at.returns-then-count-commands c).After-seek-place in
    record { value = ap Err c.of.ensures ∙ sym (no_cut _ _ (omega (arith, sought-past _ _ _ _ _ _ k (omega (arith, c.if-count-commands.true, c.requires.tape_value))))); choices_after = refl }

-- it lies within the tape
within : (c : Else-count-commands) → c.seek-place.result.commands ≤ length (decode (64 * length c.args.choices.now) c.args.tape.now)
within c = omega (arith, c.if-count-commands.false, c.requires.tape_value)

pub returns : goal.returns
returns c =
    let l = sought-listed _ _ _ _ _ _ (found (goal.at.returns c).After-seek-place) (within (goal.at.returns c).Else-count-commands) in
    record { value = sym (found-cut _ _ _ _ l.below l.is); choices_after = c.put_choices.ensures ∙ ap (λ (ms : List ℕ). get_or (choices_up_to ms) c.seek-place.result.rest []) (again (goal.at.returns c).After-seek-place) ∙ sym (ap (drop 1) l.is) }
