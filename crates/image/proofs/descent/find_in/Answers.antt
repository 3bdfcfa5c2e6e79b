-- `find_in` answers the offset and the length of the value that a search of the leaf finds.
-- Assumes nothing.
use Rattle.std.specs.Prelude.{Ok, Some}
use Prim.Native.Nat.{ℕ, ◌+◌, ◌*◌, ◌≤◌, ◌<◌}
use mathlib.Core.Path.{◌≡◌, sym, ap, ◌∙◌}
use mathlib.Core.Bool.{true}
use mathlib.Core.List.{[]}
use native.Mathlib.Omega.{arith}
use lib.ListN.{length}
use Rattle.codec.specs.Lists.{part}
use Rattle.codec.specs.Numbers.{number}
use Rattle.page.specs.Layout.{page_size, leaf_kind, Rec, rec_of, record_at}
use Rattle.page.specs.Page.{records, laid_out}
use Rattle.page.proofs.Facts.{page_ok-true, ok-is}
use Rattle.page.proofs.AtSlots.{slot, value_in, length-here, record-here}
use Rattle.image.proofs.Search.{search-at, search-missing}
use Rattle.image.proofs.descent.find_in.Goals as goal
use Rattle.image.proofs.descent.find_in.Goals.{After-slot_at-at, In-Ok, Start}

laid : (c : Start) → laid_out c.args.page.now ≡ true
laid c = (page_ok-true leaf_kind c.args.own c.args.page.now c.requires).laid

pub invariant_of-laid : goal.invariant_of-laid
invariant_of-laid c = record { laid = laid (goal.at.invariant_of-laid c).Start }

found : (c : In-Ok) → c.in-Ok.i < length (records c.args.page.now)
found c =
    let a = c.args in
    (search-at leaf_kind a.own a.own a.page.now c.requires a.key c.in-Ok.i (sym c.find.ensures ∙ c.in-Ok.is)).0

pub slot_at-at-requires : goal.slot_at-at-requires
slot_at-at-requires c = found (goal.at.slot_at-at-requires c).In-Ok

-- the page's number is of two bytes, and the record's head lies in the page
room : (c : After-slot_at-at) →
    (laid_out c.args.page.now ≡ true) → (c.in-Ok.i < length (records c.args.page.now)) → let a = c.args in
    (a.own < 65536) × (c.slot_at-at.result + 16 ≤ length a.page.now) × (length a.page.now ≡ page_size)
room c laid found =
    let a = c.args in
    let p = a.page.now in
    let k = (ok-is p laid).body in (
      omega (arith, k.head.own_fits, (page_ok-true leaf_kind a.own p c.requires).own),
      omega (
        arith,
        c.slot_at-at.ensures,
        value_in p laid c.in-Ok.i found (rec_of 0 []),
      ),
      k.whole,
    )

pub overflow_mul-result : goal.overflow_mul-result
overflow_mul-result c = omega (arith, room (goal.at.overflow_mul-result c).After-slot_at-at (laid (goal.at.overflow_mul-result c).Start) (found (goal.at.overflow_mul-result c).In-Ok))

pub overflow_add-result : goal.overflow_add-result
overflow_add-result c = omega (arith, room (goal.at.overflow_add-result c).After-slot_at-at (laid (goal.at.overflow_add-result c).Start) (found (goal.at.overflow_add-result c).In-Ok))

pub overflow_add-result-in-Ok : goal.overflow_add-result-in-Ok
overflow_add-result-in-Ok c = omega (arith, room (goal.at.overflow_add-result-in-Ok c).After-slot_at-at (laid (goal.at.overflow_add-result-in-Ok c).Start) (found (goal.at.overflow_add-result-in-Ok c).In-Ok))

pub overflow_add-at : goal.overflow_add-at
overflow_add-at c = omega (arith, room (goal.at.overflow_add-at c).After-slot_at-at (laid (goal.at.overflow_add-at c).Start) (found (goal.at.overflow_add-at c).In-Ok))

pub number_at-requires : goal.number_at-requires
number_at-requires c = omega (arith, room (goal.at.number_at-requires c).After-slot_at-at (laid (goal.at.number_at-requires c).Start) (found (goal.at.number_at-requires c).In-Ok))

pub returns-in-Ok : goal.returns-in-Ok
returns-in-Ok c =
    let a = c.args in
    let i = c.in-Ok.i in
    let n : c.number_at.result ≡ length (record_at a.page.now (slot a.page.now i)).value =
    c.number_at.ensures.0 ∙ ap (λ (o : ℕ). number (part a.page.now (o + 8) 2)) c.slot_at-at.ensures
    ∙ length-here a.page.now (laid (goal.at.returns-in-Ok c).Start) i (found (goal.at.returns-in-Ok c).In-Ok) (rec_of 0 []) ∙ ap (λ (r : Rec). length r.value) (record-here a.page.now (laid (goal.at.returns-in-Ok c).Start) i (found (goal.at.returns-in-Ok c).In-Ok) (rec_of 0 [])) in
    ap (λ (m : ℕ). Ok (Some (record { offset = 1024 * a.own + c.slot_at-at.result + 16; length = m }))) n
    ∙ ap (λ (o : ℕ). Ok (Some (record { offset = (1024 * a.own + o + 16); length = (length (record_at a.page.now (slot a.page.now i)).value) }))) c.slot_at-at.ensures
    ∙ sym (search-at leaf_kind a.own a.own a.page.now c.requires a.key i (sym c.find.ensures ∙ c.in-Ok.is)).1

pub returns-in-Err : goal.returns-in-Err
returns-in-Err c =
    let a = c.args in
    sym (search-missing leaf_kind a.own a.own a.page.now c.requires a.key _ (sym c.find.ensures ∙ c.in-Err.is))
