-- `lookup`: page 0 and the root page, then the leaf, then the key's range.
-- Assumes nothing.
use Rattle.std.proofs.lemmas.Result.{err_from_is_err_and}
use mathlib.Core.Path.{sym, ap, ◌∙◌, subst}
use mathlib.Core.List.{List}
use Prim.Native.Nat.{ℕ}
use Rattle.image.specs.Descent.{root_read}
use Rattle.image.specs.Calls.{ranged, leaf_lookup, lookup_from, lookup_call}
use Rattle.image.specs.Marks.{Marked}
use Rattle.image.proofs.calls.lookup.Goals as goal
use Rattle.image.proofs.calls.lookup.Goals.{After-marks-3-1}

pub returns-in_err-index_in : goal.returns-in_err-index_in
unfolding lookup_call lookup_from
returns-in_err-index_in c =
    let p = err_from_is_err_and c.from_residual.result c.from_residual.ensures.1 in
    rw (p.1, p.2, c.in_err-index_in.ensures.value)

marked : (c : After-marks-3-1) →
    let x = c.in_ok-index_in.field-0 in
    Marked x.image.now x.root (root_read x.root) c.index_in.new.marks
marked c =
    let x = c.in_ok-index_in.field-0 in
    let e = c.in_ok-index_in.ensures in
    subst (λ (i : List ℕ). Marked i x.root (root_read x.root) c.index_in.new.marks) (sym e.value.0) (e.marks_after x.root e.value.1)

pub find_key-requires : goal.find_key-requires
find_key-requires c = (root_read c.in_ok-index_in.field-0.root, marked (goal.at.find_key-requires c).After-marks-3-1)

pub returns-in_err-found : goal.returns-in_err-found
unfolding lookup_call lookup_from ranged
returns-in_err-found c =
    let p = err_from_is_err_and c.from_residual-in_err-found.result c.from_residual-in_err-found.ensures.1 in
    let x = c.in_ok-index_in.field-0 in
    let e = c.in_ok-index_in.ensures.value in
    let f = c.in_err-found.ensures (root_read x.root) (marked (goal.at.returns-in_err-found c).After-marks-3-1) in
    rw (p.1, p.2, e.1) (ap (ranged c.args.key) (f ∙ ap (λ (i : List ℕ). leaf_lookup i x.root (root_read x.root) c.args.key) e.0))

pub returns : goal.returns
unfolding lookup_call lookup_from
returns c =
    let x = c.in_ok-index_in.field-0 in
    let e = c.in_ok-index_in.ensures.value in
    let f = c.in_ok-found.ensures (root_read x.root) (marked (goal.at.returns c).After-marks-3-1) in
    c.ranged.ensures ∙ rw e.1 (ap (ranged c.args.key) (f ∙ ap (λ (i : List ℕ). leaf_lookup i x.root (root_read x.root) c.args.key) e.0))
