-- `merge_books`: a key in both, or the leaves that were counted.
-- Assumes nothing.
use Rattle.std.proofs.lemmas.Result.{err_from_is_err_and}
use Rattle.std.specs.Prelude.{Err}
use mathlib.Core.Path.{◌≡◌, sym, ap, ◌∙◌}
use mathlib.Core.Bool.{true}
use lib.ListN.{length}
use Rattle.device.specs.Calls.{refused}
use Rattle.device.proofs.Calls.{said, holds, fails}
use Rattle.image.specs.Table.{table}
use Rattle.merge.specs.Tables.{merged, apart}
use Rattle.merge.specs.Leaves.{leaves_of}
use Rattle.merge.specs.Calls.{store_leaves, merge_tables}
use Rattle.merge.proofs.Counting.{counted-both, counted-leaves}
use Rattle.merge.proofs.merge_books.Goals as goal
use Rattle.merge.proofs.merge_books.Goals.{In_ok-leaves}

-- no key is in both, and so many leaves there are
the-leaves : (c : In_ok-leaves) → let a = c.args in
    (apart (table a.first.now) (table a.second.now) ≡ true) × (c.in_ok-leaves.leaves ≡ length (leaves_of (merged (table a.first.now) (table a.second.now))))
the-leaves c = counted-leaves _ _ _ (sym c.count_leaves.ensures ∙ c.in_ok-leaves.was)

pub returns-in_err-leaves : goal.returns-in_err-leaves
unfolding merge_tables
returns-in_err-leaves c =
    let a = c.args in
    let p = err_from_is_err_and c.from_residual.result c.from_residual.ensures.1 in
    let none = counted-both _ _ _ (sym c.count_leaves.ensures ∙ c.in_err-leaves.was) in
    let done = said (merge_tables (table a.first.now) (table a.second.now) a.out.now) (refused 20 a.out.now) (fails _ _ _ _ none.0) in
    record { value = rw (p.1, p.2) (ap Err (sym none.1) ∙ done.0); out_after = done.1 }

pub returns : goal.returns
unfolding merge_tables
returns c =
    let a = c.args in
    let t = table a.first.now in
    let u = table a.second.now in
    let done = said (merge_tables t u a.out.now) (store_leaves (leaves_of (merged t u)) a.out.now) (holds _ _ _ _ (the-leaves (goal.at.returns c).In_ok-leaves).0) in
    record { value = c.store_leaves.ensures.value ∙ done.0; out_after = c.store_leaves.ensures.out_after ∙ done.1 }
