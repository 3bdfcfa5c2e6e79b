-- `next_key`: page 0 and the root page, then the descent.
-- Assumes nothing.
use Rattle.std.proofs.lemmas.Result.{err_from_is_err_and}
use Prim.Native.Nat.{ℕ}
use mathlib.Core.Path.{sym, ◌∙◌, subst}
use mathlib.Core.List.{List}
use Rattle.image.specs.Descent.{root_read}
use Rattle.image.specs.Calls.{next_from, next_call}
use Rattle.image.specs.Marks.{Marked}
use Rattle.image.proofs.calls.next_key.Goals as goal

pub returns-in_err-index_in : goal.returns-in_err-index_in
unfolding next_call next_from
returns-in_err-index_in c =
    let p = err_from_is_err_and c.from_residual.result c.from_residual.ensures.1 in
    rw (p.1, p.2, c.in_err-index_in.ensures.value)

pub next_above-requires : goal.next_above-requires
next_above-requires c =
    let x = c.in_ok-index_in.field-0 in
    let e = c.in_ok-index_in.ensures in
    subst (λ (i : List ℕ). Marked i x.root (root_read x.root) c.index_in.new.marks) (sym e.value.0) (e.marks_after x.root e.value.1)

pub returns : goal.returns
unfolding next_call
returns c =
    let x = c.in_ok-index_in.ensures.value in
    c.next_above.ensures ∙ rw (x.1, x.0)
