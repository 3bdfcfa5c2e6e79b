-- `Header::swapped`: the i-th slot is set.
-- Assumes nothing.
use Rattle.std.proofs.Common.{◌≡◌, ℕ, ◌-◌, List, length, take, set, sym, ap, ◌∙◌, arith, length-set}
use Rattle.page.specs.Layout.{padded, header_of, head_of}
use Rattle.page.specs.Operations.{update_head}
use Rattle.page.proofs.Headers.{set-padded, clean-count, clean-slots}
use Rattle.page.proofs.header.Header.swapped.Goals as goal

pub returns : goal.returns
unfolding header_of head_of update_head
returns c =
    let a = c.args in
    let h = a.self in
    let o = h.start - a.s in
    let os = take h.count h.slots in
    let n = clean-count h c.requires.0 in
    let m : length (set os a.i o) ≡ h.count = length-set os a.i o ∙ sym n in
    let e : set h.slots a.i o ≡ padded (set os a.i o) = ap (λ (l : List ℕ). set l a.i o) (clean-slots h c.requires.0) ∙ set-padded os a.i o (omega arith) in
    rw (m, ← e)
