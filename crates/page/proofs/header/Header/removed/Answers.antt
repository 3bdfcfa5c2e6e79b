-- `Header::removed`: the slots past the i-th move down by one place, and a zero follows them.
-- Assumes nothing.
use Rattle.std.proofs.Common.{◌≡◌, ℕ, ◌+◌, ◌-◌, length, take, drop, set, List, sym, refl, ap, ◌∙◌, arith}
use lib.Seq.{paste}
use Rattle.codec.specs.Lists.{remove_at}
use Rattle.codec.proofs.Lists.{length-remove_at}
use Rattle.page.specs.Layout.{padded, header_of, head_of}
use Rattle.page.specs.Operations.{delete_head}
use Rattle.page.proofs.Headers.{clean-count, clean-slots}
use Rattle.page.proofs.Slots.{removed-slots}
use Rattle.page.proofs.header.Header.removed.Goals as goal

pub returns : goal.returns
unfolding header_of head_of delete_head
returns c =
    let a = c.args in
    let os = take a.self.count a.self.slots in
    let n = clean-count a.self c.requires.0 in
    let m : length (remove_at a.i os) ≡ a.self.count - 1 = omega (arith, length-remove_at a.i os) in
    let e : set c.copy_within.new.self (a.self.count - 1) 0 ≡ padded (remove_at a.i os) =
    let last = a.self.count - 1 in
    let moved : paste (padded os) a.i (drop (a.i + 1) (padded os)) (last + 1 - (a.i + 1)) ≡ c.copy_within.new.self = sym (c.copy_within.ensures.after ∙ rw (← clean-slots a.self c.requires.0) refl) in
    ap (λ (l : List ℕ). set l last 0) (sym moved) ∙ removed-slots os a.i last (omega arith) (omega arith) (omega arith) in
    rw (m, ← e)
