-- `Header::inserted`: the slots from the i-th on move up by one place, and the new one takes the free one.
-- Assumes nothing.
use Rattle.std.proofs.Common.{◌≡◌, ℕ, ◌+◌, ◌-◌, length, take, drop, set, List, sym, refl, ap, ◌∙◌, arith}
use lib.Seq.{paste}
use Rattle.codec.specs.Lists.{insert_at}
use Rattle.codec.proofs.Lists.{length-insert_at}
use Rattle.page.specs.Layout.{padded, header_of, head_of}
use Rattle.page.specs.Operations.{insert_head}
use Rattle.page.proofs.Headers.{clean-count, clean-slots}
use Rattle.page.proofs.Slots.{inserted-slots}
use Rattle.page.proofs.header.Header.inserted.Goals as goal

pub returns : goal.returns
unfolding header_of head_of insert_head
returns c =
    let a = c.args in
    let o = a.self.start - a.s in
    let os = take a.self.count a.self.slots in
    let n = clean-count a.self c.requires.0 in
    let m : length (insert_at a.i o os) ≡ a.self.count + 1 = omega (arith, length-insert_at a.i o os) in
    let e : set c.copy_within.new.self a.i o ≡ padded (insert_at a.i o os) =
    let moved : paste (padded os) (a.i + 1) (drop a.i (padded os)) (length os - a.i) ≡ c.copy_within.new.self = sym (c.copy_within.ensures.after ∙ rw (← clean-slots a.self c.requires.0, ← n) refl) in
    ap (λ (l : List ℕ). set l a.i o) (sym moved) ∙ inserted-slots os a.i o (omega arith) (omega arith) in
    rw (m, ← e)
