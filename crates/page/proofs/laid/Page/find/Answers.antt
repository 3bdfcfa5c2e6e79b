-- `find`: the search from the i-th record on is the whole search.
-- Assumes nothing.
use Rattle.std.proofs.Common.{◌≡◌, sym, ◌∙◌, arith}
use Rattle.page.proofs.Keys.{searched-end, find-on, find_at, find_past}
use Rattle.page.proofs.laid.Page.find.Goals as goal

pub key_at-k-requires : goal.key_at-k-requires
key_at-k-requires c = omega (arith, c.loop-i-test.true, c.count-count.ensures)

pub returns-then-k-key : goal.returns-then-k-key
returns-then-k-key c = sym (find_at _ _ _ (omega (arith, c.loop-i-test.true, c.count-count.ensures)) _ c.key_at-k.ensures c.if-k-key.true) ∙ c.loop-i.invariant

pub returns-then-key-k : goal.returns-then-key-k
returns-then-key-k c = sym (find_past _ _ _ (omega (arith, c.loop-i-test.true, c.count-count.ensures)) _ c.key_at-k.ensures c.if-key-k.true c.if-k-key.false) ∙ c.loop-i.invariant

pub loop-i-preserved : goal.loop-i-preserved
loop-i-preserved c = sym (find-on _ _ _ (omega (arith, c.loop-i-test.true, c.count-count.ensures)) _ c.key_at-k.ensures c.if-key-k.false) ∙ c.loop-i.invariant

pub returns : goal.returns
returns c =
    let i : c.count-count.result ≡ c.loop-i.i = omega arith in
    rw i (sym (searched-end c.args.key c.loop-i.i _ (omega (arith, c.loop-i-test.false, c.count-count.ensures))) ∙ c.loop-i.invariant)
