-- `log_headers`: the headers that are left, over what is written, are the whole; past page 0 nothing changes.
-- Assumes nothing.
use Prim.Native.Nat.{◌+◌, ◌*◌}
use mathlib.Core.Path.{sym, ◌∙◌, subst}
use native.Mathlib.Omega.{arith}
use Rattle.tape_write.specs.Lines.{PageIn}
use Rattle.tape_write.proofs.StageTape.{all-at}
use Rattle.tape_write.proofs.HeaderPages.{copied, log-end, log-kept, log-step, log-whole}
use Rattle.tape_write.proofs.headers.log_headers.Goals as goal

pub loop-i-preserved : goal.loop-i-preserved
loop-i-preserved c =
    let w = c.args.work.now in
    let ps = c.args.pages.now in
    let loop = c.loop-i in
    let more = c.loop-i-test.true in
    let inn = subst (PageIn w) (sym c.wide-from.ensures.0) (all-at (PageIn w) ps loop.i c.requires.2 more) in
    let moved = c.copy_within.ensures.after ∙ copied loop.work (64 * loop.i + 64) (1024 * c.wide-from.result) 64 (omega (arith, inn.1)) in (
      log-kept w loop.work _ ps loop.i c.wide-from.result more c.wide-from.ensures.0 inn loop.auto.work moved c.requires.0 loop.invariant.0,
      log-step w loop.work _ ps loop.i c.wide-from.result more c.wide-from.ensures.0 inn loop.auto.work moved c.requires.0 loop.invariant.0 ∙ loop.invariant.1,
    )

pub returns : goal.returns
returns c =
    let w = c.args.work.now in
    let ps = c.args.pages.now in
    sym (log-end w c.loop-i.work c.loop-i.work ps c.loop-i.i c.loop-i-test.false) ∙ c.loop-i.invariant.1 ∙ log-whole w ps c.requires.2 c.requires.0 c.requires.1
