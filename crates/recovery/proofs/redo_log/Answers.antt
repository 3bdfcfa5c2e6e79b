-- `redo_log`: the logged pages and the replayed tree decide; then the log is replayed.
-- Assumes nothing.
use Rattle.std.specs.Prelude.{◌≡◌, Result, Ok, Err, MatchResult, IsErrAnd}
use mathlib.Core.Path.{refl, sym, ap, ◌∙◌}
use native.Mathlib.Omega.{arith}
use borrow.Author.Tests.{not-true, not-false}
use lib.ListN.{length}
use Rattle.device.specs.Calls.{of_cause}
use Rattle.device.specs.declared.Cause.{Cause}
use Rattle.device.specs.declared.Refusal.{Refusal}
use Rattle.journal.specs.declared.Redone.{Redone}
use Rattle.image.proofs.Zero.{size-true, waiting-facts}
use Rattle.recovery.proofs.Replay.{log-waits}
use Rattle.recovery.proofs.Shown.{answered, log-refused, tree-refused, redone}
use Rattle.recovery.proofs.redo_log.Goals as goal

pub logged_ok-requires : goal.logged_ok-requires
logged_ok-requires c =
    let m = waiting-facts c.args.image.now c.args.headers c.args.root c.requires.2 in
    let z = size-true (length c.args.image.now) c.requires.0 in
    (omega (arith, m.few, z.low), z.high)

pub returns-then-not-logged_ok : goal.returns-then-not-logged_ok
returns-then-not-logged_ok c = let whole =
    log-refused c.args.way c.args.image.now c.args.work.now c.args.tape.now c.requires.0 c.requires.1 c.args.headers c.args.root c.requires.2 (sym c.logged_ok.ensures ∙ not-true _ c.if-not-logged_ok.true-raw) _ c.of.ensures in record { value = whole.0; work_after = whole.1.0; tape_after = whole.1.1 }

pub returns-then-not-replay_ok : goal.returns-then-not-replay_ok
returns-then-not-replay_ok c = let whole =
    tree-refused c.args.way c.args.image.now c.args.work.now c.args.tape.now c.requires.0 c.requires.1 c.args.headers c.args.root c.requires.2 (sym c.logged_ok.ensures ∙ not-false _ c.if-not-logged_ok.false-raw) (sym c.replay_ok.ensures ∙ not-true _ c.if-not-replay_ok.true-raw) _ c.of-then-not-replay_ok.ensures in record { value = whole.0; work_after = whole.1.0; tape_after = whole.1.1 }

pub redo-requires : goal.redo-requires
redo-requires c =
    log-waits c.args.image.now c.args.headers c.args.root c.requires.0 (record { zero = c.requires.2; ok = (sym c.logged_ok.ensures ∙ not-false _ c.if-not-logged_ok.false-raw) }) _ c.requires.1

-- a cause becomes the refusal that names no edit
named : (o : Result Redone Cause) (r : Result Redone Refusal) → MatchResult o (λ x. r ≡ Ok x) (λ e. IsErrAnd r (λ y. y ≡ of_cause e)) → r ≡ answered o
named (Ok x) r h = h
named (Err e) (Err y) h = ap Err h
named (Err e) (Ok x) h = absurd h

pub returns : goal.returns
returns c =
    let e = redone c.args.way c.args.image.now c.args.work.now c.args.tape.now c.requires.0 c.requires.1 c.args.headers c.args.root c.requires.2 (sym c.logged_ok.ensures ∙ not-false _ c.if-not-logged_ok.false-raw) (sym c.replay_ok.ensures ∙ not-false _ c.if-not-replay_ok.false-raw) _ c.redo.result refl _ _ (c.redo.ensures.value, (c.redo.ensures.work_after, c.redo.ensures.tape_after)) in
    record { value = named _ _ c.map_err.ensures.cases ∙ e.0; work_after = e.1.0; tape_after = e.1.1 }
