-- `see`: what the edits that are left make of what is seen so far, or of the image's answer, is what all of them make of the image's answer, whatever that is.
-- Assumes nothing.
use Rattle.std.proofs.lemmas.Result.{err_from_is_err_and}
use Rattle.std.specs.Prelude.{Ok, Some, None, MatchOption, IsSomeAnd, Option, Result}
use Prim.Native.Nat.{◌+◌, ◌≤◌}
use mathlib.Core.Path.{◌≡◌, refl, sym, ap, ◌∙◌}
use native.Mathlib.Omega.{arith}
use lib.ListN.{length}
use Rattle.preview.specs.declared.Preview.{Preview}
use Rattle.preview.specs.declared.Preview.TheVariants.{InImage}
use Rattle.image.specs.declared.Part.{Part}
use Rattle.device.specs.declared.Refusal.{Refusal}
use Rattle.edit.specs.EditList.{edits_of, edit_list}
use Rattle.edit.proofs.Parsing.{list-whole}
use Rattle.edit.proofs.Heads.{head-none, head-fits, head-rest}
use Rattle.preview.specs.Calls.{in_image, seen_from, seen}
use Rattle.preview.proofs.Walk.{seen_by, seen-own, seen_other}
use Rattle.preview.proofs.seen.see.Goals as goal
use Rattle.preview.proofs.seen.see.Goals.{After-loop-at, Joined-long_at-key, then-long_at-key, else-long_at-key}

pub loop-at-init : goal.loop-at-init
unfolding seen
loop-at-init c = (omega arith, record { edits = _; reads = (list-whole _ _ c.requires.0).reads }, λ stored. refl)

pub overflow_add-value : goal.overflow_add-value
overflow_add-value c = omega (arith, head-fits c.loop-at.invariant.1 c.loop-at-test.true _ refl)

pub overflow_add-at : goal.overflow_add-at
overflow_add-at c = omega (arith, head-fits c.loop-at.invariant.1 c.loop-at-test.true _ refl)

pub bounds-list-at : goal.bounds-list-at
bounds-list-at c = omega (arith, head-fits c.loop-at.invariant.1 c.loop-at-test.true _ refl)

pub overflow_add-at-in-loop-at : goal.overflow_add-at-in-loop-at
overflow_add-at-in-loop-at c = omega (arith, head-fits c.loop-at.invariant.1 c.loop-at-test.true _ c.wide-n.ensures.0)

pub long_at-requires : goal.long_at-requires
long_at-requires c = omega (arith, head-fits c.loop-at.invariant.1 c.loop-at-test.true _ c.wide-n.ensures.0)

fits : (c : Joined-long_at-key) → c.loop-at.at + 10 + c.wide-n.result ≤ length c.args.list.now
fits c = head-fits c.loop-at.invariant.1 c.loop-at-test.true _ c.wide-n.ensures.0

pub loop-at-preserved : goal.loop-at-preserved
loop-at-preserved c =
    let l = c.loop-at in
    let more = c.loop-at-test.true in
    let rest = head-rest l.invariant.1 more _ c.wide-n.ensures.0 in
    let a = c.args in
    let to : (stored : Result (Option Part) Refusal) (last : Option (Option Preview)) → c.if-long_at-key.last ≡ last → _ =
    λ stored last p. ap (λ (x : Option (Option Preview)). seen_from a.key (l.at + 10 + c.wide-n.result) (seen_by x (in_image stored)) rest.edits) p in (
      fits (goal.at.loop-at-preserved c).Joined-long_at-key,
      rest,
      λ stored. elim c.if-long_at-key.branch [
        | then-long_at-key w ↦
            to stored _ (w.last-is ∙ ap Some w.brought.ensures) ∙ sym (seen-own l.invariant.1 more _ c.wide-n.ensures.0 _ c.long_at.ensures _ (seen_by l.last (in_image stored)) w.if-long_at-key.true) ∙ l.invariant.2 stored
        | else-long_at-key w ↦
            to stored l.last w.last-is ∙ sym (seen_other l.invariant.1 more _ c.wide-n.ensures.0 _ c.long_at.ensures _ (seen_by l.last (in_image stored)) w.if-long_at-key.false) ∙ l.invariant.2 stored
      ],
    )

-- no edit is left
ended : (c : After-loop-at) (last : Option (Option Preview)) → c.loop-at.last ≡ last → (stored : Result (Option Part) Refusal) → seen_by last (in_image stored) ≡ seen stored c.args.key (edits_of (edit_list c.args.list.now))
unfolding seen_from
ended c last e stored =
    let l = c.loop-at in
    let a = c.args in
    ap (λ (o : Option (Option Preview)). seen_by o (in_image stored)) (sym e) ∙ sym (ap (seen_from a.key l.at (seen_by l.last (in_image stored))) (head-none l.invariant.1 c.loop-at-test.false)) ∙ l.invariant.2 stored

pub returns-in-Some : goal.returns-in-Some
returns-in-Some c nodes M = ended (goal.at.returns-in-Some c).After-loop-at _ c.in-Some.is _

pub returns-in_err-find_key-in-None : goal.returns-in_err-find_key-in-None
unfolding in_image
returns-in_err-find_key-in-None c nodes M =
    let p = err_from_is_err_and c.from_residual.result c.from_residual.ensures.1 in
    rw (p.1, p.2) (ap in_image (sym (sym (c.find_key.ensures nodes M) ∙ c.in_err-find_key-in-None.was)) ∙ ended (goal.at.returns-in_err-find_key-in-None c).After-loop-at None c.in-None.is _)

-- each part that is found is shown
shows : (o : Option Part) (r : Option Preview) → MatchOption o (r ≡ None) (λ x. IsSomeAnd r (λ y. y ≡ InImage x)) → Ok r ≡ in_image (Ok o)
unfolding in_image
shows None r h = ap Ok h
shows (Some x) (Some y) h = ap (λ (z : Preview). Ok (Some z)) h
shows (Some x) None h = absurd h

pub returns-in_ok-find_key-in-None : goal.returns-in_ok-find_key-in-None
returns-in_ok-find_key-in-None c nodes M =
    shows _ _ c.map.ensures.cases ∙ ap in_image (sym (sym (c.find_key.ensures nodes M) ∙ c.in_ok-find_key-in-None.was)) ∙ ended (goal.at.returns-in_ok-find_key-in-None c).After-loop-at None c.in-None.is _
