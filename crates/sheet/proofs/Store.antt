-- The store that the listing shows: sound after any lines; an accepted commit makes exactly the edits that waited, a refused one none.
-- Assumes nothing.
use Rattle.std.specs.Prelude.{Err, Ok, Result}
use Prim.Native.Nat.{ℕ, zero, suc, ◌+◌}
use mathlib.Core.Path.{◌≡◌, refl, ap, ◌∙◌}
use mathlib.Core.Bool.{Bool, true, false}
use mathlib.Core.List.{List, [], ◌∷◌, ◌++◌}
use lib.ListN.{length, drop, replicate}
use lib.Dec.{ltb}
use Rattle.std.proofs.Common.{Option, Some, None}
use Rattle.device.specs.declared.Refusal.{Refusal}
use Rattle.codec.specs.Lists.{pick}
use Rattle.device.specs.Calls.{is_image_size}
use Rattle.image.specs.Image.{sound}
use Rattle.image.specs.Table.{table}
use Rattle.image.specs.Fresh.{fresh}
use Rattle.image.specs.PageZero.{page_count}
use Rattle.image.specs.Calls.{Formatted, format_call}
use Rattle.image.proofs.Fresh.{format-accepted, format-sound}
use Rattle.edit.specs.EditList.{edits_of, edit_list}
use Rattle.edit.specs.Ledger.{apply_edits}
use Rattle.journal.specs.declared.Commit.{Commit}
use Rattle.journal.specs.declared.Way.TheVariants.{ByLine}
use Rattle.transaction.specs.Calls.{is_accepted}
use Rattle.transaction.specs.Demand2.{Makes}
use Rattle.transaction.proofs.Demand2.{demand-2}
use Rattle.lines.specs.Form.{line_in, line_edit}
use Rattle.lines.specs.declared.Line.{Line}
use Rattle.lines.specs.declared.Line.TheVariants as says
use Rattle.sheet.specs.Steps.{State, Outcome, opened, tried, commits, waits, does, follow, steps_from, steps}

-- ---- a commit

-- an accepted commit is an accepted transaction
pub tried-makes : (a list : List ℕ) (x : Commit) → (tried a list).answer ≡ Ok x → Makes a (replicate 16384 0) list x (tried a list)
unfolding tried
tried-makes a list x e = demand-2 ByLine a (replicate 8192 0) (replicate 16384 0) list x e

module _ (s : State) (h : sound s.image ≡ true) where
  pub commits-accepted-table : (x : Commit) → (tried s.image s.list).answer ≡ Ok x →
      table (commits s).image ≡ apply_edits (edits_of (edit_list s.list)) (table s.image)
  unfolding commits is_accepted
  commits-accepted-table x e = rw e (tried-makes s.image s.list x e).is_table

  pub commits-sound : sound (commits s).image ≡ true
  unfolding commits is_accepted
  commits-sound = go (tried s.image s.list).answer refl
    where
      go : (t : Result Commit Refusal) → (tried s.image s.list).answer ≡ t → sound (pick (is_accepted t) (tried s.image s.list).work s.image) ≡ true
      go (Ok x) e = (tried-makes s.image s.list x e).is_sound
      go (Err r) e = h

-- ---- all lines

waits-sound : (kind key price : ℕ) (s : State) → sound s.image ≡ true → sound (waits kind key price s).image ≡ true
unfolding waits
waits-sound kind key price s h = go (ltb 16 s.edits)
  where
    go : (t : Bool) → sound (pick t s (record { image = s.image; list = s.list ++ line_edit kind key price; edits = s.edits + 1; accepted = s.accepted; refused = s.refused })).image ≡ true
    go true = h
    go false = h

does-sound : (line : Line) (s : State) → sound s.image ≡ true → sound (does line s).image ≡ true
unfolding does
does-sound says.Commit s h = commits-sound s h
does-sound (says.Edit kind key price) s h = waits-sound kind key price s h

steps-from-sound : (n done : ℕ) (t : List ℕ) (s : State) → sound s.image ≡ true → sound (steps_from n done t s).image ≡ true
unfolding steps_from follow
steps-from-sound zero done [] s h = h
steps-from-sound zero done (b ∷ t) s h = h
steps-from-sound (suc n) done [] s h = h
steps-from-sound (suc n) done (b ∷ t) s h = go (line_in (b ∷ t)) (steps_from n (done + 1) (drop 28 (b ∷ t))) (λ u k. steps-from-sound n (done + 1) (drop 28 (b ∷ t)) u k)
  where
    go : (l : Option Line) (rest : State → Outcome) → ((u : State) → sound u.image ≡ true → sound (rest u).image ≡ true) → sound (follow l (done + 1) s rest).image ≡ true
    go (Some line) rest k = k (does line s) (does-sound line s h)
    go None rest k = h

-- for every form, the store at its end is sound
pub steps-sound : (input image : List ℕ) → sound image ≡ true → sound (steps input image).image ≡ true
unfolding steps
steps-sound input image h = steps-from-sound 2000 0 input (opened image) h

-- also as the program runs it, from a formatted image
pub program-sound : (zeros input formatted last : List ℕ) → is_image_size (length zeros) ≡ true → formatted ≡ (format_call zeros).image → last ≡ (steps input formatted).image → sound last ≡ true
program-sound zeros input formatted last h e f =
    let fresh-is : formatted ≡ fresh (page_count zeros) = e ∙ ap (λ (r : Formatted). r.image) (format-accepted zeros h) in
    ap sound f ∙ steps-sound input formatted (ap sound fresh-is ∙ (format-sound zeros h).1)
