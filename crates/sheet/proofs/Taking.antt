-- The steps of the code: a transaction's answer, a commit, an edit that waits, a line taken.
-- Assumes nothing.
use Rattle.std.specs.Prelude.{Err, Ok, Result}
use Prim.Native.Nat.{ℕ, zero, suc, min, ◌+◌, ◌-◌, ◌≤◌, ◌<◌}
use mathlib.Core.Path.{◌≡◌, refl, sym, ap, ◌∙◌}
use mathlib.Core.Bool.{Bool, true, false}
use mathlib.Core.List.{List, [], ◌∷◌, ◌++◌, append_assoc}
use native.Mathlib.Omega.{arith}
use lib.ListN.{length, take, drop, length-append, length-take}
use lib.Seq.{take_at, drop_at}
use Rattle.std.proofs.Common.{Option, Some, None}
use Rattle.std.proofs.lemmas.List.{take_min, drop_min}
use lib.Dec.{ltb}
use borrow.Author.Tests.{lt-ltb, le-ltb}
use Rattle.codec.specs.Lists.{pick, part, splice}
use Rattle.journal.specs.declared.Commit.{Commit}
use Rattle.device.specs.declared.Refusal.{Refusal}
use Rattle.transaction.specs.Calls.{is_accepted}
use Rattle.lines.specs.Form.{line_in, line_edit}
use Rattle.lines.proofs.Reading.{line-first}
use Rattle.lines.specs.declared.Line.{Line}
use Rattle.lines.specs.declared.Line.TheVariants as says
use Rattle.sheet.specs.declared.form.Totals.{Totals}
use Rattle.sheet.specs.declared.waiting.Waiting.{Waiting}
use Rattle.sheet.specs.Steps.{State, Outcome, opened, tried, commits, waits, ended_at, ended_whole, does, follow, steps_from, steps, state_of}

-- ---- a transaction

module _ (image list : List ℕ) (a : Result Commit Refusal) (says : a ≡ (tried image list).answer) where
  pub accepted-says : (x : Commit) (work new : List ℕ) → a ≡ Ok x → work ≡ (tried image list).work → new ≡ work →
      (true ≡ is_accepted (tried image list).answer) × (new ≡ (tried image list).work)
  unfolding is_accepted
  accepted-says x work new e w n = (rw (sym says ∙ e), n ∙ w)

  pub refused_says : (x : Refusal) → a ≡ Err x → false ≡ is_accepted (tried image list).answer
  unfolding is_accepted
  refused_says x e = rw (sym says ∙ e)

-- ---- a commit

-- none waits
emptied : (image list : List ℕ) (edits used accepted refused : ℕ) → edits ≡ 0 → used ≡ 0 →
    ◌≡◌ {A = State} (record { image = image; list = take used list; edits = edits; accepted = accepted; refused = refused })
    (record { image = image; list = []; edits = 0; accepted = accepted; refused = refused })
emptied image list edits used accepted refused e f = rw (e, f)

module _ (image : List ℕ) (w left : Waiting) (c : Totals) (t : Bool) (new : List ℕ) (none : left.edits ≡ 0) (empty : left.used ≡ 0)
    (says : t ≡ is_accepted (tried image (take w.used w.list)).answer) (is : new ≡ pick t (tried image (take w.used w.list)).work image) where
  pub commits-accepted : t ≡ true → state_of new left (record { accepted = c.accepted + 1; refused = c.refused }) ≡ commits (state_of image w c)
  unfolding commits
  commits-accepted e = emptied new left.list left.edits left.used (c.accepted + 1) c.refused none empty ∙ rw (sym says, is, e)

  pub commits-refused : t ≡ false → state_of new left (record { accepted = c.accepted; refused = c.refused + 1 }) ≡ commits (state_of image w c)
  unfolding commits
  commits-refused e = emptied new left.list left.edits left.used c.accepted (c.refused + 1) none empty ∙ rw (sym says, is, e)

-- at most one transaction more
pub commits-few : (s : State) → ((commits s).accepted ≤ s.accepted + 1) × ((commits s).refused ≤ s.refused + 1)
unfolding commits
commits-few s = (go (is_accepted (tried s.image s.list).answer) s.accepted, no (is_accepted (tried s.image s.list).answer) s.refused)
  where
    go : (t : Bool) (n : ℕ) → pick t (n + 1) n ≤ n + 1
    go true n = omega arith
    go false n = omega arith

    no : (t : Bool) (n : ℕ) → pick t n (n + 1) ≤ n + 1
    no true n = omega arith
    no false n = omega arith

-- ---- an edit that waits

module _ (kind key price : ℕ) (image : List ℕ) (w : Waiting) (t : Totals) where
  pub waits_dropped : 17 ≤ w.edits → state_of image w t ≡ waits kind key price (state_of image w t)
  unfolding waits
  waits_dropped h = rw (lt-ltb 16 w.edits (omega arith))

  pub waits-added : (new : List ℕ) (next : ℕ) → w.edits < 17 → w.used ≤ length w.list → new ≡ splice w.list w.used (line_edit kind key price) →
      next ≡ w.used + length (line_edit kind key price) →
      ◌≡◌ {A = State} (record { image = image; list = take next new; edits = w.edits + 1; accepted = t.accepted; refused = t.refused }) (waits kind key price (state_of image w t))
  unfolding waits splice
  waits-added new next h fits e f =
      let front : length (take w.used w.list ++ line_edit kind key price) ≡ w.used + length (line_edit kind key price) = simp (length-append, length-take) (omega arith) in
      let taken : take next new ≡ take w.used w.list ++ line_edit kind key price =
      rw (e, f)
      (ap (take (w.used + length (line_edit kind key price))) (sym (append_assoc (take w.used w.list) (line_edit kind key price) (drop (w.used + length (line_edit kind key price)) w.list)))
      ∙ take_at (take w.used w.list ++ line_edit kind key price) (drop (w.used + length (line_edit kind key price)) w.list) (w.used + length (line_edit kind key price)) front) in
      rw (le-ltb 16 w.edits (omega arith), taken)

pub waits-same : (kind key price : ℕ) (s : State) → ((waits kind key price s).accepted ≡ s.accepted) × ((waits kind key price s).refused ≡ s.refused)
unfolding waits
waits-same kind key price s = (go (ltb 16 s.edits), no (ltb 16 s.edits))
  where
    go : (t : Bool) → (pick t s (record { image = s.image; list = s.list ++ line_edit kind key price; edits = s.edits + 1; accepted = s.accepted; refused = s.refused })).accepted ≡ s.accepted
    go true = refl
    go false = refl

    no : (t : Bool) → (pick t s (record { image = s.image; list = s.list ++ line_edit kind key price; edits = s.edits + 1; accepted = s.accepted; refused = s.refused })).refused ≡ s.refused
    no true = refl
    no false = refl

-- ---- the lines in order

-- a line makes at most one transaction more
does-few : (line : Line) (s : State) → ((does line s).accepted ≤ s.accepted + 1) × ((does line s).refused ≤ s.refused + 1)
unfolding does
does-few says.Commit s = commits-few s
does-few (says.Edit kind key price) s = let same = waits-same kind key price s in (omega (arith, same.0), omega (arith, same.1))

steps-none : (n done : ℕ) (t : List ℕ) (s : State) → length t ≡ 0 → steps_from n done t s ≡ ended_whole s
unfolding steps_from
steps-none zero done [] s h = refl
steps-none (suc n) done [] s h = refl
steps-none n done (b ∷ t) s h = absurd (omega arith)

steps-over : (n done : ℕ) (t : List ℕ) (s : State) → n ≡ 0 → 0 < length t → steps_from n done t s ≡ ended_at (done + 1) s
unfolding steps_from
steps-over n done [] s e h = absurd (omega arith)
steps-over n done (b ∷ t) s e h = rw e

steps-line : (m n done : ℕ) (t : List ℕ) (s : State) (line : Option Line) → m ≡ suc n → 0 < length t → line ≡ line_in t →
    steps_from m done t s ≡ follow line (done + 1) s (steps_from n (done + 1) (drop 28 t))
unfolding steps_from
steps-line m n done [] s line e h f = absurd (omega arith)
steps-line m n done (b ∷ t) s line e h f = rw (e, f)

-- after `done` lines, which left the state s: what the lines of t, which are left, do then comes to the whole
pub record Taken (whole : Outcome) (done : ℕ) (t : List ℕ) (s : State) : Type 0 where
  pub few : done ≤ 2000
  pub accepted : s.accepted ≤ done
  pub refused : s.refused ≤ done
  pub is : steps_from (2000 - done) done t s ≡ whole

pub taken-first : (input image : List ℕ) (n : ℕ) (t : List ℕ) (s : State) → n ≡ 0 → t ≡ input → s ≡ opened image → Taken (steps input image) n t s
unfolding steps
taken-first input image n t s a b c = rw (a, b, c) (record { few = omega arith; accepted = omega arith; refused = omega arith; is = refl })

pub opened-with : (image : List ℕ) (w : Waiting) (t : Totals) → w.edits ≡ 0 → w.used ≡ 0 → t.accepted ≡ 0 → t.refused ≡ 0 → state_of image w t ≡ opened image
opened-with image w t a b c d = emptied image w.list w.edits w.used t.accepted t.refused a b ∙ rw (c, d)

pub taken-last : (whole : Outcome) (n : ℕ) (t : List ℕ) (s : State) → Taken whole n t s → length t ≡ 0 → ended_whole s ≡ whole
taken-last whole n t s k h = sym (steps-none (2000 - n) n t s h) ∙ k.is

-- the next line, which is number `done` from 0 on, is cut off the front
module _ (whole : Outcome) (n done m : ℕ) (t line rest : List ℕ) (s : State) (k : Taken whole n t s) (number : done ≡ n) (wide : m ≡ 28)
    (turn : (t ≡ line ++ rest) × (length line ≡ min m (length t)) × (0 < length t)) where
  pub taken-over : 2000 ≤ done → ended_at (done + 1) s ≡ whole
  taken-over h =
      let few = k.few in
      ap (λ (d : ℕ). ended_at (d + 1) s) number ∙ sym (steps-over (2000 - n) n t s (omega arith) turn.2) ∙ k.is

  module _ (fewer : done < 2000) where
    size : length line ≡ min 28 (length t)
    size = turn.1 ∙ ap (λ (w : ℕ). min w (length t)) wide

    cut : line ≡ part t 0 28
    unfolding part
    cut = sym (take_at line rest (min 28 (length t)) size) ∙ ap (take (min 28 (length t))) (sym turn.0) ∙ take_min 28 t

    left : rest ≡ drop 28 t
    left = sym (drop_at line rest (min 28 (length t)) size) ∙ ap (drop (min 28 (length t))) (sym turn.0) ∙ drop_min 28 t

    one : (l : Option Line) → l ≡ line_in line → follow l (n + 1) s (steps_from (2000 - (n + 1)) (n + 1) rest) ≡ whole
    one l e =
        let read : l ≡ line_in t = e ∙ ap line_in cut ∙ line-first t in
        ap (λ (r : List ℕ). follow l (n + 1) s (steps_from (2000 - (n + 1)) (n + 1) r)) left
        ∙ sym (steps-line (2000 - n) (2000 - (n + 1)) n t s l (omega arith) turn.2 read)
        ∙ k.is

    pub taken-bad : None ≡ line_in line → ended_at (done + 1) s ≡ whole
    unfolding follow
    taken-bad e = ap (λ (d : ℕ). ended_at (d + 1) s) number ∙ one None e

    pub taken-next : (l : Line) (u : State) (next : ℕ) → Some l ≡ line_in line → u ≡ does l s → next ≡ n + 1 → Taken whole next rest u
    unfolding follow
    taken-next l u next e f g =
        let bound = does-few l s in
        let a : u.accepted ≡ (does l s).accepted = ap (λ (v : State). v.accepted) f in
        let r : u.refused ≡ (does l s).refused = ap (λ (v : State). v.refused) f in
        record {
          few = omega arith;
          accepted = omega (arith, bound.0, k.accepted);
          refused = omega (arith, bound.1, k.refused);
          is = rw (f, g) (one (Some l) e);
        }

pub ends_with : (x y : Outcome) → x ≡ y → (x.end ≡ y.end) × (x.image ≡ y.image)
ends_with x y e = (ap (λ (z : Outcome). z.end) e, ap (λ (z : Outcome). z.image) e)
