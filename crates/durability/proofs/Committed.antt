-- The commit store of an accepted transaction stands on its tape where the definition of its place finds it, with its flush next and a
-- barrier after it; and what a cut of the tape leaves, by that place.
-- Assumes nothing.
use Rattle.std.specs.Prelude.{Ok}
use Prim.Native.Nat.{ℕ, suc, ◌+◌, ◌-◌, ◌≤◌}
use mathlib.Core.Path.{◌≡◌, refl, sym, ap, ap₂, ◌∙◌, subst}
use mathlib.Core.Logic.{inl, inr}
use mathlib.Core.Bool.{true, false, true≢false}
use mathlib.Core.List.{List, [], ◌∷◌, ◌++◌}
use native.Mathlib.Omega.{arith}
use lib.ListN.{length, take, drop}
use borrow.Author.Tests.{eq-eqb, ne_eqb, le-leb, lt-ltb}
use Rattle.codec.specs.Lists.{All}
use Rattle.codec.specs.Numbers.{bytes_of}
use Rattle.codec.proofs.Agree.{or_left, or_right}
use Rattle.device.specs.Tape.{Op, store, flush, barrier, malformed, Writable}
use Rattle.device.specs.Cut.{hits, touches, durable, line_of}
use Rattle.device.proofs.Clauses.{touches-store, touches-flush, touches-barrier, durable-here}
use Rattle.device.proofs.Segments.{durable-two}
use Rattle.image.specs.PageZero.{root_of, mark_bytes}
use Rattle.image.specs.Image.{sound}
use Rattle.image.specs.Table.{table}
use Rattle.image.proofs.General.{All-left}
use Rattle.journal.specs.Changes.{header_line, changed_pages}
use Rattle.journal.specs.Tape.{Taken, commit_of, room_in_log, taken_for}
use Rattle.journal.specs.Commit.{commit_store, commit_line}
use Rattle.journal.specs.Edited.{Edited}
use Rattle.journal.specs.Holds.{CutHolds}
use Rattle.journal.specs.declared.Way.{Way}
use Rattle.journal.specs.declared.Commit.{Commit}
use Rattle.journal.specs.declared.CommitPlace.{CommitPlace}
use Rattle.journal.specs.declared.CommitPlace.TheVariants.{Header, Root, Log}
use Rattle.journal.proofs.Crash.{past-command, commit-live}
use Rattle.journal.proofs.Follows.{Follows, follows-shape}
use Rattle.journal.proofs.Taken.{taken-follows, taken-cut}
use Rattle.journal.proofs.Fitting.{taken-fits}
use Rattle.transaction.specs.Calls.{commands_on}
use Rattle.transaction.proofs.Demand2.{was-sound, target, target-edited, room, answer-is, commands-are}
use Rattle.durability.specs.Demand.{Call, on_image, place_offset, store_at, commit_at, PastBarrier, CommitStands}

-- a store of a word or a line at o stores byte o
stores-first : (n o p : ℕ) (vs : List ℕ) → Writable n (store p vs) → hits (store p vs) o ≡ false → p ≡ o → ⊥
stores-first n o p vs h e q = true≢false (sym (covers h) ∙ e)
  where
    covers : Writable n (store p vs) → hits (store p vs) o ≡ true
    covers (inl k) = rw (le-leb p o (omega arith), lt-ltb o (p + length vs) (omega (arith, k.0)))
    covers (inr k) = rw (le-leb p o (omega arith), lt-ltb o (p + length vs) (omega (arith, k.0)))

-- the first store at o, after commands that do not store byte o
pub first_store : (n o : ℕ) (vs : List ℕ) (rest cs : List Op) → All (Writable n) cs → touches cs o ≡ false → store_at o (cs ++ (store o vs ∷ rest)) ≡ length cs
unfolding store_at
first_store n o vs rest [] w t = rw (eq-eqb o o refl)
first_store n o vs rest (store p us ∷ cs) w t =
    let e = sym (touches-store p us cs o) ∙ t in
    rw (ne_eqb p o (stores-first n o p us w.0 (or_left (hits (store p us) o) (touches cs o) e)))
    (ap suc (first_store n o vs rest cs w.1 (or_right (hits (store p us) o) (touches cs o) e)))
first_store n o vs rest (flush l ∷ cs) w t = ap suc (first_store n o vs rest cs w.1 (sym (touches-flush l cs o) ∙ t))
first_store n o vs rest (barrier ∷ cs) w t = ap suc (first_store n o vs rest cs w.1 (sym (touches-barrier cs o) ∙ t))
first_store n o vs rest (malformed ∷ cs) w t = absurd w.0

-- ---- a store with its flush next and a barrier after it, after commands that do not store there

module _ (n : ℕ) (place : CommitPlace) (cs bef : List Op) (vs : List ℕ) (rest : List Op) (shape : cs ≡ bef ++ (store (place_offset place) vs ∷ flush (line_of (place_offset place)) ∷ barrier ∷ rest))
    (writes : All (Writable n) bef) (first : touches bef (place_offset place) ≡ false) where
  abbrev o : ℕ
  o = place_offset place

  pub found : commit_at place cs ≡ length bef
  found = ap (store_at o) shape ∙ first_store n o vs (flush (line_of o) ∷ barrier ∷ rest) bef writes first

  -- past the store, its own flush and the barrier are the first commands before the cut
  own : (c : ℕ) → length bef + 3 ≤ c → PastBarrier place cs c
  own c h =
      let d : ℕ = c - (length bef + 3) in
      let q : c ≡ length bef + suc (suc (suc d)) = omega arith in
      ap₂ (λ (m i : ℕ). durable (line_of o) (drop (suc m) (take i cs))) found q
      ∙ ap (λ (t : List Op). durable (line_of o) (drop (suc (length bef)) (take (length bef + suc (suc (suc d))) t))) shape
      ∙ ap (durable (line_of o)) (past-command bef (store o vs) (flush (line_of o) ∷ barrier ∷ rest) (suc (suc d)))
      ∙ durable-here (line_of o) (take d rest)

  pub stands : CommitStands place cs
  stands =
      record {
        before = bef;
        bytes = vs;
        rest = rest;
        shape = shape;
        first = first;
        issued = λ c h. omega (arith, found);
        issues = λ c h. omega (arith, found);
        waited = λ c h. omega (arith, found, durable-two (line_of o) (suc (commit_at place cs)) c cs h);
        waits = own;
      }

-- ---- the commit place of a transaction from a to w

module _ (way : Way) (a w : List ℕ) (s : sound a ≡ true) (d : Edited a w) (room : room_in_log (changed_pages a w) ≡ true) where
  -- the commit store is one at its place's offset, and its line that byte's
  place-store : (p : CommitPlace) → (vs : List ℕ) × (commit_store w (length (changed_pages a w)) p ≡ store (place_offset p) vs)
  unfolding place_offset commit_store
  place-store (Header p) = (header_line w p, refl)
  place-store Root = (bytes_of 8 (root_of w), refl)
  place-store Log = (mark_bytes (length (changed_pages a w)) (root_of w), refl)

  place-line : (p : CommitPlace) → commit_line p ≡ line_of (place_offset p)
  unfolding place_offset commit_line
  place-line (Header p) = omega arith
  place-line Root = refl
  place-line Log = refl

  abbrev x : Taken
  x = taken_for way a w

  t : Follows a w x
  t = taken-follows way a w s d room

  abbrev vs : List ℕ
  vs = (place-store x.place).0

  shape : x.tape ≡ t.safe.prepare ++ (store (place_offset x.place) vs ∷ flush (line_of (place_offset x.place)) ∷ barrier ∷ t.safe.rest)
  shape = follows-shape a w x t ∙ ap₂ (λ (c : Op) (l : ℕ). t.safe.prepare ++ (c ∷ flush l ∷ barrier ∷ t.safe.rest)) (place-store x.place).1 (place-line x.place)

  writes : All (Writable (length a)) t.safe.prepare
  writes = All-left (Writable (length a)) t.safe.prepare _ (subst (All (Writable (length a))) shape (taken-fits way a w s d room))

  first : touches t.safe.prepare (place_offset x.place) ≡ false
  first =
      let o : store (place_offset x.place) vs ≡ store t.safe.place t.safe.bytes = sym (place-store x.place).1 ∙ t.is_store in
      let at : place_offset x.place ≡ t.safe.place = cc in
      ap (touches t.safe.prepare) at ∙ t.safe.dead t.safe.place (commit-live a x.tape x.work s t.safe)

  -- the commit store stands on the tape
  pub taken-stands : CommitStands x.place x.tape
  taken-stands = stands (length a) x.place x.tape t.safe.prepare vs t.safe.rest shape writes first

  -- where the transaction says
  pub taken-found : commit_at x.place x.tape ≡ x.commit_at
  taken-found = found (length a) x.place x.tape t.safe.prepare vs t.safe.rest shape writes first ∙ sym t.commits

  -- by its place, the tape is cut as the journal says
  pub place-cut : (f : ℕ → ℕ) (c : ℕ) → CutHolds (table a) (table w) a x.tape (commit_at x.place x.tape) (line_of (place_offset x.place)) f c
  place-cut f c =
      subst (λ (n : ℕ). CutHolds (table a) (table w) a x.tape n (line_of (place_offset x.place)) f c) (sym taken-found)
      (subst (λ (l : ℕ). CutHolds (table a) (table w) a x.tape x.commit_at l f c) (place-line x.place) (taken-cut way a w s d room f c))

-- ---- the call

module _ (a : List ℕ) (k : Call) (d : Commit) (e : (on_image a k).answer ≡ Ok d) where
  -- its edited image, and the transaction to it
  abbrev w : List ℕ
  w = target k.way a k.work k.tape k.edits d e

  abbrev made : Taken
  made = taken_for k.way a w

  abbrev cs : List Op
  cs = commands_on a d.bytes (on_image a k).tape

  s : sound a ≡ true
  s = was-sound k.way a k.work k.tape k.edits d e

  edited : Edited a w
  edited = target-edited k.way a k.work k.tape k.edits d e

  in_log : room_in_log (changed_pages a w) ≡ true
  in_log = room k.way a k.work k.tape k.edits d e

  -- what holds of the transaction's place and commands holds of the answer's
  answered : (P : CommitPlace → List Op → Type 0) → P made.place made.tape → P d.place cs
  unfolding commit_of
  answered P h =
      subst (P d.place) (sym (commands-are k.way a k.work k.tape k.edits d e))
      (subst (λ (c : Commit). P c.place made.tape) (sym (answer-is k.way a k.work k.tape k.edits d e)) h)

  -- the commit store of an accepted transaction stands on its tape, with its flush next and a barrier after it
  pub commit-stands : CommitStands d.place cs
  commit-stands = answered CommitStands (taken-stands k.way a w s edited in_log)

  -- and cut anywhere the tape leaves the table before or the one after
  pub commit-cut : (f : ℕ → ℕ) (c : ℕ) → CutHolds (table a) (table w) a cs (commit_at d.place cs) (line_of (place_offset d.place)) f c
  commit-cut f c = answered (λ (p : CommitPlace) (os : List Op). CutHolds (table a) (table w) a os (commit_at p os) (line_of (place_offset p)) f c) (place-cut k.way a w s edited in_log f c)
