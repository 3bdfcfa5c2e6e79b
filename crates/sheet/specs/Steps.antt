-- What the lines of a form do, in order: edits wait, a commit is a transaction (document 01, 'The sheet program').
-- Assumes nothing.
use Rattle.std.specs.Prelude.{ℕ, zero, suc, ◌+◌, List, [], ◌∷◌, ◌++◌, Option, Some, None, Ok, Err, take, drop, replicate, ltb}
use Rattle.std.specs.Prelude as std
use Rattle.codec.specs.Lists.{pick}
use Rattle.journal.specs.declared.Way.TheVariants.{ByLine}
use Rattle.transaction.specs.Calls.{Called, is_accepted, transaction_call}
use Rattle.lines.specs.Form.{line_in, line_edit}
use Rattle.lines.specs.declared.Line.{Line}
use Rattle.lines.specs.declared.Line.TheVariants.{Commit, Edit}
use Rattle.sheet.specs.declared.form.BadLine.{BadLine}
use Rattle.sheet.specs.declared.form.Totals.{Totals}
use Rattle.sheet.specs.declared.waiting.Waiting.{Waiting}

-- the image after the transactions so far, the list of the edits that wait and their number, the transactions accepted and refused
pub record State : Type 0 where
  pub image : List ℕ
  pub list : List ℕ
  pub edits : ℕ
  pub accepted : ℕ
  pub refused : ℕ

abbrev pub opened : List ℕ → State
opened image = record { image = image; list = []; edits = 0; accepted = 0; refused = 0 }

-- the transaction, with the buffers that it is lent: "lends 16,384 tape bytes"
unfoldable pub tried : List ℕ → List ℕ → Called
tried image list = transaction_call ByLine image (replicate 8192 0) (replicate 16384 0) list

-- a commit: on acceptance the image after the tape, which work holds; nothing waits afterwards
unfoldable pub commits : State → State
commits s =
    let r = tried s.image s.list in
    let yes = is_accepted r.answer in
    record {
      image = pick yes r.work s.image;
      list = [];
      edits = 0;
      accepted = pick yes (s.accepted + 1) s.accepted;
      refused = pick yes s.refused (s.refused + 1);
    }

-- an edit waits: "Edits past the seventeenth .. are dropped"
unfoldable pub waits : ℕ → ℕ → ℕ → State → State
waits kind key price s =
    pick (ltb 16 s.edits) s
    (record {
      image = s.image;
      list = s.list ++ line_edit kind key price;
      edits = s.edits + 1;
      accepted = s.accepted;
      refused = s.refused;
    })

-- the image at the end, and how it ended: with the totals, or at a bad line; the edits that still wait are dropped
pub record Outcome : Type 0 where
  pub image : List ℕ
  pub end : std.Result Totals BadLine

abbrev pub ended_at : ℕ → State → Outcome
ended_at n s = record { image = s.image; end = Err (record { 0 = n }) }

abbrev pub ended_whole : State → Outcome
ended_whole s = record { image = s.image; end = Ok (record { accepted = s.accepted; refused = s.refused }) }

-- what a line does
unfoldable pub does : Line → State → State
does Commit s = commits s
does (Edit kind key price) s = waits kind key price s

-- the same, with what the lines after it do then; `bad` is the number that the line has if it is bad
unfoldable pub follow : Option Line → ℕ → State → (State → Outcome) → Outcome
follow None bad s rest = ended_at bad s
follow (Some line) bad s rest = rest (does line s)

-- the lines of t after `done` lines, where n more are allowed: "At a bad line (not of this form), or line 2,001"
unfoldable pub steps_from : ℕ → ℕ → List ℕ → State → Outcome
steps_from zero done [] s = ended_whole s
steps_from zero done (b ∷ t) s = ended_at (done + 1) s
steps_from (suc n) done [] s = ended_whole s
steps_from (suc n) done (b ∷ t) s = follow (line_in (b ∷ t)) (done + 1) s (steps_from n (done + 1) (drop 28 (b ∷ t)))

unfoldable pub steps : List ℕ → List ℕ → Outcome
steps input image = steps_from 2000 0 input (opened image)

-- ---- the same in the code's terms

-- the state that the image, the edits that wait and the totals hold
abbrev pub state_of : List ℕ → Waiting → Totals → State
state_of image w t = record { image = image; list = take w.used w.list; edits = w.edits; accepted = t.accepted; refused = t.refused }
