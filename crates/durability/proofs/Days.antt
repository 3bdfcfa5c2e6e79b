-- After any list of days, each with a power failure, the store holds exactly the transactions that survived: demand 3, day by day.
-- Assumes nothing.
use Prim.Native.Nat.{ℕ, suc}
use mathlib.Core.Path.{◌≡◌, refl, sym, ap, ◌∙◌}
use mathlib.Core.Logic.{◌⊎◌, inl, inr}
use mathlib.Core.Bool.{Bool, true, false}
use mathlib.Core.List.{List, [], ◌∷◌, ◌++◌}
use native.Mathlib.Omega.{arith}
use Rattle.image.specs.Image.{sound}
use Rattle.image.specs.Table.{table}
use Rattle.edit.specs.EditList.{Edit, edits_of, edit_list}
use Rattle.edit.specs.Ledger.{Ledger, opened, apply_edits, fed, Feed, ledger_after, table_at, accepted_of, edits_made}
use Rattle.edit.proofs.Counts.{ledger-count, table-after, ledger-append, accepted-append}
use Rattle.durability.specs.Demand.{Survives, HoldsCount, feeds, accepted_in, history}
use Rattle.durability.specs.Days.{Day, DayRuns, day_end, Days, days_end, Decides, Decided, DaysAllowed, survivors, accepted_days, survived_days, DaysHold}
use Rattle.durability.proofs.Demand3.{accepted-feeds, table-at-n, table-at-next, demand-3}

-- ---- one day

module _ (a : List ℕ) (s : sound a ≡ true) (y : Day) (r : DayRuns a y) where
  abbrev fs : List Feed
  fs = feeds a y.calls

  abbrev es : List Edit
  es = edits_of (edit_list y.next.edits)

  abbrev all : List Feed
  all = history a y.calls y.next y.stop y.choices y.attempts y.commit

  -- the ledger before the cut transaction
  abbrev ledger_before : Ledger
  ledger_before = ledger_after (opened (table a)) fs

  -- the cut transaction survives or not, and the store at the day's end holds the ledger's table, fed it so
  pub record DayHolds : Type 0 where
    pub survived : Bool
    pub decides : Decides a y survived
    pub is_sound : sound (day_end a y) ≡ true
    pub is_table : table (day_end a y) ≡ (fed survived es ledger_before).table

  claim : Survives a y.calls y.next y.stop y.choices y.attempts y.commit
  claim = demand-3 a y.calls y.next y.stop y.choices y.attempts y.commit s r.accepts

  holds : HoldsCount claim.held (opened (table a)) all (day_end a y)
  unfolding day_end
  holds = claim.completes y.way y.work y.tape y.redone r.recovers

  pub day-holds : DayHolds
  unfolding fed
  day-holds = go claim.one_of
    where
      at : (j : ℕ) → claim.held ≡ j → table (day_end a y) ≡ table_at j (opened (table a)) all
      at j e = holds.is_table ∙ ap (λ (i : ℕ). table_at i (opened (table a)) all) e

      go : (claim.held ≡ accepted_in a y.calls) ⊎ (claim.held ≡ suc (accepted_in a y.calls)) → DayHolds
      go (inl e) =
          record {
            survived = false;
            decides = record { before_issue = λ z. refl; after_barrier = λ z. absurd (omega (arith, claim.after_barrier z)) };
            is_sound = holds.is_sound;
            is_table = at (accepted_in a y.calls) e ∙ table-at-n a y.calls y.next;
          }
      go (inr e) =
          record {
            survived = true;
            decides = record { before_issue = λ z. absurd (omega (arith, claim.before_issue z)); after_barrier = λ z. refl };
            is_sound = holds.is_sound;
            is_table = at (suc (accepted_in a y.calls)) e ∙ table-at-next a y.calls y.next y.commit r.accepts;
          }

  -- more feeds, from the day's end
  pub table_on : (h : DayHolds) (gs : List Feed) →
      (ledger_after (opened (table (day_end a y))) gs).table ≡ (ledger_after (opened (table a)) (fs ++ (record { accepted = h.survived; edits = es } ∷ gs))).table
  unfolding ledger_after
  table_on h gs =
      table-after (opened (table (day_end a y))) gs
      ∙ ap (apply_edits (edits_made gs)) h.is_table
      ∙ sym (table-after (fed h.survived es ledger_before) gs)
      ∙ ap (λ (l : Ledger). l.table) (sym (ledger-append (opened (table a)) fs (record { accepted = h.survived; edits = es } ∷ gs)))

-- ---- any number of days

pub days-hold : (ys : List Day) (a : List ℕ) → sound a ≡ true → Days a ys → DaysHold a ys
unfolding Days days_end Decided DaysAllowed survivors accepted_days survived_days ledger_after accepted_of
days-hold [] a s h = record { survived = []; decided = tt; is_sound = s; is_table = refl; only_room = tt; is_count = omega arith }
days-hold (y ∷ ys) a s h =
    let o = day-holds a s y h.0 in
    let m = days-hold ys (day_end a y) o.is_sound h.1 in
    let gs = survivors (day_end a y) ys m.survived in
    let g : Feed = record { accepted = o.survived; edits = edits_of (edit_list y.next.edits) } in
    record {
      survived = o.survived ∷ m.survived;
      decided = (o.decides, m.decided);
      is_sound = m.is_sound;
      is_table = m.is_table ∙ table_on a s y h.0 o gs;
      only_room = ((claim a s y h.0).only_room, m.only_room);
      is_count = omega (
        arith,
        ledger-count (table a) (feeds a y.calls ++ (g ∷ gs)),
        accepted-append (feeds a y.calls) (g ∷ gs),
        accepted-feeds a y.calls,
        ledger-count (table (day_end a y)) gs,
        m.is_count,
      );
    }
