-- The ledger while it is fed: its count is the number of accepted transactions, its table is what their edits make of the first one in order;
-- the table at the last count, and at one more.
-- Assumes nothing.
use Prim.Native.Nat.{suc, ◌+◌, ◌≤◌}
use mathlib.Core.Path.{◌≡◌, refl, sym, ap, ◌∙◌}
use mathlib.Core.Bool.{Bool, true, false}
use mathlib.Core.List.{List, [], ◌∷◌, ◌++◌}
use native.Mathlib.Omega.{arith}
use lib.Dec.{eqb}
use borrow.Author.Tests.{eqb-true, eq-eqb, ne_eqb}
use Rattle.codec.specs.Lists.{pick}
use Rattle.page.specs.Layout.{Rec}
use Rattle.edit.specs.EditList.{Edit}
use Rattle.edit.specs.Ledger.{Ledger, apply_edits, opened, fed, Feed, ledger_after, table_at, accepted_of, edits_made}
use Rattle.edit.proofs.Ledger.{apply-append}

-- ---- the count: "Refused: no change. Accepted: ..; then the count rises by 1."

fed-count : (b : Bool) (es : List Edit) (l : Ledger) → (fed b es l).count ≡ l.count + pick b 1 0
unfolding fed
fed-count true es l = omega arith
fed-count false es l = omega arith

pub count-after : (l : Ledger) (fs : List Feed) → (ledger_after l fs).count ≡ l.count + accepted_of fs
unfolding ledger_after accepted_of
count-after l [] = omega arith
count-after l (f ∷ fs) = omega (arith, fed-count f.accepted f.edits l, count-after (fed f.accepted f.edits l) fs)

-- "The ledger starts with .. count 0"
pub ledger-count : (t : List Rec) (fs : List Feed) → (ledger_after (opened t) fs).count ≡ accepted_of fs
ledger-count t fs = omega (arith, count-after (opened t) fs)

-- ---- the table: "each edit in order"

fed-table : (b : Bool) (es : List Edit) (l : Ledger) → (fed b es l).table ≡ apply_edits (pick b es []) l.table
unfolding fed apply_edits
fed-table true es l = refl
fed-table false es l = refl

pub table-after : (l : Ledger) (fs : List Feed) → (ledger_after l fs).table ≡ apply_edits (edits_made fs) l.table
unfolding ledger_after edits_made apply_edits
table-after l [] = refl
table-after l (f ∷ fs) =
    table-after (fed f.accepted f.edits l) fs
    ∙ ap (apply_edits (edits_made fs)) (fed-table f.accepted f.edits l)
    ∙ sym (apply-append (pick f.accepted f.edits []) (edits_made fs) l.table)

-- "The ledger starts with the first image's table"
pub ledger-table : (t : List Rec) (fs : List Feed) → (ledger_after (opened t) fs).table ≡ apply_edits (edits_made fs) t
ledger-table t fs = table-after (opened t) fs

-- ---- feeds in two parts

pub ledger-append : (l : Ledger) (fs gs : List Feed) → ledger_after l (fs ++ gs) ≡ ledger_after (ledger_after l fs) gs
unfolding ledger_after
ledger-append l [] gs = refl
ledger-append l (f ∷ fs) gs = ledger-append (fed f.accepted f.edits l) fs gs

pub accepted-append : (fs gs : List Feed) → accepted_of (fs ++ gs) ≡ accepted_of fs + accepted_of gs
unfolding accepted_of
accepted-append [] gs = omega arith
accepted-append (f ∷ fs) gs = omega (arith, accepted-append fs gs)

-- ---- the table at the last count, and at one more

-- while the count stays, so does the ledger
fed-stays : (b : Bool) (es : List Edit) (l : Ledger) → (fed b es l).count ≡ l.count → fed b es l ≡ l
unfolding fed
fed-stays true es l e = absurd (omega arith)
fed-stays false es l e = refl

pub count-rises : (l : Ledger) (fs : List Feed) → l.count ≤ (ledger_after l fs).count
count-rises l fs = omega (arith, count-after l fs)

table_stays : (l : Ledger) (fs : List Feed) → (ledger_after l fs).count ≡ l.count → (ledger_after l fs).table ≡ l.table
unfolding ledger_after
table_stays l [] e = refl
table_stays l (f ∷ fs) e =
    let m = fed f.accepted f.edits l in
    let low = count-rises l (f ∷ []) in
    let high = count-rises m fs in
    let same : m ≡ l = fed-stays f.accepted f.edits l (omega arith) in
    table_stays m fs (e ∙ sym (ap (λ (x : Ledger). x.count) same)) ∙ ap (λ (x : Ledger). x.table) same

-- the table at the count that the list ends with
pub table-last : (l : Ledger) (fs gs : List Feed) → table_at (ledger_after l fs).count l (fs ++ gs) ≡ (ledger_after l fs).table
unfolding table_at ledger_after
table-last l [] [] = refl
table-last l [] (g ∷ gs) = rw (eq-eqb l.count l.count refl)
table-last l (f ∷ fs) gs = go (eqb l.count (ledger_after m fs).count) refl (table-last m fs gs)
  where
    m : Ledger
    m = fed f.accepted f.edits l

    go : (b : Bool) → eqb l.count (ledger_after (fed f.accepted f.edits l) fs).count ≡ b →
        table_at (ledger_after (fed f.accepted f.edits l) fs).count (fed f.accepted f.edits l) (fs ++ gs) ≡ (ledger_after (fed f.accepted f.edits l) fs).table →
        pick b l.table (table_at (ledger_after (fed f.accepted f.edits l) fs).count (fed f.accepted f.edits l) (fs ++ gs)) ≡ (ledger_after (fed f.accepted f.edits l) fs).table
    go true q r = sym (table_stays l (f ∷ fs) (sym (eqb-true _ _ q)))
    go false q r = r

-- and once one more is accepted, at one more
pub table-next : (l : Ledger) (fs : List Feed) (es : List Edit) → table_at (suc (ledger_after l fs).count) l (fs ++ (record { accepted = true; edits = es } ∷ [])) ≡ apply_edits es (ledger_after l fs).table
unfolding table_at ledger_after fed
table-next l [] es = rw (ne_eqb l.count (suc l.count) (λ e. omega arith))
table-next l (f ∷ fs) es =
    let low = count-rises l (f ∷ fs) in
    rw (ne_eqb l.count (suc (ledger_after (fed f.accepted f.edits l) fs).count) (λ e. omega arith)) (table-next (fed f.accepted f.edits l) fs es)
