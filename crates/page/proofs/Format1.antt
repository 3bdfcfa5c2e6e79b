-- Document 01's page keeps the rules of a page format, at 28 records: what is proved of trees of any such pages holds of document 01's.
-- Assumes nothing.
use Rattle.std.proofs.Common.{◌≡◌, ℕ, ◌+◌, ◌-◌, ◌≤◌, Bool, List, [], ◌∷◌, map, refl, arith, leb-true}
use Rattle.page.specs.Layout.{page_size, line_size, Rec, size, read_head}
use Rattle.page.specs.Page.{records}
use Rattle.page.specs.Operations.{in_place, fill, sizes, made}
use Rattle.page.specs.PageFormat.{ReadRules, Lists, CanPlace, CanHold, Rules, total, format1, Shows, Lower, Sinking}
use Rattle.page.proofs.Facts.{records-ok, page_ok-true, true-page_ok}
use Rattle.page.proofs.Listed.{few-listed}
use Rattle.page.proofs.Sizes.{page-sizes}
use Rattle.page.proofs.Placed.{laid-length, laid-start, lower-trans, old-refl, old-trans, place-shows, place-lower, place-old, delete-shows, delete-lower, delete-old, fill_shows}

-- the sum of the sizes, by their list and by the records
total-sizes : (rs : List Rec) → total (map size rs) ≡ sizes rs
unfolding total sizes
total-sizes [] = refl
total-sizes (r ∷ rs) = omega (arith, total-sizes rs)

-- ---- what is read of a page

pub format1-reads : ReadRules format1
format1-reads = record { ok-true = page_ok-true }

-- ---- what is written

-- a page that shows its records lists them
shows-lists : {g : List ℕ} {k n s : ℕ} {rs : List Rec} → Shows g k n s rs → Lists format1 g k n rs
shows-lists h = record { laid = h.laid; kind = h.kind; own = h.own; recs = h.recs }

-- where r has room, it has room below the content start
pub has_room : (ins : Bool) (r : Rec) (p : List ℕ) → CanPlace format1 tt ins r p → line_size + size r ≤ (read_head p).start
has_room ins r p can = omega (arith, leb-true (size r) ((read_head p).start - line_size) can.room, laid-start p can.laid)

-- a record put in shows so, and a new page too
placed-shows : (ins : Bool) (i : ℕ) (r : Rec) (p : List ℕ) → CanPlace format1 tt ins r p →
    Shows (in_place ins i r p) (read_head p).kind (read_head p).own ((read_head p).start - size r) (made ins i r (records p))
placed-shows ins i r p can = place-shows p can.laid i r can.good (has_room ins r p can) ins can.few

filled-shows : (p : List ℕ) (kind own : ℕ) (rs : List Rec) → CanHold format1 p kind own rs → Shows (fill p kind own rs) kind own (page_size - sizes rs) rs
filled-shows p kind own rs can = fill_shows p kind own rs can.whole can.kind_fits can.own_fits can.good can.room can.few

pub format1-rules : Rules format1
format1-rules =
    record {
      reads = format1-reads;
      cap-least = omega arith;
      cap-most = omega arith;
      true-ok = true-page_ok;
      whole = laid-length;
      oks = records-ok;
      few = few-listed;
      bytes = λ p h. omega (arith, page-sizes p h, laid-start p h);
      place-lists = λ k ins i r p can. shows-lists (placed-shows ins i r p can);
      place-room = λ k ins i r p can. omega (arith, (placed-shows ins i r p can).start);
      place-old = λ k ins i r p can. place-old p can.laid i r can.good (has_room ins r p can) ins can.few;
      remove-lists = λ p i h. shows-lists (delete-shows p h i);
      remove-old = λ k p i h j. delete-old p h i j;
      fill-lists = λ p kind own rs can. shows-lists (filled-shows p kind own rs can);
      fill-room = λ p kind own rs can. omega (arith, (filled-shows p kind own rs can).start, total-sizes rs);
      old-refl = λ k p. old-refl p;
      old-trans = λ k p q r. old-trans p q r;
    }

-- ---- its header sinks

abbrev pub format1-sinks : Sinking format1
format1-sinks =
    record {
      Sunken = Lower;
      sunken-trans = lower-trans;
      place-sunken = λ k ins i r p can. place-lower p can.laid i r can.good (has_room ins r p can) ins can.few;
      remove-sunken = λ p i h j. delete-lower p h i j;
      old-sunken = λ k p q o. o.sinks;
    }
