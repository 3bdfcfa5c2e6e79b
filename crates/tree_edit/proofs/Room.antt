-- Whether a page has room for a record: what `is_full` says, and what an edit in place and a copy then ask for.
-- Assumes nothing.
use Prim.Native.Nat.{ℕ, suc, ◌+◌, ◌-◌, ◌≤◌, ◌<◌}
use mathlib.Core.Path.{◌≡◌, sym, ap, ◌∙◌}
use mathlib.Core.Bool.{Bool, true, false, ◌&&◌, not}
use mathlib.Core.List.{List}
use native.Mathlib.Omega.{arith}
use lib.ListN.{length}
use lib.Dec.{leb}
use borrow.Author.Tests.{le-leb, lt-leb, leb-true, leb-false, not-false}
use Rattle.codec.specs.Lists.{part, pick}
use Rattle.codec.specs.Numbers.{number}
use Rattle.page.specs.Layout.{line_size, slot_count, Rec, size, read_head}
use Rattle.page.specs.Page.{records}
use Rattle.page.specs.Operations.{insert, update, in_place, CanInsert, CanUpdate}
use Rattle.page.specs.PageFormat.{format1}
use Rattle.page.proofs.Records.{size-least}
use Rattle.page.proofs.Made.{length-made}
use Rattle.tree.specs.Edits.{is_full}
use Rattle.tree_edit.specs.Steps.{rec_by, made_by}
use Rattle.tree_edit.specs.Asked.{CanPut}
use Rattle.tree_edit.specs.declared.Put.{Put}
use Rattle.edit.proofs.General.{neither}

-- ---- the test, by the content start that is read

module _ (ins : Bool) (s : ℕ) (p : List ℕ) (start : ℕ) (e : start ≡ number (part p 2 2)) where
  pub full-bytes : start - line_size < s → is_full format1 tt ins s p ≡ true
  unfolding is_full read_head
  full-bytes h = rw (← e, lt-leb s (start - line_size) h)

  module _ (h : s ≤ start - line_size) where
    pub full-count : ins ≡ true → is_full format1 tt ins s p ≡ leb slot_count (length (records p))
    unfolding is_full read_head
    full-count z = rw (← e, le-leb s (start - line_size) h, z)

    pub full-not : ins ≡ false → is_full format1 tt ins s p ≡ false
    unfolding is_full read_head
    full-not z = rw (← e, le-leb s (start - line_size) h, z)

-- ---- a page that is not full

module _ (ins : Bool) (s : ℕ) (p : List ℕ) (room : is_full format1 tt ins s p ≡ false) where
  pub not-full-room : 1 ≤ s → line_size + s ≤ (read_head p).start
  unfolding is_full
  not-full-room some =
      let k = neither (not (leb s ((read_head p).start - line_size))) (ins && leb slot_count (length (records p))) room in
      omega (arith, leb-true s ((read_head p).start - line_size) (not-false (leb s ((read_head p).start - line_size)) k.0))

  pub not-full-few : ins ≡ true → length (records p) < slot_count
  unfolding is_full
  not-full-few z =
      let k = neither (not (leb s ((read_head p).start - line_size))) (ins && leb slot_count (length (records p))) room in
      leb-false slot_count (length (records p)) (sym (ap (λ (b : Bool). b && leb slot_count (length (records p))) z) ∙ k.1)

-- ---- what an edit in place and a copy ask for

module _ {p : List ℕ} {new : Put} {v : List ℕ} (can : CanPut p new v) where
  abbrev n : ℕ
  n = length (records p)

  listed : length (made_by new v p) ≡ pick new.ins (suc (length (records p))) (length (records p))
  listed = length-made new.ins new.at (rec_by new v) (records p)

  module _ (spare : is_full format1 tt new.ins (size (rec_by new v)) p ≡ false) where
    room : line_size + size (rec_by new v) ≤ (read_head p).start
    room = not-full-room new.ins (size (rec_by new v)) p spare (omega (arith, size-least (rec_by new v)))

    pub can-insert : new.ins ≡ true → CanInsert p new.at (rec_by new v)
    can-insert z =
        record {
          ok = can.ok;
          good = can.good;
          few = not-full-few new.ins (size (rec_by new v)) p spare z;
          place = omega (arith, can.place, listed ∙ ap (λ (b : Bool). pick b (suc n) n) z);
          room = room;
        }

    pub can-update : new.ins ≡ false → CanUpdate p new.at (rec_by new v)
    can-update z =
        record { ok = can.ok; good = can.good; place = omega (arith, can.place, listed ∙ ap (λ (b : Bool). pick b (suc n) n) z); room = room }

module _ (p : List ℕ) (i : ℕ) (r : Rec) where
  pub place-insert : (ins : Bool) → ins ≡ true → insert p i r ≡ in_place ins i r p
  unfolding in_place
  place-insert ins z = rw z

  pub place-update : (ins : Bool) → ins ≡ false → update p i r ≡ in_place ins i r p
  unfolding in_place
  place-update ins z = rw z
