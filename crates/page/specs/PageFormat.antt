-- What a tree asks of its pages, whatever their format and wherever a record is put: the operations, and the laws that the tree rests on. The laws of image and
-- tree are stated of any format that keeps these rules; document 01 has one format, and it does (proofs/Format1).
-- Assumes nothing.
use Rattle.std.specs.Prelude.{◌≡◌, ℕ, ◌+◌, ◌-◌, ◌<◌, ◌≤◌, Bool, true, ◌⊎◌, List, [], ◌∷◌, map, length, drop, nat_le}
use Rattle.codec.specs.Lists.{All, remove_at}
use Rattle.page.specs.Layout.{page_size, line_size, slot_count, Rec, size, read_head}
use Rattle.page.specs.Page.{RecOk, form_ok, keys_rise, records, laid_out, page_ok}
use Rattle.page.specs.Operations.{made, sizes, in_place, delete, fill}

pub record PageFormat : Type 1 where
  -- ---- what a page says
  -- the most records
  pub cap : ℕ
  -- laid out; and a page by itself is sound, of this kind and with this number
  pub laid : List ℕ → Bool
  pub ok : ℕ → ℕ → List ℕ → Bool
  -- what its header says, and the records that it lists
  pub kind_of : List ℕ → ℕ
  pub own_of : List ℕ → ℕ
  pub recs : List ℕ → List Rec
  -- ---- what must be kept, and the room beside it
  -- what a transaction must not write in a page, and nothing, in one that was not reached before it
  pub Keep : Type 0
  pub none : Keep
  -- the room of a page; whether a record of a size fits; the room after it was put in, as the i-th or in place of the i-th; the room of a new page, by the sizes of its records
  pub Room : Type 0
  pub room : Keep → List ℕ → Room
  pub fits : Room → ℕ → Bool
  pub after : Bool → ℕ → ℕ → Room → Room
  pub fresh : List ℕ → Room
  -- ---- what is made of it
  -- a record put in as the i-th, or in place of the i-th; the i-th dropped; a new page
  pub place : Keep → Bool → ℕ → Rec → List ℕ → List ℕ
  pub remove : List ℕ → ℕ → List ℕ
  pub fill : List ℕ → ℕ → ℕ → List Rec → List ℕ
  -- the second is the first after edits in place that keep what must be kept
  pub Old : Keep → List ℕ → List ℕ → Type 0

-- ---- the rules

-- p is sound by itself, as a page of the kind k with the number n
pub record SoundAs (Pg : PageFormat) (k n : ℕ) (p : List ℕ) : Type 0 where
  pub laid : Pg.laid p ≡ true
  pub kind : Pg.kind_of p ≡ k
  pub own : Pg.own_of p ≡ n
  pub forms : All (λ (r : Rec). form_ok k r ≡ true) (Pg.recs p)
  pub rise : keys_rise (Pg.recs p) ≡ true

-- what is read of a page
pub record ReadRules (Pg : PageFormat) : Type 0 where
  pub ok-true : (k n : ℕ) (p : List ℕ) → Pg.ok k n p ≡ true → SoundAs Pg k n p

-- g is laid out, of kind k and with the number n and the records rs
pub record Lists (Pg : PageFormat) (g : List ℕ) (k n : ℕ) (rs : List Rec) : Type 0 where
  pub laid : Pg.laid g ≡ true
  pub kind : Pg.kind_of g ≡ k
  pub own : Pg.own_of g ≡ n
  pub recs : Pg.recs g ≡ rs

-- r has room in p, beside what must be kept
pub record CanPlace (Pg : PageFormat) (k : Pg.Keep) (ins : Bool) (r : Rec) (p : List ℕ) : Type 0 where
  pub laid : Pg.laid p ≡ true
  pub good : RecOk r
  pub room : Pg.fits (Pg.room k p) (size r) ≡ true
  pub few : ins ≡ true → length (Pg.recs p) < Pg.cap

-- a new page has room for rs
pub record CanHold (Pg : PageFormat) (p : List ℕ) (kind own : ℕ) (rs : List Rec) : Type 0 where
  pub whole : length p ≡ page_size
  pub kind_fits : kind < 256
  pub own_fits : own < 65536
  pub good : All RecOk rs
  pub room : line_size + sizes rs ≤ page_size
  pub few : length rs ≤ Pg.cap

-- what is written
pub record Rules (Pg : PageFormat) : Type 0 where
  pub reads : ReadRules Pg
  pub cap-least : 28 ≤ Pg.cap
  pub cap-most : Pg.cap ≤ 40
  pub true-ok : (k n : ℕ) (p : List ℕ) → SoundAs Pg k n p → Pg.ok k n p ≡ true
  -- a page that is laid out
  pub whole : (p : List ℕ) → Pg.laid p ≡ true → length p ≡ page_size
  pub oks : (p : List ℕ) → Pg.laid p ≡ true → All RecOk (Pg.recs p)
  pub few : (p : List ℕ) → Pg.laid p ≡ true → length (Pg.recs p) ≤ Pg.cap
  pub bytes : (p : List ℕ) → Pg.laid p ≡ true → sizes (Pg.recs p) ≤ page_size - line_size
  -- a record in place
  pub place-lists : (k : Pg.Keep) (ins : Bool) (i : ℕ) (r : Rec) (p : List ℕ) → CanPlace Pg k ins r p → Lists Pg (Pg.place k ins i r p) (Pg.kind_of p) (Pg.own_of p) (made ins i r (Pg.recs p))
  pub place-room : (k : Pg.Keep) (ins : Bool) (i : ℕ) (r : Rec) (p : List ℕ) → CanPlace Pg k ins r p → Pg.room k (Pg.place k ins i r p) ≡ Pg.after ins i (size r) (Pg.room k p)
  pub place-old : (k : Pg.Keep) (ins : Bool) (i : ℕ) (r : Rec) (p : List ℕ) → CanPlace Pg k ins r p → Pg.Old k p (Pg.place k ins i r p)
  -- a record dropped
  pub remove-lists : (p : List ℕ) (i : ℕ) → Pg.laid p ≡ true → Lists Pg (Pg.remove p i) (Pg.kind_of p) (Pg.own_of p) (remove_at i (Pg.recs p))
  pub remove-old : (k : Pg.Keep) (p : List ℕ) (i : ℕ) → Pg.laid p ≡ true → i < length (Pg.recs p) → Pg.Old k p (Pg.remove p i)
  -- a new page
  pub fill-lists : (p : List ℕ) (kind own : ℕ) (rs : List Rec) → CanHold Pg p kind own rs → Lists Pg (Pg.fill p kind own rs) kind own rs
  pub fill-room : (p : List ℕ) (kind own : ℕ) (rs : List Rec) → CanHold Pg p kind own rs → Pg.room Pg.none (Pg.fill p kind own rs) ≡ Pg.fresh (map size rs)
  -- edits in place
  pub old-refl : (k : Pg.Keep) (p : List ℕ) → Pg.Old k p p
  pub old-trans : (k : Pg.Keep) (p q r : List ℕ) → Pg.Old k p q → Pg.Old k q r → Pg.Old k p r

-- ---- document 01's page: 28 records, each just below the content start, which is all of its room; nothing else need be kept

-- the header has sunk: its content start is lower, or it lists fewer records
abbrev pub Lower : List ℕ → List ℕ → Type 0
Lower p q = ((read_head q).start < (read_head p).start) ⊎ (((read_head q).start ≡ (read_head p).start) × (length (records q) < length (records p)))

-- q is p after edits in place: start has not risen, the bytes from p's start on stay, and q is p itself or its header has sunk
pub record OldPage (p q : List ℕ) : Type 0 where
  pub falls : (read_head q).start ≤ (read_head p).start
  pub above : drop (read_head p).start q ≡ drop (read_head p).start p
  pub sinks : (q ≡ p) ⊎ Lower p q

unfoldable pub total : List ℕ → ℕ
total [] = 0
total (n ∷ ns) = n + total ns

abbrev pub format1 : PageFormat
format1 =
    record {
      cap = slot_count;
      laid = laid_out;
      ok = page_ok;
      kind_of = λ p. (read_head p).kind;
      own_of = λ p. (read_head p).own;
      recs = records;
      Keep = Unit {0};
      none = tt;
      Room = ℕ;
      room = λ k p. (read_head p).start;
      fits = λ start s. nat_le s (start - line_size);
      after = λ ins i s start. start - s;
      fresh = λ ss. page_size - total ss;
      place = λ k ins i r p. in_place ins i r p;
      remove = λ p i. delete p i;
      fill = λ p kind own rs. fill p kind own rs;
      Old = λ k p q. OldPage p q;
    }

-- `page_ok`: p is sound by itself, as a page of the kind k with the number n
abbrev pub PageOk : ℕ → ℕ → List ℕ → Type 0
PageOk k n p = SoundAs format1 k n p

-- g is laid out, of kind k and with the number n, the content start s and the records rs
pub record Shows (g : List ℕ) (k n s : ℕ) (rs : List Rec) : Type 0 where
  pub laid : laid_out g ≡ true
  pub kind : (read_head g).kind ≡ k
  pub own : (read_head g).own ≡ n
  pub start : (read_head g).start ≡ s
  pub recs : records g ≡ rs

-- ---- formats in which each edit in place leaves a header that has sunk, so that an edit that is made always changes a place

pub record Sinking (Pg : PageFormat) : Type 1 where
  -- the second header has sunk, as against the first
  pub Sunken : List ℕ → List ℕ → Type 0
  pub sunken-trans : (p q r : List ℕ) → Sunken p q → Sunken q r → Sunken p r
  pub place-sunken : (k : Pg.Keep) (ins : Bool) (i : ℕ) (r : Rec) (p : List ℕ) → CanPlace Pg k ins r p → Sunken p (Pg.place k ins i r p)
  pub remove-sunken : (p : List ℕ) (i : ℕ) → Pg.laid p ≡ true → i < length (Pg.recs p) → Sunken p (Pg.remove p i)
  pub old-sunken : (k : Pg.Keep) (p q : List ℕ) → Pg.Old k p q → (q ≡ p) ⊎ Sunken p q
