-- What an edit makes of the pages on its way, from its leaf up to the root, and of the free pages (document 01, 'Edits'; document 02 (j)).
-- An edit has parts: its leaf, each page above the leaf, and the root. Each part leads from a state s to a state t, and says which pages are taken, that no page is written but its own and those, and
-- what stands on its pages in the state `end`, to which the whole edit leads.
-- Assumes nothing.
use Rattle.std.specs.Prelude.{ℕ, zero, suc, ◌+◌, ◌-◌, ◌*◌, ◌≤◌, ◌<◌, ◌≡◌, ◌⊎◌, Bool, true, false, List, [], ◌∷◌, ◌++◌, length, get_or, take, drop}
use Rattle.codec.specs.Lists.{insert_at, remove_at}
use Rattle.codec.specs.Numbers.{bytes_of}
use Rattle.page.specs.Layout.{page_size, line_size, slot_count, leaf_kind, Rec, rec_of, size, read_head}
use Rattle.page.specs.Page.{records}
use Rattle.page.specs.Operations.{sizes, page_of, OnePage, TwoPages}
use Rattle.page.specs.PageFormat.{format1, Shows}
use Rattle.image.specs.Image.{children, child_of, entry_size, height_of, leaves_in, count}
use Rattle.image.specs.Route.{route}
use Rattle.edit.specs.EditList.{Edit, insert, update, delete, key_of}
use Rattle.edit.specs.Ledger.{add, replace, without}
use Rattle.tree.specs.State.{State}
use Rattle.tree.specs.Edits.{Change, kept, gone, one, two}
use Rattle.tree.specs.Reasons.{Full, NotFull}

-- ---- a part, from the state s to the state t

-- the content start of page q, and its slots
abbrev pub start_at : State → ℕ → ℕ
start_at s q = (read_head (page_of s.image q)).start

abbrev pub slots_at : State → ℕ → List ℕ
slots_at s q = (read_head (page_of s.image q)).slots

-- the pages `new` are taken, which are the first free ones, in this order; and of the others, only those in `old` are written
pub record Within (s t : State) (old new : List ℕ) : Type 0 where
  pub root : t.root ≡ s.root
  pub free : s.free ≡ new ++ t.free
  pub long : length t.image ≡ length s.image
  pub other : (x : ℕ) → count x old + count x new ≡ 0 → page_of t.image x ≡ page_of s.image x

-- the offsets of the records rs written one after the other, each just below the one before it, the first just below e
unfoldable pub offsets : ℕ → List Rec → List ℕ
offsets e [] = []
offsets e (r ∷ rs) = (e - size r) ∷ offsets (e - size r) rs

-- the page p, which is free in s, is a new page of this kind with the records rs: "A new page is filled in key order from the end down; its bytes from 64 to start stay."
pub record NewPage (s end : State) (kind p : ℕ) (rs : List Rec) : Type 0 where
  pub shows : Shows (page_of end.image p) kind p (page_size - sizes rs) rs
  pub slots : slots_at end p ≡ offsets page_size rs
  pub stays : (i : ℕ) → line_size ≤ i → i < page_size - sizes rs → get_or (page_of end.image p) i 0 ≡ get_or (page_of s.image p) i 0

-- "else split over two": the records rs go to the new pages left and right, the right one from the key k on
pub record SplitOver (s end : State) (kind left k right : ℕ) (rs : List Rec) : Type 0 where
  pub firsts : List Rec
  pub smallest : Rec
  pub more : List Rec
  pub both : firsts ++ smallest ∷ more ≡ rs
  -- "The left takes the first m, m smallest with twice their bytes at least the total."
  pub enough : sizes rs ≤ 2 * sizes firsts
  pub fewest : (j : ℕ) → j < length firsts → 2 * sizes (take j rs) < sizes rs
  -- "the right one .. takes its smallest key", the first of a rising list; "A right index page takes its first separator"
  pub key : k ≡ smallest.key
  pub left_page : NewPage s end kind left firsts
  pub right_page : NewPage s end kind right (smallest ∷ more)

-- ---- the leaf: what stands for page q once a record of size n is put into it, with which its records are rs

pub data PutIn (s t end : State) (q : ℕ) (ins : Bool) (n : ℕ) (rs : List Rec) : Change → Type 0 where
  -- "a new record of size s just below start, which moves down by s"
  put-here : NotFull ins n (page_of s.image q) → Within s t (q ∷ []) [] → Shows (page_of end.image q) leaf_kind q (start_at s q - n) rs → PutIn s t end q ins n rs kept
  -- "If s exceeds start minus 64, or an insert finds 28 records": "If they are at most 28 and at most 960 bytes, they are copied to one new page; else split over two."
  put-copied : (x : ℕ) → Full ins n (page_of s.image q) → OnePage rs → Within s t [] (x ∷ []) → NewPage s end leaf_kind x rs → PutIn s t end q ins n rs (one x)
  put-split : (left k right : ℕ) → Full ins n (page_of s.image q) → TwoPages rs → Within s t [] (left ∷ right ∷ []) → SplitOver s end leaf_kind left k right rs → PutIn s t end q ins n rs (two left k right)

-- ---- and once a record is dropped from it, which leaves rs: "Delete drops the slot; start stays."

-- the record of slot j. A page left empty goes, unless it is `alone`
pub data DropIn (s t end : State) (kind q : ℕ) (alone : Type 0) (rs : List Rec) : Change → Type 0 where
  drop-stays : (j : ℕ) → remove_at j (records (page_of s.image q)) ≡ rs → (1 ≤ length rs) ⊎ alone → Within s t (q ∷ []) [] →
      Shows (page_of end.image q) kind q (start_at s q) rs → slots_at end q ≡ remove_at j (slots_at s q) → DropIn s t end kind q alone rs kept
  drop-goes : rs ≡ [] → (alone → ⊥) → Within s t (q ∷ []) [] → DropIn s t end kind q alone rs gone

-- the store has one leaf: "A leaf left empty, unless it is the only one, loses its index record."
abbrev pub Alone : State → Type 0
Alone s = length (leaves_in format1 s.image (height_of s.image s.root) s.root) ≡ 1

-- what the edit makes of its leaf q
abbrev pub AtLeaf : Edit → ℕ → State → State → State → Change → Type 0
AtLeaf (insert k v) q s t end d = PutIn s t end q true (size (rec_of k v)) (add k v (records (page_of s.image q))) d
AtLeaf (update k v) q s t end d = PutIn s t end q false (size (rec_of k v)) (replace k v (records (page_of s.image q))) d
AtLeaf (delete k) q s t end d = DropIn s t end leaf_kind q (Alone s) (without k (records (page_of s.image q))) d

-- ---- a page above the leaves

-- where the records of a copied page x lie. Page q takes the records `new` after `pre`, "left first", each by the whole rule. Where it has room for all but the last of them, the last makes the copy, and all lie in key
-- order from the end down. Where it has no room for the left of two, that one makes the copy, and the right one, in the next slot, then lies lowest, out of key order
pub data InCopy (s end : State) (kind q x : ℕ) (pre new post : List Rec) : Type 0 where
  last-copies : entry_size * (length new - 1) ≤ start_at s q - line_size → NewPage s end kind x (pre ++ (new ++ post)) → InCopy s end kind q x pre new post
  left-copies : (left right : Rec) → new ≡ left ∷ right ∷ [] → start_at s q - line_size < entry_size →
      slots_at end x ≡ insert_at (suc (length pre)) (start_at end x) (offsets page_size (pre ++ left ∷ post)) →
      ((i : ℕ) → line_size ≤ i → i < start_at end x → get_or (page_of end.image x) i 0 ≡ get_or (page_of s.image x) i 0) → InCopy s end kind q x pre new post

-- what stands for page q, of this kind, once the records `new` stand in it for the one after `pre`: "The index gets a new record for each new page, left first, by the same rule"
pub data Takes (s t end : State) (kind q : ℕ) (pre new post : List Rec) : Change → Type 0 where
  -- it has room for them, and lists at most 28: they lie there from start down, "left first", in place of the old one's slot, and the other slots stay
  takes-here : entry_size * length new ≤ start_at s q - line_size → length (pre ++ (new ++ post)) ≤ slot_count → Within s t (q ∷ []) [] →
      Shows (page_of end.image q) kind q (start_at s q - entry_size * length new) (pre ++ (new ++ post)) →
      slots_at end q ≡ take (length pre) (slots_at s q) ++ (offsets (start_at s q) new ++ drop (suc (length pre)) (slots_at s q)) → Takes s t end kind q pre new post kept
  -- it has no room for them: "its own full page is copied likewise", to one page
  takes-copied : (x : ℕ) → start_at s q - line_size < entry_size * length new → length (pre ++ (new ++ post)) ≤ slot_count → Within s t (q ∷ []) (x ∷ []) →
      Shows (page_of end.image x) kind x (page_size - entry_size * length (pre ++ (new ++ post))) (pre ++ (new ++ post)) → InCopy s end kind q x pre new post → Takes s t end kind q pre new post (one x)
  -- a right record that is the 29th, where there is room for the left one: "split by the leaf rule"; "Lower index pages split and copy likewise". A left record that has room forces no copy
  takes-split : (left k right : ℕ) → entry_size ≤ start_at s q - line_size → slot_count < length (pre ++ (new ++ post)) → Within s t (q ∷ []) (left ∷ right ∷ []) →
      SplitOver s end kind left k right (pre ++ (new ++ post)) → Takes s t end kind q pre new post (two left k right)
  -- and where there is none: "If a left record has already forced a copy of a page that then splits, the copy's page counts as taken, before those of the split." The copy, x, stands for nothing
  takes-both : (x left k right : ℕ) → start_at s q - line_size < entry_size → slot_count < length (pre ++ (new ++ post)) → Within s t (q ∷ []) (x ∷ left ∷ right ∷ []) →
      SplitOver s end kind left k right (pre ++ (new ++ post)) → Takes s t end kind q pre new post (two left k right)

-- what page q, whose record c after `pre` names a page from the key sep on, makes of the change of that page. A page above the leaves is left empty only beside others
abbrev pub AtNode : ℕ → ℕ → List Rec → ℕ → List Rec → Change → State → State → State → Change → Type 0
AtNode kind q pre sep post kept s t end d = (d ≡ kept) × (t ≡ s)
AtNode kind q pre sep post gone s t end d = DropIn s t end kind q ⊥ (pre ++ post) d
AtNode kind q pre sep post (one a) s t end d = Takes s t end kind q pre (rec_of sep (bytes_of 2 a) ∷ []) post d
AtNode kind q pre sep post (two a k b) s t end d = Takes s t end kind q pre (rec_of sep (bytes_of 2 a) ∷ rec_of k (bytes_of 2 b) ∷ []) post d

-- where the keys of the page of the record c start, under a page whose keys start at lo. What stands for it takes that as its separator: "keeps its separator, or takes 0 if first"; "When such a leaf is copied or split, its
-- left record takes that page's separator, or 0 in the first."
pub record Separator (lo : ℕ) (pre : List Rec) (c : Rec) (sep : ℕ) : Type 0 where
  pub first : pre ≡ [] → sep ≡ lo
  pub later : 1 ≤ length pre → sep ≡ c.key

-- the edit e under page q of this kind, whose keys start at lo, leads from s to t, where d stands for q: first what P says of the page under it that the key belongs to, by the state `mid`, then q itself
pub record UnderPage (P : ℕ → ℕ → State → State → Change → Type 0) (e : Edit) (kind lo q : ℕ) (s t end : State) (d : Change) : Type 0 where
  pub pre : List Rec
  pub c : Rec
  pub post : List Rec
  pub shape : children s.image q ≡ pre ++ c ∷ post
  -- "A key belongs by the old rule to one index page, then within it to a leaf."
  pub place : length pre ≡ route (key_of e) (children s.image q)
  pub sep : ℕ
  pub separator : Separator lo pre c sep
  pub mid : State
  pub change : Change
  pub under : P sep (child_of c) s mid change
  pub here : AtNode kind q pre sep post change mid t end d

-- the same of page q of height h: "Pages are taken for leaves, index pages and top, in that order"
abbrev pub MovedIn : Edit → State → ℕ → ℕ → ℕ → State → State → Change → Type 0
MovedIn e end zero lo q s t d = AtLeaf e q s t end d
MovedIn e end (suc h) lo q s t d = UnderPage (λ x y u v c. MovedIn e end h x y u v c) e (suc (suc h)) lo q s t end d

-- ---- the root

-- what becomes of the root, of height h, by what stands for its page. It is never gone: "a top page stays"
pub data AtRoot (h : ℕ) (s t : State) : Change → Type 0 where
  root-stays : t ≡ s → AtRoot h s t kept
  -- "which changes the root number"
  root-copied : (x : ℕ) → t.root ≡ x → t.image ≡ s.image → t.free ≡ s.free → AtRoot h s t (one x)
  -- "A root index that would hold a 29th record is split by the leaf rule into two new index pages under a new kind 3 root": its first separator is 0, and the next free page is taken for it
  root-split : (left k right : ℕ) → h ≡ 1 → s.free ≡ t.root ∷ t.free → NewPage s t 3 t.root (rec_of 0 (bytes_of 2 left) ∷ rec_of k (bytes_of 2 right) ∷ []) →
      ((x : ℕ) → (x ≡ t.root → ⊥) → page_of t.image x ≡ page_of s.image x) → AtRoot h s t (two left k right)

-- the edit e leads from st to t
pub record Moved (e : Edit) (st t : State) : Type 0 where
  pub mid : State
  pub change : Change
  pub under : MovedIn e t (height_of st.image st.root) 0 st.root st mid change
  pub root : AtRoot (height_of st.image st.root) mid t change
