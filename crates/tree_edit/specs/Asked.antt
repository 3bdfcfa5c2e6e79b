-- What the functions ask for.
-- Assumes nothing.
use Rattle.std.specs.Prelude.{ℕ, ◌+◌, ◌-◌, ◌*◌, ◌≤◌, ◌<◌, ◌≡◌, true, false, List, length, take, drop}
use Rattle.codec.specs.Lists.{All}
use Rattle.codec.specs.Numbers.{bytes_of}
use Rattle.page.specs.Layout.{page_size, index_kind, top_kind, top_key, Rec}
use Rattle.page.specs.Page.{records, laid_out, keys_rise, RecOk}
use Rattle.page.specs.Operations.{page_of}
use Rattle.page.specs.PageFormat.{Lists, format1}
use Rattle.image.specs.PageZero.{page_count}
use Rattle.image.specs.Image.{names_of, reached, height_of, Entries, hit, count}
use Rattle.tree.specs.State.{State}
use Rattle.tree.specs.Edits.{split_point}
use Rattle.tree.specs.Good.{inside, Fits, Good}
use Rattle.tree_edit.specs.Steps.{is_marked, unmarked, state_of, turn_of, top_after, way_of, to_index, to_top, rec_by, made_by}
use Rattle.tree_edit.specs.declared.Child.{Child}
use Rattle.tree_edit.specs.declared.Put.{Put}
use Rattle.tree_edit.specs.declared.Way.{Way}
use Rattle.tree_edit.specs.declared.Turned.{Turned}
use Rattle.tree_edit.specs.declared.Turned.TheVariants.{Kept, Gone, One, Two}

-- the new record can be put into the page p, if there is room
pub record CanPut (p : List ℕ) (new : Put) (v : List ℕ) : Type 0 where
  pub ok : laid_out p ≡ true
  pub good : RecOk (rec_by new v)
  pub place : new.at < length (made_by new v p)

-- and into page q of a state, or with its records into pages that are free
pub record CanTake (n : ℕ) (st : State) (q : ℕ) (new : Put) (v : List ℕ) : Type 0 where
  pub few : n ≤ 64
  pub long : length st.image ≡ page_size * n
  pub apart : (x : ℕ) → hit x q + count x st.free ≤ inside n x
  pub put : CanPut (page_of st.image q) new v

-- the records rs fit two pages
pub record CanSplit (rs : List Rec) : Type 0 where
  pub left : Fits (take (split_point rs) rs)
  pub right : Fits (drop (split_point rs) rs)

-- what stands for a page can take the record of the page `named`
pub record CanThen (n : ℕ) (before work : List ℕ) (root page : ℕ) (new : Put) (named : ℕ) (first : Turned) : Type 0 where
  pub stays : (top : ℕ) → first ≡ Kept top → CanTake n (state_of before work (record { root = root; top = top })) page new (bytes_of 2 named)
  pub moves : (x top : ℕ) → first ≡ One x top → CanTake n (state_of before work (record { root = root; top = top })) x new (bytes_of 2 named)

-- page q of a state, of a kind above a leaf's, whose record in the slot of c can be changed
pub record IndexAt (n : ℕ) (st : State) (kind q : ℕ) (c : Child) : Type 0 where
  pub few : n ≤ 64
  pub long : length st.image ≡ page_size * n
  pub apart : (x : ℕ) → hit x q + count x st.free ≤ inside n x
  pub lists : Lists format1 (page_of st.image q) kind q (records (page_of st.image q))
  pub entries : Entries (records (page_of st.image q))
  pub slot : c.slot < length (records (page_of st.image q))
  pub low : c.low ≤ top_key

-- it can take what stands for the page under it
pub record CanAbsorb (n : ℕ) (before work : List ℕ) (root kind page : ℕ) (c : Child) (below : Turned) : Type 0 where
  pub gone : (top : ℕ) → below ≡ Gone top → IndexAt n (state_of before work (record { root = root; top = top })) kind page c
  pub one : (p top : ℕ) → below ≡ One p top → IndexAt n (state_of before work (record { root = root; top = top })) kind page c
  pub two : (p k q top : ℕ) → below ≡ Two p k q top → IndexAt n (state_of before work (record { root = root; top = top })) kind page c × (k ≤ top_key)

-- the root, split into two pages, can get a page above it
pub record CanRoot (n : ℕ) (before work : List ℕ) (above : Turned) : Type 0 where
  pub long : length work ≡ page_size * n
  pub two : (p k q top : ℕ) → above ≡ Two p k q top → ((x : ℕ) → count x (unmarked before (top - 1)) ≤ inside n x) × (k ≤ top_key)

-- the index page can take what stands for the leaf, the top page above it what then stands for the index page, and the root can be what it has become
pub record CanRaise (before work : List ℕ) (root : ℕ) (w : Way) (below : Turned) : Type 0 where
  pub absorb : CanAbsorb (page_count work) before work root index_kind w.index.page w.leaf below
  pub low : top_after below ≤ 64
  pub one_high : w.height ≡ 1 → (v : List ℕ) (above : Turned) → turn_of before v root above ≡ to_index w (turn_of before work root below) → CanRoot (page_count v) before v above
  pub two_high : (w.height ≡ 1 → ⊥) → (v : List ℕ) (above : Turned) → turn_of before v root above ≡ to_index w (turn_of before work root below) →
      CanAbsorb (page_count v) before v root top_kind root w.index above
      × ((u : List ℕ) (top : Turned) → turn_of before u root top ≡ to_top root w (turn_of before v root above) → CanRoot (page_count u) before u top)

-- page q above the leaves: records that name pages, by rising separators
pub record Names (img : List ℕ) (q : ℕ) : Type 0 where
  pub fits : page_size * q + page_size ≤ length img
  pub laid : laid_out (page_of img q) ≡ true
  pub rise : keys_rise (records (page_of img q)) ≡ true
  pub entries : Entries (records (page_of img q))
  pub some : 1 ≤ length (records (page_of img q))

-- w is the way of a key in a sound tree
pub record OnWay (n : ℕ) (st : State) (w : Way) : Type 0 where
  pub good : Good n st
  pub key : ℕ
  pub is : w ≡ way_of st.image st.root key

-- the pages above the leaves can be read, and all pages are below 64
pub record CanMark (img : List ℕ) (root : ℕ) : Type 0 where
  pub top : Names img root
  pub index : height_of img root ≡ 2 → All (λ (q : ℕ). Names img q) (names_of img root)
  pub small : All (λ (p : ℕ). p < 64) (reached img root)

-- two images of the same 1 to 64 pages
pub record CanPutBack (image work : List ℕ) : Type 0 where
  pub same : length image ≡ length work
  pub whole : length image ≡ page_size * page_count image
  pub some : 1 ≤ page_count image
  pub few : page_count image ≤ 64

-- the pages below top that were not reached before are in work as they are in the image
abbrev pub Spared : List ℕ → List ℕ → List ℕ → ℕ → Type 0
Spared before image work top = (p : ℕ) → 1 ≤ p → p < top → is_marked before p ≡ false → page_of work p ≡ page_of image p
