-- A tape that follows the method, whoever made it: stores to bytes that are not live, one commit store, and after a mark the logged headers,
-- the root word and the mark's clearing (document 02 (m)). Flushes and barriers stand anywhere, so the stores alone are named, and what is durable when.
-- Assumes nothing.
use Rattle.std.specs.Prelude.{ℕ, ◌*◌, ◌≡◌, ◌⊎◌, true, false, List, [], ◌∷◌, ◌++◌, map, length}
use Rattle.std.proofs.lemmas.List.Edits.{sets}
use Rattle.codec.specs.Lists.{All}
use Rattle.device.specs.Tape.{Op, store}
use Rattle.device.specs.Cut.{after, line_of, durable, touches, Closed, stores}
use Rattle.page.specs.Layout.{page_size, line_size}
use Rattle.image.specs.PageZero.{root_of, page_zero}
use Rattle.image.specs.Image.{reached, among, distinct, sound}
use Rattle.image.specs.Live.{live}
use Rattle.image.specs.declared.PageZero.TheVariants.{Waiting}
use Rattle.journal.specs.Changes.{word_size}
use Rattle.journal.specs.Way.{line_by}
use Rattle.journal.specs.Log.{own_page, end_stores}
use Rattle.journal.specs.Recovery.{logged, root_is}
use Rattle.journal.specs.declared.Way.{Way}

-- ---- what follows a mark, in a transaction and in a recovery

-- the stores cs write "exactly the logged headers in log order, each as a line or as eight rising words"
abbrev pub HeadersIn : List (List ℕ) → List Op → Type 0
HeadersIn [] cs = cs ≡ []
HeadersIn (h ∷ hs) cs = (way : Way) × (rest : List Op) × (cs ≡ line_by way (page_size * own_page h) h ++ rest) × HeadersIn hs rest

-- the commands cs over the image b, whose mark has k logged headers and the root `root`
pub record Redo (b : List ℕ) (k root : ℕ) (cs : List Op) : Type 0 where
  pub headers : List Op
  pub ending : List Op
  pub shape : cs ≡ headers ++ ending
  pub headers_in : HeadersIn (logged k b) (stores headers)
  -- "once they are durable, the mark's root word, exactly if it differs, then the mark's clearing, and no store more"
  pub headers_durable : Closed headers
  pub ends : stores ending ≡ end_stores (root_is b root) root
  -- "The end has nothing undurable"
  pub end_durable : Closed ending

-- ---- the commit store

-- "one line store of a reached page's header, one root word"
abbrev pub OnePlace : List ℕ → ℕ → List ℕ → Type 0
OnePlace a place bytes =
    ((page : ℕ) × (among page (reached a (root_of a)) ≡ true) × (place ≡ page_size * page) × (length bytes ≡ line_size)) ⊎ ((place ≡ 8) × (length bytes ≡ word_size))

-- "a mark", "one word store": it makes the image b, whose log lines are those that the mark finds and whose root word is a's; the commands
-- rest follow
pub record ByMark (a b : List ℕ) (place : ℕ) (bytes : List ℕ) (rest : List Op) : Type 0 where
  pub is_place : place ≡ 0
  pub is_word : length bytes ≡ word_size
  -- "nonzero, well formed"
  pub count : ℕ
  pub root : ℕ
  pub is_mark : page_zero b ≡ Waiting count root
  -- the logged headers are "of distinct pages reached before"
  pub apart : distinct (map own_page (logged count b)) ≡ true
  pub were_reached : All (λ (p : ℕ). among p (reached a (root_of a)) ≡ true) (map own_page (logged count b))
  pub redo : Redo b count root rest

-- over the image x: one place, after which "no store follows", or a mark
abbrev pub Commits : List ℕ → List ℕ → ℕ → List ℕ → List Op → Type 0
Commits a x place bytes rest = (OnePlace a place bytes × (rest ≡ [])) ⊎ ByMark a (sets x place bytes) place bytes rest

-- ---- the tape: the commands cs over the image a, which leave w

pub record Safe (a : List ℕ) (cs : List Op) (w : List ℕ) : Type 0 where
  -- "Before the commit, stores go, in any order, only to log lines, words of unreached pages past page 0, and words past a reached header that
  -- no listed record covers; all are durable before the commit store."
  pub prepare : List Op
  pub dead : (i : ℕ) → live a i ≡ true → touches prepare i ≡ false
  pub prepared : Closed prepare
  -- then the commit store, commands in which it becomes durable "before any store after it", and the rest
  pub place : ℕ
  pub bytes : List ℕ
  pub wait : List Op
  pub rest : List Op
  pub shape : cs ≡ prepare ++ (store place bytes ∷ (wait ++ rest))
  pub no_store : stores wait ≡ []
  pub is_durable : durable (line_of place) wait ≡ true
  pub commits : Commits a (after a prepare) place bytes rest
  -- "The end has .. a sound image"
  pub leaves : after a cs ≡ w
  pub is_sound : sound w ≡ true
