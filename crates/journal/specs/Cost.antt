-- What a transaction that changes one leaf costs on the line-store device (document 02 (f)): what differs, and what stands on its tape.
-- Assumes nothing.
use Rattle.std.specs.Prelude.{ℕ, ◌+◌, ◌-◌, ◌*◌, ◌/◌, ◌%◌, ◌≤◌, ◌<◌, ◌≡◌, ◌⊎◌, true, List, [], ◌∷◌, ◌++◌, length, get_or}
use Rattle.codec.specs.Lists.{All}
use Rattle.device.specs.Tape.{Op, store, barrier_count}
use Rattle.device.specs.Cut.{stores}
use Rattle.page.specs.Layout.{page_size, line_size}
use Rattle.image.specs.PageZero.{root_of}
use Rattle.image.specs.Image.{reached, among}
use Rattle.journal.specs.Changes.{word_size, header_line}
use Rattle.journal.specs.Way.{IsWord}
use Rattle.journal.specs.declared.CommitPlace.{CommitPlace}
use Rattle.journal.specs.declared.CommitPlace.TheVariants.{Header}

-- words of a page past its header, from the offset `from` on and below `to`
pub record Span (from to : ℕ) : Type 0 where
  pub low : line_size ≤ from
  pub order : from ≤ to
  pub high : to ≤ page_size
  pub even_from : from % word_size ≡ 0
  pub even_to : to % word_size ≡ 0

-- byte i lies neither there, in page q, nor in the header of page q
abbrev pub Elsewhere : ℕ → ℕ → ℕ → ℕ → Type 0
Elsewhere q from to i = (i < page_size * q) ⊎ ((page_size * q + line_size ≤ i) × ((i < page_size * q + from) ⊎ (page_size * q + to ≤ i)))

-- from the image a to the edited image w nothing differs but page q, reached before and after: its header does, and these words may
pub record OneLeaf (a w : List ℕ) (q from to : ℕ) : Type 0 where
  pub span : Span from to
  pub was : among q (reached a (root_of a)) ≡ true
  pub stays : among q (reached w (root_of w)) ≡ true
  pub header : header_line a q ≡ header_line w q → ⊥
  pub elsewhere : (i : ℕ) → Elsewhere q from to i → get_or w i 0 ≡ get_or a i 0

-- how many lines the bytes from the offset `from` on and below `to` lie in
abbrev pub lines_between : ℕ → ℕ → ℕ
lines_between from to = (to + 63) / line_size - from / line_size

-- A tape with the commands cs, whose commit place and number of flushes are these: it commits by the header of page q, before which it stores
-- at most `words` words and nothing else; it has at most `most` flushes and two barriers, and one of each where no word is stored.
pub record Costs (place : CommitPlace) (flushes : ℕ) (cs : List Op) (q words most : ℕ) : Type 0 where
  pub commits : place ≡ Header q
  pub before : List Op
  pub line : List ℕ
  pub stores_are : stores cs ≡ before ++ (store (page_size * q) line ∷ [])
  pub is_line : length line ≡ line_size
  pub are_words : All IsWord before
  pub few_words : length before ≤ words
  pub few_flushes : flushes ≤ most
  pub few_barriers : barrier_count cs ≤ 2
  pub alone : length before ≡ 0 → (flushes ≡ 1) × (barrier_count cs ≡ 1)
