-- What the journal asks of the edits: five laws about an image a and its edited image w.
-- Assumes nothing.
use Rattle.std.specs.Prelude.{ℕ, ◌/◌, ◌≤◌, ◌<◌, ◌≡◌, ◌⊎◌, true, false, List, length, get_or}
use Rattle.page.specs.Layout.{page_size}
use Rattle.image.specs.PageZero.{root_of}
use Rattle.image.specs.Image.{reached, among, sound}
use Rattle.image.specs.Live.{live}
use Rattle.journal.specs.Changes.{word_size, free_word}

pub record Edited (a w : List ℕ) : Type 0 where
  pub is_sound : sound w ≡ true
  pub same_length : length w ≡ length a
  -- page 0 is as it was, but for the root word
  pub page_zero_kept : (i : ℕ) → i < page_size → (i < 8) ⊎ (16 ≤ i) → get_or w i 0 ≡ get_or a i 0
  -- "Pages not reached at the end hold the bytes they held before."
  pub unreached_kept : (i : ℕ) → page_size ≤ i → among (i / page_size) (reached w (root_of w)) ≡ false → get_or w i 0 ≡ get_or a i 0
  -- a word of stage A's that holds a live byte of a is as it was
  pub live_kept : (i : ℕ) → live a i ≡ true → free_word (reached a (root_of a)) (i / word_size) ≡ true → (j : ℕ) → j / word_size ≡ i / word_size → get_or w j 0 ≡ get_or a j 0
