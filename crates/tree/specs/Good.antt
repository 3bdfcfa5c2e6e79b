-- A state whose tree is sound, with its pages counted: reached and free pages are distinct and in range.
-- Assumes nothing.
use Rattle.std.specs.Prelude.{ℕ, suc, ◌+◌, ◌≤◌, ◌*◌, List, ◌≡◌, ◌⊎◌, length}
use Rattle.codec.specs.Lists.{pick, All}
use Rattle.page.specs.Layout.{Rec, page_size, line_size, slot_count, top_key}
use Rattle.page.specs.Operations.{sizes}
use Rattle.page.specs.PageFormat.{PageFormat, format1}
use Rattle.image.specs.PageZero.{is_page}
use Rattle.image.specs.Image.{count, pages_in, leaves_in, height_in}
use Rattle.image.specs.Facts.{Under, Nonempty}
use Rattle.tree.specs.State.{State}

-- ---- pages counted: that pages are distinct, in range and not taken is one inequality for each page

-- 1 if x is a page past page 0 of an image with n pages, else 0
unfoldable pub inside : ℕ → ℕ → ℕ
inside n x = pick (is_page n x) 1 0

-- ---- records

-- a page of at most `cap` records has room for these
pub record FitsIn (cap : ℕ) (l : List Rec) : Type 0 where
  pub some : 1 ≤ length l
  pub few : length l ≤ cap
  pub room : line_size + sizes l ≤ page_size

abbrev pub Fits : List Rec → Type 0
Fits l = FitsIn slot_count l

-- ---- states

-- the state of an image with n pages, at most 64: the tree under its root is sound, and reached and free pages are distinct and in range
pub record GoodIn (Pg : PageFormat) (n : ℕ) (st : State) : Type 0 where
  pub few : n ≤ 64
  pub size : length st.image ≡ page_size * n
  pub under : Under Pg st.image (height_in Pg st.image st.root) 0 (suc top_key) st.root
  -- "no leaf is empty unless it is the only one"
  pub full : (length (leaves_in Pg st.image (height_in Pg st.image st.root) st.root) ≡ 1)
      ⊎ All (Nonempty Pg st.image) (leaves_in Pg st.image (height_in Pg st.image st.root) st.root)
  pub apart : (x : ℕ) → count x (pages_in Pg st.image (height_in Pg st.image st.root) st.root) + count x st.free ≤ inside n x

abbrev pub Good : ℕ → State → Type 0
Good n st = GoodIn format1 n st
