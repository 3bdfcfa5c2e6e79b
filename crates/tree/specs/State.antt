-- The state of a transaction between two edits, and the pages that it may take (document 01, 'Edits').
-- Assumes nothing.
use Rattle.std.specs.Prelude.{ℕ, zero, suc, ◌-◌, List, [], ◌∷◌}
use Rattle.codec.specs.Lists.{pick}
use Rattle.page.specs.Layout.{Rec}
use Rattle.page.specs.Operations.{page_of, put_page}
use Rattle.page.specs.PageFormat.{PageFormat}
use Rattle.image.specs.PageZero.{page_count, root_of}
use Rattle.image.specs.Image.{reached, among}

-- the image as edited so far, its root page, and the pages that may still be taken, falling
pub record State : Type 0 where
  pub image : List ℕ
  pub root : ℕ
  pub free : List ℕ

-- an edit made, or the number of its refusal
pub data Step : Type 0 where
  done : State → Step
  refused : ℕ → Step

-- the pages n, n - 1, .. 1 that are not among rs
unfoldable pub others : ℕ → List ℕ → List ℕ
others zero rs = []
others (suc n) rs = let rest = others n rs in pick (among (suc n) rs) rest (suc n ∷ rest)

-- before the first edit: no page "reached before the transaction" is free
unfoldable pub begin : List ℕ → State
begin a = record { image = a; root = root_of a; free = others (page_count a - 1) (reached a (root_of a)) }

-- the state with the page p written over
abbrev pub with_page : ℕ → List ℕ → State → State
with_page p bytes st = record { image = put_page st.image p bytes; root = st.root; free = st.free }

-- the state with a new root page
abbrev pub with_root : ℕ → State → State
with_root p st = record { image = st.image; root = p; free = st.free }

-- "A new page is the highest-numbered one neither reached before the transaction nor already taken in it": what is done with it, or `out` where there is none
unfoldable pub take_page : {A : Type 0} → A → List ℕ → State → (ℕ → State → A) → A
take_page out [] st k = out
take_page out (p ∷ ps) st k = k p (record { image = st.image; root = st.root; free = ps })

unfoldable pub taken : {A : Type 0} → A → State → (ℕ → State → A) → A
taken out st k = take_page out st.free st k

-- the state with the page p filled as a new page of this kind
unfoldable pub filled : PageFormat → ℕ → ℕ → List Rec → State → State
filled Pg kind p rs st = with_page p (Pg.fill (page_of st.image p) kind p rs) st
