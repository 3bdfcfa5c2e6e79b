-- A whole list of edits, and the edited image (document 01, 'Edits').
-- Assumes nothing.
use Rattle.std.specs.Prelude.{ℕ, zero, suc, Bool, ◌||◌, List, [], ◌∷◌, ◌++◌, eqb}
use Rattle.codec.specs.Lists.{splice, pick}
use Rattle.codec.specs.Numbers.{bytes_of}
use Rattle.page.specs.Operations.{page_of}
use Rattle.page.specs.PageFormat.{PageFormat, format1}
use Rattle.image.specs.PageZero.{page_count}
use Rattle.image.specs.Image.{reached, among}
use Rattle.edit.specs.EditList.{Edit}
use Rattle.tree.specs.State.{State, Step, done, refused, begin}
use Rattle.tree.specs.Edits.{edited_in, no_keep}

-- all edits made, or the refusal's number and the edit's
pub data Outcome : Type 0 where
  finished : State → Outcome
  stopped : ℕ → ℕ → Outcome

-- what an edit leads to
unfoldable pub onward : Step → ℕ → (State → Outcome) → Outcome
onward (refused k) i next = stopped k i
onward (done st) i next = next st

-- "Each edit sees those before it": the edits from edit i on, for any page format and for document 01's
unfoldable pub edits_from_in : (Pg : PageFormat) → (ℕ → Pg.Keep) → ℕ → List Edit → State → Outcome
edits_from_in Pg keep i [] st = finished st
edits_from_in Pg keep i (e ∷ es) st = onward (edited_in Pg keep e st) i (λ s. edits_from_in Pg keep (suc i) es s)

abbrev pub edits_from : ℕ → List Edit → State → Outcome
edits_from i es st = edits_from_in format1 no_keep i es st

-- of the n pages from p on: from w where `keep` says so, else from a
unfoldable pub pages_from : (ℕ → Bool) → List ℕ → List ℕ → ℕ → ℕ → List ℕ
pages_from keep a w zero p = []
pages_from keep a w (suc n) p = page_of (pick (keep p) w a) p ++ pages_from keep a w n (suc p)

-- "Pages not reached at the end hold the bytes they held before": page 0 and the pages reached at the end are the edited ones
unfoldable pub put_back : List ℕ → State → List ℕ
put_back a st =
    let rs = reached st.image st.root in
    pages_from (λ p. eqb p 0 || among p rs) a st.image (page_count a) 0

-- the edited image: those pages, and the root number in word 1
unfoldable pub edited_image : List ℕ → State → List ℕ
edited_image a st = splice (put_back a st) 8 (bytes_of 8 st.root)

-- the edits of the list made on the image a
unfoldable pub edits_on : List ℕ → List Edit → Outcome
edits_on a es = edits_from 0 es (begin a)
