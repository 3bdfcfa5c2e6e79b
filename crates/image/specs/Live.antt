-- The bytes that soundness and the table depend on: "Unreached pages, free bytes and log lines may hold anything" (document 01, 'Page layout').
-- Assumes nothing.
use Rattle.std.specs.Prelude.{ℕ, ◌/◌, ◌%◌, Bool, false, ◌&&◌, ◌||◌, List, [], ◌∷◌, leb, ltb}
use Rattle.page.specs.Layout.{page_size, line_size}
use Rattle.page.specs.Page.{Entry, end, entries}
use Rattle.page.specs.Operations.{page_of}
use Rattle.image.specs.PageZero.{root_of}
use Rattle.image.specs.Image.{reached, among}

-- whether a listed record covers the offset o of its page
unfoldable pub covered : ℕ → List Entry → Bool
covered o [] = false
covered o (e ∷ es) = (leb e.at o && ltb o (end e)) || covered o es

-- whether the offset o of the page p lies in its header or in a record that it lists
unfoldable pub live_in : List ℕ → ℕ → Bool
live_in p o = ltb o line_size || covered o (entries p)

-- whether byte i of the image is live: in line 0 of page 0, or in a reached page's header or listed records
unfoldable pub live : List ℕ → ℕ → Bool
live img i =
    let q = i / page_size in
    ltb i line_size || (among q (reached img (root_of img)) && live_in (page_of img q) (i % page_size))
