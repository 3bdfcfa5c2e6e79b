-- The commit store of a transaction, by its commit place (document 01, 'The transaction's tape').
-- Assumes nothing.
use Rattle.std.specs.Prelude.{ℕ, ◌*◌, ◌≤◌, List, [], ◌∷◌, ◌≡◌, true, length}
use Rattle.codec.specs.Numbers.{bytes_of}
use Rattle.device.specs.Tape.{Op, store}
use Rattle.page.specs.Layout.{page_size}
use Rattle.image.specs.PageZero.{root_of, mark_bytes, log_most}
use Rattle.journal.specs.Changes.{header_line, changed_pages, same_root}
use Rattle.journal.specs.Log.{page_lines}
use Rattle.journal.specs.declared.CommitPlace.{CommitPlace}
use Rattle.journal.specs.declared.CommitPlace.TheVariants.{Header, Root, Log}

-- "The commit store is the one changed place's store, or the mark's first store.": to the edited image w, with k changed headers
unfoldable pub commit_store : List ℕ → ℕ → CommitPlace → Op
commit_store w k (Header p) = store (page_size * p) (header_line w p)
commit_store w k Root = store 8 (bytes_of 8 (root_of w))
commit_store w k Log = store 0 (mark_bytes k (root_of w))

-- the line that it stores to
unfoldable pub commit_line : CommitPlace → ℕ
commit_line (Header p) = page_lines * p
commit_line Root = 0
commit_line Log = 0

-- what changed, by the commit place
abbrev pub Names : List ℕ → List ℕ → CommitPlace → Type 0
Names a w (Header p) = (changed_pages a w ≡ p ∷ []) × (same_root a w ≡ true)
Names a w Root = changed_pages a w ≡ []
Names a w Log = (1 ≤ length (changed_pages a w)) × (length (changed_pages a w) ≤ log_most)
