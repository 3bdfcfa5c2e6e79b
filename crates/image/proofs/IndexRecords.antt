-- Index records: "its value a 2-byte page number". What they name, and their sizes.
-- Assumes nothing.
use Prim.Native.Nat.{ℕ, ◌*◌, ◌≤◌, ◌<◌}
use mathlib.Core.Path.{◌≡◌, refl}
use mathlib.Core.List.{List, [], ◌∷◌}
use native.Mathlib.Omega.{arith}
use lib.ListN.{length}
use Rattle.codec.proofs.Numbers.{length-bytes_of, number-bytes_of}
use Rattle.page.specs.Layout.{top_key, Rec, up8, size}
use Rattle.page.specs.Page.{RecOk}
use Rattle.page.specs.Operations.{sizes}
use Rattle.image.specs.Image.{child_of, index_rec, entry_size, Entries}

pub size-entry : (c : Rec) → length c.value ≡ 2 → size c ≡ entry_size
unfolding size up8
size-entry c e = rw e

pub sizes-entries : (cs : List Rec) → Entries cs → sizes cs ≡ entry_size * length cs
unfolding sizes
sizes-entries [] h = refl
sizes-entries (c ∷ cs) h = omega (arith, size-entry c h.0, sizes-entries cs h.1)

module _ (sep p : ℕ) where
  pub index-entry : length (index_rec sep p).value ≡ 2
  unfolding index_rec
  index-entry = length-bytes_of 2 p

  pub index-child : p < 65536 → child_of (index_rec sep p) ≡ p
  unfolding index_rec child_of
  index-child h = number-bytes_of 2 p h

  pub index_ok : sep ≤ top_key → RecOk (index_rec sep p)
  unfolding index_rec
  index_ok h = record { low = h; few = omega (arith, length-bytes_of 2 p) }
