-- What an answer comes to, wherever the value stands, so that a preview, a lookup and a table can be compared.
-- Assumes nothing.
use Rattle.std.specs.Prelude.{ℕ, List, [], Err, None, Ok, Option, Result, Some}
use Rattle.preview.specs.declared.Preview.{Preview}
use Rattle.image.specs.declared.Part.{Part}
use Rattle.preview.specs.declared.Preview.TheVariants.{InImage, InList}
use Rattle.codec.specs.Lists.{part}
use Rattle.device.specs.declared.Refusal.{Refusal}

-- the value's bytes, that there is none, or the refusal
pub data Finding : Type 0 where
  value : List ℕ → Finding
  nothing : Finding
  refused : Refusal → Finding

-- a preview of the image with the list `bytes`
unfoldable pub previewed : List ℕ → List ℕ → Result (Option Preview) Refusal → Finding
previewed img bytes (Ok (Some (InList x))) = value (part bytes x.offset x.length)
previewed img bytes (Ok (Some (InImage x))) = value (part img x.offset x.length)
previewed img bytes (Ok None) = nothing
previewed img bytes (Err r) = refused r

-- a lookup in the image
unfoldable pub looked_up : List ℕ → Result (Option Part) Refusal → Finding
looked_up img (Ok (Some x)) = value (part img x.offset x.length)
looked_up img (Ok None) = nothing
looked_up img (Err r) = refused r

-- what a table holds for a key
unfoldable pub held : Option (List ℕ) → Finding
held (Some v) = value v
held None = nothing

-- the bytes of a value; none where there is no value
unfoldable pub bytes_in : Finding → List ℕ
bytes_in (value v) = v
bytes_in nothing = []
bytes_in (refused r) = []
