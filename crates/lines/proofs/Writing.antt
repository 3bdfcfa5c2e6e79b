-- A line put together in a buffer: numbers in columns, one after the other from its front, and a line feed at its end.
-- Assumes nothing.
use Prim.Native.Nat.{ℕ, ◌+◌, ◌≤◌, ◌<◌}
use mathlib.Core.Path.{◌≡◌, sym, ap, ◌∙◌}
use mathlib.Core.List.{List, [], ◌∷◌, ◌++◌}
use native.Mathlib.Omega.{arith}
use lib.ListN.{length, get_or, drop, set, length-append}
use Rattle.std.proofs.lemmas.List.{at_drop_more, at_drop_all}
use Rattle.codec.specs.Lists.{splice}
use Rattle.codec.proofs.Lists.{length-splice, splice-sets, splice-next, splice-over}
use Rattle.lines.specs.Columns.{columns}
use Rattle.lines.specs.Form.{line_feed, fields_bytes}
use Rattle.lines.proofs.Columns.{length-columns}

-- in the buffer d, the fields from number k on are left to put from place o on: put there, they make the whole
pub record Putting (fs : List (ℕ × ℕ)) (k o : ℕ) (d : List ℕ) : Type 0 where
  pub fits : o + length (fields_bytes (drop k fs)) ≡ length d
  pub whole : splice d o (fields_bytes (drop k fs)) ≡ fields_bytes fs

pub putting-first : (fs : List (ℕ × ℕ)) (d : List ℕ) → length d ≡ length (fields_bytes fs) → Putting fs 0 0 d
putting-first fs d h = record { fits = omega arith; whole = splice-over d (fields_bytes fs) (sym h) }

module _ (fs : List (ℕ × ℕ)) (k o : ℕ) (d : List ℕ) (p : Putting fs k o d) where
  module _ (f : ℕ × ℕ) (more : k < length fs) where
    rest : fields_bytes (drop k fs) ≡ columns (get_or fs k f).0 (get_or fs k f).1 ++ fields_bytes (drop (k + 1) fs)
    unfolding fields_bytes
    rest = at_drop_more fields_bytes fs k f more

    long : length (fields_bytes (drop k fs)) ≡ (get_or fs k f).0 + length (fields_bytes (drop (k + 1) fs))
    long = ap length rest ∙ simp length-append (omega (arith, length-columns (get_or fs k f).0 (get_or fs k f).1))

    -- the next field has room
    pub putting-fits : o + (get_or fs k f).0 ≤ length d
    putting-fits = omega (arith, p.fits, long)

    pub putting-next : (q : List ℕ) → q ≡ splice d o (columns (get_or fs k f).0 (get_or fs k f).1) → Putting fs (k + 1) (o + (get_or fs k f).0) q
    putting-next q e =
        let next : List ℕ = columns (get_or fs k f).0 (get_or fs k f).1 in
        let w : length next ≡ (get_or fs k f).0 = length-columns (get_or fs k f).0 (get_or fs k f).1 in
        let both : o + length next + length (fields_bytes (drop (k + 1) fs)) ≤ length d = omega (arith, p.fits, long) in
        let same : length q ≡ length d = ap length e ∙ length-splice d o next (omega (arith, both)) in
        record {
          fits = omega (arith, p.fits, long);
          whole = splice-next d o next (fields_bytes (drop (k + 1) fs)) q (o + (get_or fs k f).0) e (omega arith) both ∙ ap (splice d o) (sym rest) ∙ p.whole;
        }

  module _ (none : length fs ≤ k) where
    feed : fields_bytes (drop k fs) ≡ line_feed ∷ []
    unfolding fields_bytes
    feed = at_drop_all fields_bytes fs k none

    -- the line feed has room, and ends the line
    pub putting-room : o < length d
    putting-room = omega (arith, p.fits, ap length feed)

    pub putting-end : set d o line_feed ≡ fields_bytes fs
    putting-end = sym (splice-sets d o (line_feed ∷ []) (omega (arith, putting-room))) ∙ ap (splice d o) (sym feed) ∙ p.whole
