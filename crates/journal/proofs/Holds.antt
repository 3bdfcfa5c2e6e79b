-- What a recovery finds in an image: the replayed image and its table, and the two cases, mark 0 or a log that waits.
-- Assumes nothing.
use Prim.Native.Nat.{ℕ}
use mathlib.Core.Path.{◌≡◌, refl, sym, ap, ◌∙◌, subst}
use mathlib.Core.Logic.{◌⊎◌, inl, inr}
use mathlib.Core.Bool.{true, false≢true}
use mathlib.Core.List.{List, []}
use lib.ListN.{length, get_or}
use Rattle.device.specs.Calls.{is_image_size}
use Rattle.page.specs.Layout.{Rec}
use Rattle.image.specs.PageZero.{page_zero}
use Rattle.image.specs.Image.{sound}
use Rattle.image.specs.Table.{table}
use Rattle.image.specs.Live.{live}
use Rattle.image.specs.declared.PageZero.{PageZero}
use Rattle.image.specs.declared.PageZero.TheVariants.{Wrong, Waiting, Ready}
use Rattle.image.proofs.Zero.{Size}
use Rattle.image.proofs.Soundness.{sound-facts}
use Rattle.image.proofs.Frame.{frame}
use Rattle.journal.specs.Recovery.{replay_from, recovery_tape, replayable}
use Rattle.journal.specs.Holds.{replay, Waits, tape_of, Holds}
use Rattle.journal.specs.declared.Way.{Way}
use Rattle.journal.proofs.Standing.{Standing, length-replay, standing-waits, standing-replay}

-- ---- an image with mark 0

module _ (a : List ℕ) (s : sound a ≡ true) where
  pub sound-replay : replay a ≡ a
  unfolding replay_from
  sound-replay = ap (replay_from a) (sound-facts a s).zero

  -- "Recovery with mark 0 gives no commands."
  pub sound-tape : (way : Way) → tape_of way a ≡ []
  unfolding recovery_tape
  sound-tape way = ap (recovery_tape way a) (sound-facts a s).zero

  pub holds-sound : Holds (table a) a
  unfolding replayable
  holds-sound =
      record {
        is_replayable = ap (replayable a) (sound-facts a s).zero;
        is_sound = ap sound sound-replay ∙ s;
        is_table = ap table sound-replay;
      }

-- bytes that are not live may hold anything
pub holds-dead : (a b : List ℕ) → sound a ≡ true → length b ≡ length a → ((i : ℕ) → live a i ≡ true → get_or b i 0 ≡ get_or a i 0) → Holds (table a) b
holds-dead a b s l h =
    let f = frame a b s (sym l) (λ i q. sym (h i q)) in
    subst (λ (t : List Rec). Holds t b) f.1 (holds-sound b f.0)

-- ---- the two cases of an image that can be recovered

-- the mark is 0 or waits
abbrev pub Cases : List ℕ → Type 0
Cases img = ((replay img ≡ img) × ((way : Way) → tape_of way img ≡ [])) ⊎ ((k : ℕ) × (root : ℕ) × Waits img k root)

pub cases : (img : List ℕ) → replayable img (page_zero img) ≡ true → Cases img
unfolding replayable replay_from recovery_tape
cases img h = go (page_zero img) refl h
  where
    go : (z : PageZero) → page_zero img ≡ z → replayable img z ≡ true → Cases img
    go Wrong e r = absurd (false≢true r)
    go (Waiting k root) e r = inr (k, root, record { zero = e; ok = r })
    go (Ready root) e r = inl (ap (replay_from img) e, λ way. ap (recovery_tape way img) e)

pub waits-replayable : (img : List ℕ) (k root : ℕ) → Waits img k root → replayable img (page_zero img) ≡ true
unfolding replayable
waits-replayable img k root w = ap (replayable img) w.zero ∙ w.ok

pub length-replayed : (img : List ℕ) → replayable img (page_zero img) ≡ true → length (replay img) ≡ length img
length-replayed img r = go (cases img r)
  where
    go : Cases img → length (replay img) ≡ length img
    go (inl e) = ap length e.0
    go (inr (k, root, w)) = length-replay img k root w

pub holds-size : {t : List Rec} (img : List ℕ) → Holds t img → is_image_size (length img) ≡ true
holds-size img h = ap is_image_size (sym (length-replayed img h.is_replayable)) ∙ (sound-facts (replay img) h.is_sound).size

-- ---- another image with the same replayed image

-- b can be recovered as a can, to the same image
pub record Recovers (a b : List ℕ) : Type 0 where
  pub still : replayable b (page_zero b) ≡ true
  pub same : replay b ≡ replay a

pub recovers-holds : {t : List Rec} (a b : List ℕ) → Holds t a → Recovers a b → Holds t b
recovers-holds a b h r = record { is_replayable = r.still; is_sound = ap sound r.same ∙ h.is_sound; is_table = ap table r.same ∙ h.is_table }

-- while the mark stands, logged header lines may hold anything, and the root word may be the old or the new one
pub standing-recovers : (a b : List ℕ) (k root : ℕ) → Size (length a) → Waits a k root → Standing a b k root → Recovers a b
standing-recovers a b k root size w s =
    record { still = waits-replayable b k root (standing-waits a b k root size w s); same = standing-replay a b k root size w s }
