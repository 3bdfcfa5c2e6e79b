-- Recovery's tape is what follows a mark, whichever way a line is written: done, it leaves the replayed image, and cut anywhere an image with the same replayed image.
-- Assumes nothing.
use Prim.Native.Nat.{ℕ}
use mathlib.Core.Path.{◌≡◌, refl, sym, ap, ◌∙◌, subst}
use mathlib.Core.Logic.{inl, inr}
use mathlib.Core.List.{List, [], ◌∷◌}
use Rattle.device.specs.Tape.{flush}
use Rattle.device.specs.Cut.{after, cut_image, Closed, Flushing}
use Rattle.device.proofs.Clauses.{after-nil, closed-nil}
use Rattle.device.proofs.Segments.{cut-nil}
use Rattle.device.proofs.Stores.{to-stores}
use Rattle.device.proofs.Writing.{flushing-closed, flushing-stores, to-flushing}
use Rattle.page.specs.Layout.{Rec}
use Rattle.image.specs.PageZero.{page_zero}
use Rattle.image.specs.declared.PageZero.{PageZero}
use Rattle.image.specs.declared.PageZero.TheVariants.{Wrong, Waiting, Ready}
use Rattle.journal.specs.Log.{header_tape, end_stores, ending, replay_tape}
use Rattle.journal.specs.Recovery.{logged, root_is, recovery_tape}
use Rattle.journal.specs.Holds.{replay, tape_of, Holds}
use Rattle.journal.specs.Safe.{HeadersIn, Redo}
use Rattle.journal.specs.declared.Way.{Way}
use Rattle.journal.proofs.Headers.{headers-closed, headers-stored, headers-in}
use Rattle.journal.proofs.Holds.{Cases, cases, Recovers, recovers-holds}
use Rattle.journal.proofs.Redo.{end_line, redo-closed, redo-run, redo-cut}

pub recovery-redo : (way : Way) (img : List ℕ) (k root : ℕ) → page_zero img ≡ Waiting k root → Redo img k root (tape_of way img)
unfolding recovery_tape replay_tape ending
recovery-redo way img k root e =
    let hs = logged k img in
    let es = end_stores (root_is img root) root in
    let line = end_line (root_is img root) root in
    let flushed : Flushing es (flush 0 ∷ []) = to-flushing 0 es line in
    record {
      headers = header_tape way hs;
      ending = ending (root_is img root) root;
      shape = ap (recovery_tape way img) e;
      headers_in = subst (HeadersIn hs) (sym (headers-stored way hs)) (headers-in way hs);
      headers_durable = headers-closed way hs;
      ends = flushing-stores es (flush 0 ∷ []) flushed ∙ to-stores 0 es line;
      end_durable = flushing-closed es (flush 0 ∷ []) flushed;
    }

-- nothing is pending at its end
pub recovery-closed : (way : Way) (img : List ℕ) → Closed (tape_of way img)
unfolding recovery_tape
recovery-closed way img = go (page_zero img) refl
  where
    go : (z : PageZero) → page_zero img ≡ z → Closed (tape_of way img)
    go Wrong e = subst Closed (sym (ap (recovery_tape way img) e)) closed-nil
    go (Waiting k root) e = redo-closed img k root (tape_of way img) (recovery-redo way img k root e)
    go (Ready root) e = subst Closed (sym (ap (recovery_tape way img) e)) closed-nil

-- a recovery that is done leaves the replayed image
pub recovery-run : {t : List Rec} (way : Way) (img : List ℕ) → Holds t img → after img (tape_of way img) ≡ replay img
recovery-run way img h = go (cases img h.is_replayable)
  where
    go : Cases img → after img (tape_of way img) ≡ replay img
    go (inl e) = ap (after img) (e.1 way) ∙ after-nil img ∙ sym e.0
    go (inr (k, root, w)) = redo-run img k root w (tape_of way img) (recovery-redo way img k root w.zero)

-- cut anywhere, it leaves an image with the same replayed image
pub recovery-recovers : {t : List Rec} (way : Way) (img : List ℕ) (f : ℕ → ℕ) (c : ℕ) → Holds t img → Recovers img (cut_image img f c (tape_of way img))
recovery-recovers way img f c h = go (cases img h.is_replayable)
  where
    go : Cases img → Recovers img (cut_image img f c (tape_of way img))
    go (inl e) = subst (Recovers img) (sym (ap (cut_image img f c) (e.1 way) ∙ cut-nil img f c)) (record { still = h.is_replayable; same = refl })
    go (inr (k, root, w)) = redo-cut img k root w (tape_of way img) (recovery-redo way img k root w.zero) h f c

pub recovery-cut : {t : List Rec} (way : Way) (img : List ℕ) (f : ℕ → ℕ) (c : ℕ) → Holds t img → Holds t (cut_image img f c (tape_of way img))
recovery-cut way img f c h = recovers-holds img (cut_image img f c (tape_of way img)) h (recovery-recovers way img f c h)
