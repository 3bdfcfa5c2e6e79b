-- The replayed image of a waiting mark: page 0 has mark 0 and the new root, so that its tree alone decides whether it is sound.
-- Assumes nothing.
use Prim.Native.Nat.{ℕ, ◌+◌, ◌≤◌, ◌<◌}
use mathlib.Core.Path.{◌≡◌, sym, ap, ◌∙◌}
use mathlib.Core.Bool.{true}
use mathlib.Core.List.{List}
use native.Mathlib.Omega.{arith}
use lib.ListN.{length, get_or}
use Rattle.codec.specs.Lists.{part, splice}
use Rattle.codec.specs.Numbers.{number, bytes_of}
use Rattle.codec.proofs.Lists.{length-splice, part-splice-same, part-splice-above}
use Rattle.codec.proofs.Numbers.{length-bytes_of, number-bytes_of}
use Rattle.codec.proofs.Agree.{part-agree}
use Rattle.device.specs.Calls.{is_image_size}
use Rattle.device.specs.Cut.{after}
use Rattle.device.proofs.Segments.{run-other}
use Rattle.device.proofs.Cuts.{length-after}
use Rattle.image.specs.PageZero.{page_count, is_page, root_of, no_mark, mark_bytes, page_zero}
use Rattle.image.specs.Image.{tree_ok, sound_from, sound}
use Rattle.image.specs.declared.PageZero.TheVariants.{Ready}
use Rattle.image.proofs.Zero.{size-true, facts-ready}
use Rattle.journal.specs.Log.{header_stores}
use Rattle.journal.specs.Recovery.{logged, with_headers, replayed, replay_from}
use Rattle.journal.specs.Holds.{Waits}
use Rattle.journal.specs.declared.Way.TheVariants.{ByLine}
use Rattle.journal.proofs.Headers.{headers-after}
use Rattle.journal.proofs.Standing.{marked, waits-long, logged-lines, logged-pages, logged-outside, length-replay, length-no_mark, line_other, page-small}
use Rattle.tape_write.specs.Calls.{LogWaits}

module _ (a : List ℕ) (k root : ℕ) (size : is_image_size (length a) ≡ true) (w : Waits a k root) where
  abbrev new : List ℕ
  new = replayed (logged k a) root a

  -- the image with the logged headers in their pages
  abbrev inside : List ℕ
  inside = with_headers (logged k a) a

  stored : inside ≡ after a (header_stores ByLine (logged k a))
  stored = headers-after (logged k a) a (logged-lines a k root w) (logged-pages a k root w)

  same_length : length inside ≡ length a
  same_length = ap length stored ∙ length-after a (header_stores ByLine (logged k a))

  pub length-new : length new ≡ length a
  unfolding replay_from
  length-new = ap length (sym (ap (replay_from a) w.zero)) ∙ length-replay a k root w

  -- page 0 of the headers' image is the image's
  rest-inside : part inside 16 48 ≡ part a 16 48
  rest-inside =
      sym (part-agree inside a 16 48 same_length (λ i p q.
      ap (λ (x : List ℕ). get_or x i 0) stored ∙ run-other a (header_stores ByLine (logged k a)) i (logged-outside a k root w i (omega arith))))

  -- the two words that are written after them
  abbrev rooted : List ℕ
  rooted = splice inside 8 (bytes_of 8 root)

  word : length (bytes_of 8 root) ≡ 8
  word = length-bytes_of 8 root

  root-fits : 8 + length (bytes_of 8 root) ≤ length inside
  root-fits = omega (arith, word, same_length, waits-long a k root w)

  mark-fits : 0 + length no_mark ≤ length rooted
  mark-fits = omega (arith, length-no_mark, length-splice inside 8 (bytes_of 8 root) root-fits, root-fits, word)

  new-mark : part new 0 8 ≡ no_mark
  unfolding replayed
  new-mark = part-splice-same rooted 0 no_mark mark-fits 8 length-no_mark

  new-root : part new 8 8 ≡ bytes_of 8 root
  unfolding replayed
  new-root =
      part-splice-above rooted 0 no_mark mark-fits 8 8 (omega (arith, length-no_mark))
      ∙ part-splice-same inside 8 (bytes_of 8 root) root-fits 8 word

  new-rest : part new 16 48 ≡ part a 16 48
  unfolding replayed
  new-rest =
      part-splice-above rooted 0 no_mark mark-fits 16 48 (omega (arith, length-no_mark))
      ∙ part-splice-above inside 8 (bytes_of 8 root) root-fits 16 48 (omega (arith, word))
      ∙ rest-inside

  small : root < 65536
  small = page-small (length a) root (size-true (length a) size) (marked a k root w).page

  pub new-ready : page_zero new ≡ Ready root
  unfolding root_of
  new-ready =
      let line = line_other a new (mark_bytes k root) (root_of a) (marked a k root w).line length-new new-rest no_mark root small (marked a k root w).page new-mark new-root in
      let r : root_of new ≡ root = ap number new-root ∙ number-bytes_of 8 root (omega (arith, small)) in
      facts-ready new (root_of new) line ∙ ap Ready r

  pub new-sound : sound new ≡ tree_ok new root
  unfolding sound sound_from
  new-sound = rw (length-new, size, new-ready)

  pub new-size : is_image_size (length new) ≡ true
  new-size = rw length-new size

  pub new-page : is_page (page_count new) root ≡ true
  new-page = rw length-new (marked a k root w).page

  pub log-waits : (work : List ℕ) → length work ≡ length a → LogWaits a work k
  log-waits work same =
      record {
        log = omega (arith, (marked a k root w).few, waits-long a k root w);
        high = (size-true (length a) size).high;
        same = same;
        pages = w.ok;
      }
