-- What follows a mark: run, it leaves the replayed image; cut anywhere, an image with the same replayed image.
-- Assumes nothing.
use Prim.Native.Nat.{ℕ, zero, suc, ◌+◌, ◌-◌, ◌≤◌}
use mathlib.Core.Path.{◌≡◌, refl, sym, ap, ◌∙◌, subst}
use mathlib.Core.Logic.{◌⊎◌, inl, inr}
use mathlib.Core.Bool.{Bool, true, false}
use mathlib.Core.List.{List, [], ◌∷◌}
use native.Mathlib.Decide.{dec_le}
use native.Mathlib.Omega.{arith}
use lib.ListN.{length, get_or, take}
use lib.Seq.{sets, length-sets, take-nil}
use Rattle.codec.specs.Lists.{part, All}
use Rattle.codec.specs.Numbers.{bytes_of}
use Rattle.codec.proofs.Tests.{eqs-true}
use Rattle.codec.proofs.Lists.{sets-apart}
use Rattle.codec.proofs.Numbers.{length-bytes_of}
use Rattle.codec.proofs.Agree.{part-sets, part-agree}
use Rattle.device.specs.Tape.{Op, store}
use Rattle.device.specs.Cut.{after, cut_image, touches, Closed, stores, To}
use Rattle.device.proofs.Clauses.{after-nil, after_store}
use Rattle.device.proofs.Cuts.{length-after, after-append, after-stores, length_cut}
use Rattle.device.proofs.Segments.{run-other, cut-untouched, cut-early, cut-late, closed-append}
use Rattle.device.proofs.Stores.{touches-stores, cut-first}
use Rattle.device.proofs.Writing.{sets-stands}
use Rattle.page.specs.Layout.{Rec}
use Rattle.image.specs.PageZero.{no_mark}
use Rattle.image.proofs.Zero.{size-true}
use Rattle.journal.specs.Log.{header_stores, end_stores}
use Rattle.journal.specs.Recovery.{logged, root_is}
use Rattle.journal.specs.Holds.{replay, Waits, Holds}
use Rattle.journal.specs.Safe.{Redo}
use Rattle.journal.specs.declared.Way.TheVariants.{ByLine}
use Rattle.journal.proofs.Standing.{Standing, end-sets, waits-long, logged-lines, logged-outside, replay-after}
use Rattle.journal.proofs.Holds.{sound-replay, holds-sound, holds-size, Recovers, standing-recovers}
use Rattle.journal.proofs.Headers.{headers-same, headers-touches}

-- the end's stores go to line 0
pub end_line : (same : Bool) (root : ℕ) → All (To 0) (end_stores same root)
end_line true root = (refl, tt)
end_line false root = (refl, (refl, tt))

module _ (b : List ℕ) (k root : ℕ) (w : Waits b k root) (cs : List Op) (r : Redo b k root cs) where
  abbrev hs : List (List ℕ)
  hs = logged k b

  -- the headers in
  abbrev x : List ℕ
  x = after b (header_stores ByLine hs)

  headers-left : after b r.headers ≡ x
  headers-left = sym (after-stores b r.headers) ∙ headers-same hs (stores r.headers) b (logged-lines b k root w) r.headers_in

  headers-other : (i : ℕ) → touches (header_stores ByLine hs) i ≡ false → touches r.headers i ≡ false
  headers-other i t = sym (touches-stores r.headers i) ∙ headers-touches hs (stores r.headers) i (logged-lines b k root w) r.headers_in ∙ t

  length-x : length x ≡ length b
  length-x = length-after b (header_stores ByLine hs)

  root_fits : 8 + length (bytes_of 8 root) ≤ length x
  root_fits = omega (arith, length-bytes_of 8 root, length-x, waits-long b k root w)

  -- ---- images that stand: some of the headers in, and the root too

  headers-stand : (y : List ℕ) → length y ≡ length b → ((i : ℕ) → touches (header_stores ByLine hs) i ≡ false → get_or y i 0 ≡ get_or b i 0) → Standing b y k root
  headers-stand y l h =
      record {
        same_length = l;
        elsewhere = λ i t o. h i t;
        root_word = inl (sym (part-agree y b 8 8 l (λ i p q. h i (logged-outside b k root w i (omega arith)))));
      }

  x-stands : Standing b x k root
  x-stands = headers-stand x length-x (λ i t. run-other b (header_stores ByLine hs) i t)

  root_stands : Standing b (sets x 8 (bytes_of 8 root)) k root
  root_stands =
      record {
        same_length = length-sets x 8 (bytes_of 8 root) ∙ length-x;
        elsewhere = λ i t o. sets-apart x 8 (bytes_of 8 root) i (rw (length-bytes_of 8 root) o) ∙ run-other b (header_stores ByLine hs) i t;
        root_word = inr (part-sets x 8 (bytes_of 8 root) 8 (length-bytes_of 8 root) (omega (arith, root_fits, length-bytes_of 8 root)));
      }

  -- ---- the end: a first part of its stores

  -- all of them, with the root word; and without it, if it does not differ
  with_root : after x (end_stores false root) ≡ replay b
  with_root = sym (after-append b (header_stores ByLine hs) (end_stores false root)) ∙ sym (replay-after b k root w)

  end-run : (same : Bool) → root_is b root ≡ same → after x (end_stores same root) ≡ replay b
  end-run false e = with_root
  end-run true e =
      let word : part x 8 8 ≡ part b 8 8 = sym (part-agree x b 8 8 length-x (λ i p q. run-other b (header_stores ByLine hs) i (logged-outside b k root w i (omega arith)))) in
      let stands : sets x 8 (bytes_of 8 root) ≡ x = sets-stands x 8 (bytes_of 8 root) root_fits (ap (part x 8) (length-bytes_of 8 root) ∙ word ∙ eqs-true (part b 8 8) (bytes_of 8 root) e) in
      after_store 0 no_mark [] x
      ∙ after-nil (sets x 0 no_mark)
      ∙ ap (λ (y : List ℕ). sets y 0 no_mark) (sym stands)
      ∙ sym (end-sets x root)
      ∙ with_root

  -- what a cut leaves: an image that stands, or the replayed one
  abbrev Left : List ℕ → Type 0
  Left y = Standing b y k root ⊎ (y ≡ replay b)

  end-part : (same : Bool) → root_is b root ≡ same → (m : ℕ) → Left (after x (take m (end_stores same root)))
  end-part same e zero = inl (subst (λ (y : List ℕ). Standing b y k root) (sym (after-nil x)) x-stands)
  end-part true e (suc m) = inr (ap (λ (ds : List Op). after x (store 0 no_mark ∷ ds)) (take-nil {A = Op} m) ∙ end-run true e)
  end-part false e (suc zero) =
      inl (subst (λ (y : List ℕ). Standing b y k root) (sym (after_store 8 (bytes_of 8 root) [] x ∙ after-nil (sets x 8 (bytes_of 8 root)))) root_stands)
  end-part false e (suc (suc m)) = inr (ap (λ (ds : List Op). after x (store 8 (bytes_of 8 root) ∷ store 0 no_mark ∷ ds)) (take-nil {A = Op} m) ∙ end-run false e)

  -- ---- run

  pub redo-run : after b cs ≡ replay b
  redo-run =
      ap (after b) r.shape
      ∙ after-append b r.headers r.ending
      ∙ ap (λ (y : List ℕ). after y r.ending) headers-left
      ∙ sym (after-stores x r.ending)
      ∙ ap (after x) r.ends
      ∙ end-run (root_is b root) refl

  -- ---- cut before the headers are durable, and later

  cut-headers : (f : ℕ → ℕ) (c : ℕ) → c ≤ length r.headers → Left (cut_image b f c cs)
  cut-headers f c q =
      subst Left (sym (ap (cut_image b f c) r.shape ∙ cut-early b f c r.headers r.ending q))
      (inl (headers-stand (cut_image b f c r.headers) (length_cut b f c r.headers) (λ i t. cut-untouched b f c r.headers i (headers-other i t))))

  cut-ending : (f : ℕ → ℕ) (d : ℕ) → Left (cut_image b f (length r.headers + d) cs)
  cut-ending f d =
      let m = cut-first x f d 0 r.ending (subst (All (To 0)) (sym r.ends) (end_line (root_is b root) root)) in
      let e =
      ap (cut_image b f (length r.headers + d)) r.shape
      ∙ cut-late b f d r.headers r.ending r.headers_durable
      ∙ ap (λ (y : List ℕ). cut_image y f d r.ending) headers-left
      ∙ m.1
      ∙ ap (λ (es : List Op). after x (take m.0 es)) r.ends in
      subst Left (sym e) (end-part (root_is b root) refl m.0)

  cut_left : (f : ℕ → ℕ) (c : ℕ) → Left (cut_image b f c cs)
  cut_left f c = go (dec_le c (length r.headers))
    where
      go : Dec (c ≤ length r.headers) → Left (cut_image b f c cs)
      go (yes q) = cut-headers f c q
      go (no q) =
          let e : length r.headers + (c - length r.headers) ≡ c = omega arith in
          subst (λ (n : ℕ). Left (cut_image b f n cs)) e (cut-ending f (c - length r.headers))

  pub redo-cut : {t : List Rec} → Holds t b → (f : ℕ → ℕ) (c : ℕ) → Recovers b (cut_image b f c cs)
  redo-cut h f c = go (cut_left f c)
    where
      go : Left (cut_image b f c cs) → Recovers b (cut_image b f c cs)
      go (inl s) = standing-recovers b (cut_image b f c cs) k root (size-true (length b) (holds-size b h)) w s
      go (inr e) =
          let s = h.is_sound in
          subst (Recovers b) (sym e) (record { still = (holds-sound (replay b) s).is_replayable; same = sound-replay (replay b) s })

-- nothing is pending at its end
pub redo-closed : (b : List ℕ) (k root : ℕ) (cs : List Op) → Redo b k root cs → Closed cs
redo-closed b k root cs r = subst Closed (sym r.shape) (closed-append r.headers r.ending r.headers_durable r.end_durable)
