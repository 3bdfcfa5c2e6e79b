-- The calls' definitions by their grounds, each exactly where it holds.
-- Assumes nothing.
use Rattle.std.specs.Prelude.{Err, Ok, Result}
use Prim.Native.Nat.{ℕ, ◌*◌, ◌/◌, ◌%◌, ◌≤◌, ◌<◌}
use mathlib.Core.Path.{◌≡◌, refl, sym, ap, ◌∙◌, subst}
use mathlib.Core.Bool.{Bool, true, false, ◌&&◌}
use mathlib.Core.Logic.{◌⊎◌, inl, inr}
use mathlib.Core.List.{List, [], ◌∷◌}
use native.Mathlib.Omega.{arith}
use lib.ListN.{length, get_or}
use lib.Dec.{leb, ltb, eqb}
use borrow.Author.Tests.{leb-true, leb-false, le-leb, lt-leb, ltb-true, ltb-false, lt-ltb, le-ltb, eqb-true, eqb-false, eq-eqb, ne_eqb}
use Rattle.codec.proofs.Tests.{second}
use Rattle.device.specs.Tape.{decode, well_formed}
use Rattle.device.specs.Calls.{refusal, is_image_size}
use Rattle.device.specs.declared.Refusal.{Refusal}
use Rattle.device.proofs.Calls.{image-size-le}
use Rattle.cuts.specs.All.{cuts}
use Rattle.cuts.specs.Calls.{unless, most_commands, small_tape, cuts_of, count_call, nth_of, Given, with_cut, nth_call}
use Rattle.cuts.specs.Products.{cuts_over}
use Rattle.cuts.specs.Says.{Small, NotSmall, bad-size, bad-tape, long-tape, CountSays, count-refused, count-given, NthSays, nth-refused, bad-choices, no-such-cut, nth-given}
use Rattle.cuts.proofs.Listed.{listed-some}

-- an image is whole lines
pub whole-lines : (n : ℕ) → is_image_size n ≡ true → (64 * (n / 64) ≡ n) × (n / 64 ≤ 1024)
whole-lines n e =
    let pages : n % 1024 ≡ 0 = eqb-true (n % 1024) 0 (second (leb n 65536) (eqb (n % 1024) 0) (second (leb 8192 n) (leb n 65536 && eqb (n % 1024) 0) e)) in
    (omega arith, omega (arith, image-size-le n e))

-- ---- cut number r of a list

module _ (all : List (List ℕ)) (r : ℕ) where
  -- the first number of a listed cut is its count of commands
  pub found-cut : (c : ℕ) (bytes : List ℕ) → r < length all → get_or all r [] ≡ c ∷ bytes → nth_of all r ≡ Ok c
  unfolding nth_of unless
  found-cut c bytes h e = rw (lt-ltb r (length all) h, e)

  pub no_cut : length all ≤ r → nth_of all r ≡ Err (refusal 18)
  unfolding nth_of unless
  no_cut h = rw (le-ltb r (length all) h)

  -- the answer stays, with a cut beside it or without
  with-answer : (room : List ℕ) (a : Result ℕ Refusal) → (with_cut all r room a).answer ≡ a
  with-answer room (Ok c) = refl
  with-answer room (Err k) = refl

-- what a call is said to do, in two parts
pub said : (call done : Given) → call ≡ done → (done.answer ≡ call.answer) × (done.choices ≡ call.choices)
said call done e = (sym (ap (λ (g : Given). g.answer) e), sym (ap (λ (g : Given). g.choices) e))

-- ---- a small tape

module _ (image tape : List ℕ) where
  pub not-small : (k : ℕ) → NotSmall image tape k → small_tape image tape ≡ Err (refusal k)
  unfolding small_tape unless
  not-small k (bad-size a) = rw a
  not-small k (bad-tape a b) = rw (a, b)
  not-small k (long-tape a b h) = rw (a, b, lt-leb (length (decode (length image) tape)) most_commands (omega arith))

  pub is-small : Small image tape → small_tape image tape ≡ Ok (length (decode (length image) tape))
  unfolding small_tape unless
  is-small s = rw (s.size, s.formed, le-leb (length (decode (length image) tape)) most_commands (omega (arith, s.few)))

  either : Small image tape ⊎ ((k : ℕ) × NotSmall image tape k)
  either = go (is_image_size (length image)) refl (well_formed (decode (length image) tape)) refl (leb (length (decode (length image) tape)) 12) refl
    where
      n : ℕ
      n = length (decode (length image) tape)

      go : (a : Bool) → is_image_size (length image) ≡ a → (b : Bool) → well_formed (decode (length image) tape) ≡ b → (d : Bool) → leb (length (decode (length image) tape)) 12 ≡ d →
          Small image tape ⊎ ((k : ℕ) × NotSmall image tape k)
      go false e b f d g = inr (1, bad-size e)
      go true e false f d g = inr (14, bad-tape e f)
      go true e true f false g = inr (17, long-tape e f (leb-false n 12 g))
      go true e true f true g = inl (record { size = e; formed = f; few = leb-true n 12 g })

  -- what the code of both calls asks first
  pub small_is : (k : ℕ) → small_tape image tape ≡ Ok k → Small image tape × (k ≡ length (decode (length image) tape))
  small_is k e = go either
    where
      go : Small image tape ⊎ ((j : ℕ) × NotSmall image tape j) → Small image tape × (k ≡ length (decode (length image) tape))
      go (inl s) = (s, same (sym e ∙ is-small s))
        where
          same : {i j : ℕ} → ◌≡◌ {A = Result ℕ Refusal} (Ok i) (Ok j) → i ≡ j
          same q = cc
      go (inr (j, f)) = absurd (apart (sym (not-small j f) ∙ e))
        where
          apart : ◌≡◌ {A = Result ℕ Refusal} (Err (refusal j)) (Ok k) → ⊥
          apart q = let z : ◌≡◌ {A = ℕ} 0 1 = cc in omega arith

  -- ---- the counting call

  pub count-refuses : (r : Refusal) → small_tape image tape ≡ Err r → count_call image tape ≡ Err r
  unfolding count_call
  count-refuses r e = rw e

  pub says-count : (a : Result ℕ Refusal) → CountSays image tape a → count_call image tape ≡ a
  unfolding count_call
  says-count a (count-refused k f) = rw (not-small k f)
  says-count a (count-given s) = rw (is-small s)

  pub count-says : CountSays image tape (count_call image tape)
  count-says = go either
    where
      go : Small image tape ⊎ ((k : ℕ) × NotSmall image tape k) → CountSays image tape (count_call image tape)
      go (inl s) = subst (CountSays image tape) (sym (says-count _ (count-given s))) (count-given s)
      go (inr (k, f)) = subst (CountSays image tape) (sym (says-count _ (count-refused k f))) (count-refused k f)

  -- ---- the other

  module _ (r : ℕ) (room : List ℕ) where
    pub nth-refuses : (k : Refusal) → small_tape image tape ≡ Err k → nth_call image tape r room ≡ record { answer = Err k; choices = room }
    unfolding nth_call
    nth-refuses k e = rw e

    -- with a small tape and the right room, the cut decides
    nth-decides : Small image tape → length room ≡ length image / 64 → nth_call image tape r room ≡ with_cut (cuts_of image tape) r room (nth_of (cuts_of image tape) r)
    unfolding nth_call unless
    nth-decides s e = rw (is-small s, eq-eqb (length room) (length image / 64) e)

    -- the same over the room's lines
    pub nth-over : Small image tape → length room ≡ length image / 64 → (a : Result ℕ Refusal) → a ≡ nth_of (cuts_over (length room) tape) r →
        (a ≡ (nth_call image tape r room).answer) × ((with_cut (cuts_over (length room) tape) r room a).choices ≡ (nth_call image tape r room).choices)
    nth-over s e a h =
        let all = cuts_over (length room) tape in
        let same : cuts_of image tape ≡ all = sym (ap (λ (n : ℕ). cuts_over n tape) e ∙ ap (λ (n : ℕ). cuts (length image / 64) (decode n tape)) (whole-lines (length image) s.size).0) in
        let two = said _ _ (nth-decides s e ∙ ap (λ (x : List (List ℕ)). with_cut x r room (nth_of x r)) same ∙ ap (with_cut all r room) (sym h)) in
        (sym (with-answer all r room a) ∙ two.0, two.1)

    pub says-nth : (g : Given) → NthSays image tape r room g → nth_call image tape r room ≡ g
    unfolding nth_call unless
    says-nth g (nth-refused k f) = nth-refuses (refusal k) (not-small k f)
    says-nth g (bad-choices s h) = rw (is-small s, ne_eqb (length room) (length image / 64) h)
    says-nth g (no-such-cut s e h) = nth-decides s e ∙ rw (no_cut (cuts_of image tape) r h)
    says-nth g (nth-given s e c bytes l) = nth-decides s e ∙ rw (found-cut (cuts_of image tape) r c bytes l.below l.is, l.is)

    pub nth-says : NthSays image tape r room (nth_call image tape r room)
    nth-says = go either
      where
        told : (g : Given) → NthSays image tape r room g → NthSays image tape r room (nth_call image tape r room)
        told g s = subst (NthSays image tape r room) (sym (says-nth g s)) s

        go : Small image tape ⊎ ((k : ℕ) × NotSmall image tape k) → NthSays image tape r room (nth_call image tape r room)
        go (inr (k, f)) = told _ (nth-refused k f)
        go (inl s) = sized (eqb (length room) (length image / 64)) refl (ltb r (length (cuts_of image tape))) refl
          where
            sized : (a : Bool) → eqb (length room) (length image / 64) ≡ a → (b : Bool) → ltb r (length (cuts_of image tape)) ≡ b → NthSays image tape r room (nth_call image tape r room)
            sized false e b f = told _ (bad-choices s (eqb-false (length room) (length image / 64) e))
            sized true e false f = told _ (no-such-cut s (eqb-true (length room) (length image / 64) e) (ltb-false r (length (cuts_of image tape)) f))
            sized true e true f =
                let it = listed-some (length image / 64) (decode (length image) tape) r (ltb-true r (length (cuts_of image tape)) f) in
                told _ (nth-given s (eqb-true (length room) (length image / 64) e) it.0 it.1 it.2)
