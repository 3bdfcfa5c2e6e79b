-- One turn of each loop over the tape, over plain lists.
-- Assumes nothing.
use Prim.Native.Nat.{ℕ, zero, suc, ◌+◌, ◌-◌, ◌*◌, ◌/◌, ◌≤◌, ◌<◌}
use mathlib.Core.Path.{◌≡◌, refl, sym, ap, ◌∙◌, fun_ext}
use mathlib.Core.Bool.{Bool, true, false, ◌||◌}
use mathlib.Core.List.{List, ◌∷◌}
use native.Mathlib.Omega.{arith}
use lib.ListN.{length, get_or, set, take, drop}
use lib.Seq.{sets, get_or-set_same, get_or-set_other}
use lib.Dec.{ltb, eqb}
use borrow.Author.Tests.{eqb-true, eqb-false}
use Rattle.codec.specs.Lists.{pick, part, splice}
use Rattle.codec.specs.Numbers.{number}
use Rattle.codec.proofs.Lists.{length_part, splice-sets}
use Rattle.device.specs.Tape.{Op, store, flush, barrier, is_command, front, extent, decode, well_formed}
use Rattle.device.specs.Cut.{after, line_of, durable, less, cons_if, kept, cut_image}
use Rattle.device.specs.Counts.{finished, flush_end, flush_done, note_flush, Kept}
use Rattle.device.proofs.Decode.{StoreAt, QuietAt, quiet_of, quiet_all, quiet_at, quiet-kind, word_at, line_at, store-good, quiet-good, more-at, good-command, head_at}
use Rattle.device.proofs.Counts.{On, Noting, noting-next, noting-rest, Noted, noted-start, noted-test, noted-next}

-- ---- play

-- one store of a tape, made, and then the others
pub play-store : (n : ℕ) (t : List ℕ) (at p s : ℕ) (w v : List ℕ) → StoreAt n t at p s → length w ≡ n → v ≡ splice w p (part t (at + 4) s) →
    after v (decode n (drop (at + (4 + s)) t)) ≡ after w (decode n (drop at t))
unfolding after
play-store n t at p s w v k e f =
    let fits : p + length (part t (at + 4) s) ≤ length w = omega (arith, k.in_image, k.in_tape, length_part t (at + 4) s (omega arith)) in
    ap (λ (x : List ℕ). after x (decode n (drop (at + (4 + s)) t))) (f ∙ splice-sets w p (part t (at + 4) s) fits) ∙ sym (ap (after w) k.next)

pub play-quiet : (n : ℕ) (t : List ℕ) (at place : ℕ) (w : List ℕ) → QuietAt n t at place → after w (decode n (drop (at + 4) t)) ≡ after w (decode n (drop at t))
unfolding after
play-quiet n t at place w k =
    sym (ap (after w) k.next ∙ quiet_all (λ (o : Op). after w (o ∷ decode n (drop (at + 4) t)) ≡ after w (decode n (drop (at + 4) t))) (get_or t at 0) place refl refl)

-- ---- the command at a place

-- what is no store, by its kind
quiet : (kind place : ℕ) → (3 ≤ kind) × (kind ≤ 4) → On (quiet_of kind place) place kind
unfolding quiet_of
quiet kind place h = go (eqb kind 3) refl
  where
    go : (b : Bool) → eqb kind 3 ≡ b → On (pick b (flush place) barrier) place kind
    go true e = (refl, eqb-true kind 3 e)
    go false e = omega (arith, eqb-false kind 3 e)

module _ (n at : ℕ) (t : List ℕ) (h : at < length t) (is : is_command n (drop at t) ≡ true) where
  -- its place and its kind
  pub on-at : On (front n (drop at t)) (number (part t (at + 2) 2)) (get_or t at 0)
  on-at = go (eqb (get_or t at 0) 1) refl (eqb (get_or t at 0) 2) refl
    where
      go : (a : Bool) → eqb (get_or t at 0) 1 ≡ a → (b : Bool) → eqb (get_or t at 0) 2 ≡ b → On (front n (drop at t)) (number (part t (at + 2) 2)) (get_or t at 0)
      go true e b f = let kind = eqb-true (get_or t at 0) 1 e in rw (word_at n at t h is _ refl kind).says (omega arith)
      go false e true f = let kind = eqb-true (get_or t at 0) 2 f in rw (line_at n at t h is _ refl kind).says (omega arith)
      go false e false f =
          let a = eqb-false (get_or t at 0) 1 e in
          let b = eqb-false (get_or t at 0) 2 f in
          rw (quiet_at n at t h is _ refl a b).says (quiet (get_or t at 0) (number (part t (at + 2) 2)) (quiet-kind n at t h is a b))

  -- a flush names a line of the image
  pub flush-inside : get_or t at 0 ≡ 3 → 64 * number (part t (at + 2) 2) < n
  flush-inside e = let k = quiet_at n at t h is _ refl (λ q. omega arith) (λ q. omega arith) in omega (arith, k.in_image e)

take-some : (k : ℕ) (o : Op) (cs : List Op) → 0 < k → take k (o ∷ cs) ≡ o ∷ take (k - 1) cs
take-some zero o cs h = absurd (omega arith)
take-some (suc k) o cs h = let e : suc k - 1 ≡ k = omega arith in rw e

-- ---- judge

-- one command is noted before the cut, and none past it
module _ (c count : ℕ) (o : Op) (ds cs all : List Op) (flushes : List ℕ) (fence at size : ℕ) (e : ds ≡ o ∷ cs) (n : Noting flushes fence at (take (c - count) ds) all) where
  pub judge-before : (next : List ℕ) (fence' place kind : ℕ) → count < c → On o place kind → (kind ≡ 3 → place < length flushes / 2) → fence' ≡ pick (eqb kind 4) (at + 4) fence →
      next ≡ pick (eqb kind 3) (note_flush flushes fence place (at + 4)) flushes → size ≡ extent o → Noting next fence' (at + size) (take (c - (count + 1)) cs) all
  judge-before next fence' place kind less on fits f g s =
      let k : c - count - 1 ≡ c - (count + 1) = omega arith in
      let rest : take (c - count) ds ≡ o ∷ take (c - (count + 1)) cs = ap (take (c - count)) e ∙ take-some (c - count) o cs (omega arith) ∙ ap (λ (m : ℕ). o ∷ take m cs) k in
      rw s (noting-next flushes next fence fence' at o (take (c - (count + 1)) cs) all place kind on fits g f (rw rest at n))

  pub judge-past : c ≤ count → Noting flushes fence (at + size) (take (c - (count + 1)) cs) all
  judge-past past =
      let a : c - (count + 1) ≡ 0 = omega arith in
      let b : c - count ≡ 0 = omega arith in
      rw a (noting-rest flushes fence at size all (rw b at n))

-- ---- replay

-- the choices that a list holds, with one less at line m
less-set : (left : List ℕ) (m : ℕ) → m < length left → (λ (l : ℕ). get_or (set left m (get_or left m 0 - 1)) l 0) ≡ less (λ (l : ℕ). get_or left l 0) m
less-set left m h = fun_ext (λ l. go l (eqb l m) refl)
  where
    go : (l : ℕ) (b : Bool) → eqb l m ≡ b → get_or (set left m (get_or left m 0 - 1)) l 0 ≡ pick b (get_or left l 0 - 1) (get_or left l 0)
    go l true e = rw (eqb-true l m e) (get_or-set_same left m (get_or left m 0 - 1) 0 h)
    go l false e = get_or-set_other left m l (get_or left m 0 - 1) 0 (eqb-false l m e)

-- a store that is kept or not, by whether its line is flushed later, which `flushes` says
kept_store : (work left : List ℕ) (p m : ℕ) (vs : List ℕ) (cs : List Op) (flushes : Bool) → line_of p ≡ m → m < length left → durable m cs ≡ flushes →
    after (pick (flushes || ltb 0 (get_or left m 0)) (sets work p vs) work) (kept (λ (l : ℕ). get_or (pick flushes left (set left m (get_or left m 0 - 1))) l 0) cs)
    ≡ after work (kept (λ (l : ℕ). get_or left l 0) (store p vs ∷ cs))
unfolding after kept
kept_store work left p m vs cs true line h e = rw (line, e)
kept_store work left p m vs cs false line h e =
    rw (line, e) (ap (λ (g : ℕ → ℕ). after (pick (ltb 0 (get_or left m 0)) (sets work p vs) work) (kept g cs)) (less-set left m h) ∙ go (ltb 0 (get_or left m 0)) (kept (less (λ (l : ℕ). get_or left l 0) m) cs))
  where
    go : (b : Bool) (ds : List Op) → after (pick b (sets work p vs) work) ds ≡ after work (cons_if b (store p vs) ds)
    go true ds = refl
    go false ds = refl

module _ (n : ℕ) (t : List ℕ) (at k : ℕ) (some : 0 < k) (lines : ℕ) (done : ℕ → ℕ) (noted : (l : ℕ) → l < lines → Noted (done l) at (finished (take k (decode n (drop at t)))) l) where
  module _ (p s : ℕ) (r : StoreAt n t at p s) where
    store-next : take k (decode n (drop at t)) ≡ store p (part t (at + 4) s) ∷ take (k - 1) (decode n (drop (at + (4 + s)) t))
    store-next = ap (take k) r.next ∙ take-some k (store p (part t (at + 4) s)) (decode n (drop (at + (4 + s)) t)) some

    store-size : length (part t (at + 4) s) ≡ s
    store-size = length_part t (at + 4) s (omega (arith, r.in_tape))

    replay-store : (m : ℕ) (work left work' left' : List ℕ) → line_of p ≡ m → length work ≡ n → m < lines → m < length left → Kept work left (done m) at m p (part t (at + 4) s) work' left' →
        after work' (kept (λ (l : ℕ). get_or left' l 0) (take (k - 1) (decode n (drop (at + (4 + s)) t)))) ≡ after work (kept (λ (l : ℕ). get_or left l 0) (take k (decode n (drop at t))))
    unfolding durable
    replay-store m work left work' left' line e inside h q =
        let vs = part t (at + 4) s in
        let cs = take (k - 1) (decode n (drop (at + (4 + s)) t)) in
        let counts : List ℕ → ℕ → ℕ = λ x l. get_or x l 0 in
        let fits : p + length vs ≤ length work = omega (arith, store-size, r.in_image) in
        let test : durable m cs ≡ ltb at (done m) = ap (durable m) (sym store-next) ∙ noted-test (done m) at (take k (decode n (drop at t))) m (noted m inside) in
        let made : work' ≡ pick (ltb at (done m) || ltb 0 (get_or left m 0)) (sets work p vs) work =
        q.made ∙ ap (λ (x : List ℕ). pick (ltb at (done m) || ltb 0 (get_or left m 0)) x work) (splice-sets work p vs fits) in
        ap (λ (w : List ℕ). after w (kept (counts left') cs)) made
        ∙ ap (λ (x : List ℕ). after (pick (ltb at (done m) || ltb 0 (get_or left m 0)) (sets work p vs) work) (kept (counts x) cs)) q.counted
        ∙ kept_store work left p m vs cs (ltb at (done m)) line h test
        ∙ sym (ap (λ (ds : List Op). after work (kept (counts left) ds)) store-next)

    noted-past-store : (l : ℕ) → l < lines → Noted (done l) (at + (4 + s)) (finished (take (k - 1) (decode n (drop (at + (4 + s)) t)))) l
    noted-past-store l h =
        let cs = take (k - 1) (decode n (drop (at + (4 + s)) t)) in
        let here : Noted (done l) at (finished (store p (part t (at + 4) s) ∷ cs)) l = rw store-next at (noted l h) in
        rw store-size at (noted-next (done l) at (store p (part t (at + 4) s)) cs l here)

  module _ (place : ℕ) (r : QuietAt n t at place) where
    quiet_next : take k (decode n (drop at t)) ≡ quiet_of (get_or t at 0) place ∷ take (k - 1) (decode n (drop (at + 4) t))
    quiet_next = ap (take k) r.next ∙ take-some k (quiet_of (get_or t at 0) place) (decode n (drop (at + 4) t)) some

    replay-quiet : (work left : List ℕ) →
        after work (kept (λ (l : ℕ). get_or left l 0) (take (k - 1) (decode n (drop (at + 4) t)))) ≡ after work (kept (λ (l : ℕ). get_or left l 0) (take k (decode n (drop at t))))
    unfolding kept
    replay-quiet work left =
        let f : ℕ → ℕ = λ l. get_or left l 0 in
        let cs = take (k - 1) (decode n (drop (at + 4) t)) in
        sym
        (ap (λ (ds : List Op). after work (kept f ds)) quiet_next
        ∙ quiet_all (λ (o : Op). after work (kept f (o ∷ cs)) ≡ after work (kept f cs)) (get_or t at 0) place refl refl)

    noted-past-quiet : (l : ℕ) → l < lines → Noted (done l) (at + 4) (finished (take (k - 1) (decode n (drop (at + 4) t)))) l
    noted-past-quiet l h =
        let o = quiet_of (get_or t at 0) place in
        let cs = take (k - 1) (decode n (drop (at + 4) t)) in
        let here : Noted (done l) at (finished (o ∷ cs)) l = rw quiet_next at (noted l h) in
        rw (quiet_all (λ (x : Op). extent x ≡ 4) (get_or t at 0) place refl refl) at (noted-next (done l) at o cs l here)

-- from `at` of the tape k commands are left; what is kept of them, made over `work`, is the whole
pub record Replaying (n : ℕ) (t : List ℕ) (lines : ℕ) (done : ℕ → ℕ) (whole : List ℕ) (at k : ℕ) (work left : List ℕ) : Type 0 where
  pub in_tape : at ≤ length t
  pub formed : well_formed (decode n (drop at t)) ≡ true
  pub enough : k ≤ length (decode n (drop at t))
  pub noted : (l : ℕ) → l < lines → Noted (done l) at (finished (take k (decode n (drop at t)))) l
  pub comes : after work (kept (λ (l : ℕ). get_or left l 0) (take k (decode n (drop at t)))) ≡ whole

pub replaying-start : (n : ℕ) (t : List ℕ) (lines : ℕ) (flushes : List ℕ) (fence c k : ℕ) (work left : List ℕ) → k ≡ c → well_formed (decode n t) ≡ true → c ≤ length (decode n t) →
    ((l : ℕ) → l < lines → flush_done flushes fence l ≡ flush_end l 0 (finished (take c (decode n t)))) →
    Replaying n t lines (flush_done flushes fence) (cut_image work (λ (l : ℕ). get_or left l 0) c (decode n t)) 0 k work left
unfolding cut_image
replaying-start n t lines flushes fence c k work left e formed enough tells =
    rw e (record { in_tape = omega arith; formed = formed; enough = enough; noted = λ l h. noted-start (flush_done flushes fence l) (finished (take c (decode n t))) l (tells l h); comes = refl })

module _ {n : ℕ} {t : List ℕ} {lines : ℕ} {done : ℕ → ℕ} {whole : List ℕ} {at k : ℕ} {work left : List ℕ} (R : Replaying n t lines done whole at k work left) where
  pub replaying-end : k ≡ 0 → work ≡ whole
  unfolding after kept
  replaying-end e = sym (ap (λ (j : ℕ). after work (kept (λ (l : ℕ). get_or left l 0) (take j (decode n (drop at t))))) e) ∙ R.comes

  -- a command stands there
  module _ (some : 0 < k) where
    pub replaying-more : at < length t
    replaying-more = more-at n at t (omega (arith, R.enough))

    replaying-here : is_command n (drop at t) ≡ true
    replaying-here = good-command n at t replaying-more R.formed

    pub replaying-head : at + 4 ≤ length t
    replaying-head = head_at n at t replaying-more replaying-here

    module _ (place : ℕ) (e : place ≡ number (part t (at + 2) 2)) where
      pub replaying-word : get_or t at 0 ≡ 1 → StoreAt n t at (8 * place) 8
      replaying-word = word_at n at t replaying-more replaying-here place e

      pub replaying-line : get_or t at 0 ≡ 2 → StoreAt n t at (64 * place) 64
      replaying-line = line_at n at t replaying-more replaying-here place e

      pub replaying-other : (get_or t at 0 ≡ 1 → ⊥) → (get_or t at 0 ≡ 2 → ⊥) → QuietAt n t at place
      replaying-other = quiet_at n at t replaying-more replaying-here place e

  -- what is left once it is made
  module _ (some : 0 < k) (j : ℕ) (less : j ≡ k - 1) (at' : ℕ) (work' left' : List ℕ) where
    pub replaying-store : (p s : ℕ) → StoreAt n t at p s → at' ≡ at + (4 + s) → (m : ℕ) → line_of p ≡ m → length work ≡ n → m < lines → m < length left → Kept work left (done m) at m p (part t (at + 4) s) work' left' →
        Replaying n t lines done whole at' j work' left'
    replaying-store p s r e m line long inside h q =
        rw (e, less)
        (record {
          in_tape = r.in_tape;
          formed = store-good n t at p s r R.formed;
          enough = omega (arith, R.enough, ap length r.next);
          noted = noted-past-store n t at k some lines done R.noted p s r;
          comes = replay-store n t at k some lines done R.noted p s r m work left work' left' line long inside h q ∙ R.comes;
        })

    pub replaying-quiet : (place : ℕ) → QuietAt n t at place → at' ≡ at + 4 → work' ≡ work → left' ≡ left → Replaying n t lines done whole at' j work' left'
    replaying-quiet place r e f g =
        rw (e, less, f, g)
        (record {
          in_tape = r.in_tape;
          formed = quiet-good n t at place r R.formed;
          enough = omega (arith, R.enough, ap length r.next);
          noted = noted-past-quiet n t at k some lines done R.noted place r;
          comes = replay-quiet n t at k some lines done R.noted place r work left ∙ R.comes;
        })
