-- Commands on a tape: what stands at a place of it, and the commands from there on.
-- Assumes nothing.
use Prim.Native.Nat.{ℕ, zero, suc, ◌+◌, ◌*◌, ◌≤◌, ◌<◌}
use mathlib.Core.Path.{◌≡◌, refl, sym, ap, ◌∙◌}
use mathlib.Core.Bool.{Bool, true, false, true≢false}
use mathlib.Core.List.{List, [], ◌∷◌}
use native.Mathlib.Omega.{arith}
use native.Mathlib.Nat.{add-zero, not-suc-le-zero}
use lib.ListN.{length, get_or, drop, length-drop, drop_of_length-le}
use lib.Seq.{drop-drop, drop-length, get_or-drop}
use lib.Dec.{ltb, eqb}
use borrow.Author.Tests.{ltb-true, ltb-false, leb-true, le-leb, eqb-true, eqb-false, eq-eqb, ne_eqb}
use Rattle.codec.specs.Lists.{pick, part}
use Rattle.codec.specs.Numbers.{number}
use Rattle.codec.proofs.Tests.{everything, all-every}
use Rattle.codec.proofs.Tests as tests
use Rattle.codec.proofs.Lists.{length_part, part-drop}
use Rattle.codec.proofs.Numbers.{number-two}
use Rattle.device.specs.Tape.{Op, store, flush, barrier, malformed, kind_of, place_of, unit, follows, place_ok, is_command, front, extent, scan, decode, well_formed}
use Rattle.device.specs.Counts.{size_of}

-- ---- the place of a command

module _ (n kind place : ℕ) where
  -- a word or a line is not outside
  pub place_in : (kind ≡ 4 → ⊥) → place_ok n kind place ≡ true → unit kind * place + unit kind ≤ n
  unfolding place_ok
  place_in other e = leb-true _ _ (rw (ne_eqb kind 4 other) at e)

  pub in_place : (kind ≡ 4 → ⊥) → unit kind * place + unit kind ≤ n → place_ok n kind place ≡ true
  unfolding place_ok
  in_place other h = rw (ne_eqb kind 4 other) (le-leb _ _ h)

  -- "kind 4, place 0"
  place_none : kind ≡ 4 → place_ok n kind place ≡ true → place ≡ 0
  unfolding place_ok
  place_none four e = eqb-true place 0 (rw (eq-eqb kind 4 four) at e)

-- ---- the command that a tape starts with

-- what the test of a command says
pub record Stands (n : ℕ) (t : List ℕ) : Type 0 where
  pub head : 4 ≤ length t
  pub low : 1 ≤ kind_of t
  pub high : kind_of t ≤ 4
  pub second : get_or t 1 0 ≡ 0
  pub whole : 4 + follows (kind_of t) ≤ length t
  pub inside : place_ok n (kind_of t) (place_of t) ≡ true

pub command-stands : (n : ℕ) (t : List ℕ) → is_command n t ≡ true → Stands n t
unfolding is_command
command-stands n t e =
    let q = everything _ e in
    record {
      head = leb-true _ _ q.0;
      low = leb-true _ _ q.1.0;
      high = leb-true _ _ q.1.1.0;
      second = eqb-true _ _ q.1.1.1.0;
      whole = leb-true _ _ q.1.1.1.1.0;
      inside = q.1.1.1.1.1.0;
    }

pub stands-command : (n : ℕ) (t : List ℕ) → Stands n t → is_command n t ≡ true
unfolding is_command
stands-command n t s =
    all-every
    _
    (le-leb _ _ s.head, (le-leb _ _ s.low, (le-leb _ _ s.high, (eq-eqb _ _ s.second, (le-leb _ _ s.whole, (s.inside, tt))))))

pub front-kind : (n : ℕ) (t : List ℕ) (kind : ℕ) → is_command n t ≡ true → kind_of t ≡ kind →
    front n t ≡ pick (eqb kind 3) (flush (place_of t)) (pick (eqb kind 4) barrier (store (unit kind * place_of t) (part t 4 (follows kind))))
unfolding front
front-kind n t kind i k = rw (i, k)

pub front-none : (n : ℕ) (t : List ℕ) → is_command n t ≡ false → front n t ≡ malformed
unfolding front
front-none n t i = rw i

-- "14 now also for kind 4 with a place other than 0"
pub placed-barrier : (n : ℕ) (t : List ℕ) → kind_of t ≡ 4 → (place_of t ≡ 0 → ⊥) → front n t ≡ malformed
placed-barrier n t four other = front-none n t (tests.not-true (is_command n t) (λ i. other (place_none n (kind_of t) (place_of t) four (command-stands n t i).inside)))

extent-some : (n : ℕ) (t : List ℕ) → is_command n t ≡ true → extent (front n t) ≡ 4 + follows (kind_of t)
unfolding follows
extent-some n t i = ap extent (front-kind n t (kind_of t) i refl) ∙ go (eqb (kind_of t) 3) refl (eqb (kind_of t) 4) refl
  where
    go : (b : Bool) → eqb (kind_of t) 3 ≡ b → (c : Bool) → eqb (kind_of t) 4 ≡ c →
        extent (pick b (flush (place_of t)) (pick c barrier (store (unit (kind_of t) * place_of t) (part t 4 (follows (kind_of t)))))) ≡ 4 + follows (kind_of t)
    go true e c f = rw (eqb-true (kind_of t) 3 e)
    go false e true f = rw (eqb-true (kind_of t) 4 f)
    go false e false f = ap (λ (k : ℕ). 4 + k) (length_part t 4 (follows (kind_of t)) (command-stands n t i).whole)

pub extent-four : (o : Op) → 0 < extent o → 4 ≤ extent o
extent-four (store p vs) h = omega arith
extent-four (flush l) h = omega arith
extent-four barrier h = omega arith
extent-four malformed h = absurd (not-suc-le-zero h)

-- ---- its size, from its first two bytes as one number

size-known : (k : ℕ) → 1 ≤ k → k ≤ 4 → size_of k ≡ 4 + follows k
unfolding size_of follows
size-known zero l h = absurd (not-suc-le-zero l)
size-known (suc zero) l h = refl
size-known (suc (suc zero)) l h = refl
size-known (suc (suc (suc zero))) l h = refl
size-known (suc (suc (suc (suc zero)))) l h = refl
size-known (suc (suc (suc (suc (suc k))))) l h = absurd (omega arith)

size-some : (k : ℕ) → 0 < size_of k → (1 ≤ k) × (k ≤ 4)
unfolding size_of
size-some zero h = absurd (not-suc-le-zero h)
size-some (suc zero) h = (omega arith, omega arith)
size-some (suc (suc zero)) h = (omega arith, omega arith)
size-some (suc (suc (suc zero))) h = (omega arith, omega arith)
size-some (suc (suc (suc (suc zero)))) h = (omega arith, omega arith)
size-some (suc (suc (suc (suc (suc k))))) h =
    let m = suc (suc (suc (suc (suc k)))) in
    absurd (not-suc-le-zero (rw (ne_eqb m 1 (λ e. omega arith), ne_eqb m 2 (λ e. omega arith), ne_eqb m 3 (λ e. omega arith), ne_eqb m 4 (λ e. omega arith)) at h))

pub extent-none : (n : ℕ) (t : List ℕ) → (Stands n t → ⊥) → extent (front n t) ≡ 0
extent-none n t h = ap extent (front-none n t (tests.not-true (is_command n t) (λ i. h (command-stands n t i))))

module _ (n : ℕ) (t : List ℕ) (four : 4 ≤ length t) (h place : ℕ) (head : h ≡ number (part t 0 2)) (there : place ≡ place_of t) where
  -- of a command, the number is its kind
  head-kind : Stands n t → h ≡ kind_of t
  head-kind s = omega (arith, number-two t 0 (omega arith), s.second)

  head-size : Stands n t → size_of h ≡ 4 + follows (kind_of t)
  head-size s = ap size_of (head-kind s) ∙ size-known (kind_of t) s.low s.high

  same_place : h ≡ kind_of t → place_ok n h place ≡ place_ok n (kind_of t) (place_of t)
  same_place k = rw (there, k)

  pub extent-cut : length t < size_of h → extent (front n t) ≡ 0
  extent-cut k = extent-none n t (λ s. omega (arith, head-size s, s.whole))

  pub extent-kind : size_of h ≡ 0 → extent (front n t) ≡ 0
  extent-kind e = extent-none n t (λ s. omega (arith, head-size s, e))

  pub extent-out : place_ok n h place ≡ false → extent (front n t) ≡ 0
  extent-out k = extent-none n t (λ s. true≢false (sym s.inside ∙ sym (same_place (head-kind s)) ∙ k))

  pub extent-size : kind_of t < 256 → size_of h ≤ length t → place_ok n h place ≡ true → extent (front n t) ≡ size_of h
  extent-size byte long inside = go (size_of h) refl
    where
      go : (k : ℕ) → size_of h ≡ k → extent (front n t) ≡ k
      go zero e = extent-none n t (λ s. omega (arith, head-size s))
      go (suc k) e =
          let r = size-some h (omega arith) in
          let two = number-two t 0 (omega arith) in
          let kind : h ≡ kind_of t = omega arith in
          let size = ap size_of (sym kind) ∙ e in
          let known = size-known (kind_of t) (omega arith) (omega arith) in
          let s : Stands n t =
          record { head = four; low = omega arith; high = omega arith; second = omega arith; whole = omega arith; inside = sym (same_place kind) ∙ inside } in
          extent-some n t (stands-command n t s) ∙ sym known ∙ size

-- ---- the commands of a tape

-- skipping bytes is dropping them
skip : (n k : ℕ) (t : List ℕ) → scan n k t ≡ scan n 0 (drop k t)
unfolding scan
skip n zero [] = refl
skip n (suc k) [] = refl
skip n zero (b ∷ t) = refl
skip n (suc k) (b ∷ t) = skip n k t

pub decode-front : (n : ℕ) (t : List ℕ) (o : Op) → 0 < length t → front n t ≡ o → 0 < extent o → decode n t ≡ o ∷ decode n (drop (extent o) t)
unfolding decode scan
decode-front n [] o h e x = absurd (not-suc-le-zero h)
decode-front n (b ∷ t) (store p vs) h e x =
    let f : 4 + length vs ≡ suc (3 + length vs) = omega arith in
    rw (e, f) (ap (λ (r : List Op). store p vs ∷ r) (skip n (3 + length vs) t))
decode-front n (b ∷ t) (flush l) h e x = rw e (ap (λ (r : List Op). flush l ∷ r) (skip n 3 t))
decode-front n (b ∷ t) barrier h e x = rw e (ap (λ (r : List Op). barrier ∷ r) (skip n 3 t))
decode-front n (b ∷ t) malformed h e x = absurd (not-suc-le-zero x)

decode-broken : (n : ℕ) (t : List ℕ) → 0 < length t → extent (front n t) ≡ 0 → decode n t ≡ malformed ∷ []
unfolding decode scan
decode-broken n [] h e = absurd (not-suc-le-zero h)
decode-broken n (b ∷ t) h e = rw (none (front n (b ∷ t)) e) (ap (λ (r : List Op). malformed ∷ r) (skip n (length t) t ∙ rw (drop-length t)))
  where
    none : (o : Op) → extent o ≡ 0 → o ≡ malformed
    none (store p vs) q = absurd (omega arith)
    none (flush l) q = absurd (omega arith)
    none barrier q = absurd (omega arith)
    none malformed q = refl

pub decode-nil : (n : ℕ) → decode n [] ≡ []
unfolding decode scan
decode-nil n = refl

pub decode-end : (n at : ℕ) (t : List ℕ) → length t ≤ at → decode n (drop at t) ≡ []
unfolding decode scan
decode-end n at t h = rw (drop_of_length-le t {i = at} h)

-- where commands are left, bytes are left
pub more-at : (n at : ℕ) (t : List ℕ) → 0 < length (decode n (drop at t)) → at < length t
more-at n at t h = go (ltb at (length t)) refl
  where
    go : (b : Bool) → ltb at (length t) ≡ b → at < length t
    go true e = ltb-true at (length t) e
    go false e = absurd (omega (arith, ap length (decode-end n at t (ltb-false at (length t) e))))

-- the same at a place of a tape
module _ (n at : ℕ) (t : List ℕ) (h : at < length t) where
  some_left : 0 < length (drop at t)
  some_left = simp length-drop (omega arith)

  pub next-at : (o : Op) → front n (drop at t) ≡ o → 0 < extent o → decode n (drop at t) ≡ o ∷ decode n (drop (at + extent o) t)
  next-at o e x = decode-front n (drop at t) o some_left e x ∙ ap (λ (r : List ℕ). o ∷ decode n r) (drop-drop (extent o) at t)

  pub past-at : (size : ℕ) → size ≡ extent (front n (drop at t)) → 0 < size → decode n (drop at t) ≡ front n (drop at t) ∷ decode n (drop (at + size) t)
  past-at size e x = next-at (front n (drop at t)) refl (omega arith) ∙ ap (λ (k : ℕ). front n (drop at t) ∷ decode n (drop (at + k) t)) (sym e)

  pub broken-at : extent (front n (drop at t)) ≡ 0 → decode n (drop at t) ≡ malformed ∷ []
  broken-at e = decode-broken n (drop at t) some_left e

-- a command that is one changes nothing of the test of the rest
pub well_formed-next : (o : Op) (cs : List Op) → 0 < extent o → well_formed (o ∷ cs) ≡ well_formed cs
unfolding well_formed
well_formed-next (store p vs) cs x = refl
well_formed-next (flush l) cs x = refl
well_formed-next barrier cs x = refl
well_formed-next malformed cs x = absurd (not-suc-le-zero x)

-- ---- what a loop over the tape knows at a place of it

pub record StoreAt (n : ℕ) (t : List ℕ) (at p size : ℕ) : Type 0 where
  pub says : front n (drop at t) ≡ store p (part t (at + 4) size)
  pub next : decode n (drop at t) ≡ store p (part t (at + 4) size) ∷ decode n (drop (at + (4 + size)) t)
  pub in_tape : at + (4 + size) ≤ length t
  pub in_image : p + size ≤ n

-- what is no store, by its kind and place: a flush or a barrier
unfoldable pub quiet_of : ℕ → ℕ → Op
quiet_of kind place = pick (eqb kind 3) (flush place) barrier

pub record QuietAt (n : ℕ) (t : List ℕ) (at place : ℕ) : Type 0 where
  pub says : front n (drop at t) ≡ quiet_of (get_or t at 0) place
  pub next : decode n (drop at t) ≡ quiet_of (get_or t at 0) place ∷ decode n (drop (at + 4) t)
  pub in_tape : at + 4 ≤ length t
  pub in_image : get_or t at 0 ≡ 3 → 64 * place + 64 ≤ n

-- what holds of flushes and of barriers holds of what is no store
pub quiet_all : (P : Op → Type 0) (kind place : ℕ) → P (flush place) → P barrier → P (quiet_of kind place)
unfolding quiet_of
quiet_all P kind place f b = go (eqb kind 3)
  where
    go : (t : Bool) → P (pick t (flush place) barrier)
    go true = f
    go false = b

-- a command stands at a place of a well-formed tape, and where the size is not 0
module _ (n at : ℕ) (t : List ℕ) where
  pub good-command : at < length t → well_formed (decode n (drop at t)) ≡ true → is_command n (drop at t) ≡ true
  unfolding well_formed
  good-command h good = go (is_command n (drop at t)) refl
    where
      go : (b : Bool) → is_command n (drop at t) ≡ b → b ≡ true
      go true e = refl
      go false e = sym (ap well_formed (broken-at n at t h (ap extent (front-none n (drop at t) e)))) ∙ good

  pub some-command : 0 < extent (front n (drop at t)) → is_command n (drop at t) ≡ true
  some-command x = go (is_command n (drop at t)) refl
    where
      go : (b : Bool) → is_command n (drop at t) ≡ b → b ≡ true
      go true e = refl
      go false e = absurd (omega (arith, ap extent (front-none n (drop at t) e)))

module _ (n at : ℕ) (t : List ℕ) (h : at < length t) (is : is_command n (drop at t) ≡ true) where
  pub head_at : at + 4 ≤ length t
  head_at = omega (arith, (command-stands n (drop at t) is).head, length-drop at t)

  kind_at : kind_of (drop at t) ≡ get_or t at 0
  kind_at = get_or-drop at t 0 0 ∙ ap (λ (i : ℕ). get_or t i 0) (add-zero at)

  -- what is no store is a flush or a barrier
  pub quiet-kind : (get_or t at 0 ≡ 1 → ⊥) → (get_or t at 0 ≡ 2 → ⊥) → (3 ≤ get_or t at 0) × (get_or t at 0 ≤ 4)
  quiet-kind a b = let st = command-stands n (drop at t) is in (omega (arith, kind_at), omega (arith, kind_at))

  module _ (place : ℕ) (there : place ≡ number (part t (at + 2) 2)) where
    place_at : place_of (drop at t) ≡ place
    place_at = ap number (part-drop t at 2 2) ∙ sym there

    -- a store of s bytes, whose place counts by as many
    store_at : (kind s : ℕ) → get_or t at 0 ≡ kind → kind ≤ 2 → unit kind ≡ s → follows kind ≡ s → StoreAt n t at (s * place) s
    store_at kind s e two u f =
        let k : kind_of (drop at t) ≡ kind = kind_at ∙ e in
        let said : front n (drop at t) ≡ store (s * place) (part t (at + 4) s) = front-kind n (drop at t) kind is k ∙ rw (ne_eqb kind 3 (λ q. omega arith), ne_eqb kind 4 (λ q. omega arith), u, f, place_at, part-drop t at 4 s) in
        let st = command-stands n (drop at t) is in
        let whole : at + (4 + s) ≤ length t = omega (arith, st.whole, ap follows k, length-drop at t) in
        let long : length (part t (at + 4) s) ≡ s = length_part t (at + 4) s (omega arith) in
        let units : unit (kind_of (drop at t)) * place_of (drop at t) + unit (kind_of (drop at t)) ≡ s * place + s = rw (k, u, place_at) in
        let inside = place_in n (kind_of (drop at t)) (place_of (drop at t)) (λ q. omega arith) st.inside in
        record {
          says = said;
          next = next-at n at t h _ said (omega arith) ∙ ap (λ (m : ℕ). store (s * place) (part t (at + 4) s) ∷ decode n (drop (at + (4 + m)) t)) long;
          in_tape = whole;
          in_image = omega arith;
        }

    pub word_at : get_or t at 0 ≡ 1 → StoreAt n t at (8 * place) 8
    unfolding unit follows
    word_at e = store_at 1 8 e (omega arith) refl refl

    pub line_at : get_or t at 0 ≡ 2 → StoreAt n t at (64 * place) 64
    unfolding unit follows
    line_at e = store_at 2 64 e (omega arith) refl refl

    pub quiet_at : (get_or t at 0 ≡ 1 → ⊥) → (get_or t at 0 ≡ 2 → ⊥) → QuietAt n t at place
    unfolding unit quiet_of
    quiet_at a b =
        let st = command-stands n (drop at t) is in
        let kind = quiet-kind a b in
        let said : front n (drop at t) ≡ quiet_of (get_or t at 0) place = front-kind n (drop at t) (get_or t at 0) is kind_at ∙ rw place_at (go (eqb (get_or t at 0) 3) refl) in
        record {
          says = said;
          next = go-next (quiet_of (get_or t at 0) place) said (quiet_all (λ (o : Op). extent o ≡ 4) (get_or t at 0) place refl refl);
          in_tape = head_at;
          in_image = λ e. inside e (place_in n (kind_of (drop at t)) (place_of (drop at t)) (λ q. omega (arith, kind_at)) st.inside);
        }
      where
        go : (c : Bool) → eqb (get_or t at 0) 3 ≡ c → pick c (flush place) (pick (eqb (get_or t at 0) 4) barrier (store (unit (get_or t at 0) * place) (part (drop at t) 4 (follows (get_or t at 0))))) ≡ pick c (flush place) barrier
        go true e = refl
        go false e = let kind = quiet-kind a b in rw (eq-eqb (get_or t at 0) 4 (omega (arith, eqb-false (get_or t at 0) 3 e)))

        go-next : (o : Op) → front n (drop at t) ≡ o → extent o ≡ 4 → decode n (drop at t) ≡ o ∷ decode n (drop (at + 4) t)
        go-next o e x = next-at n at t h o e (omega arith) ∙ ap (λ (m : ℕ). o ∷ decode n (drop (at + m) t)) x

        inside : get_or t at 0 ≡ 3 → unit (kind_of (drop at t)) * place_of (drop at t) + unit (kind_of (drop at t)) ≤ n → 64 * place + 64 ≤ n
        inside e = let k : kind_of (drop at t) ≡ 3 = kind_at ∙ e in rw (k, place_at) (λ q. q)

-- the rest of a well-formed tape is well formed
pub store-good : (n : ℕ) (t : List ℕ) (at p s : ℕ) → StoreAt n t at p s → well_formed (decode n (drop at t)) ≡ true → well_formed (decode n (drop (at + (4 + s)) t)) ≡ true
unfolding well_formed
store-good n t at p s k good = sym (ap well_formed k.next) ∙ good

pub quiet-good : (n : ℕ) (t : List ℕ) (at place : ℕ) → QuietAt n t at place → well_formed (decode n (drop at t)) ≡ true → well_formed (decode n (drop (at + 4) t)) ≡ true
unfolding well_formed
quiet-good n t at place k good =
    quiet_all (λ (o : Op). well_formed (o ∷ decode n (drop (at + 4) t)) ≡ true → well_formed (decode n (drop (at + 4) t)) ≡ true) (get_or t at 0) place (λ e. e) (λ e. e)
    (sym (ap well_formed k.next) ∙ good)
