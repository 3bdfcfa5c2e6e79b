-- The walk over the commands that finds a cut: what it knows at a place of the tape, after one more command, and where it stops.
-- Assumes nothing.
use Prim.Native.Nat.{ℕ, suc, ◌+◌, ◌-◌, ◌*◌, ◌^◌, ◌≤◌, ◌<◌}
use mathlib.Core.Path.{◌≡◌, refl, sym, ap, ap₂, ◌∙◌, subst}
use mathlib.Core.Bool.{true}
use mathlib.Core.List.{List, [], ◌∷◌, ◌++◌}
use native.Mathlib.Omega.{arith}
use native.Mathlib.Nat.{add-zero, pow-le-pow_right}
use lib.ListN.{length, get_or, set, take, drop, length-set, length-drop}
use lib.Seq.{take-suc, drop-drop, get_or-drop, get_or-take, get_or-set_same, get_or-set_other, length-take-le}
use Rattle.device.specs.Tape.{Op, store, flush, barrier, malformed, is_command, front, extent, decode, well_formed}
use Rattle.device.proofs.Decode.{next-at, decode-end, well_formed-next, good-command}
use Rattle.cuts.specs.All.{pendings, headed, choices_after}
use Rattle.cuts.specs.Products.{Describes, pending_after, unflushed_after, LineIn, ways, Names, Sought}
use Rattle.cuts.specs.declared.Does.{Does}
use Rattle.cuts.specs.declared.Does.TheVariants.{Stores, Flushes, Waits}
use Rattle.cuts.specs.declared.Command.{Command}
use Rattle.cuts.specs.declared.Place.{Place}
use Rattle.cuts.proofs.Headed.{length_none, length-next}
use Rattle.cuts.proofs.Choices.{length-choices}
use Rattle.cuts.proofs.Pendings.{unflusheds, pendings-none, fewer-unflushed, line-few, pendings-next, unflusheds-next, ways-none, ways-unflushed, ways-bound}
use Rattle.cuts.proofs.Commands.{command-fits}

-- ---- lists

after_front : (cs : List Op) (c : ℕ) (o : Op) (ds : List Op) → drop c cs ≡ o ∷ ds → (c < length cs) × (take (c + 1) cs ≡ take c cs ++ (o ∷ [])) × (drop (c + 1) cs ≡ ds)
after_front cs c o ds e =
    let some : c < length cs = omega (arith, ap length e, length-drop c cs) in
    let it : get_or cs c malformed ≡ o = ap (λ (i : ℕ). get_or cs i malformed) (sym (add-zero c)) ∙ sym (get_or-drop c cs 0 malformed) ∙ ap (λ (x : List Op). get_or x 0 malformed) e in
    let one : c + 1 ≡ suc c = omega arith in (
      some,
      ap (λ (i : ℕ). take i cs) one ∙ take-suc cs c malformed some ∙ ap (λ (x : Op). take c cs ++ x ∷ []) it,
      sym (drop-drop 1 c cs) ∙ ap (drop 1) e,
    )

-- the first c + 1 lines named are the first c and the new one
module _ (named : List ℕ) (c line : ℕ) (room : c < length named) where
  named-old : (i : ℕ) → i < c → get_or (take (c + 1) (set named c line)) i 0 ≡ get_or (take c named) i 0
  named-old i h = get_or-take (c + 1) (set named c line) i 0 (omega arith) ∙ get_or-set_other named c i line 0 (λ e. omega arith) ∙ sym (get_or-take c named i 0 h)

  named_new : get_or (take (c + 1) (set named c line)) c 0 ≡ line
  named_new = get_or-take (c + 1) (set named c line) c 0 (omega arith) ∙ get_or-set_same named c line 0 room

  named-length : length (take (c + 1) (set named c line)) ≡ c + 1
  named-length = length-take-le (c + 1) (set named c line) (omega (arith, length-set named c line))

  -- where no other line's number rises
  names-next : (ms ns : List ℕ) → ((l : ℕ) → (l ≡ line → ⊥) → get_or ns l 0 ≤ get_or ms l 0) → Names (take c named) ms → Names (take (c + 1) (set named c line)) ns
  names-next ms ns fewer h l none =
      let other : l ≡ line → ⊥ = λ e. none c (omega (arith, named-length)) (named_new ∙ sym e) in
      let old : length (take c named) ≡ c = length-take-le c named (omega arith) in
      omega (arith, fewer l other, h l (λ i k e. none i (omega (arith, named-length, old)) (named-old i (omega (arith, old)) ∙ e)))

-- ---- the walk

command-size : (o : Op) (m : Command) → Describes o m → (m.size ≡ extent o) × (0 < extent o)
command-size (store p vs) m q = (q.1, omega arith)
command-size (flush l) m q = (q.1, omega arith)
command-size barrier m q = (q.1, omega arith)
command-size malformed m q = absurd q

-- no other line has more pending stores after a command
after_fewer : (d : Does) (line : ℕ) (ms us : List ℕ) → ((l : ℕ) → get_or us l 0 ≤ get_or ms l 0) → (l : ℕ) → (l ≡ line → ⊥) → get_or (pending_after d line ms us) l 0 ≤ get_or ms l 0
unfolding pending_after
after_fewer Stores line ms us h l other = omega (arith, get_or-set_other ms line l (get_or ms line 0 + 1) 0 other)
after_fewer Flushes line ms us h l other = omega arith
after_fewer Waits line ms us h l other = h l

-- the command lies in the tape and in the image; its line's numbers and the products are small
pub record Room (lines : ℕ) (tape : List ℕ) (at c product later : ℕ) (ms us : List ℕ) (m : Command) : Type 0 where
  pub some : 0 < m.size
  pub in_tape : at + m.size ≤ length tape
  pub in_image : LineIn m.does m.line lines
  pub another : c < 12
  pub pending_few : get_or ms m.line 0 ≤ 12
  pub unflushed_few : get_or us m.line 0 ≤ 12
  pub product_few : product ≤ 4096
  pub later_few : later ≤ 4096

-- c commands are done, up to `at` of the tape
pub record Walk (lines : ℕ) (tape : List ℕ) (r at c rest product later : ℕ) (ms us named : List ℕ) : Type 0 where
  pub in_tape : at ≤ length tape
  pub good : well_formed (decode (64 * lines) (drop at tape)) ≡ true
  pub left : decode (64 * lines) (drop at tape) ≡ drop c (decode (64 * lines) tape)
  pub few : c ≤ length (decode (64 * lines) tape)
  pub counts : ms ≡ pendings 0 lines (take c (decode (64 * lines) tape))
  pub counts_later : us ≡ unflusheds lines (take c (decode (64 * lines) tape))
  pub choices : product ≡ ways ms
  pub choices_later : later ≡ ways us
  pub before : length (headed 0 c (choices_after lines (decode (64 * lines) tape))) + rest ≡ r
  pub names : Names (take c named) ms

pub walk_start : (lines : ℕ) (tape : List ℕ) (r : ℕ) (ms us named : List ℕ) → length ms ≡ lines → length us ≡ lines → ((l : ℕ) → get_or ms l 0 ≡ 0) → ((l : ℕ) → get_or us l 0 ≡ 0) →
    well_formed (decode (64 * lines) tape) ≡ true → Walk lines tape r 0 0 r 1 1 ms us named
walk_start lines tape r ms us named e f h k good =
    let none = pendings-none lines ms e h in
    let clear = pendings-none lines us f k in
    record {
      in_tape = omega arith;
      good = good;
      left = refl;
      few = omega arith;
      counts = none.0;
      counts_later = clear.1;
      choices = sym (ap ways none.0 ∙ ways-none lines 0);
      choices_later = sym (ap ways clear.0 ∙ ways-none lines 0);
      before = omega (arith, length_none (choices_after lines (decode (64 * lines) tape)) 0);
      names = λ l _. h l;
    }

module _ (lines : ℕ) (tape : List ℕ) (r at c rest product later : ℕ) (ms us named : List ℕ) (k : Walk lines tape r at c rest product later ms us named) where
  abbrev pub cs : List Op
  cs = decode (64 * lines) tape

  -- the cuts after c commands are passed
  passed : product ≤ rest → length (headed 0 (c + 1) (choices_after lines cs)) + (rest - product) ≡ r
  passed h =
      let one : c + 1 ≡ suc c = omega arith in
      let z : 0 + c ≡ c = omega arith in
      let own : length (choices_after lines cs (0 + c)) ≡ product = rw z (length-choices (pendings 0 lines (take c cs)) ∙ sym (k.choices ∙ ap ways k.counts)) in
      rw one (omega (arith, length-next (choices_after lines cs) c 0, own, k.before))

  -- no line has more that are not flushed than are pending
  fewer : (l : ℕ) → get_or us l 0 ≤ get_or ms l 0
  fewer l =
      omega (arith, ap (λ (x : List ℕ). get_or x l 0) k.counts, ap (λ (x : List ℕ). get_or x l 0) k.counts_later, fewer-unflushed lines (take c cs) l)

  -- a command stands there, of a line of the image
  pub walk-command : at < length tape → is_command (64 * lines) (drop at tape) ≡ true
  walk-command h = good-command (64 * lines) at tape h k.good

  module _ (h : at < length tape) (m : Command) (is : Describes (front (64 * lines) (drop at tape)) m) where
    abbrev o : Op
    o = front (64 * lines) (drop at tape)

    next : decode (64 * lines) (drop at tape) ≡ o ∷ decode (64 * lines) (drop (at + m.size) tape)
    next = next-at (64 * lines) at tape h o refl (command-size o m is).1 ∙ ap (λ (i : ℕ). o ∷ decode (64 * lines) (drop (at + i) tape)) (sym (command-size o m is).0)

    -- there is room for what the code then does
    pub walk-room : length cs ≤ 12 → Room lines tape at c product later ms us m
    walk-room few =
        let fits = command-fits (64 * lines) at tape h (walk-command h) lines refl m is in
        let more : c < length cs = (after_front cs c o _ (sym k.left ∙ next)).0 in
        let own : get_or ms m.line 0 ≤ 12 = omega (arith, ap (λ (x : List ℕ). get_or x m.line 0) k.counts, line-few lines (take c cs) m.line, length-take-le c cs k.few) in
        let most : 2 ^ c ≤ 2 ^ 12 = pow-le-pow_right (omega arith) {i = c} {j = 12} (omega arith) in
        let all : product ≤ 4096 = omega (arith, k.choices, ap ways k.counts, ways-bound lines cs c k.few, most) in
        record {
          some = omega (arith, command-size o m is);
          in_tape = fits.0;
          in_image = fits.1;
          another = omega arith;
          pending_few = own;
          unflushed_few = omega (arith, own, fewer m.line);
          product_few = all;
          later_few = omega (arith, all, k.choices, ap ways k.counts, k.choices_later, ap ways k.counts_later, ways-unflushed lines (take c cs));
        }

    pub walk-next : (p q : ℕ) (ns vs : List ℕ) → product ≤ rest → at + m.size ≤ length tape → c < length named → ns ≡ pending_after m.does m.line ms us → p ≡ ways ns →
        vs ≡ unflushed_after m.does m.line us → q ≡ ways vs → Walk lines tape r (at + m.size) (c + 1) (rest - product) p q ns vs (set named c m.line)
    walk-next p q ns vs enough fits room e f d g =
        let all = after_front cs c o _ (sym k.left ∙ next) in
        record {
          in_tape = fits;
          good = sym (ap well_formed next ∙ well_formed-next o _ (command-size o m is).1) ∙ k.good;
          left = sym all.2;
          few = omega (arith, all.0);
          counts = e ∙ ap₂ (pending_after m.does m.line) k.counts k.counts_later ∙ pendings-next lines (take c cs) o m is ∙ ap (pendings 0 lines) (sym all.1);
          counts_later = d ∙ ap (unflushed_after m.does m.line) k.counts_later ∙ unflusheds-next lines (take c cs) o m is ∙ ap (unflusheds lines) (sym all.1);
          choices = f;
          choices_later = g;
          before = passed enough;
          names = subst (Names (take (c + 1) (set named c m.line))) (sym e) (names-next named c m.line room ms (pending_after m.does m.line ms us) (after_fewer m.does m.line ms us fewer) k.names);
        }

  -- the tape ends, and so do the cuts
  pub walk-past : length tape ≤ at → product ≤ rest → (p : Place) → p.commands ≡ c + 1 → p.rest ≡ rest - product → Sought lines cs r p ms named
  walk-past h enough p e f =
      let none : drop c cs ≡ [] = sym k.left ∙ decode-end (64 * lines) at tape h in
      let all : length cs ≤ c = omega (arith, ap length none, length-drop c cs) in
      record {
        before = rw (e, f) (passed enough);
        at_most = omega (arith, e, k.few);
        found = λ q. absurd (omega (arith, e, q, all));
      }

  -- the cut is after c commands
  pub walk-found : rest < product → (p : Place) → p.commands ≡ c → p.rest ≡ rest → Sought lines cs r p ms named
  walk-found h p e f =
      record {
        before = rw (e, f) k.before;
        at_most = omega (arith, e, k.few);
        found = λ _. rw (e, f) (omega (arith, k.choices), k.counts, k.names);
      }
