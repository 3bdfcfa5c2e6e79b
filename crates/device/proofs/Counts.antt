-- Each line's last flush before the last barrier: where it ends on the tape tells whether a store is durable.
-- Assumes nothing.
use Prim.Native.Nat.{ℕ, zero, suc, ◌+◌, ◌/◌, ◌≤◌, ◌<◌}
use Rattle.std.specs.Prelude.{Option, Some, None}
use mathlib.Core.Path.{◌≡◌, refl, sym, ap, ◌∙◌, fun_ext}
use mathlib.Core.Bool.{Bool, true, false, ◌&&◌, ◌||◌, true≢false, false≢true}
use mathlib.Core.List.{List, [], ◌∷◌, ◌++◌}
use native.Mathlib.Omega.{arith}
use native.Mathlib.Nat.{add-zero}
use lib.ListN.{length, get_or, set, drop, replicate, length-set}
use lib.Seq.{get_or-set_same, get_or-set_other, get_or-drop}
use lib.Dec.{ltb, leb, eqb}
use borrow.Author.Tests.{lt-ltb, le-ltb, le-leb, lt-leb, eqb-true, eqb-false, eq-eqb, ne_eqb}
use Rattle.codec.specs.Lists.{pick, part, splice}
use Rattle.codec.proofs.Lists.{part-whole}
use Rattle.device.specs.Tape.{Op, store, flush, barrier, malformed, extent, is_barrier}
use Rattle.device.specs.Cut.{flushes_line, some, durable}
use Rattle.device.specs.Counts.{sized, finished, flush_end, flush_done, note_flush, Tells}
use Rattle.device.proofs.Durable.{one-alone}

-- ---- lists

-- an element after a store, wherever it is
get_or-set : (l : List ℕ) (i v j : ℕ) → i < length l → get_or (set l i v) j 0 ≡ pick (eqb i j) v (get_or l j 0)
get_or-set l i v j h = go (eqb i j) refl
  where
    go : (b : Bool) → eqb i j ≡ b → get_or (set l i v) j 0 ≡ pick b v (get_or l j 0)
    go true e = rw (← eqb-true i j e) (get_or-set_same l i v 0 h)
    go false e = get_or-set_other l i j v 0 (λ q. eqb-false i j e (sym q))

pub zeros : (n l : ℕ) → get_or {A = ℕ} (replicate n 0) l 0 ≡ 0
zeros zero l = refl
zeros (suc n) zero = refl
zeros (suc n) (suc l) = zeros n l

over_zeros : (xs zs : List ℕ) → ((l : ℕ) → get_or zs l 0 ≡ 0) → (l : ℕ) → get_or (xs ++ zs) l 0 ≡ get_or xs l 0
over_zeros [] zs h l = h l
over_zeros (x ∷ xs) zs h zero = refl
over_zeros (x ∷ xs) zs h (suc l) = over_zeros xs zs h l

-- the choices, copied over zeros, are at each line what they were
pub copied-choices : (n : ℕ) (choices left : List ℕ) → left ≡ splice (replicate n 0) 0 (part choices 0 (length choices)) →
    ◌≡◌ {A = ℕ → ℕ} (λ l. get_or choices l 0) (λ l. get_or left l 0)
unfolding splice
copied-choices n choices left e =
    fun_ext (λ l. sym (ap (λ (m : List ℕ). get_or m l 0) (e ∙ ap (splice (replicate n 0) 0) (part-whole choices)) ∙ over_zeros choices (drop (0 + length choices) (replicate n 0)) (rest (length choices)) l))
  where
    rest : (k l : ℕ) → get_or {A = ℕ} (drop (0 + k) (replicate n 0)) l 0 ≡ 0
    rest k l = get_or-drop (0 + k) (replicate n 0) l 0 ∙ zeros n (0 + k + l)

-- ---- the last barrier

finished-none : (cs : List Op) → some is_barrier cs ≡ false → finished cs ≡ []
unfolding finished
finished-none [] e = refl
finished-none (o ∷ cs) e = rw e

finished-some : (o : Op) (cs : List Op) → some is_barrier (o ∷ cs) ≡ true → finished (o ∷ cs) ≡ o ∷ finished cs
unfolding finished
finished-some o cs e = rw e

barrier-flushes : (l : ℕ) (o : Op) → is_barrier o ≡ true → flushes_line l o ≡ false
barrier-flushes l (store p vs) e = refl
barrier-flushes l (flush m) e = absurd (false≢true e)
barrier-flushes l barrier e = refl
barrier-flushes l malformed e = refl

-- where no command is a barrier, none of those past the first is
others : (o : Op) (cs : List Op) → some is_barrier (o ∷ cs) ≡ false → some is_barrier cs ≡ false
unfolding some
others o cs e = go (is_barrier o) e
  where
    go : (b : Bool) → (b || some is_barrier cs) ≡ false → some is_barrier cs ≡ false
    go true q = absurd (true≢false q)
    go false q = q

-- and nothing is durable
durable-none : (l : ℕ) (cs : List Op) → some is_barrier cs ≡ false → durable l cs ≡ false
unfolding durable some
durable-none l [] e = refl
durable-none l (o ∷ cs) e = rw (others o cs e, durable-none l cs (others o cs e)) (one-alone l o)

-- "once its line has been flushed after it and a barrier has come after that flush": a store is durable exactly if its line is flushed before the last barrier
pub durable-finished : (l : ℕ) (cs : List Op) → durable l cs ≡ some (flushes_line l) (finished cs)
unfolding durable some
durable-finished l [] = sym (ap (some (flushes_line l)) (finished-none [] refl))
durable-finished l (o ∷ cs) = go (some is_barrier (o ∷ cs)) refl (durable-finished l cs)
  where
    step : (b s f d : Bool) → (b ≡ true → f ≡ false) → (b || s) ≡ true → ((f && s) || d) ≡ (f || d)
    step true s true d q e = absurd (true≢false (q refl))
    step true s false d q e = refl
    step false true true d q e = refl
    step false true false d q e = refl
    step false false f d q e = absurd (false≢true e)

    go : (t : Bool) → some is_barrier (o ∷ cs) ≡ t → durable l cs ≡ some (flushes_line l) (finished cs) → durable l (o ∷ cs) ≡ some (flushes_line l) (finished (o ∷ cs))
    go true e i = step (is_barrier o) (some is_barrier cs) (flushes_line l o) (durable l cs) (barrier-flushes l o) e ∙ ap (λ (d : Bool). flushes_line l o || d) i ∙ sym (ap (some (flushes_line l)) (finished-some o cs e))
    go false e i = durable-none l (o ∷ cs) e ∙ sym (ap (some (flushes_line l)) (finished-none (o ∷ cs) e))

-- ---- the last flush

-- it ends past where the commands start
end-past : (l at : ℕ) (cs : List Op) → some (flushes_line l) cs ≡ true → at < flush_end l at cs
unfolding some flush_end
end-past l at [] e = absurd (false≢true e)
end-past l at (store p vs ∷ cs) e = omega (arith, end-past l (at + (4 + length vs)) cs e)
end-past l at (flush m ∷ cs) e = go (eqb m l) (some (flushes_line l) cs) refl e (end-past l (at + 4) cs)
  where
    go : (b d : Bool) → some (flushes_line l) cs ≡ d → (b || d) ≡ true → (some (flushes_line l) cs ≡ true → at + 4 < flush_end l (at + 4) cs) → at < pick d (flush_end l (at + 4) cs) (pick b (at + 4) 0)
    go b true q r i = omega (arith, i q)
    go true false q r i = omega arith
    go false false q r i = absurd (false≢true r)
end-past l at (barrier ∷ cs) e = omega (arith, end-past l (at + 4) cs e)
end-past l at (malformed ∷ cs) e = end-past l at cs e

-- where there is none it is 0
end_none : (l at : ℕ) (cs : List Op) → some (flushes_line l) cs ≡ false → flush_end l at cs ≡ 0
unfolding some flush_end
end_none l at [] e = refl
end_none l at (store p vs ∷ cs) e = end_none l (at + (4 + length vs)) cs e
end_none l at (flush m ∷ cs) e = go (eqb m l) (some (flushes_line l) cs) e
  where
    go : (b d : Bool) → (b || d) ≡ false → pick d (flush_end l (at + 4) cs) (pick b (at + 4) 0) ≡ 0
    go true d r = absurd (true≢false r)
    go false true r = absurd (true≢false r)
    go false false r = refl
end_none l at (barrier ∷ cs) e = end_none l (at + 4) cs e
end_none l at (malformed ∷ cs) e = end_none l at cs e

-- a command as its place and kind say
abbrev pub On : Op → ℕ → ℕ → Type 0
On (store p vs) place kind = kind ≤ 2
On (flush l) place kind = (l ≡ place) × (kind ≡ 3)
On barrier place kind = kind ≡ 4
On malformed place kind = ⊥

-- ---- noting it

-- the flush of line l that is done at the end, with what is noted of the commands before `at` and with these commands from there on: if they have a
-- barrier, the last flush before it, of theirs or of those before
abbrev ends : List ℕ → ℕ → ℕ → List Op → ℕ → ℕ
ends flushes fence at cs l =
    pick (some (flushes_line l) (finished cs)) (flush_end l at (finished cs)) (pick (some is_barrier cs) (get_or flushes l 0) (flush_done flushes fence l))

-- what is noted of the commands before `at`, with cs from there on, comes to what it is to tell of all
pub record Noting (flushes : List ℕ) (fence at : ℕ) (cs all : List Op) : Type 0 where
  pub fenced : fence ≤ at
  pub flushed : (l : ℕ) → l < length flushes / 2 → get_or flushes l 0 ≤ at
  pub comes : (l : ℕ) → l < length flushes / 2 → ends flushes fence at cs l ≡ flush_end l 0 (finished all)

pub noting-start : (flushes : List ℕ) (cs : List Op) → ((l : ℕ) → get_or flushes l 0 ≡ 0) → Noting flushes 0 0 cs cs
noting-start flushes cs none =
    record { fenced = omega arith; flushed = λ l h. omega (arith, none l); comes = λ l h. go l (some (flushes_line l) (finished cs)) refl (some is_barrier cs) (leb (get_or flushes l 0) 0) }
  where
    go : (l : ℕ) (d : Bool) → some (flushes_line l) (finished cs) ≡ d → (b e : Bool) →
        pick d (flush_end l 0 (finished cs)) (pick b (get_or flushes l 0) (pick e (get_or flushes l 0) (get_or flushes (length flushes / 2 + l) 0))) ≡ flush_end l 0 (finished cs)
    go l true q b e = refl
    go l false q true e = none l ∙ sym (end_none l 0 (finished cs) q)
    go l false q false true = none l ∙ sym (end_none l 0 (finished cs) q)
    go l false q false false = none (length flushes / 2 + l) ∙ sym (end_none l 0 (finished cs) q)

-- past the first c commands nothing is noted
pub noting-rest : (flushes : List ℕ) (fence at more : ℕ) (all : List Op) → Noting flushes fence at [] all → Noting flushes fence (at + more) [] all
unfolding some finished flush_end
noting-rest flushes fence at more all n = record { fenced = omega (arith, n.fenced); flushed = λ l h. omega (arith, n.flushed l h); comes = n.comes }

pub noting-end : (flushes : List ℕ) (fence at : ℕ) (all : List Op) → Noting flushes fence at [] all → Tells flushes fence all
unfolding some finished
noting-end flushes fence at all n = n.comes

module _ (flushes : List ℕ) (fence at : ℕ) (cs : List Op) (l : ℕ) where
  -- a store only moves on
  ends-store : (p : ℕ) (vs : List ℕ) → ends flushes fence (at + (4 + length vs)) cs l ≡ ends flushes fence at (store p vs ∷ cs) l
  unfolding some flush_end
  ends-store p vs = go (some is_barrier cs) refl
    where
      go : (b : Bool) → some is_barrier cs ≡ b → ends flushes fence (at + (4 + length vs)) cs l ≡ ends flushes fence at (store p vs ∷ cs) l
      go true e = rw (finished-some (store p vs) cs e)
      go false e = rw (finished-none cs e, finished-none (store p vs ∷ cs) e, e)

  -- once a barrier has come, the last flush is done
  ends-barrier : get_or flushes l 0 ≤ at + 4 → ends flushes (at + 4) (at + 4) cs l ≡ ends flushes fence at (barrier ∷ cs) l
  unfolding some flush_end
  ends-barrier h = rw (finished-some barrier cs refl, le-leb (get_or flushes l 0) (at + 4) h) (go (some (flushes_line l) (finished cs)) (some is_barrier cs))
    where
      go : (d b : Bool) → pick d (flush_end l (at + 4) (finished cs)) (pick b (get_or flushes l 0) (get_or flushes l 0)) ≡ pick d (flush_end l (at + 4) (finished cs)) (get_or flushes l 0)
      go true b = refl
      go false true = refl
      go false false = refl

  -- a flush that comes is the line's last one, and is done if a barrier comes after it
  ends-flush : (next : List ℕ) (m : ℕ) → get_or next l 0 ≡ pick (eqb m l) (at + 4) (get_or flushes l 0) → flush_done next fence l ≡ flush_done flushes fence l →
      ends next fence (at + 4) cs l ≡ ends flushes fence at (flush m ∷ cs) l
  unfolding some flush_end
  ends-flush next m last done = go (some is_barrier cs) refl
    where
      step : (e d : Bool) → pick d (flush_end l (at + 4) (finished cs)) (pick e (at + 4) (get_or flushes l 0)) ≡ pick (e || d) (pick d (flush_end l (at + 4) (finished cs)) (pick e (at + 4) 0)) (get_or flushes l 0)
      step true true = refl
      step true false = refl
      step false true = refl
      step false false = refl

      go : (b : Bool) → some is_barrier cs ≡ b → ends next fence (at + 4) cs l ≡ ends flushes fence at (flush m ∷ cs) l
      go true e = rw (finished-some (flush m) cs e, e, last) (step (eqb m l) (some (flushes_line l) (finished cs)))
      go false e = rw (finished-none cs e, finished-none (flush m ∷ cs) e, e) done

-- a flush of line m noted
module _ (flushes : List ℕ) (fence at m : ℕ) (inside : m < length flushes / 2) where
  flush-length : length (note_flush flushes fence m (at + 4)) ≡ length flushes
  flush-length =
      length-set (set flushes (length flushes / 2 + m) (flush_done flushes fence m)) m (at + 4) ∙ length-set flushes (length flushes / 2 + m) (flush_done flushes fence m)

  flush-last : (l : ℕ) → l < length flushes / 2 → get_or (note_flush flushes fence m (at + 4)) l 0 ≡ pick (eqb m l) (at + 4) (get_or flushes l 0)
  flush-last l h =
      let half = length flushes / 2 in
      let done = flush_done flushes fence m in
      get_or-set (set flushes (half + m) done) m (at + 4) l (omega (arith, length-set flushes (half + m) done))
      ∙ ap (pick (eqb m l) (at + 4)) (get_or-set_other flushes (half + m) l done 0 (λ q. omega arith))

  flush-before : (l : ℕ) → l < length flushes / 2 →
      get_or (note_flush flushes fence m (at + 4)) (length flushes / 2 + l) 0 ≡ pick (eqb m l) (flush_done flushes fence m) (get_or flushes (length flushes / 2 + l) 0)
  flush-before l h =
      let half = length flushes / 2 in
      let done = flush_done flushes fence m in
      get_or-set_other (set flushes (half + m) done) m (half + l) (at + 4) 0 (λ q. omega arith)
      ∙ get_or-set flushes (half + m) done (half + l) (omega arith)
      ∙ ap (λ (b : Bool). pick b done (get_or flushes (half + l) 0)) (go (eqb m l) refl)
    where
      go : (b : Bool) → eqb m l ≡ b → eqb (length flushes / 2 + m) (length flushes / 2 + l) ≡ b
      go true e = eq-eqb (length flushes / 2 + m) (length flushes / 2 + l) (ap (λ (i : ℕ). length flushes / 2 + i) (eqb-true m l e))
      go false e = ne_eqb (length flushes / 2 + m) (length flushes / 2 + l) (λ q. eqb-false m l e (omega (arith, q)))

  -- it is not done itself, and so none of those that are done changes
  flush-same : (l : ℕ) → l < length flushes / 2 → fence ≤ at → flush_done (note_flush flushes fence m (at + 4)) fence l ≡ flush_done flushes fence l
  flush-same l h past = rw (flush-length, flush-last l h, flush-before l h) (go (eqb m l) refl)
    where
      go : (b : Bool) → eqb m l ≡ b →
          (let last = pick b (at + 4) (get_or flushes l 0) in pick (leb last fence) last (pick b (flush_done flushes fence m) (get_or flushes (length flushes / 2 + l) 0))) ≡ flush_done flushes fence l
      go true e = rw (lt-leb (at + 4) fence (omega arith)) (ap (flush_done flushes fence) (eqb-true m l e))
      go false e = refl

-- one command noted
pub noting-next : (flushes next : List ℕ) (fence fence' at : ℕ) (o : Op) (cs all : List Op) (place kind : ℕ) → On o place kind → (kind ≡ 3 → place < length flushes / 2) →
    next ≡ pick (eqb kind 3) (note_flush flushes fence place (at + 4)) flushes → fence' ≡ pick (eqb kind 4) (at + 4) fence →
    Noting flushes fence at (o ∷ cs) all → Noting next fence' (at + extent o) cs all
noting-next flushes next fence fence' at (store p vs) cs all place kind on h e f n =
    let keep : next ≡ flushes = e ∙ rw (ne_eqb kind 3 (λ q. omega (arith, on))) in
    let stay : fence' ≡ fence = f ∙ rw (ne_eqb kind 4 (λ q. omega (arith, on))) in
    rw (keep, stay) (record { fenced = omega (arith, n.fenced); flushed = λ l i. omega (arith, n.flushed l i); comes = λ l i. ends-store flushes fence at cs l p vs ∙ n.comes l i })
noting-next flushes next fence fence' at (flush m) cs all place kind on h e f n =
    let at3 : kind ≡ 3 = on.1 in
    let line : m ≡ place = on.0 in
    let inside : m < length flushes / 2 = omega (arith, h at3) in
    let new : next ≡ note_flush flushes fence m (at + 4) = e ∙ rw (eq-eqb kind 3 at3, line) in
    let stay : fence' ≡ fence = f ∙ rw (ne_eqb kind 4 (λ q. omega arith)) in
    let long : length next ≡ length flushes = ap length new ∙ flush-length flushes fence at m inside in
    let last : (l : ℕ) → l < length flushes / 2 → get_or next l 0 ≡ pick (eqb m l) (at + 4) (get_or flushes l 0) =
    λ l i. ap (λ (x : List ℕ). get_or x l 0) new ∙ flush-last flushes fence at m inside l i in
    let done : (l : ℕ) → l < length flushes / 2 → flush_done next fence l ≡ flush_done flushes fence l =
    λ l i. ap (λ (x : List ℕ). flush_done x fence l) new ∙ flush-same flushes fence at m inside l i n.fenced in
    rw stay
    (record {
      fenced = omega (arith, n.fenced);
      flushed = λ l i. at_most l (eqb m l) (get_or flushes l 0) (n.flushed l (omega arith)) (last l (omega arith));
      comes = λ l i. ends-flush flushes fence at cs l next m (last l (omega arith)) (done l (omega arith)) ∙ n.comes l (omega arith);
    })
  where
    at_most : (l : ℕ) (b : Bool) (old : ℕ) → old ≤ at → get_or next l 0 ≡ pick b (at + 4) old → get_or next l 0 ≤ at + 4
    at_most l true old k q = omega arith
    at_most l false old k q = omega arith
noting-next flushes next fence fence' at barrier cs all place kind on h e f n =
    let keep : next ≡ flushes = e ∙ rw (ne_eqb kind 3 (λ q. omega (arith, on))) in
    let new : fence' ≡ at + 4 = f ∙ rw (eq-eqb kind 4 on) in
    rw (keep, new)
    (record {
      fenced = omega arith;
      flushed = λ l i. omega (arith, n.flushed l i);
      comes = λ l i. ends-barrier flushes fence at cs l (omega (arith, n.flushed l i)) ∙ n.comes l i;
    })
noting-next flushes next fence fence' at malformed cs all place kind on h e f n = absurd on

-- ---- using it

-- what is noted for line l is where its last flush ends, if these commands, from `at` on, have one, else nothing past `at`
abbrev pub Noted : ℕ → ℕ → List Op → ℕ → Type 0
Noted end at cs l = (some (flushes_line l) cs ≡ true → end ≡ flush_end l at cs) × (some (flushes_line l) cs ≡ false → end ≤ at)

pub noted-start : (end : ℕ) (cs : List Op) (l : ℕ) → end ≡ flush_end l 0 cs → Noted end 0 cs l
noted-start end cs l e = (λ q. e, λ q. omega (arith, e, end_none l 0 cs q))

-- so, noted of the commands up to the last barrier, a store there is durable exactly if what is noted lies past it
pub noted-test : (end at : ℕ) (cs : List Op) (l : ℕ) → Noted end at (finished cs) l → durable l cs ≡ ltb at end
noted-test end at cs l n = durable-finished l cs ∙ go (some (flushes_line l) (finished cs)) refl
  where
    go : (d : Bool) → some (flushes_line l) (finished cs) ≡ d → d ≡ ltb at end
    go true q = sym (lt-ltb at end (omega (arith, n.0 q, end-past l at (finished cs) q)))
    go false q = sym (le-ltb at end (n.1 q))

-- past a command of any list
noted-past : (end at : ℕ) (o : Op) (cs : List Op) (l : ℕ) → Noted end at (o ∷ cs) l → Noted end (at + extent o) cs l
unfolding some flush_end
noted-past end at (store p vs) cs l n = (n.0, λ q. omega (arith, n.1 q))
noted-past end at (flush m) cs l n = go (eqb m l) n
  where
    go : (b : Bool) → ((b || some (flushes_line l) cs) ≡ true → end ≡ pick (some (flushes_line l) cs) (flush_end l (at + 4) cs) (pick b (at + 4) 0)) × ((b || some (flushes_line l) cs) ≡ false → end ≤ at) →
        Noted end (at + 4) cs l
    go true k = (λ q. rw q at (k.0 refl), λ q. omega (arith, rw q at (k.0 refl)))
    go false k = (λ q. rw q at (k.0 q), λ q. omega (arith, k.1 q))
noted-past end at barrier cs l n = (n.0, λ q. omega (arith, n.1 q))
noted-past end at malformed cs l n = rw (add-zero at) n

-- where nothing is left, what is noted lies before every later place
noted-rest : (end at more l : ℕ) → Noted end at [] l → Noted end (at + more) [] l
unfolding some
noted-rest end at more l n = (λ q. absurd (false≢true q), λ q. omega (arith, n.1 q))

-- and so past a command of those up to the last barrier
pub noted-next : (end at : ℕ) (o : Op) (cs : List Op) (l : ℕ) → Noted end at (finished (o ∷ cs)) l → Noted end (at + extent o) (finished cs) l
noted-next end at o cs l n = go (some is_barrier (o ∷ cs)) refl
  where
    go : (t : Bool) → some is_barrier (o ∷ cs) ≡ t → Noted end (at + extent o) (finished cs) l
    go true e = noted-past end at o (finished cs) l (rw (finished-some o cs e) at n)
    go false e = rw (finished-none cs (others o cs e)) (noted-rest end at (extent o) l (rw (finished-none (o ∷ cs) e) at n))

-- ---- a size, or none

pub sized-none : (k : ℕ) → ◌≡◌ {A = Option ℕ} None (sized k) → k ≡ 0
sized-none k e = go (eqb k 0) refl e
  where
    go : (t : Bool) → eqb k 0 ≡ t → ◌≡◌ {A = Option ℕ} None (pick t None (Some k)) → k ≡ 0
    go true q f = eqb-true k 0 q
    go false q f = let z : ◌≡◌ {A = ℕ} 0 1 = cc in absurd (omega arith)

pub sized-some : (k s : ℕ) → ◌≡◌ {A = Option ℕ} (Some s) (sized k) → (s ≡ k) × (0 < s)
sized-some k s e = go (eqb k 0) refl e
  where
    go : (t : Bool) → eqb k 0 ≡ t → ◌≡◌ {A = Option ℕ} (Some s) (pick t None (Some k)) → (s ≡ k) × (0 < s)
    go true q f = let z : ◌≡◌ {A = ℕ} 0 1 = cc in absurd (omega arith)
    go false q f = let same : s ≡ k = cc in (same, omega (arith, same, eqb-false k 0 q))

pub none-sized : (k : ℕ) → k ≡ 0 → ◌≡◌ {A = Option ℕ} None (sized k)
none-sized k e = rw (eq-eqb k 0 e)

pub some-sized : (k s : ℕ) → s ≡ k → 0 < s → ◌≡◌ {A = Option ℕ} (Some s) (sized k)
some-sized k s e low = let some : k ≡ 0 → ⊥ = λ z. omega (arith, e, z, low) in rw (ne_eqb k 0 some) (ap (λ (x : ℕ). Some x) e)
