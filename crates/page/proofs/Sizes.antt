-- The listed records' bytes fit between start and the page's end: each byte lies in at most one record.
-- Assumes nothing.
use Rattle.std.proofs.Common.{◌≡◌, ℕ, zero, suc, ◌+◌, ◌<◌, ◌≤◌, min, Bool, true, false, ltb, leb, ◌⊎◌, List, [], ◌∷◌, refl, ◌∙◌, inl, inr, arith, ltb-false, ltb-true, le-ltb, lt-ltb, le-leb, leb-false, leb-true}
use borrow.Author.Tests.{lt-leb}
use Rattle.codec.specs.Lists.{All, pick}
use Rattle.page.specs.Layout.{page_size, Head, read_head}
use Rattle.page.specs.Page.{Entry, end, recs, entries, records, laid_out, Held, Off, Apart, Body}
use Rattle.page.specs.Operations.{sizes}
use Rattle.page.proofs.Facts.{recs-entries, ok-is}

-- ---- sums over the bytes of a page

-- the sum of f over the numbers below n
tally : ℕ → (ℕ → ℕ) → ℕ
tally zero f = 0
tally (suc n) f = f n + tally n f

-- 1 from a on up to b, else 0
inside : ℕ → ℕ → ℕ → ℕ
inside a b x = pick (leb a x) (pick (ltb x b) 1 0) 0

-- in how many of the records the byte x lies
covered : List Entry → ℕ → ℕ
covered [] x = 0
covered (e ∷ es) x = inside e.at (end e) x + covered es x

tally-add : (n : ℕ) (f g : ℕ → ℕ) → tally n (λ x. f x + g x) ≡ tally n f + tally n g
unfolding tally
tally-add zero f g = refl
tally-add (suc n) f g = omega (arith, tally-add n f g)

inside-in : (a b x : ℕ) → a ≤ x → x < b → inside a b x ≡ 1
unfolding inside
inside-in a b x h k = rw (le-leb a x h, lt-ltb x b k)

inside-low : (a b x : ℕ) → x < a → inside a b x ≡ 0
unfolding inside
inside-low a b x h = rw (lt-leb a x h)

inside-high : (a b x : ℕ) → b ≤ x → inside a b x ≡ 0
unfolding inside
inside-high a b x h = go (leb a x)
  where
    go : (t : Bool) → pick {A = ℕ} t (pick (ltb x b) 1 0) 0 ≡ 0
    go true = rw (le-ltb x b h)
    go false = refl

-- below a, from b on, or between
abbrev Where : ℕ → ℕ → ℕ → Type 0
Where a b x = (x < a) ⊎ ((b ≤ x) ⊎ ((a ≤ x) × (x < b)))

whereis : (a b x : ℕ) → Where a b x
whereis a b x = go (leb a x) (ltb x b) refl refl
  where
    go : (s t : Bool) → leb a x ≡ s → ltb x b ≡ t → Where a b x
    go false t e f = inl (leb-false a x e)
    go true false e f = inr (inl (ltb-false x b f))
    go true true e f = inr (inr (leb-true a x e, ltb-true x b f))

-- a record's size is the sum over it
tally-inside : (a b n : ℕ) → a ≤ b → b ≤ n → tally n (inside a b) + a ≡ b
unfolding tally
tally-inside a b n h k = omega (arith, go n)
  where
    go : (n : ℕ) → tally n (inside a b) + min n a ≡ min n b
    go zero = omega arith
    go (suc n) = step (go n) (whereis a b n)
      where
        step : tally n (inside a b) + min n a ≡ min n b → Where a b n → inside a b n + tally n (inside a b) + min (suc n) a ≡ min (suc n) b
        step g (inl w) = omega (arith, inside-low a b n w)
        step g (inr (inl w)) = omega (arith, inside-high a b n w)
        step g (inr (inr w)) = omega (arith, inside-in a b n w.0 w.1)

-- a sum of at most one for each byte, and nothing below start
tally-most : (n start : ℕ) (f : ℕ → ℕ) → ((x : ℕ) → f x ≤ 1) → ((x : ℕ) → x < start → f x ≡ 0) → start ≤ n → tally n f + start ≤ n
unfolding tally
tally-most n start f one none h = omega (arith, go n)
  where
    go : (n : ℕ) → tally n f + min n start ≤ n
    go zero = omega arith
    go (suc n) = step (go n) (leb start n) refl
      where
        step : tally n f + min n start ≤ n → (t : Bool) → leb start n ≡ t → f n + tally n f + min (suc n) start ≤ suc n
        step g true e = omega (arith, one n, leb-true start n e)
        step g false e = omega (arith, none n (leb-false start n e))

-- ---- each byte lies in at most one record

covered-low : (p : List ℕ) (start : ℕ) (es : List Entry) → All (Held p start) es → (x : ℕ) → x < start → covered es x ≡ 0
unfolding covered
covered-low p start [] h x k = refl
covered-low p start (e ∷ es) h x k = omega (arith, inside-low e.at (end e) x (omega (arith, h.0.low)), covered-low p start es h.1 x k)

covered-off : (e : Entry) (es : List Entry) → All (Off e) es → (x : ℕ) → e.at ≤ x → x < end e → covered es x ≡ 0
unfolding covered
covered-off e [] h x a b = refl
covered-off e (f ∷ es) h x a b = omega (arith, go h.0, covered-off e es h.1 x a b)
  where
    go : Off e f → inside f.at (end f) x ≡ 0
    go (inl k) = inside-low f.at (end f) x (omega arith)
    go (inr k) = inside-high f.at (end f) x (omega arith)

covered_one : (es : List Entry) → Apart es → (x : ℕ) → covered es x ≤ 1
unfolding covered
covered_one [] h x = omega arith
covered_one (e ∷ es) h x = go (covered_one es h.1 x) (whereis e.at (end e) x)
  where
    go : covered es x ≤ 1 → Where e.at (end e) x → inside e.at (end e) x + covered es x ≤ 1
    go g (inl w) = omega (arith, inside-low e.at (end e) x w)
    go g (inr (inl w)) = omega (arith, inside-high e.at (end e) x w)
    go g (inr (inr w)) = omega (arith, inside-in e.at (end e) x w.0 w.1, covered-off e es h.0 x w.0 w.1)

-- ---- the sum of the sizes

tally-none : (n : ℕ) → tally n (λ x. 0) ≡ 0
unfolding tally
tally-none zero = refl
tally-none (suc n) = omega (arith, tally-none n)

tally-covered : (p : List ℕ) (start : ℕ) (es : List Entry) → All (Held p start) es → tally page_size (covered es) ≡ sizes (recs es)
unfolding covered sizes
tally-covered p start [] h = tally-none page_size
tally-covered p start (e ∷ es) h =
    tally-add page_size (inside e.at (end e)) (covered es)
    ∙ omega (arith, tally-inside e.at (end e) page_size (omega arith) h.0.high, tally-covered p start es h.1)

pub body-sizes : (h : Head) (p : List ℕ) (es : List Entry) → Body h p es → sizes (recs es) + h.start ≤ page_size
body-sizes h p es b =
    omega (
      arith,
      tally-covered p h.start es b.held,
      tally-most page_size h.start (covered es) (covered_one es b.apart) (covered-low p h.start es b.held) b.head.high,
    )

pub page-sizes : (p : List ℕ) → laid_out p ≡ true → sizes (records p) + (read_head p).start ≤ page_size
page-sizes p ok = rw (recs-entries p) at (body-sizes (read_head p) p (entries p) (ok-is p ok).body)
