-- What a step leaves: a change of one page, the records that stand for the page above, and what the pages list.
-- Assumes nothing.
use Prim.Native.Nat.{ℕ, suc, ◌+◌, ◌≤◌, ◌<◌}
use mathlib.Core.Path.{◌≡◌, refl, ap}
use mathlib.Core.Bool.{true}
use mathlib.Core.List.{List, [], ◌∷◌, ◌++◌}
use native.Mathlib.Omega.{arith}
use lib.ListN.{length}
use Rattle.device.specs.Calls.{pages_out}
use Rattle.page.specs.Layout.{Rec, top_key}
use Rattle.page.specs.Operations.{page_of}
use Rattle.page.specs.PageFormat.{Lists, PageFormat, Rules}
use Rattle.image.specs.Image.{first_key, index_rec, count}
use Rattle.tree.specs.Edits.{Change, PageStep, gone, kept, now, one, stops, two}
use Rattle.tree.specs.State.{State, take_page, taken}

-- ---- a step

-- stopped with 11 where fewer than `need` pages are free; or made, with P, and `need` pages are taken
abbrev pub Ends : (Change → State → Type 0) → List ℕ → ℕ → PageStep → Type 0
Ends P f need (now c t) = P c t × (length f ≡ need + length t.free)
Ends P f need (stops k) = (k ≡ 11) × (length f < need)

-- f is g with one page in front of it
ends-suc : (P : Change → State → Type 0) (p : ℕ) (f g : List ℕ) (need : ℕ) (s : PageStep) → Ends P g need s → f ≡ p ∷ g → Ends P f (suc need) s
ends-suc P p f g need (now c t) h e = (h.0, omega (arith, ap length e, h.1))
ends-suc P p f g need (stops k) h e = (h.0, omega (arith, ap length e, h.1))

-- the pages left are read off the definition, and `search` then asks that the taken one is not among them
pub taken-ends : (P : Change → State → Type 0) (st : State) (need : ℕ) (k : ℕ → State → PageStep) →
    ((p : ℕ) (f : List ℕ) → st.free ≡ p ∷ f → Ends P f need (k p (record { image = st.image; root = st.root; free = f }))) → Ends P st.free (suc need) (taken (stops pages_out) st k)
unfolding taken take_page
taken-ends P st need k h = go st.free refl
  where
    go : (f : List ℕ) → st.free ≡ f → Ends P f (suc need) (take_page (stops pages_out) f st k)
    go [] z = (refl, omega arith)
    go (p ∷ f) z = ends-suc P p (p ∷ f) _ need (take_page (stops pages_out) (p ∷ f) st k) (h p _ (search z)) search

-- how many records the page above then takes
abbrev pub raised : Change → ℕ
raised kept = 0
raised gone = 0
raised (one a) = 1
raised (two a k b) = 2

-- the pages that stand for it
abbrev pub standing : ℕ → Change → List ℕ
standing q kept = q ∷ []
standing q gone = []
standing q (one a) = a ∷ []
standing q (two a k b) = a ∷ b ∷ []

-- a copy is a page that was free
abbrev pub NewIn : List ℕ → Change → Type 0
NewIn f kept = Unit {0}
NewIn f gone = Unit {0}
NewIn f (one a) = 1 ≤ count a f
NewIn f (two a k b) = Unit {0}

-- ---- a step that is stopped only for want of pages

abbrev pub Out : (Change → State → Type 0) → PageStep → Type 0
Out P (now c t) = P c t
Out P (stops k) = k ≡ 11

pub out-ends : (P : Change → State → Type 0) (f : List ℕ) (need : ℕ) (s : PageStep) → Ends P f need s → Out P s
out-ends P f need (now c t) h = h.0
out-ends P f need (stops k) h = h.0

pub out-map : (P Q : Change → State → Type 0) (s : PageStep) → ((c : Change) (t : State) → P c t → Q c t) → Out P s → Out Q s
out-map P Q (now c t) g h = g c t h
out-map P Q (stops k) g h = h

-- P of what a step makes, if it does not stop
abbrev pub IfMade : (Change → State → Type 0) → PageStep → Type 0
IfMade P (now c t) = P c t
IfMade P (stops k) = Unit {0}

pub if-made-map : (P Q : Change → State → Type 0) (s : PageStep) → ((c : Change) (t : State) → P c t → Q c t) → IfMade P s → IfMade Q s
if-made-map P Q (now c t) g h = g c t h
if-made-map P Q (stops k) g h = tt

pub if-made-out : (P Q : Change → State → Type 0) (s : PageStep) → ((c : Change) (t : State) → P c t → Q c t) → Out P s → IfMade Q s
if-made-out P Q (now c t) g h = g c t h
if-made-out P Q (stops k) g h = tt

-- the index records that stand for the page of c, whose range starts at low
abbrev pub stand : Rec → ℕ → Change → List Rec
stand c low kept = c ∷ []
stand c low gone = []
stand c low (one a) = index_rec low a ∷ []
stand c low (two a k b) = index_rec low a ∷ index_rec k b ∷ []

-- their separators may be stored
abbrev pub SepsOk : ℕ → Change → Type 0
SepsOk low kept = Unit {0}
SepsOk low gone = Unit {0}
SepsOk low (one a) = low ≤ top_key
SepsOk low (two a k b) = (low ≤ top_key) × (k ≤ top_key)

-- a page that stays lists a record
abbrev pub Some : Change → List Rec → Type 0
Some kept rs = 1 ≤ length rs
Some gone rs = Unit {0}
Some (one a) rs = 1 ≤ length rs
Some (two a k b) rs = 1 ≤ length rs

pub some-any : (c : Change) (rs : List Rec) → 1 ≤ length rs → Some c rs
some-any kept rs h = h
some-any gone rs h = tt
some-any (one a) rs h = h
some-any (two a k b) rs h = h

pub nothing : (l : List Rec) → length l ≡ 0 → l ≡ []
nothing [] h = refl
nothing (r ∷ l) h = absurd (omega arith)

module _ (Pg : PageFormat) where
  -- ---- what a page lists

  -- page q lists rs
  pub record Holds (img : List ℕ) (kind q : ℕ) (rs : List Rec) : Type 0 where
    pub lists : Lists Pg (page_of img q) kind q rs

  -- two pages, the right one from its first key on
  pub record Halves (img : List ℕ) (kind a k b : ℕ) (rs : List Rec) : Type 0 where
    pub left : List Rec
    pub right : List Rec
    pub whole : left ++ right ≡ rs
    pub some_left : 1 ≤ length left
    pub some_right : 1 ≤ length right
    pub sep : k ≡ first_key right 0
    pub left-page : Holds img kind a left
    pub right-page : Holds img kind b right

  -- what stands for page q lists rs
  abbrev pub Held : List ℕ → ℕ → ℕ → Change → List Rec → Type 0
  Held img kind q kept rs = Holds img kind q rs
  Held img kind q gone rs = rs ≡ []
  Held img kind q (one a) rs = Holds img kind a rs
  Held img kind q (two a k b) rs = Halves img kind a k b rs

-- a sound page lists its records
pub lists-sound : (Pg : PageFormat) → Rules Pg → (kind own : ℕ) (p : List ℕ) → Pg.ok kind own p ≡ true → Lists Pg p kind own (Pg.recs p)
lists-sound Pg rules kind own p h = let k = rules.reads.ok-true kind own p h in record { laid = k.laid; kind = k.kind; own = k.own; recs = refl }

-- a page is taken
pub taken_is : {A : Type 0} (P : A → Type 0) (out : A) (st : State) (k : ℕ → State → A) → P out →
    ((p : ℕ) (f : List ℕ) → st.free ≡ p ∷ f → P (k p (record { image = st.image; root = st.root; free = f }))) → P (taken out st k)
unfolding taken take_page
taken_is P out st k a h = go st.free refl
  where
    go : (f : List ℕ) → st.free ≡ f → P (take_page out f st k)
    go [] z = a
    go (p ∷ f) z = h p _ (search z)
