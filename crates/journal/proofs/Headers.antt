-- The logged headers' stores and flushes: durable in themselves, outside page 0, the same whichever way each is written, and what they leave
-- is `with_headers`.
-- Assumes nothing.
use Prim.Native.Nat.{ℕ, zero, suc, ◌+◌, ◌*◌, ◌/◌, ◌≤◌, ◌<◌}
use mathlib.Core.Path.{◌≡◌, refl, sym, ap, ap₂, ◌∙◌, subst}
use mathlib.Core.Logic.{inl}
use mathlib.Core.Bool.{Bool, true, false, ◌||◌}
use mathlib.Core.List.{List, [], ◌∷◌, ◌++◌, map}
use native.Mathlib.Omega.{arith}
use lib.ListN.{length, get_or}
use Rattle.codec.specs.Lists.{part, splice, All, all_b}
use Rattle.codec.proofs.Tests.{first, second}
use Rattle.codec.proofs.Lists.{splice-sets, length-splice, length_part}
use Rattle.codec.proofs.Agree.{part-agree}
use Rattle.device.specs.Tape.{Op}
use Rattle.device.specs.Cut.{after, touches, Closed, stores, Flushing}
use Rattle.device.proofs.Clauses.{after-nil, touches-nil, stores-nil}
use Rattle.device.proofs.Cuts.{after-append}
use Rattle.device.proofs.Segments.{touches-append}
use Rattle.device.proofs.Stores.{stores-append}
use Rattle.device.proofs.Writing.{flushing-none, flushing-closed, flushing-stores, touches-both}
use Rattle.page.specs.Layout.{page_size, line_size}
use Rattle.image.specs.PageZero.{page_count, is_page}
use Rattle.image.specs.Image.{distinct}
use Rattle.image.proofs.Zero.{is_page-true}
use Rattle.journal.specs.Way.{line_by}
use Rattle.journal.specs.Log.{page_lines, own_page, header_stores, header_flushes, header_tape}
use Rattle.journal.specs.Recovery.{lines_from, logged_ok, with_headers}
use Rattle.journal.specs.Safe.{HeadersIn}
use Rattle.journal.specs.declared.Way.{Way}
use Rattle.journal.specs.declared.Way.TheVariants.{ByLine}
use Rattle.journal.proofs.Ways.{line-stores, line_after, line-untouched, line-touches, line-flushing}

-- ---- what the headers are

-- each is a line
abbrev pub Lines : List (List ℕ) → Type 0
Lines hs = All (λ (h : List ℕ). length h ≡ line_size) hs

-- each is of a page other than page 0, in an image of n pages
abbrev pub Inside : ℕ → List (List ℕ) → Type 0
Inside n hs = All (λ (h : List ℕ). is_page n (own_page h) ≡ true) hs

all-inside : (n : ℕ) (hs : List (List ℕ)) → all_b (is_page n) (map own_page hs) ≡ true → Inside n hs
unfolding all_b
all-inside n [] e = tt
all-inside n (h ∷ hs) e = (first (is_page n (own_page h)) (all_b (is_page n) (map own_page hs)) e, all-inside n hs (second (is_page n (own_page h)) (all_b (is_page n) (map own_page hs)) e))

pub logged-inside : (n : ℕ) (hs : List (List ℕ)) → logged_ok n hs ≡ true → Inside n hs
unfolding logged_ok
logged-inside n hs e = all-inside n hs (second (distinct (map own_page hs)) (all_b (is_page n) (map own_page hs)) e)

-- lines of an image, read
pub lines-from : (k l : ℕ) (a : List ℕ) → line_size * (l + k) ≤ length a → Lines (lines_from k l a)
unfolding lines_from
lines-from zero l a h = tt
lines-from (suc k) l a h = (length_part a (line_size * l) line_size (omega arith), lines-from k (suc l) a (omega arith))

pub lines-agree : (k l : ℕ) (a b : List ℕ) → length b ≡ length a → ((i : ℕ) → line_size * l ≤ i → i < line_size * (l + k) → get_or b i 0 ≡ get_or a i 0) → lines_from k l b ≡ lines_from k l a
unfolding lines_from
lines-agree zero l a b e h = refl
lines-agree (suc k) l a b e h =
    let x : part b (line_size * l) line_size ≡ part a (line_size * l) line_size = sym (part-agree b a (line_size * l) line_size e (λ i p q. h i p (omega arith))) in
    let y : lines_from k (suc l) b ≡ lines_from k (suc l) a = lines-agree k (suc l) a b e (λ i p q. h i (omega arith) (omega arith)) in
    cc

-- ---- their stores and flushes

pub header-flushing : (way : Way) (hs : List (List ℕ)) → Flushing (header_stores way hs) (header_flushes hs)
unfolding header_stores header_flushes
header-flushing way [] = flushing-none
header-flushing way (h ∷ hs) = line-flushing way (page_size * own_page h) h (page_lines * own_page h) (header_stores way hs) (header_flushes hs) (omega arith) (header-flushing way hs)

header-stores : (way : Way) (hs : List (List ℕ)) → stores (header_stores way hs) ≡ header_stores way hs
unfolding header_stores
header-stores way [] = stores-nil
header-stores way (h ∷ hs) =
    let p = page_size * own_page h in
    stores-append (line_by way p h) (header_stores way hs)
    ∙ ap₂ (λ (xs ys : List Op). xs ++ ys) (line-stores p h way (page_lines * own_page h) (omega arith)) (header-stores way hs)

-- with their flushes and the barrier: all durable, and no other store
pub headers-closed : (way : Way) (hs : List (List ℕ)) → Closed (header_tape way hs)
unfolding header_tape
headers-closed way hs = flushing-closed (header_stores way hs) (header_flushes hs) (header-flushing way hs)

pub headers-stored : (way : Way) (hs : List (List ℕ)) → stores (header_tape way hs) ≡ header_stores way hs
unfolding header_tape
headers-stored way hs = flushing-stores (header_stores way hs) (header_flushes hs) (header-flushing way hs) ∙ header-stores way hs

-- page 0 is not touched
pub headers-outside : (way : Way) (n : ℕ) (hs : List (List ℕ)) (i : ℕ) → Lines hs → Inside n hs → i < page_size → touches (header_stores way hs) i ≡ false
unfolding header_stores
headers-outside way n [] i l k h = touches-nil i
headers-outside way n (g ∷ hs) i l k h =
    let p = is_page-true n (own_page g) k.0 in
    touches-both (line_by way (page_size * own_page g) g) (header_stores way hs) i (line-untouched (page_size * own_page g) g l.0 way i (inl (omega arith))) (headers-outside way n hs i l.1 k.1 h)

-- ---- each written in either way: the same image and the same bytes as by line stores

pub headers-in : (way : Way) (hs : List (List ℕ)) → HeadersIn hs (header_stores way hs)
unfolding header_stores
headers-in way [] = refl
headers-in way (h ∷ hs) = (way, header_stores way hs, refl, headers-in way hs)

pub headers-same : (hs : List (List ℕ)) (cs : List Op) (y : List ℕ) → Lines hs → HeadersIn hs cs → after y cs ≡ after y (header_stores ByLine hs)
unfolding header_stores
headers-same [] cs y l e = ap (after y) e
headers-same (h ∷ hs) cs y l (way, rest, e, k) =
    let p = page_size * own_page h in
    ap (after y) e
    ∙ after-append y (line_by way p h) rest
    ∙ ap (λ (z : List ℕ). after z rest) (line_after p h l.0 way y ∙ sym (line_after p h l.0 ByLine y))
    ∙ headers-same hs rest (after y (line_by ByLine p h)) l.1 k
    ∙ sym (after-append y (line_by ByLine p h) (header_stores ByLine hs))

pub headers-touches : (hs : List (List ℕ)) (cs : List Op) (i : ℕ) → Lines hs → HeadersIn hs cs → touches cs i ≡ touches (header_stores ByLine hs) i
unfolding header_stores
headers-touches [] cs i l e = ap (λ (ds : List Op). touches ds i) e
headers-touches (h ∷ hs) cs i l (way, rest, e, k) =
    let p = page_size * own_page h in
    ap (λ (ds : List Op). touches ds i) e
    ∙ touches-append (line_by way p h) rest i
    ∙ ap₂ (λ (x y : Bool). x || y) (line-touches p h l.0 way i ∙ sym (line-touches p h l.0 ByLine i)) (headers-touches hs rest i l.1 k)
    ∙ sym (touches-append (line_by ByLine p h) (header_stores ByLine hs) i)

-- the image that they leave
pub headers-after : (hs : List (List ℕ)) (a : List ℕ) → Lines hs → Inside (page_count a) hs → with_headers hs a ≡ after a (header_stores ByLine hs)
unfolding with_headers header_stores
headers-after [] a l k = sym (after-nil a)
headers-after (h ∷ hs) a l k =
    let q = page_size * own_page h in
    let p = is_page-true (page_count a) (own_page h) k.0 in
    let fits : q + length h ≤ length a = omega (arith, l.0) in
    let same = length-splice a q h fits in
    headers-after hs (splice a q h) l.1 (subst (λ (n : ℕ). Inside (n / page_size) hs) (sym same) k.1)
    ∙ ap (λ (b : List ℕ). after b (header_stores ByLine hs)) (splice-sets a q h fits ∙ sym (line_after q h l.0 ByLine a))
    ∙ sym (after-append a (line_by ByLine q h) (header_stores ByLine hs))
