-- Image sizes, page numbers, and page 0: what `page_zero` answers holds exactly if line 0 is so.
-- Assumes nothing.
use Prim.Native.Nat.{ℕ, ◌*◌, ◌%◌, ◌^◌, ◌≤◌, ◌<◌}
use mathlib.Core.Path.{◌≡◌, refl, sym, ap, ap₂, ◌∙◌, subst}
use mathlib.Core.Bool.{Bool, true, false, ◌&&◌}
use mathlib.Core.List.{List, ◌++◌}
use native.Mathlib.Omega.{arith}
use lib.ListN.{get_or, replicate}
use lib.Seq.{take-add}
use lib.Dec.{leb, ltb, eqb}
use borrow.Author.Tests.{leb-true, le-leb, ltb-true, lt-ltb, eqb-true, eq-eqb}
use Rattle.codec.specs.Lists.{part, pick, eqs}
use Rattle.codec.specs.Numbers.{number, bytes_of}
use Rattle.codec.proofs.Tests.{both, first, second, everything, all-every, eqs-true, eqs-same}
use Rattle.codec.proofs.Numbers.{length-bytes_of, number-bytes_of}
use Rattle.device.specs.Calls.{is_image_size}
use Rattle.page.specs.Layout.{page_size, line_size}
use Rattle.image.specs.PageZero.{page_count, is_page, root_of, log_most, mark_bytes, no_mark, mark_ok, words_past, page_zero}
use Rattle.image.specs.declared.PageZero.{PageZero}
use Rattle.image.specs.declared.PageZero.TheVariants.{Wrong, Waiting, Ready}
use Rattle.image.proofs.General.{part-part, part-front}

-- ---- sizes and page numbers

-- "An image has N pages, 8 to 64"
pub record Size (n : ℕ) : Type 0 where
  pub low : 8 * page_size ≤ n
  pub high : n ≤ 64 * page_size
  pub whole : n % page_size ≡ 0

pub size-true : (n : ℕ) → is_image_size n ≡ true → Size n
size-true n h =
    let t = second (leb 8192 n) (leb n 65536 && eqb (n % 1024) 0) h in
    record {
      low = leb-true _ _ (first (leb 8192 n) (leb n 65536 && eqb (n % 1024) 0) h);
      high = leb-true _ _ (first (leb n 65536) (eqb (n % 1024) 0) t);
      whole = eqb-true _ _ (second (leb n 65536) (eqb (n % 1024) 0) t);
    }

pub true-size : (n : ℕ) → Size n → is_image_size n ≡ true
true-size n s = both (le-leb _ _ s.low) (both (le-leb _ _ s.high) (eq-eqb _ _ s.whole))

pub is_page-true : (n p : ℕ) → is_page n p ≡ true → (1 ≤ p) × (p < n)
unfolding is_page
is_page-true n p h = (leb-true 1 p (first (leb 1 p) (ltb p n) h), ltb-true p n (second (leb 1 p) (ltb p n) h))

pub true-is_page : (n p : ℕ) → 1 ≤ p → p < n → is_page n p ≡ true
unfolding is_page
true-is_page n p h k = both (le-leb 1 p h) (lt-ltb p n k)

-- ---- page 0

-- line 0 of page 0 holds the mark m and the root, and is right past the mark
pub record Line (img m : List ℕ) (root : ℕ) : Type 0 where
  pub reads : root_of img ≡ root
  pub page : is_page (page_count img) root ≡ true
  pub mark : part img 0 8 ≡ m
  pub past : part img 8 56 ≡ words_past (page_count img) root

-- and its mark waits, with k logged headers and the new root
pub record Marked (img : List ℕ) (k new : ℕ) : Type 0 where
  pub line : Line img (mark_bytes k new) (root_of img)
  pub some : 1 ≤ k
  pub few : k ≤ log_most
  pub page : is_page (page_count img) new ≡ true

abbrev Says : List ℕ → PageZero → Type 0
Says img Wrong = Unit {0}
Says img (Waiting k new) = Marked img k new
Says img (Ready root) = Line img no_mark root

says : (img : List ℕ) → Says img (page_zero img)
unfolding page_zero mark_ok
says img = go (is_page n root && eqs (part img 8 56) (words_past n root)) refl (eqs m no_mark) refl (mark_ok n m) refl
  where
    n : ℕ
    n = page_count img

    root : ℕ
    root = root_of img

    m : List ℕ
    m = part img 0 8

    line : (is_page n root && eqs (part img 8 56) (words_past n root)) ≡ true → (w : List ℕ) → m ≡ w → Line img w root
    line e w f =
        record {
          reads = refl;
          page = first (is_page n root) (eqs (part img 8 56) (words_past n root)) e;
          mark = f;
          past = eqs-true _ _ (second (is_page n root) (eqs (part img 8 56) (words_past n root)) e);
        }

    go : (a : Bool) → (is_page n root && eqs (part img 8 56) (words_past n root)) ≡ a → (b : Bool) → eqs m no_mark ≡ b → (c : Bool) → mark_ok n m ≡ c →
        Says img (pick a (pick b (Ready root) (pick c (Waiting (get_or m 1 0) (number (part m 2 2))) Wrong)) Wrong)
    go false e b f c g = tt
    go true e true f c g = line e no_mark (eqs-true _ _ f)
    go true e false f true g =
        let t = everything _ g in
        record {
          line = line e (mark_bytes (get_or m 1 0) (number (part m 2 2))) (eqs-true _ _ t.1.1.1.0);
          some = leb-true _ _ t.0;
          few = leb-true _ _ t.1.0;
          page = t.1.1.0;
        }
    go true e false f false g = tt

pub ready-facts : (img : List ℕ) (root : ℕ) → page_zero img ≡ Ready root → Line img no_mark root
ready-facts img root e = subst (Says img) e (says img)

pub waiting-facts : (img : List ℕ) (k new : ℕ) → page_zero img ≡ Waiting k new → Marked img k new
waiting-facts img k new e = subst (Says img) e (says img)

pub facts-ready : (img : List ℕ) (root : ℕ) → Line img no_mark root → page_zero img ≡ Ready root
unfolding page_zero
facts-ready img root l = rw (l.reads, l.page, l.past, eqs-same (words_past (page_count img) root), l.mark, eqs-same no_mark)

-- a mark that waits is read back
module _ (n k new : ℕ) (small : new < 65536) where
  mark-new : number (part (mark_bytes k new) 2 2) ≡ new
  unfolding mark_bytes part bytes_of
  mark-new = number-bytes_of 2 new small

  mark-headers : get_or (mark_bytes k new) 1 0 ≡ k
  unfolding mark_bytes
  mark-headers = refl

  mark-waits : eqs (mark_bytes k new) no_mark ≡ false
  unfolding eqs mark_bytes no_mark
  mark-waits = refl

  mark-ok : 1 ≤ k → k ≤ log_most → is_page n new ≡ true → mark_ok n (mark_bytes k new) ≡ true
  unfolding mark_ok
  mark-ok some few page = rw (mark-new, mark-headers) (all-every _ (le-leb _ _ some, (le-leb _ _ few, (page, (eqs-same (mark_bytes k new), tt)))))

pub facts-waiting : (img : List ℕ) (k new : ℕ) → new < 65536 → Marked img k new → page_zero img ≡ Waiting k new
unfolding page_zero
facts-waiting img k new small w =
    let l = w.line in
    let n = page_count img in
    rw (
      l.page,
      l.past,
      eqs-same (words_past n (root_of img)),
      l.mark,
      mark-waits n k new small,
      mark-ok n k new small w.some w.few w.page,
      mark-headers n k new small,
      mark-new n k new small,
    )

-- the whole line
pub line-bytes : (img m : List ℕ) (root : ℕ) → Line img m root → part img 0 line_size ≡ m ++ words_past (page_count img) root
unfolding part
line-bytes img m root l = take-add 8 56 img ∙ ap₂ (λ (x y : List ℕ). x ++ y) l.mark l.past

-- the root stands in the words past the mark
pub past-root : (img : List ℕ) (n root : ℕ) → root < 256 ^ 8 → part img 8 56 ≡ words_past n root → root_of img ≡ root
unfolding root_of words_past
past-root img n root small e =
    ap number (sym (part-part img 8 56 0 8 (omega arith)) ∙ ap (λ (l : List ℕ). part l 0 8) e ∙ front) ∙ number-bytes_of 8 root small
  where
    front : part (words_past n root) 0 8 ≡ bytes_of 8 root
    front = part-front (bytes_of 8 root) (bytes_of 2 n ++ (bytes_of 2 1 ++ replicate 44 0)) 8 (length-bytes_of 8 root)
