-- The last character of a text, sought from its end.
--     last-pass, last_found, last_none      going back: a tail is passed; any other octet begins the last character; only tails are left
--     last_less                             the last character of a text that is not empty begins inside it
--     last-char                             behind any octets, the last character is the last sequence
--     code-seen                             the code point of the character at a place
--     white-none, white-last, white-ascii   whether a text ends in white space: an empty one, by its last character, by a last octet of ASCII
-- Assumes nothing.
use Rattle.std.proofs.Common.{ℕ, suc, ◌+◌, ◌-◌, ◌%◌, ◌≤◌, ◌<◌, arith, ◌≡◌, refl, sym, ap, ◌∙◌, Bool, true}
use Rattle.std.proofs.Common.{false, cond, ◌&&◌, ◌||◌, List, [], ◌∷◌, ◌++◌, length, get_or, take, drop, length-append, eqb, leb}
use Rattle.std.specs.Prelude.{Option, Some, None}
use mathlib.Core.Bool.{beq}
use lib.Seq.{drop-append_seam}
use borrow.Author.Tests.{not-true, not-false}
use Rattle.text.specs.Range.{within}
use Rattle.text.specs.Utf8.{tail, is_char, is_boundary, value, gather}
use Rattle.text.specs.Class.{is_whitespace, white_space}
use Rattle.text.specs.Scan.{part, code, see_from}
use Rattle.text.proofs.general.Places.{boundary-in}
use Rattle.text.specs.Shapes.{one}
use Rattle.text.proofs.Shapes.{shapes}
use Rattle.text.proofs.general.Tests.{beq-eq}
use Rattle.text.proofs.general.Below.{each}
use Rattle.chunk.specs.Format.{last_from, last_at, last_code, ends_white}
use Rattle.text.proofs.general.Parts.{part_none, part-more, length_part, drop-part, part-drop}
use Rattle.text.proofs.general.Lists.{add-over}

-- ---- the place of the last character

last_snoc : (t : List ℕ) (best i b : ℕ) → last_from best i (t ++ b ∷ []) ≡ cond (within tail b) (last_from best i t) (i + length t)
unfolding last_from
last_snoc [] best i b = ap (cond (within tail b) best) (zeroed i)
  where
    zeroed : (i : ℕ) → i ≡ i + 0
    zeroed i = omega arith
last_snoc (a ∷ t) best i b =
    last_snoc t (cond (within tail a) best i) (suc i) b
    ∙ ap (cond (within tail b) (last_from (cond (within tail a) best i) (suc i) t)) (add-over i (length t))

-- one step back, from i to j
module _ (t : List ℕ) (a i j : ℕ) (h : a ≤ j) (e : i ≡ j + 1) (l : i ≤ length t) where
  back : last_at (part t a i) ≡ cond (within tail (get_or t j 0)) (last_at (part t a j)) (0 + length (part t a j))
  back = ap last_at (ap (part t a) e ∙ part-more t a j h (omega arith)) ∙ last_snoc (part t a j) 0 0 (get_or t j 0)

  pub last-pass : is_boundary t j ≡ false → last_at (part t a i) ≡ last_at (part t a j)
  last-pass q = back ∙ rw (not-false (within tail (get_or t j 0)) (boundary-in t j (omega arith) ∙ q)) refl

  pub last_found : is_boundary t j ≡ true → j ≡ a + last_at (part t a i)
  last_found q =
      let other = not-true (within tail (get_or t j 0)) (boundary-in t j (omega arith) ∙ q) in
      sum a j _ _ (length_part t a j h (omega arith)) h (back ∙ rw other refl)
    where
      sum : (a j n k : ℕ) → n ≡ j - a → a ≤ j → k ≡ 0 + n → j ≡ a + k
      sum a j n k p q r = omega arith

pub last_none : (t : List ℕ) (a i n : ℕ) → i ≡ a → last_at (part t a i) ≡ n → i ≡ a + n
unfolding last_from
last_none t a i n e h = sum a i n e (sym h ∙ ap last_at (ap (part t a) e ∙ part_none t a))
  where
    sum : (a i n : ℕ) → i ≡ a → n ≡ 0 → i ≡ a + n
    sum a i n p q = omega arith

last-below : (t : List ℕ) (best i b : ℕ) → best ≤ b → i + length t ≤ b + 1 → last_from best i t ≤ b
unfolding last_from
last-below [] best i b h l = h
last-below (x ∷ t) best i b h l = last-below t (cond (within tail x) best i) (suc i) b (by (within tail x)) (omega arith)
  where
    by : (w : Bool) → cond w best i ≤ b
    by true = h
    by false = omega arith

pub last_less : (t : List ℕ) (a e at : ℕ) → a < e → e ≤ length t → at ≡ a + last_at (part t a e) → at < e
last_less t a e at h l q =
    let n = length_part t a e (omega arith) l in
    let k = last-below (part t a e) 0 0 (length (part t a e) - 1) (omega arith) (omega (arith, n)) in omega (arith, k, n)

-- ---- behind any octets, the last character is the last sequence

last-append : (u w : List ℕ) (best i : ℕ) → last_from best i (u ++ w) ≡ last_from (last_from best i u) (i + length u) w
unfolding last_from
last-append [] w best i = ap (λ (k : ℕ). last_from best k w) (omega arith)
last-append (b ∷ u) w best i =
    let now = cond (within tail b) best i in
    last-append u w now (suc i) ∙ ap (λ (k : ℕ). last_from (last_from now (suc i) u) k w) (omega arith)

last-tails : (w : List ℕ) (best i : ℕ) → ((n : ℕ) → n < length w → within tail (get_or w n 0) ≡ true) → last_from best i w ≡ best
unfolding last_from
last-tails [] best i h = refl
last-tails (b ∷ w) best i h = rw (h 0 (omega arith)) (last-tails w best (suc i) (λ n l. h (suc n) (omega arith)))

last_one : (w : List ℕ) (best i : ℕ) → is_char w ≡ true → last_from best i w ≡ i
unfolding last_from
last_one [] best i e = absurd (omega (arith, (shapes.char-some [] e).0))
last_one (b ∷ w) best i e =
    rw (shapes.char-first (b ∷ w) [] 0 e) (last-tails w i (suc i) (λ n l. shapes.char-further (b ∷ w) (suc n) 0 e (omega arith) (omega arith)))

pub last-char : (u w : List ℕ) → is_char w ≡ true → last_at (u ++ w) ≡ length u
last-char u w e = last-append u w 0 0 ∙ last_one w (last_at u) (0 + length u) e ∙ none (length u)
  where
    none : (n : ℕ) → 0 + n ≡ n
    none n = omega arith

-- ---- the code point of the last character

abbrev code_in : Option (ℕ × ℕ) → ℕ
code_in None = 0
code_in (Some (c, n)) = c

seen : (t : List ℕ) (i : ℕ) → 0 < length t → code_in (see_from t i) ≡ code t
unfolding see_from
seen [] i h = absurd (omega arith)
seen (b ∷ t) i h = refl

pub code-seen : (t v : List ℕ) (at to : ℕ) (r r₁ : Option (ℕ × ℕ)) → v ≡ take to t → at < to → to ≤ length t → r ≡ see_from (drop at v) at → r ≡ r₁ →
    code_in r₁ ≡ code (part t at to)
code-seen t v at to r r₁ e l n h q =
    sym (ap code_in q)
    ∙ ap code_in h
    ∙ ap (λ (x : List ℕ). code_in (see_from (drop at x) at)) e
    ∙ ap (λ (x : List ℕ). code_in (see_from x at)) same
    ∙ seen (part t at to) at (omega (arith, length_part t at to (omega arith) n))
  where
    same : drop at (take to t) ≡ part t at to
    same = sym (part-drop t at to n)

-- ---- white space

pub white-none : (t : List ℕ) (a e : ℕ) → e ≤ a → a ≤ e → false ≡ ends_white (part t a e)
white-none t a e h l = sym (ap ends_white (ap (λ (n : ℕ). part t n e) same ∙ part_none t e))
  where
    same : a ≡ e
    same = omega arith

some-white : (t : List ℕ) → 0 < length t → is_whitespace (last_code t) ≡ ends_white t
some-white [] h = absurd (omega arith)
some-white (b ∷ t) h = refl

pub white-last : (t : List ℕ) (a e at c : ℕ) → a < e → e ≤ length t → at ≡ a + last_at (part t a e) → c ≡ code (part t at e) →
    is_whitespace c ≡ ends_white (part t a e)
white-last t a e at c l n p q =
    ap is_whitespace (q ∙ ap (λ (n : ℕ). code (part t n e)) p ∙ sym (ap code (drop-part t a e (last_at (part t a e)))))
    ∙ some-white (part t a e) (omega (arith, l, length_part t a e (omega arith) n))

-- white space of ASCII, as the code tests it
abbrev narrow : ℕ → Bool
narrow b = eqb b 0x20 || (leb 0x09 b && leb b 0x0D)

narrow-white : (b : ℕ) → b < 0x80 → narrow b ≡ is_whitespace b
unfolding is_whitespace white_space
narrow-white b h = beq-eq (narrow b) (is_whitespace b) (each (λ n. beq (narrow n) (is_whitespace n)) 128 tt b h)

-- an octet of ASCII at the end is the last character
ends-ascii : (u : List ℕ) (b : ℕ) → b < 0x80 → last_code (u ++ b ∷ []) ≡ b
unfolding value gather
ends-ascii u b k =
    let char = shapes.shape-char (one {a = b} (omega arith)) in
    ap (λ (n : ℕ). code (drop n (u ++ b ∷ []))) (last-char u (b ∷ []) char)
    ∙ ap code (drop-append_seam u (b ∷ []))
    ∙ shapes.code-char (b ∷ []) [] char
    ∙ low b k
  where
    low : (b : ℕ) → b < 0x80 → b % 128 ≡ b
    low b k = omega arith

pub white-ascii : (t : List ℕ) (a e : ℕ) → a < e → e ≤ length t → get_or t (e - 1) 0 < 0x80 → narrow (get_or t (e - 1) 0) ≡ ends_white (part t a e)
white-ascii t a e h l k =
    let b = get_or t (e - 1) 0 in
    let u = part t a (e - 1) in
    narrow-white b k
    ∙ ap is_whitespace (sym (ends-ascii u b k))
    ∙ some-white (u ++ b ∷ []) (omega (arith, length-append u (b ∷ [])))
    ∙ ap ends_white (sym (part-more t a (e - 1) (omega arith) (omega arith)) ∙ ap (part t a) (again h))
  where
    again : a < e → e - 1 + 1 ≡ e
    again h = omega arith
