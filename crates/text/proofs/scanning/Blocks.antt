-- Stretches of text without a byte of a set, runs of plain text, and the first place of a byte: the laws for src/block.rt.
--     distance_none                       a byte at a distance from each interval of a set is not in the set
--     Before, before_more                 the loops of `part` and `plain_part`: a fact about the places before one
--     clear_none, clear-meet, clear-join, clear-block   stretches: the empty one, two that overlap or meet, one with a block behind it
--     ClearAt, part-done                  the end of the loop of `part`
--     Away, away_more, away-done          the fold of `is_clear`
--     Least, least_more, least-done, none-ascii    the fold of `is_ascii`, and that a byte which is not of `others` is ASCII
--     PlainAt, apart-plain                a byte at a distance from the ends of plain text is plain
--     plain-none, plain-meet, plain-join, plain-block   runs of plain text, as stretches above
--     plain_done                          the end of the loop of `plain_part`
--     found-behind                        the end of `find`
--     found-once                          a byte has only one first place
--     line                                the place of the first newline is where a line's characters end
-- Assumes nothing.
use Rattle.std.proofs.Common.{ℕ, zero, suc, ◌+◌, ◌-◌, ◌≤◌, ◌<◌, min, max, arith, ◌≡◌, refl, sym, ap, ap₂, ◌∙◌, subst, Bool, true, false, not, List, [], ◌∷◌, ◌++◌}
use Rattle.std.proofs.Common.{length, get_or, take, drop, length-take, length-drop, bit_or, bit_xor, eqb, ltb, leb, eq-eqb, ne_eqb, eqb-true, ltb-true}
use Rattle.std.proofs.Common.{ltb-false, lt-ltb, le-leb}
use mathlib.Core.Bool.{and-false}
use Rattle.std.proofs.lemmas.List.{get_or-take, get_or-drop}
use borrow.Author.Tests.{eqb-false, lt-leb}
use Rattle.text.specs.declared.block.Interval.{Interval}
use Rattle.text.specs.declared.block.Set.{Set}
use Rattle.text.specs.Class.{holds_of}
use Rattle.text.specs.Scan.{skip, fails, Ahead}
use Rattle.text.specs.declared.class.Test.TheVariants.{Newline}
use Rattle.text.proofs.general.Tests.{told-apart}
use Rattle.text.proofs.scanning.Skip.{skip-end, skip-over, byte-on, byte-stop, wide-on, ran}
use Rattle.text.specs.Block.{inside, in_set, apart, others, only, Clear, Found, is_simple, PlainRun}

-- ---- the distance from a set

apart_none : (x : Interval) (b : ℕ) {k : ℕ} → k ≡ apart x b → 0 < k → inside x b ≡ false
apart_none x b {k} q h = go (ltb b x.0) refl
  where
    go : (t : Bool) → ltb b x.0 ≡ t → inside x b ≡ false
    go true e = rw (lt-leb x.0 b (ltb-true _ _ e))
    go false e = rw (lt-leb b x.1 (omega (arith, ltb-false b x.0 e))) (and-false (leb x.0 b))

least-three : (a b c : ℕ) → 0 < min (min c b) a → (0 < a) × (0 < b) × (0 < c)
least-three a b c h = (omega arith, omega arith, omega arith)

pub distance_none : (x : Set) (b : ℕ) {p q r m n : ℕ} → p ≡ apart x.one b → q ≡ apart x.two b → r ≡ apart x.three b → m ≡ min r q →
    n ≡ min m p → 0 < n → in_set x b ≡ false
unfolding in_set
distance_none x b {p} {q} {r} e f g d c h =
    let l = least-three p q r (subst (λ (k : ℕ). 0 < k) (c ∙ ap (λ (k : ℕ). min k p) d) h) in
    rw (apart_none x.one b e l.0, apart_none x.two b f l.1, apart_none x.three b g l.2)

-- ---- a fact about each place of a stretch

-- what holds from i to j, and from a place before j to r, holds from i to r
joined : (P : ℕ → Type 0) {i j l r : ℕ} → l ≤ j → ((k : ℕ) → i ≤ k → k < j → P k) → ((k : ℕ) → l ≤ k → k < r → P k) → (k : ℕ) → i ≤ k → k < r → P k
joined P {j = j} g a b k h l = go (ltb k j) refl
  where
    go : (t : Bool) → ltb k j ≡ t → P k
    go true e = a k h (ltb-true _ _ e)
    go false e = b k (omega (arith, ltb-false k j e)) l

-- of the first k places of the block from i on, it holds of those before the place m
abbrev pub Before : (ℕ → Type 0) → ℕ → ℕ → ℕ → Type 0
Before P i k m = (j : ℕ) → j < k → j < m → P (i + j)

pub before_more : (P : ℕ → Type 0) (i k m p : ℕ) {r : ℕ} → r ≡ min p m → Before P i k m → (k < p → P (i + k)) → Before P i (k + 1) r
before_more P i k m p e h one j l n = go (eqb j k) refl
  where
    go : (t : Bool) → eqb j k ≡ t → P (i + j)
    go true d = let z : j ≡ k = eqb-true j k d in subst (λ (n : ℕ). P (i + n)) (sym z) (one (omega arith))
    go false d = h j (omega (arith, eqb-false j k d)) (omega arith)

before-all : (P : ℕ → Type 0) (i m : ℕ) {k : ℕ} → m ≤ k → Before P i k m → (n : ℕ) → i ≤ n → n < i + m → P n
before-all P i m l b n p q =
    let e : i + (n - i) ≡ n = omega arith in
    subst P e (b (n - i) (omega arith) (omega arith))

-- ---- stretches without a byte of the set

abbrev pub ClearAt : Set → List ℕ → ℕ → Type 0
ClearAt x s k = (get_or s k 0 < 256) × (in_set x (get_or s k 0) ≡ false)

pub clear_none : {x : Set} {s : List ℕ} {i : ℕ} → Clear x s i i
clear_none = record { from = omega arith; to = omega arith; clear = λ k h l. absurd (omega arith) }

pub clear-meet : {x : Set} {s : List ℕ} {i j l r : ℕ} → Clear x s i j → Clear x s l r → i ≤ l → l ≤ j → Clear x s i r
clear-meet {x} {s} a b h g = record {
  from = omega (arith, b.from);
  to = omega (arith, a.from, a.to, b.from, b.to);
  clear = joined (ClearAt x s) g a.clear b.clear;
}

pub clear-join : {x : Set} {s : List ℕ} {i j r : ℕ} → Clear x s i j → Clear x s j r → Clear x s i r
clear-join a b = clear-meet a b a.from (omega arith)

-- a stretch, and behind it a block without such a byte
pub clear-block : {x : Set} {s : List ℕ} {i j k n : ℕ} → Clear x s i j → Clear x s j (j + k) → k ≡ n → Clear x s i (j + n)
clear-block {x} {s} {i} {j} a b e = clear-join a (subst (λ (m : ℕ). Clear x s j (j + m)) e b)

pub part-done : (x : Set) (s : List ℕ) (i m : ℕ) {k : ℕ} → m ≤ k → i + k ≤ length s → Before (ClearAt x s) i k m → Clear x s i (i + m)
part-done x s i m l h b = record { from = omega arith; to = omega arith; clear = before-all (ClearAt x s) i m l b }

-- ---- the bytes of a slice

-- what holds of each byte of a list, and of one more, holds of each byte of the list with that one behind it
pushed : (P : ℕ → Type 0) (ys : List ℕ) (b : ℕ) → ((j : ℕ) → j < length ys → P (get_or ys j 0)) → P b → (j : ℕ) → j < length (ys ++ (b ∷ [])) →
    P (get_or (ys ++ (b ∷ [])) j 0)
pushed P [] b h p zero l = p
pushed P [] b h p (suc j) l = absurd (omega arith)
pushed P (y ∷ ys) b h p zero l = h 0 (omega arith)
pushed P (y ∷ ys) b h p (suc j) l = pushed P ys b (λ k q. h (suc k) (omega arith)) p j (omega arith)

at_slice : (s ys : List ℕ) (i n j : ℕ) → ys ≡ take (i + n - i) (drop i s) → j < n → get_or ys j 0 ≡ get_or s (i + j) 0
at_slice s ys i n j e l =
    ap (λ (k : List ℕ). get_or k j 0) e ∙ get_or-take (i + n - i) (drop i s) j 0 (omega arith) ∙ get_or-drop i s j 0

slice-size : (s ys : List ℕ) (i n j : ℕ) → ys ≡ take (i + n - i) (drop i s) → i + n ≤ length s → j < n → j < length ys
slice-size s ys i n j e l h = omega (arith, ap length e ∙ length-take (i + n - i) (drop i s), length-drop i s)

-- ---- the fold of `is_clear`: if the least distance m is not 0, none of the bytes is in the set

abbrev pub Away : Set → List ℕ → ℕ → Type 0
Away x ys m = 0 < m → (j : ℕ) → j < length ys → in_set x (get_or ys j 0) ≡ false

pub away_more : (x : Set) (ys : List ℕ) (m b : ℕ) {r : ℕ} → (0 < r → 0 < m) → (0 < r → in_set x b ≡ false) → Away x ys m → Away x (ys ++ (b ∷ [])) r
away_more x ys m b some one h z = pushed (λ k. in_set x k ≡ false) ys b (h (some z)) (one z)

pub away-done : (x : Set) (s ys : List ℕ) (i n m : ℕ) → ys ≡ take (i + n - i) (drop i s) → i + n ≤ length s → ((k : ℕ) → get_or s k 0 < 256) → Away x ys m →
    0 < m → Clear x s i (i + n)
away-done x s ys i n m e l b h z =
    part-done x s i n (omega arith) l (λ j p q. (b (i + j), subst (λ (k : ℕ). in_set x k ≡ false) (at_slice s ys i n j e p) (h z j (slice-size s ys i n j e l p))))

-- ---- the fold of `is_ascii`: none of the bytes is above m

abbrev pub Least : List ℕ → ℕ → Type 0
Least ys m = (j : ℕ) → j < length ys → get_or ys j 0 ≤ m

pub least_more : (ys : List ℕ) (m b : ℕ) {r : ℕ} → m ≤ r → b ≤ r → Least ys m → Least (ys ++ (b ∷ [])) r
least_more ys m b {r} e f h = pushed (λ k. k ≤ r) ys b (λ j l. let q = h j l in omega arith) f

ascii-none : (b : ℕ) → b < 0x80 → in_set others b ≡ false
unfolding in_set
ascii-none b h = rw (lt-leb 0x80 b h)

pub least-done : (s ys : List ℕ) (i n m : ℕ) → ys ≡ take (i + n - i) (drop i s) → i + n ≤ length s → Least ys m → m < 0x80 → Clear others s i (i + n)
least-done s ys i n m e l h z =
    part-done others s i n (omega arith) l
    (λ j p q. let a : get_or s (i + j) 0 ≤ m = subst (λ (k : ℕ). k ≤ m) (at_slice s ys i n j e p) (h j (slice-size s ys i n j e l p)) in
    (omega arith, ascii-none (get_or s (i + j) 0) (omega arith)))

-- a byte that is not of `others` is ASCII
pub none-ascii : (b : ℕ) → b < 256 → in_set others b ≡ false → b < 0x80
unfolding in_set
none-ascii b h f = go (ltb b 0x80) refl
  where
    go : (t : Bool) → ltb b 0x80 ≡ t → b < 0x80
    go true e = ltb-true _ _ e
    go false e = absurd (told-apart (in_set others) b (rw (le-leb 0x80 b (ltb-false _ _ e), le-leb b 0xFF (omega arith))) f refl)

-- ---- runs of plain text

abbrev pub PlainAt : List ℕ → ℕ → Type 0
PlainAt s k = (is_simple (get_or s k 0) ≡ true) × (get_or s (k - 1) 0 ≡ 0x20 → get_or s k 0 ≡ 0x20 → ⊥)

blanks : (a b : ℕ) → 0 < bit_or (bit_xor a 0x20) (bit_xor b 0x20) → a ≡ 0x20 → b ≡ 0x20 → ⊥
blanks a b h e f = let z : bit_or (bit_xor a 0x20) (bit_xor b 0x20) ≡ 0 = ap₂ (λ (m n : ℕ). bit_or (bit_xor m 0x20) (bit_xor n 0x20)) e f in omega arith

differs : (b x : ℕ) → bit_xor x x ≡ 0 → 0 < bit_xor b x → eqb b x ≡ false
differs b x z h = ne_eqb b x (λ e. let y : bit_xor b x ≡ 0 = ap (λ (n : ℕ). bit_xor n x) e ∙ z in omega arith)

pub apart-plain : (a b : ℕ) → 0x1F < b → b < 0x7F → 0 < bit_xor b 0x24 → 0 < bit_xor b 0x2D → 0 < bit_xor b 0x5C →
    0 < bit_or (bit_xor a 0x20) (bit_xor b 0x20) → 0 < bit_xor b 0x7B → 0 < bit_xor b 0x7D → (is_simple b ≡ true) × (a ≡ 0x20 → b ≡ 0x20 → ⊥)
unfolding is_simple
apart-plain a b h l d m e n f g = (
  rw (
    lt-ltb 0x1F b h,
    lt-ltb b 0x7F l,
    differs b 0x24 refl d,
    differs b 0x2D refl m,
    differs b 0x5C refl e,
    differs b 0x7B refl f,
    differs b 0x7D refl g,
  ),
  blanks a b n,
)

pub plain-none : {s : List ℕ} {i : ℕ} → PlainRun s i i
plain-none = record { from = omega arith; to = omega arith; simple = λ k h l. absurd (omega arith); single = λ k h l. absurd (omega arith) }

pub plain-meet : {s : List ℕ} {i j l r : ℕ} → PlainRun s i j → PlainRun s l r → i ≤ l → l ≤ j → PlainRun s i r
plain-meet {s} a b h g = record {
  from = omega (arith, b.from);
  to = omega (arith, a.from, a.to, b.from, b.to);
  simple = joined (λ k. is_simple (get_or s k 0) ≡ true) g a.simple b.simple;
  single = joined (λ k. get_or s (k - 1) 0 ≡ 0x20 → get_or s k 0 ≡ 0x20 → ⊥) g a.single b.single;
}

pub plain-join : {s : List ℕ} {i j r : ℕ} → PlainRun s i j → PlainRun s j r → PlainRun s i r
plain-join a b = plain-meet a b a.from (omega arith)

-- a run, and behind it a block of plain text
pub plain-block : {s : List ℕ} {i j k n : ℕ} → PlainRun s i j → PlainRun s j (j + k) → k ≡ n → PlainRun s i (j + n)
plain-block {s} {i} {j} a b e = plain-join a (subst (λ (m : ℕ). PlainRun s j (j + m)) e b)

pub plain_done : (s : List ℕ) (i m : ℕ) {k : ℕ} → m ≤ k → i + k ≤ length s → Before (PlainAt s) i k m → PlainRun s i (i + m)
plain_done s i m l h b = record {
  from = omega arith;
  to = omega arith;
  simple = λ n p q. (before-all (PlainAt s) i m l b n p q).0;
  single = λ n p q. (before-all (PlainAt s) i m l b n p q).1;
}

-- ---- the end of `find`: the first place of a byte

only-it : (x : ℕ) → in_set (only x) x ≡ true
unfolding in_set
only-it x = rw (le-leb x x (omega arith))

-- a stretch without the byte x, and k places of the rest behind it that do not have it either
pub found-behind : (x : ℕ) (s : List ℕ) (i j k : ℕ) {r : ℕ} → Clear (only x) s i j → r ≡ j + k → r ≤ max i (length s) →
    ((m : ℕ) → m < k → get_or (take (length s - j) (drop j s)) m 0 ≡ x → ⊥) → (r < length s → get_or (take (length s - j) (drop j s)) k 0 ≡ x) →
    Found x s i r
found-behind x s i j k {r} a e l none one = record {
  from = omega (arith, a.from);
  to = l;
  before = joined (λ m. get_or s m 0 ≡ x → ⊥) at-most (λ m h q. told-apart (in_set (only x)) x (only-it x) (a.clear m h q).1) later;
  at = λ h. ap (λ (n : ℕ). get_or s n 0) e ∙ sym (in-rest k (omega arith)) ∙ one h;
}
  where
    at-most : j ≤ j
    at-most = omega arith

    in-rest : (m : ℕ) → j + m < length s → get_or (take (length s - j) (drop j s)) m 0 ≡ get_or s (j + m) 0
    in-rest m h = get_or-take (length s - j) (drop j s) m 0 (omega arith) ∙ get_or-drop j s m 0

    later : (m : ℕ) → j ≤ m → m < r → get_or s m 0 ≡ x → ⊥
    later m h q f =
        let back : j + (m - j) ≡ m = omega arith in
        none (m - j) (omega arith) (in-rest (m - j) (omega (arith, a.from)) ∙ ap (λ (n : ℕ). get_or s n 0) back ∙ f)

no-later : {x : ℕ} {s : List ℕ} {i r q : ℕ} → Found x s i r → Found x s i q → r < q → ⊥
no-later {x} {s} {i} {r} {q} a b h = b.before r a.from h (a.at (omega (arith, a.from, b.to)))

pub found-once : {x : ℕ} {s : List ℕ} {i r q : ℕ} → Found x s i r → Found x s i q → r ≡ q
found-once {x} {s} {i} {r} {q} a b = go (ltb r q) (ltb q r) refl refl
  where
    go : (t u : Bool) → ltb r q ≡ t → ltb q r ≡ u → r ≡ q
    go true u e f = absurd (no-later a b (ltb-true _ _ e))
    go false true e f = absurd (no-later b a (ltb-true _ _ f))
    go false false e f = omega (arith, ltb-false r q e, ltb-false q r f)

-- ---- lines: the first newline's place is where the line's characters end

wide-passes : (c : ℕ) → 0x80 ≤ c → fails Newline c ≡ true
unfolding holds_of
wide-passes c h = ap not (ne_eqb c 0x0A (λ e. omega arith))

module _ (s : List ℕ) where
  line-one : (i : ℕ) → i < length s → (get_or s i 0 ≡ 0x0A → ⊥) → skip (fails Newline) s i ≡ skip (fails Newline) s (i + 1)
  unfolding holds_of
  line-one i h z = go (ltb (get_or s i 0) 0x80) refl
    where
      go : (t : Bool) → ltb (get_or s i 0) 0x80 ≡ t → skip (fails Newline) s i ≡ skip (fails Newline) s (i + 1)
      go true a = byte-on (fails Newline) s i h (ltb-true _ _ a) {w = true} (sym (ap not (ne_eqb (get_or s i 0) 0x0A z))) refl
      go false a = wide-on (fails Newline) wide-passes s i h (ltb-false _ _ a)

  line-end : (r : ℕ) → (r < length s → get_or s r 0 ≡ 0x0A) → skip (fails Newline) s r ≡ r
  unfolding holds_of
  line-end r f = go (ltb r (length s)) refl
    where
      go : (t : Bool) → ltb r (length s) ≡ t → skip (fails Newline) s r ≡ r
      go true e = let h = ltb-true _ _ e in let q = f h in byte-stop (fails Newline) s r h (omega arith) {w = false} (sym (ap not (eq-eqb (get_or s r 0) 0x0A q))) refl
      go false e = skip-end (fails Newline) s r (ltb-false _ _ e)

  pub line : (i : ℕ) {r : ℕ} → Found 0x0A s i r → (r ≡ skip (fails Newline) s i) × Ahead s i r
  line i {r} a =
      ran (fails Newline) s i
      (sym (skip-over (fails Newline) s a.from a.to (λ k p q l. line-one k l (a.before k p q)) ∙ line-end r a.at))
