-- The loops that go over bytes of ASCII by comparisons: `eat_whitespace`, `eat_gap`, `eat_id`, `eat_start`, `eat_letters`, `eat_key`.
--     implied                                     where computing shows that p implies q below n, q passes wherever p does
--     space-on, tab-on, solid-stop, gap-over      white space: a blank is passed, a solid byte stops the scan, a run of blanks is passed
--     letter-on, letter-start                     identifiers: a letter is passed, a letter begins one
--     id-stop, equals-ends                        a space ends one, and so does another byte that cannot be part of one, as "="
--     letters-none, letters-more, letters-id      runs of letters: the empty one, one more letter, a run that is an identifier
--     key-on, key-stop                            keys: a byte that is passed, and a byte that ends one
-- Assumes nothing.
use mathlib.Core.Path.{◌≡◌, refl, sym, ap, ◌∙◌, subst}
use mathlib.Core.Bool.{Bool, true, false, cond, not, ◌&&◌, ◌||◌, or-true}
use mathlib.Core.List.{List}
use Prim.Native.Nat.{ℕ, ◌+◌, ◌≤◌, ◌<◌}
use native.Mathlib.Omega.{arith}
use lib.ListN.{length, get_or}
use lib.Dec.{T, eqb, ltb, leb}
use borrow.Author.Tests.{eqb-true, eqb-false, ltb-true, leb-false, not-true}
use Rattle.text.specs.Range.{◌–◌, within}
use Rattle.text.specs.Class.{white_space, control, is_whitespace, is_control, is_key, is_id_continue, is_id_start}
use Rattle.text.specs.Scan.{see, past_one, skip, Ahead}
use Rattle.text.specs.Block.{in_set, solids, Clear}
use Rattle.text.specs.Inner.{letter_of, Letters, blank_of, rare_of}
use Rattle.text.proofs.general.Below.{below, each}
use Rattle.text.proofs.general.Tests.{within-true}
use Rattle.text.proofs.general.Tests.{both_true}
use Rattle.text.proofs.scanning.Seen.{see-ascii}
use Rattle.text.proofs.scanning.Skip.{skip-over, byte-on, byte-stop, passed}

or_right : (a b : Bool) → a ≡ false → (a || b) ≡ true → b ≡ true
or_right true b f e = let z : ◌≡◌ {A = ℕ} 0 1 = cc in absurd (omega arith)
or_right false b f e = e

-- the test p implies q at each number below n
abbrev Implies : (ℕ → Bool) → (ℕ → Bool) → ℕ → Type 0
Implies p q n = T (below (λ b. not (p b) || q b) n)

implied : (p q : ℕ → Bool) (n : ℕ) → Implies p q n → (b : ℕ) → b < n → p b ≡ true → q b ≡ true
implied p q n t b h e = go (p b) (q b) e (each (λ b. not (p b) || q b) n t b h)
  where
    go : (x y : Bool) → x ≡ true → T (not x || y) → y ≡ true
    go true true e t = refl
    go true false e t = absurd t
    go false y e t = let z : ◌≡◌ {A = ℕ} 0 1 = cc in absurd (omega arith)

-- a byte that equals one of two characters of ASCII is ASCII
one_of : (b x y : ℕ) → x < 0x80 → y < 0x80 → (eqb b x || eqb b y) ≡ true → b < 0x80
one_of b x y p q t = go (eqb b x) refl
  where
    go : (u : Bool) → eqb b x ≡ u → b < 0x80
    go true e = omega (arith, eqb-true b x e)
    go false e = omega (arith, eqb-true b y (or_right (eqb b x) (eqb b y) e t))

-- ---- white space

blank-ascii : (b : ℕ) → blank_of b ≡ true → b < 0x80
blank-ascii b e = go (eqb b 0x20) refl
  where
    go : (t : Bool) → eqb b 0x20 ≡ t → b < 0x80
    go true q = omega (arith, eqb-true b 0x20 q)
    go false q = omega (arith, (within-true (0x09 – 0x0D) b (or_right (eqb b 0x20) (within (0x09 – 0x0D) b) q e)).1)

blanks : Implies blank_of is_whitespace 128
unfolding white_space is_whitespace
blanks = tt

above : Implies (ltb 0x20) (λ b. not (is_whitespace b)) 128
unfolding white_space is_whitespace
above = tt

gaps : Implies (λ b. not (in_set solids b)) blank_of 256
unfolding in_set
gaps = tt

module _ (s : List ℕ) (i : ℕ) (h : i < length s) where
  blank-on : blank_of (get_or s i 0) ≡ true → skip is_whitespace s i ≡ skip is_whitespace s (i + 1)
  blank-on e =
      let a = blank-ascii (get_or s i 0) e in
      byte-on is_whitespace s i h a {w = true} (sym (implied blank_of is_whitespace 128 blanks (get_or s i 0) a e)) refl

  pub space-on : get_or s i 0 ≡ 0x20 → skip is_whitespace s i ≡ skip is_whitespace s (i + 1)
  space-on e = blank-on (ap blank_of e)

  pub tab-on : (leb 0x09 (get_or s i 0) && leb (get_or s i 0) 0x0D) ≡ true → skip is_whitespace s i ≡ skip is_whitespace s (i + 1)
  tab-on t = blank-on (rw t (or-true (eqb (get_or s i 0) 0x20)))

  pub solid-stop : (ltb 0x20 (get_or s i 0) && ltb (get_or s i 0) 0x80) ≡ true → skip is_whitespace s i ≡ i
  solid-stop t =
      let b = both_true (ltb 0x20 (get_or s i 0)) (ltb (get_or s i 0) 0x80) t in
      let a = ltb-true (get_or s i 0) 0x80 b.1 in
      byte-stop is_whitespace s i h a {w = false}
      (sym (not-true (is_whitespace (get_or s i 0)) (implied (ltb 0x20) (λ b. not (is_whitespace b)) 128 above (get_or s i 0) a b.0))) refl

pub gap-over : (s : List ℕ) {i r : ℕ} → Clear solids s i r → skip is_whitespace s i ≡ skip is_whitespace s r
gap-over s {i} {r} x = skip-over is_whitespace s x.from x.to one
  where
    one : (k : ℕ) → i ≤ k → k < r → k < length s → skip is_whitespace s k ≡ skip is_whitespace s (k + 1)
    one k p q h =
        let c = x.clear k p q in
        blank-on s k h (implied (λ b. not (in_set solids b)) blank_of 256 gaps (get_or s k 0) c.0 (ap not c.1))

-- ---- identifiers

letter-ascii : (b : ℕ) → letter_of b ≡ true → b < 0x80
letter-ascii b e = go (within (0x61 – 0x7A) b) refl
  where
    go : (t : Bool) → within (0x61 – 0x7A) b ≡ t → b < 0x80
    go true q = omega (arith, (within-true (0x61 – 0x7A) b q).1)
    go false q = omega (arith, (within-true (0x41 – 0x5A) b (or_right (within (0x61 – 0x7A) b) (within (0x41 – 0x5A) b) q e)).1)

starts : Implies letter_of is_id_start 128
unfolding white_space control is_whitespace is_control is_id_continue is_id_start
starts = tt

goes_on : Implies letter_of is_id_continue 128
unfolding white_space control is_whitespace is_control is_id_continue
goes_on = tt

space-ends : is_id_continue 0x20 ≡ false
unfolding white_space control is_whitespace is_control is_id_continue
space-ends = refl

pub equals-ends : is_id_continue 0x3D ≡ false
unfolding white_space control is_whitespace is_control is_id_continue
equals-ends = refl

module _ (s : List ℕ) (i : ℕ) (h : i < length s) where
  -- a space ends an identifier, and so does any byte x of ASCII that cannot be part of one
  pub id-stop : (x : ℕ) → x < 0x80 → is_id_continue x ≡ false → (eqb (get_or s i 0) 0x20 || eqb (get_or s i 0) x) ≡ true → skip is_id_continue s i ≡ i
  id-stop x p e t = byte-stop is_id_continue s i h (one_of (get_or s i 0) 0x20 x (omega arith) p t) {w = false} (sym (go (eqb (get_or s i 0) 0x20) refl)) refl
    where
      go : (u : Bool) → eqb (get_or s i 0) 0x20 ≡ u → is_id_continue (get_or s i 0) ≡ false
      go true d = ap is_id_continue (eqb-true (get_or s i 0) 0x20 d) ∙ space-ends
      go false d = ap is_id_continue (eqb-true (get_or s i 0) x (or_right (eqb (get_or s i 0) 0x20) (eqb (get_or s i 0) x) d t)) ∙ e

  pub letter-on : letter_of (get_or s i 0) ≡ true → skip is_id_continue s i ≡ skip is_id_continue s (i + 1)
  letter-on e =
      let a = letter-ascii (get_or s i 0) e in
      byte-on is_id_continue s i h a {w = true} (sym (implied letter_of is_id_continue 128 goes_on (get_or s i 0) a e)) refl

  pub letter-start : letter_of (get_or s i 0) ≡ true → (i + 1 ≡ past_one is_id_start i (see s i)) × Ahead s i (i + 1)
  letter-start e =
      let a = letter-ascii (get_or s i 0) e in
      passed is_id_start s i (rw (see-ascii s i h a, implied letter_of is_id_start 128 starts (get_or s i 0) a e))

pub letters-none : {s : List ℕ} {i : ℕ} → Letters s i i
letters-none = record { from = omega arith; to = omega arith; letters = λ k p q. absurd (omega arith) }

pub letters-more : {s : List ℕ} {i j : ℕ} → Letters s i j → j < length s → letter_of (get_or s j 0) ≡ true → Letters s i (j + 1)
letters-more {s} {i} {j} a h e =
    record { from = omega (arith, a.from); to = omega arith; letters = λ k p q. go k p q (eqb k j) refl }
  where
    go : (k : ℕ) → i ≤ k → k < j + 1 → (t : Bool) → eqb k j ≡ t → letter_of (get_or s k 0) ≡ true
    go k p q true d = subst (λ (n : ℕ). letter_of (get_or s n 0) ≡ true) (sym (eqb-true k j d)) e
    go k p q false d = a.letters k p (omega (arith, eqb-false k j d))

-- letters are a whole identifier where a space stands behind them, or another byte that cannot be part of one
pub letters-id : {s : List ℕ} {i r x : ℕ} → Letters s i r → i < r → r < length s → x < 0x80 → is_id_continue x ≡ false →
    (eqb (get_or s r 0) 0x20 || eqb (get_or s r 0) x) ≡ true → (i + 1 ≡ past_one is_id_start i (see s i)) × (r ≡ skip is_id_continue s (i + 1))
letters-id {s} {i} {r} {x} a l h p e t = (
  (letter-start s i (omega arith) (a.letters i (omega arith) l)).0,
  sym (skip-over is_id_continue s (omega arith) (omega arith) (λ k p q b. letter-on s k b (a.letters k (omega arith) q)) ∙ id-stop s r h x p e t),
)

-- ---- keys

key-small : (b : ℕ) → rare_of b ≡ false → b < 0x80
key-small b e = go (leb 0x7D b) refl e
  where
    go : (t : Bool) → leb 0x7D b ≡ t → ((leb b 0x20 || eqb b 0x2C) || t) ≡ false → b < 0x80
    go true q z = let y : ◌≡◌ {A = ℕ} 0 1 = ap (λ (c : Bool). cond c 0 1) (sym (or-true (leb b 0x20 || eqb b 0x2C)) ∙ z) in absurd (omega arith)
    go false q z = omega (arith, leb-false 0x7D b q)

keys : Implies (λ b. not (rare_of b)) is_key 128
unfolding white_space control is_whitespace is_control is_key
keys = tt

key-ends : Implies (λ b. eqb b 0x2C || eqb b 0x7D) (λ b. not (is_key b)) 128
unfolding white_space control is_whitespace is_control is_key
key-ends = tt

module _ (s : List ℕ) (i : ℕ) (h : i < length s) where
  pub key-on : rare_of (get_or s i 0) ≡ false → skip is_key s i ≡ skip is_key s (i + 1)
  key-on e =
      let a = key-small (get_or s i 0) e in
      byte-on is_key s i h a {w = true} (sym (implied (λ b. not (rare_of b)) is_key 128 keys (get_or s i 0) a (ap not e))) refl

  pub key-stop : (eqb (get_or s i 0) 0x2C || eqb (get_or s i 0) 0x7D) ≡ true → skip is_key s i ≡ i
  key-stop t =
      let a = one_of (get_or s i 0) 0x2C 0x7D (omega arith) (omega arith) t in
      byte-stop is_key s i h a {w = false}
      (sym (not-true (is_key (get_or s i 0)) (implied (λ b. eqb b 0x2C || eqb b 0x7D) (λ b. not (is_key b)) 128 key-ends (get_or s i 0) a t))) refl
