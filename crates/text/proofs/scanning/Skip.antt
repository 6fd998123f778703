-- How far a scanner goes, character by character and, where only ASCII decides, byte by byte.
--     code-wide                               an octet that is not ASCII begins a character that is not ASCII
--     skip-end, skip-on, skip_stop            a scan at the end, at a character that passes the test, at one that does not
--     skip-ahead                              a scan never goes back, and not past the end
--     skip-over                               a scan goes over bytes each of which it may pass by itself
--     byte-on, byte-stop, one_on, one-stop    a turn of a scan, by the byte or by the character that the code looked at
--     wide-on, wide-stop                      a turn at an octet that is not ASCII, for a test that all such characters pass, or none
--     wants-told, wants-off, wants-on         the tests of `eat_run`
--     passed-more, run_on, ran_on, ran-stop   runs of ASCII in `eat_run`
--     passed, ran, bit-on, .. single-off      what the functions return: the place where the scan stops, and that it lies ahead
-- Assumes nothing.
use Rattle.std.proofs.lemmas.Option.{some_pair_parts}
use Rattle.std.specs.Prelude.{Option, Some, None}
use mathlib.Core.Path.{◌≡◌, refl, sym, ap, ◌∙◌, subst}
use mathlib.Core.Bool.{Bool, true, false, cond, beq}
use mathlib.Core.List.{List, [], ◌∷◌}
use Prim.Native.Nat.{ℕ, zero, suc, ◌+◌, ◌-◌, ◌<◌, ◌≤◌, max}
use native.Mathlib.Omega.{arith}
use native.Mathlib.Nat.{not-suc-le-zero, add-zero, add-suc}
use native.Mathlib.Numerals.{add-one}
use lib.ListN.{length, get_or, take, drop, length-drop}
use lib.Seq.{length-take-le, get_or-take}
use lib.Dec.{eqb, ltb}
use borrow.Author.Tests.{eq-eqb, ne_eqb, eqb-true, eqb-false, ltb-true, ltb-false, le-leb}
use Rattle.text.specs.Walk.{answer, pass, walk_from}
use Rattle.text.specs.Range.{within}
use Rattle.text.specs.Utf8.{tail, is_char, width, value, octets}
use Rattle.text.specs.Class.{holds_of}
use Rattle.text.specs.Scan.{code, rest, see, past_one, single, look_past, skip, Ahead, Inside}
use Rattle.text.specs.Inner.{has_bit, AsciiOf, wants, AsciiRun}
use Rattle.text.specs.declared.class.Masks.{Masks}
use Rattle.text.specs.declared.class.Test.{Test}
use Rattle.text.proofs.sequences.Walk.{walk_end, walk-answer, walk-pass, walk-keeps, from-pass}
use Rattle.text.proofs.sequences.Alternatives.{width-char}
use Rattle.text.proofs.sequences.Lengths.{char-further, width-inside, width-tail}
use Rattle.text.proofs.sequences.ScalarValues.{encodes}
use Rattle.text.proofs.general.Places.{drop-next}
use Rattle.text.proofs.scanning.Seen.{see-end, see-at, see-inside, see-ascii}

-- ---- a character that is not ASCII

value-wide : (w : List ℕ) → is_char w ≡ true → 0x80 ≤ get_or w 0 0 → 0x80 ≤ value w
unfolding octets
value-wide w q h = go (ltb (value w) 0x80) refl
  where
    go : (t : Bool) → ltb (value w) 0x80 ≡ t → 0x80 ≤ value w
    go false e = ltb-false _ _ e
    go true e =
        let l : value w < 0x80 = ltb-true _ _ e in
        let one : octets (value w) ≡ value w ∷ [] = rw (le-leb (value w) 0x7F (omega arith)) in
        let f : value w ≡ get_or w 0 0 = ap (λ (v : List ℕ). get_or v 0 0) (sym one ∙ (encodes w q).1) in
        absurd (omega arith)

pub code-wide : (b : ℕ) (s : List ℕ) → 0x80 ≤ b → 0x80 ≤ code (b ∷ s)
unfolding code
code-wide b s h = go (width (b ∷ s)) refl (width-char (b ∷ s))
  where
    go : (w : ℕ) → width (b ∷ s) ≡ w → (0 < w → (is_char (take w (b ∷ s)) ≡ true) × (w ≤ length (b ∷ s))) →
        0x80 ≤ cond (eqb w 0) 0xFFFD (value (take w (b ∷ s)))
    go zero e c = omega arith
    go (suc w) e c = rw (ne_eqb (suc w) 0 (λ z. omega arith)) (value-wide (take (suc w) (b ∷ s)) (c (omega arith)).0 h)

-- ---- turns of a scanner

module _ (p : ℕ → Bool) (s : List ℕ) where
  pub skip-end : (i : ℕ) → length s ≤ i → skip p s i ≡ i
  unfolding skip
  skip-end i h = walk_end (look_past p) (λ n. n) s i h

  module _ (i : ℕ) (h : i < length s) where
    pub skip-on : p (code (drop i s)) ≡ true → skip p s i ≡ skip p s (i + 1 + rest (drop i s))
    unfolding skip look_past
    skip-on t =
        let n = subst (Inside s i) (see-at s i h) (see-inside s i) in
        walk-pass (look_past p) (λ n. n) s i (rest (drop i s)) (i + 1 + rest (drop i s)) (rw t) (omega arith) n.1

    pub skip_stop : p (code (drop i s)) ≡ false → skip p s i ≡ i
    unfolding skip look_past
    skip_stop t = walk-answer (look_past p) (λ n. n) s i i h (rw t)

    -- a turn, by the byte that the code looked at
    module _ (a : get_or s i 0 < 0x80) {w : Bool} (q : w ≡ p (get_or s i 0)) where
      code-byte : code (drop i s) ≡ get_or s i 0
      code-byte = (some_pair_parts _ _ _ _ (sym (see-at s i h) ∙ see-ascii s i h a)).0

      rest-byte : i + 1 + rest (drop i s) ≡ i + 1
      rest-byte = (some_pair_parts _ _ _ _ (sym (see-at s i h) ∙ see-ascii s i h a)).1

      pub byte-on : w ≡ true → skip p s i ≡ skip p s (i + 1)
      byte-on t = skip-on (ap p code-byte ∙ sym q ∙ t) ∙ ap (skip p s) rest-byte

      pub byte-stop : w ≡ false → skip p s i ≡ i
      byte-stop t = skip_stop (ap p code-byte ∙ sym q ∙ t)

    -- a turn, by the character that the code looked at
    module _ {n : ℕ} (q : n ≡ past_one p i (see s i)) where
      one : (t : Bool) → p (code (drop i s)) ≡ t → n ≡ cond t (i + 1 + rest (drop i s)) i
      one t e = q ∙ rw (see-at s i h, e)

      pub one-stop : n ≡ i → skip p s i ≡ i
      one-stop z = go (p (code (drop i s))) refl
        where
          go : (t : Bool) → p (code (drop i s)) ≡ t → skip p s i ≡ i
          go true e = absurd (omega (arith, one true e))
          go false e = skip_stop e

      pub one_on : (n ≡ i → ⊥) → (i < n) × (n ≤ length s) × (skip p s i ≡ skip p s n)
      one_on z = go (p (code (drop i s))) refl
        where
          go : (t : Bool) → p (code (drop i s)) ≡ t → (i < n) × (n ≤ length s) × (skip p s i ≡ skip p s n)
          go true e =
              let k = subst (Inside s i) (see-at s i h) (see-inside s i) in
              (omega (arith, one true e), omega (arith, one true e, k.1), skip-on e ∙ ap (skip p s) (sym (one true e)))
          go false e = absurd (z (one false e))

  -- over n bytes each of which the scan may pass by itself
  over : (i n : ℕ) → i + n ≤ length s → ((k : ℕ) → i ≤ k → k < i + n → k < length s → skip p s k ≡ skip p s (k + 1)) → skip p s i ≡ skip p s (i + n)
  over i zero h f = ap (skip p s) (sym (add-zero i))
  over i (suc n) h f =
      over i n (omega arith) (λ k l m q. f k l (omega arith) q) ∙ f (i + n) (omega arith) (omega arith) (omega arith)
      ∙ ap (skip p s) (add-one (i + n) ∙ sym (add-suc i n))

  pub skip-over : {i r : ℕ} → i ≤ r → r ≤ max i (length s) → ((k : ℕ) → i ≤ k → k < r → k < length s → skip p s k ≡ skip p s (k + 1)) →
      skip p s i ≡ skip p s r
  skip-over {i} {r} h m f = go (ltb r (length s + 1)) refl
    where
      e : i + (r - i) ≡ r
      e = omega arith

      go : (t : Bool) → ltb r (length s + 1) ≡ t → skip p s i ≡ skip p s r
      go true l = over i (r - i) (omega (arith, ltb-true r (length s + 1) l)) (λ k a b q. f k a (omega arith) q) ∙ ap (skip p s) e
      go false l = let q : r ≡ i = omega (arith, ltb-false r (length s + 1) l) in ap (skip p s) (sym q)

-- ---- tests that all characters beyond ASCII pass, or none

module _ (p : ℕ → Bool) (s : List ℕ) (i : ℕ) (h : i < length s) (b : 0x80 ≤ get_or s i 0) where
  code_at : 0x80 ≤ code (drop i s)
  code_at = rw (drop-next s i h) (code-wide (get_or s i 0) (drop (i + 1) s) b)

  pub wide-stop : ((c : ℕ) → 0x80 ≤ c → p c ≡ false) → skip p s i ≡ i
  wide-stop off = skip_stop p s i h (off _ code_at)

module _ (p : ℕ → Bool) (on : (c : ℕ) → 0x80 ≤ c → p c ≡ true) where
  -- tails that the scan looks at one by one are passed, as they are when it passes the whole character
  pass-tails : (k i : ℕ) (t : List ℕ) → k ≤ length t → ((j : ℕ) → j < k → within tail (get_or t j 0) ≡ true) →
      walk_from (look_past p) (λ n. n) i k t ≡ walk_from (look_past p) (λ n. n) i 0 t
  unfolding walk_from look_past code rest
  pass-tails zero i t h a = refl
  pass-tails (suc k) i [] h a = absurd (not-suc-le-zero h)
  pass-tails (suc k) i (b ∷ t) h a =
      pass-tails k (suc i) t (omega arith) (λ j l. a (suc j) (omega arith))
      ∙ sym (from-pass (look_past p) (λ n. n) i b 0 t (rw (width-tail b t (a 0 (omega arith)), on 0xFFFD (omega arith))))

  tails : (b k : ℕ) (t : List ℕ) → width (b ∷ t) ≡ suc k → (j : ℕ) → j < k → within tail (get_or t j 0) ≡ true
  tails b k t e j l =
      let c = rw e at (width-char (b ∷ t) (omega arith)) in
      let n = length-take-le k t (omega (arith, c.1)) in
      get_d_tail (char-further (b ∷ take k t) (suc j) 0 c.0 (omega arith) (omega arith))
    where
      get_d_tail : within tail (get_or (take k t) j 0) ≡ true → within tail (get_or t j 0) ≡ true
      get_d_tail x = rw (get_or-take k t j 0 l) at x

  wide-rest : (i b w : ℕ) (t : List ℕ) → width (b ∷ t) ≡ w → walk_from (look_past p) (λ n. n) i (w - 1) t ≡ walk_from (look_past p) (λ n. n) i 0 t
  wide-rest i b zero t e = refl
  wide-rest i b (suc k) t e =
      let l = (width-inside (b ∷ t)).0 in
      let one : suc k - 1 ≡ k = omega arith in
      ap (λ (n : ℕ). walk_from (look_past p) (λ m. m) i n t) one ∙ pass-tails k i t (omega arith) (tails b k t e)

  wide_from : (i b : ℕ) (t : List ℕ) → 0x80 ≤ b → walk_from (look_past p) (λ n. n) i 0 (b ∷ t) ≡ walk_from (look_past p) (λ n. n) (suc i) 0 t
  unfolding look_past rest
  wide_from i b t h =
      from-pass (look_past p) (λ n. n) i b (width (b ∷ t) - 1) t (rw (on _ (code-wide b t h)))
      ∙ wide-rest (suc i) b (width (b ∷ t)) t refl

  pub wide-on : (s : List ℕ) (i : ℕ) → i < length s → 0x80 ≤ get_or s i 0 → skip p s i ≡ skip p s (i + 1)
  unfolding skip
  wide-on s i h b =
      rw (drop-next s i h) (wide_from i (get_or s i 0) (drop (i + 1) s) b)
      ∙ ap (λ (n : ℕ). walk_from (look_past p) (λ m. m) n 0 (drop (i + 1) s)) (sym (add-one i))

-- ---- bounds

module _ (p : ℕ → Bool) (s : List ℕ) (i : ℕ) where
  -- the scan has come to the place j, not before i, and u is the text from there on
  On : ℕ → List ℕ → Type 0
  On j u = (i ≤ j) × (j + length u ≤ max i (length s))

  look-rest : (j k : ℕ) (u : List ℕ) (t : Bool) → cond t (pass (rest u)) (answer j) ≡ pass k → k ≡ rest u
  look-rest j k u true e = cc
  look-rest j k u false e = let z : ◌≡◌ {A = ℕ} 0 1 = cc in absurd (omega arith)

  look-place : (j r : ℕ) (u : List ℕ) (t : Bool) → cond t (pass (rest u)) (answer j) ≡ answer r → r ≡ j
  look-place j r u true e = let z : ◌≡◌ {A = ℕ} 0 1 = cc in absurd (omega arith)
  look-place j r u false e = cc

  on-pass : (j k : ℕ) (u : List ℕ) → 0 < length u → On j u → look_past p j u ≡ pass k → (k < length u) × On (j + suc k) (drop (suc k) u)
  unfolding On look_past rest
  on-pass j k u l h e =
      let r = look-rest j k u (p (code u)) e in
      let w = (width-inside u).0 in
      let n : k < length u = omega arith in (n, (omega arith, omega (arith, length-drop (suc k) u)))

  on-answer : (j : ℕ) (u : List ℕ) (r : ℕ) → On j u → look_past p j u ≡ answer r → Ahead s i r
  unfolding On look_past
  on-answer j u r h e = let q = look-place j r u (p (code u)) e in record { from = omega arith; to = omega arith }

  on-end : (j : ℕ) → On j [] → Ahead s i j
  unfolding On
  on-end j h = record { from = h.0; to = omega arith }

  pub skip-ahead : Ahead s i (skip p s i)
  unfolding skip On
  skip-ahead = walk-keeps (look_past p) (λ n. n) On (Ahead s i) on-pass on-answer on-end s i (omega arith, omega (arith, length-drop i s))

-- ---- the tests of `eat_run`: what passes is what is wanted

wants-beq : (t : Test) (w : Bool) (c : ℕ) → beq (holds_of t c) w ≡ wants t w c
wants-beq t w c = go (holds_of t c) w refl
  where
    go : (x w : Bool) → holds_of t c ≡ x → beq x w ≡ wants t w c
    go true true e = sym e
    go false true e = sym e
    go true false e = rw e
    go false false e = rw e

pub wants-told : (t : Test) (c : ℕ) {x : Bool} → x ≡ holds_of t c → (w : Bool) → beq x w ≡ wants t w c
wants-told t c e w = ap (λ (y : Bool). beq y w) e ∙ wants-beq t w c

pub wants-off : (t : Test) (c : ℕ) (w : Bool) → w ≡ true → holds_of t c ≡ false → wants t w c ≡ false
wants-off t c w e h = rw e h

pub wants-on : (t : Test) (c : ℕ) (w : Bool) → w ≡ false → holds_of t c ≡ false → wants t w c ≡ true
wants-on t c w e h = rw (e, h)

-- ---- bytes of ASCII, one after the other

-- at every place from i to r stands a byte of ASCII whose bit is w
abbrev pub Passed : ℕ → ℕ → Bool → List ℕ → ℕ → ℕ → Type 0
Passed low high w s i r = (k : ℕ) → i ≤ k → k < r → (k < length s) × (get_or s k 0 < 0x80) × (beq (has_bit low high (get_or s k 0)) w ≡ true)

pub passed-more : (low high : ℕ) (w : Bool) (s : List ℕ) (i r : ℕ) {x : Bool} → Passed low high w s i r → r < length s → get_or s r 0 < 0x80 →
    x ≡ has_bit low high (get_or s r 0) → beq x w ≡ true → Passed low high w s i (r + 1)
passed-more low high w s i r {x} p h a q e k l n = go (eqb k r) refl
  where
    go : (t : Bool) → eqb k r ≡ t → (k < length s) × (get_or s k 0 < 0x80) × (beq (has_bit low high (get_or s k 0)) w ≡ true)
    go true d =
        let z : k ≡ r = eqb-true k r d in
        rw z (h, a, sym (ap (λ (y : Bool). beq y w) q) ∙ e)
    go false d = p k l (omega (arith, eqb-false k r d))

module _ (t : Test) (w : Bool) (m : Masks) (masks : AsciiOf t m) (s : List ℕ) where
  as_wanted : (k : ℕ) → get_or s k 0 < 0x80 → beq (has_bit m.low m.high (get_or s k 0)) w ≡ wants t w (get_or s k 0)
  as_wanted k a = wants-told t (get_or s k 0) (masks.bits (get_or s k 0) a) w

  pub run_on : (i n : ℕ) → Passed m.low m.high w s i (i + n) → skip (wants t w) s i ≡ skip (wants t w) s (i + n)
  run_on i zero p = ap (skip (wants t w) s) (sym (add-zero i))
  run_on i (suc n) p =
      let l = p (i + n) (omega arith) (omega arith) in
      run_on i n (λ k a b. p k a (omega arith))
      ∙ byte-on (wants t w) s (i + n) l.0 l.1 (as_wanted (i + n) l.1) l.2
      ∙ ap (skip (wants t w) s) (add-one (i + n) ∙ sym (add-suc i n))

  module _ (i : ℕ) {r : ℕ} (a : AsciiRun m.low m.high w s i r) where
    pub ran_on : skip (wants t w) s i ≡ skip (wants t w) s r
    ran_on =
        let e : i + (r - i) ≡ r = omega (arith, a.from) in
        run_on i (r - i) (rw e a.passed) ∙ ap (skip (wants t w) s) e

    pub ran-stop : r < length s → get_or s r 0 < 0x80 → skip (wants t w) s i ≡ r
    ran-stop l h = ran_on ∙ byte-stop (wants t w) s r l h (as_wanted r h) (a.stopped l h)

-- ---- what the functions return: the place where the scan stops, and that it lies ahead

past-ahead : (p : ℕ → Bool) (s : List ℕ) (i : ℕ) (x : Option (ℕ × ℕ)) → Inside s i x → Ahead s i (past_one p i x)
past-ahead p s i None h = record { from = omega arith; to = omega arith }
past-ahead p s i (Some (c, n)) h = go (p c)
  where
    go : (t : Bool) → Ahead s i (cond t n i)
    go true = record { from = omega arith; to = omega arith }
    go false = record { from = omega arith; to = omega arith }

pub passed : (p : ℕ → Bool) (s : List ℕ) (i : ℕ) {r : ℕ} → r ≡ past_one p i (see s i) → (r ≡ past_one p i (see s i)) × Ahead s i r
passed p s i e = (e, subst (Ahead s i) (sym e) (past-ahead p s i (see s i) (see-inside s i)))

-- at one byte of ASCII, whose bit in the masks decides
module _ (t : Test) (m : Masks) (masks : AsciiOf t m) (s : List ℕ) (i : ℕ) (h : i < length s) (a : get_or s i 0 < 0x80) {x : Bool}
    (q : x ≡ has_bit m.low m.high (get_or s i 0)) where
  pub bit-on : x ≡ true → (i + 1 ≡ past_one (holds_of t) i (see s i)) × Ahead s i (i + 1)
  bit-on e = passed (holds_of t) s i (rw (see-ascii s i h a, sym (masks.bits (get_or s i 0) a), sym q, e))

  pub bit-off : x ≡ false → (i ≡ past_one (holds_of t) i (see s i)) × Ahead s i i
  bit-off e = passed (holds_of t) s i (rw (see-ascii s i h a, sym (masks.bits (get_or s i 0) a), sym q, e))

pub bit-end : (t : Test) (s : List ℕ) (i : ℕ) → length s ≤ i → (i ≡ past_one (holds_of t) i (see s i)) × Ahead s i i
bit-end t s i h = passed (holds_of t) s i (rw (see-end s i h))

-- the test for one character x of ASCII, where the byte decides
module _ (x : ℕ) (k : x < 0x80) (s : List ℕ) (i : ℕ) where
  pub single-end : length s ≤ i → (i ≡ past_one (single x) i (see s i)) × Ahead s i i
  single-end h = passed (single x) s i (rw (see-end s i h))

  module _ (h : i < length s) where
    pub single-on : get_or s i 0 ≡ x → (i + 1 ≡ past_one (single x) i (see s i)) × Ahead s i (i + 1)
    single-on e = passed (single x) s i (rw (see-ascii s i h (omega arith), eq-eqb (get_or s i 0) x e))

    pub single-off : (get_or s i 0 ≡ x → ⊥) → (i ≡ past_one (single x) i (see s i)) × Ahead s i i
    single-off e = passed (single x) s i (go (ltb (get_or s i 0) 0x80) refl)
      where
        go : (t : Bool) → ltb (get_or s i 0) 0x80 ≡ t → i ≡ past_one (single x) i (see s i)
        go true a = rw (see-ascii s i h (ltb-true _ _ a), ne_eqb (get_or s i 0) x e)
        go false a =
            let w : 0x80 ≤ code (drop i s) = rw (drop-next s i h) (code-wide (get_or s i 0) (drop (i + 1) s) (ltb-false _ _ a)) in
            rw (see-at s i h, ne_eqb (code (drop i s)) x (λ q. omega arith))

pub ran : (p : ℕ → Bool) (s : List ℕ) (i : ℕ) {r : ℕ} → r ≡ skip p s i → (r ≡ skip p s i) × Ahead s i r
ran p s i e = (e, subst (Ahead s i) (sym e) (skip-ahead p s i))
