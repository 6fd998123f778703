-- Each scalar value has one sequence, and each sequence one scalar value.
--     writes          what `octets` writes is a sequence
--     reads           the value of what `octets` writes is the scalar value
--     encodes         the value of a sequence is a scalar value, and `octets` writes this sequence for it
--     shortest        so a value has only one sequence
--     leads           the first octet of a sequence tells its length
-- Assumes nothing.
use Prim.Native.Nat.{ℕ, ◌+◌, ◌*◌, ◌/◌, ◌%◌, ◌≤◌, ◌<◌}
use mathlib.Core.Path.{◌≡◌, refl, sym, ap, ◌∙◌}
use mathlib.Core.Bool.{Bool, true, false, cond, not, ◌&&◌}
use mathlib.Core.List.{List, [], ◌∷◌}
use native.Mathlib.Omega.{arith}
use lib.ListN.{length, get_or}
use lib.Dec.{leb, eqb, eqb→eq}
use borrow.Author.Tests.{leb-true, leb-false, le-leb, lt-leb, not-true}
use Rattle.text.specs.Range.{◌–◌, within}
use Rattle.text.specs.Utf8.{is_char, leading_ones, sequence_length, gather, value, is_scalar, octets, further}
use Rattle.text.proofs.general.Below.{each}
use Rattle.text.proofs.general.Tests.{both_true}
use Rattle.text.specs.Shapes.{Tail, Three, Four, Shape, one, two, three, four}
use Rattle.text.proofs.sequences.Lengths.{char-shape, shape-char}

-- ---- a scalar value

record Scalar (c : ℕ) : Type 0 where
  pub high : c ≤ 0x10FFFF
  pub plain : c ≤ 0xDFFF → c < 0xD800

scalar-plain : (c : ℕ) → within (0xD800 – 0xDFFF) c ≡ false → c ≤ 0xDFFF → c < 0xD800
scalar-plain c e h = go (leb 0xD800 c) refl
  where
    go : (x : Bool) → leb 0xD800 c ≡ x → c < 0xD800
    go false p = leb-false 0xD800 c p
    go true p = let q = le-leb c 0xDFFF h in let z : ◌≡◌ {A = ℕ} 0 1 = cc in absurd (omega arith)

scalar-of : (c : ℕ) → is_scalar c ≡ true → Scalar c
unfolding is_scalar
scalar-of c e =
    let h = both_true (leb c 0x10FFFF) (not (within (0xD800 – 0xDFFF) c)) e in
    record { high = leb-true _ _ h.0; plain = scalar-plain c (not-true _ h.1) }

of-scalar : (c : ℕ) → Scalar c → is_scalar c ≡ true
unfolding is_scalar
of-scalar c s = go (leb 0xD800 c) (leb c 0xDFFF) refl refl
  where
    go : (x y : Bool) → leb 0xD800 c ≡ x → leb c 0xDFFF ≡ y → (leb c 0x10FFFF && not (x && y)) ≡ true
    go false y p q = rw (le-leb c 0x10FFFF s.high)
    go true false p q = rw (le-leb c 0x10FFFF s.high)
    go true true p q = let h = s.plain (leb-true _ _ q) in absurd (omega (arith, leb-true 0xD800 c p))

-- ---- the octets of a scalar value

octets-one : (c : ℕ) → c ≤ 0x7F → octets c ≡ c ∷ []
unfolding octets
octets-one c h = rw (le-leb c 0x7F h)

octets-two : (c : ℕ) → 0x7F < c → c ≤ 0x7FF → octets c ≡ (0xC0 + c / 64) ∷ further c ∷ []
unfolding octets
octets-two c l h = rw (lt-leb c 0x7F l, le-leb c 0x7FF h)

octets-three : (c : ℕ) → 0x7FF < c → c ≤ 0xFFFF → octets c ≡ (0xE0 + c / 64 / 64) ∷ further (c / 64) ∷ further c ∷ []
unfolding octets
octets-three c l h = rw (lt-leb c 0x7F (omega arith), lt-leb c 0x7FF l, le-leb c 0xFFFF h)

octets-four : (c : ℕ) → 0xFFFF < c → octets c ≡ (0xF0 + c / 64 / 64 / 64) ∷ further (c / 64 / 64) ∷ further (c / 64) ∷ further c ∷ []
unfolding octets
octets-four c l = rw (lt-leb c 0x7F (omega arith), lt-leb c 0x7FF (omega arith), lt-leb c 0xFFFF l)

-- the lines of the RFC's table: a scalar value in a range, and its octets
data Line (c : ℕ) : List ℕ → Type 0 where
  in7_f : c ≤ 0x7F → Line c (c ∷ [])
  in7_ff : 0x7F < c → c ≤ 0x7FF → Line c ((0xC0 + c / 64) ∷ further c ∷ [])
  in_ffff : 0x7FF < c → c ≤ 0xFFFF → Line c ((0xE0 + c / 64 / 64) ∷ further (c / 64) ∷ further c ∷ [])
  above : 0xFFFF < c → Line c ((0xF0 + c / 64 / 64 / 64) ∷ further (c / 64 / 64) ∷ further (c / 64) ∷ further c ∷ [])

line : (c : ℕ) → Line c (octets c)
line c = go (leb c 0x7F) (leb c 0x7FF) (leb c 0xFFFF) refl refl refl
  where
    go : (x y z : Bool) → leb c 0x7F ≡ x → leb c 0x7FF ≡ y → leb c 0xFFFF ≡ z → Line c (octets c)
    go true y z p q r = let h = leb-true c 0x7F p in rw (octets-one c h) (in7_f h)
    go false true z p q r = let l = leb-false c 0x7F p in let h = leb-true c 0x7FF q in rw (octets-two c l h) (in7_ff l h)
    go false false true p q r = let l = leb-false c 0x7FF q in let h = leb-true c 0xFFFF r in rw (octets-three c l h) (in_ffff l h)
    go false false false p q r = let l = leb-false c 0xFFFF r in rw (octets-four c l) (above l)

tail-further : (c : ℕ) → Tail (further c)
tail-further c = record { low = omega arith; high = omega arith }

line-shape : (c : ℕ) {w : List ℕ} → Scalar c → Line c w → Shape w
line-shape c s (in7_f h) = one h
line-shape c s (in7_ff l h) = two {a = 0xC0 + c / 64} (omega arith) (omega arith) (tail-further c)
line-shape c s (in_ffff l h) =
    three {a = 0xE0 + c / 64 / 64} {b = further (c / 64)}
    (record { low = omega arith; high = omega arith; second = tail-further (c / 64); third = tail-further c; plain = λ e. omega (arith, s.plain (omega arith)) })
line-shape c s (above l) =
    four {a = 0xF0 + c / 64 / 64 / 64} {b = further (c / 64 / 64)}
    (record { low = omega arith; high = omega arith; second = tail-further (c / 64 / 64); third = tail-further (c / 64); fourth = tail-further c })

first-four : (c : ℕ) → c ≤ 0x10FFFF → (0xF0 + c / 64 / 64 / 64) % 8 ≡ c / 64 / 64 / 64
first-four c h = omega arith

further-value : (c : ℕ) → c / 64 * 64 + further c % 64 ≡ c
further-value c = omega arith

line-value : (c : ℕ) {w : List ℕ} → Scalar c → Line c w → value w ≡ c
unfolding value gather
line-value c s (in7_f h) = omega arith
line-value c s (in7_ff l h) = omega arith
line-value c s (in_ffff l h) = omega arith
line-value c s (above l) = rw (first-four c s.high, further-value (c / 64 / 64), further-value (c / 64), further-value c)

pub writes : (c : ℕ) → is_scalar c ≡ true → is_char (octets c) ≡ true
writes c e = shape-char (line-shape c (scalar-of c e) (line c))

pub reads : (c : ℕ) → is_scalar c ≡ true → value (octets c) ≡ c
reads c e = line-value c (scalar-of c e) (line c)

-- ---- the value of a sequence

value-three : (a b c : ℕ) → Three a b c → (0x7FF < (a % 16 * 64 + b % 64) * 64 + c % 64) × ((a % 16 * 64 + b % 64) * 64 + c % 64 ≤ 0xFFFF)
value-three a b c t = (omega arith, omega arith)

value-four : (a b c d : ℕ) → Four a b c d →
    (0xFFFF < ((a % 8 * 64 + b % 64) * 64 + c % 64) * 64 + d % 64) × (((a % 8 * 64 + b % 64) * 64 + c % 64) * 64 + d % 64 ≤ 0x10FFFF)
value-four a b c d t = (omega arith, omega arith)

three-plain : (a b c : ℕ) → Three a b c → (a % 16 * 64 + b % 64) * 64 + c % 64 ≤ 0xDFFF → (a % 16 * 64 + b % 64) * 64 + c % 64 < 0xD800
three-plain a b c t l = go (leb a 0xEC) refl
  where
    go : (x : Bool) → leb a 0xEC ≡ x → (a % 16 * 64 + b % 64) * 64 + c % 64 < 0xD800
    go true p = let h = leb-true a 0xEC p in omega arith
    go false p = let h = leb-false a 0xEC p in let e : a ≡ 0xED = omega arith in let n = t.plain e in omega arith

shape-scalar : {w : List ℕ} → Shape w → Scalar (value w)
unfolding value gather
shape-scalar (one h) = record { high = omega arith; plain = λ l. omega arith }
shape-scalar (two l h t) = record { high = omega arith; plain = λ l. omega arith }
shape-scalar (three {a} {b} {c} t) = record { high = omega (arith, value-three a b c t); plain = three-plain a b c t }
shape-scalar (four {a} {b} {c} {d} t) = record { high = (value-four a b c d t).1; plain = λ l. absurd (omega (arith, (value-four a b c d t).0)) }

-- a value gathered from x and then the octet b: its low six bits give b back, and its other bits x
further-gathered : (x b : ℕ) → Tail b → further (x * 64 + b % 64) ≡ b
further-gathered x b t = omega arith

rest-gathered : (x b : ℕ) → (x * 64 + b % 64) / 64 ≡ x
rest-gathered x b = omega arith

octets-shape : {w : List ℕ} → Shape w → octets (value w) ≡ w
unfolding value gather
octets-shape (one {a} h) = let f : a % 128 ≡ a = omega arith in rw f (octets-one a h)
octets-shape (two {a} {b} l h t) =
    let f : 0xC0 + a % 32 ≡ a = omega arith in
    octets-two (a % 32 * 64 + b % 64) (omega arith) (omega arith) ∙ rw (further-gathered (a % 32) b t, rest-gathered (a % 32) b, f)
octets-shape (three {a} {b} {c} t) =
    let f : 0xE0 + a % 16 ≡ a = omega arith in
    let k = value-three a b c t in
    let x = a % 16 * 64 + b % 64 in
    octets-three (x * 64 + c % 64) k.0 k.1 ∙ rw (further-gathered x c t.third, rest-gathered x c, further-gathered (a % 16) b t.second, rest-gathered (a % 16) b, f)
octets-shape (four {a} {b} {c} {d} t) =
    let f : 0xF0 + a % 8 ≡ a = omega arith in
    let x = a % 8 * 64 + b % 64 in
    let y = x * 64 + c % 64 in
    octets-four (y * 64 + d % 64) (value-four a b c d t).0
    ∙ rw (further-gathered y d t.fourth, rest-gathered y d, further-gathered x c t.third, rest-gathered x c)
    (rw (further-gathered (a % 8) b t.second, rest-gathered (a % 8) b, f))

pub encodes : (w : List ℕ) → is_char w ≡ true → (is_scalar (value w) ≡ true) × (octets (value w) ≡ w)
encodes w e = let s = char-shape w e in (of-scalar (value w) (shape-scalar s), octets-shape s)

pub shortest : (v w : List ℕ) → is_char v ≡ true → is_char w ≡ true → value v ≡ value w → v ≡ w
shortest v w p q e = sym (encodes v p).1 ∙ ap octets e ∙ (encodes w q).1

-- ---- the first octet

-- the length of a sequence, by the range of its first octet
unfoldable first_length : ℕ → ℕ
first_length a = cond (leb a 0xBF) 1 (cond (leb a 0xDF) 2 (cond (leb a 0xEF) 3 4))

first-length : (a : ℕ) → a ≤ 0xF4 → sequence_length a ≡ first_length a
unfolding first_length sequence_length leading_ones
first-length a h = eqb→eq _ _ (each (λ n. eqb (sequence_length n) (first_length n)) 0xF5 tt a (omega arith))

shape-leads : {w : List ℕ} → Shape w → sequence_length (get_or w 0 0) ≡ length w
unfolding first_length
shape-leads (one {a} h) = first-length a (omega arith) ∙ rw (le-leb a 0xBF (omega arith))
shape-leads (two {a} l h t) = first-length a (omega arith) ∙ rw (lt-leb a 0xBF (omega arith), le-leb a 0xDF h)
shape-leads (three {a} t) = first-length a (omega arith) ∙ rw (lt-leb a 0xBF (omega arith), lt-leb a 0xDF (omega arith), le-leb a 0xEF (omega arith))
shape-leads (four {a} t) = first-length a (omega arith) ∙ rw (lt-leb a 0xBF (omega arith), lt-leb a 0xDF (omega arith), lt-leb a 0xEF (omega arith))

pub leads : (w : List ℕ) → is_char w ≡ true → sequence_length (get_or w 0 0) ≡ length w
leads w e = shape-leads (char-shape w e)
