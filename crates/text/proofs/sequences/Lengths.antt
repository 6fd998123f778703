-- The sequences of UTF-8 of each length, one to four, with linear facts about their octets.
--     char-shape, shape-char  a sequence has one of the four shapes, and what has one is a sequence
--     char-some               a sequence has an octet, and four at most
--     char-first              the first octet of a sequence is no tail
--     char-further            the other octets of a sequence are tails
--     width-inside            the width of a text is at most its length, and at most four
--     width-tail              a text that begins with a tail has the width 0
-- Assumes nothing.
use Prim.Native.Nat.{ℕ, zero, suc, ◌+◌, ◌*◌, ◌≤◌, ◌<◌}
use mathlib.Core.Path.{◌≡◌, refl}
use mathlib.Core.Bool.{Bool, true, false, and-false}
use mathlib.Core.List.{List, [], ◌∷◌, ◌++◌}
use native.Mathlib.Omega.{arith}
use lib.ListN.{length, get_or, take}
use lib.Seq.{length-take-le}
use lib.Dec.{leb}
use borrow.Author.Tests.{leb-true, leb-false, lt-leb}
use Rattle.text.specs.Range.{Range, within}
use Rattle.text.specs.Utf8.{alternatives, is_char, tail, width}
use Rattle.text.specs.Shapes.{Tail, Three, Four, Shape, one, two, three, four}
use Rattle.text.proofs.sequences.Alternatives.{Match, end, on, Any, here, there, any_of, char-by, in_within, width-char}

tail_of : (b : ℕ) → 0x80 ≤ b → b ≤ 0xBF → Tail b
tail_of b l h = record { low = l; high = h }

-- ---- from the grammar to the shapes

three-of : (a b : ℕ) {s : List ℕ} → (a ≡ 0xED → b ≤ 0x9F) → Match (tail ∷ []) s → 0xE0 * 64 + 0xA0 ≤ a * 64 + b → a ≤ 0xEF → 0x80 ≤ b → b ≤ 0xBF →
    Shape (a ∷ b ∷ s)
three-of a b n (on {b = c} x y end) l h p q = three (record { low = l; high = h; second = tail_of b p q; third = tail_of c x y; plain = n })

four-of : (a b : ℕ) {s : List ℕ} → Match (tail ∷ tail ∷ []) s → 0xF0 * 64 + 0x90 ≤ a * 64 + b → a * 64 + b ≤ 0xF4 * 64 + 0x8F → 0x80 ≤ b → b ≤ 0xBF →
    Shape (a ∷ b ∷ s)
four-of a b (on {b = c} x y (on {b = d} v z end)) l h p q = four (record { low = l; high = h; second = tail_of b p q; third = tail_of c x y; fourth = tail_of d v z })

any-shape : {w : List ℕ} → Any alternatives w → Shape w
unfolding alternatives
any-shape (here (on l h end)) = one h
any-shape (there (here (on l h (on {b = b} p q end)))) = two l h (tail_of b p q)
any-shape (there (there (here (on {b = a} l h (on {b = b} p q m))))) = three-of a b (λ e. omega arith) m (omega arith) (omega arith) (omega arith) (omega arith)
any-shape (there (there (there (here (on {b = a} l h (on {b = b} p q m)))))) = three-of a b (λ e. omega arith) m (omega arith) (omega arith) (omega arith) (omega arith)
any-shape (there (there (there (there (here (on {b = a} l h (on {b = b} p q m))))))) = three-of a b (λ e. omega arith) m (omega arith) (omega arith) (omega arith) (omega arith)
any-shape (there (there (there (there (there (here (on {b = a} l h (on {b = b} p q m)))))))) =
    three-of a b (λ e. omega arith) m (omega arith) (omega arith) (omega arith) (omega arith)
any-shape (there (there (there (there (there (there (here (on {b = a} l h (on {b = b} p q m))))))))) = four-of a b m (omega arith) (omega arith) (omega arith) (omega arith)
any-shape (there (there (there (there (there (there (there (here (on {b = a} l h (on {b = b} p q m)))))))))) = four-of a b m (omega arith) (omega arith) (omega arith) (omega arith)
any-shape (there (there (there (there (there (there (there (there (here (on {b = a} l h (on {b = b} p q m))))))))))) =
    four-of a b m (omega arith) (omega arith) (omega arith) (omega arith)
any-shape {w = w} (there (there (there (there (there (there (there (there (there x36))))))))) = elim x36 [ ]

pub char-shape : (w : List ℕ) → is_char w ≡ true → Shape w
char-shape w e = any-shape (any_of alternatives w e)

-- ---- from the shapes back to the grammar

tail-match : {c : ℕ} → Tail c → Match (tail ∷ []) (c ∷ [])
tail-match c = on c.low c.high end

tails-match : {c d : ℕ} → Tail c → Tail d → Match (tail ∷ tail ∷ []) (c ∷ d ∷ [])
tails-match c d = on c.low c.high (tail-match d)

also : (a b : ℕ) {r q : Range} {rs : List Range} {s : List ℕ} → Match rs s → r.first ≤ a → a ≤ r.last → q.first ≤ b → b ≤ q.last →
    Match (r ∷ q ∷ rs) (a ∷ b ∷ s)
also a b m l h x y = on l h (on x y m)

-- comparing the first octet decides which alternative the sequence belongs to
three-char : (a b c : ℕ) → Three a b c → (x y z : Bool) → leb a 0xE0 ≡ x → leb a 0xEC ≡ y → leb a 0xED ≡ z → is_char (a ∷ b ∷ c ∷ []) ≡ true
unfolding alternatives
three-char a b c t true y z p q r =
    let h = leb-true a 0xE0 p in char-by 2 (a ∷ b ∷ c ∷ []) (omega arith) (also a b (tail-match t.third) (omega arith) (omega arith) (omega arith) (omega arith))
three-char a b c t false true z p q r =
    let l = leb-false a 0xE0 p in
    let h = leb-true a 0xEC q in char-by 3 (a ∷ b ∷ c ∷ []) (omega arith) (also a b (tail-match t.third) (omega arith) (omega arith) (omega arith) (omega arith))
three-char a b c t false false true p q r =
    let l = leb-false a 0xEC q in
    let h = leb-true a 0xED r in
    let n = t.plain (omega arith) in char-by 4 (a ∷ b ∷ c ∷ []) (omega arith) (also a b (tail-match t.third) (omega arith) (omega arith) (omega arith) (omega arith))
three-char a b c t false false false p q r =
    let l = leb-false a 0xED r in char-by 5 (a ∷ b ∷ c ∷ []) (omega arith) (also a b (tail-match t.third) (omega arith) (omega arith) (omega arith) (omega arith))

four-char : (a b c d : ℕ) → Four a b c d → (x y : Bool) → leb a 0xF0 ≡ x → leb a 0xF3 ≡ y → is_char (a ∷ b ∷ c ∷ d ∷ []) ≡ true
unfolding alternatives
four-char a b c d t true y p q =
    let h = leb-true a 0xF0 p in
    char-by 6 (a ∷ b ∷ c ∷ d ∷ []) (omega arith) (also a b (tails-match t.third t.fourth) (omega arith) (omega arith) (omega arith) (omega arith))
four-char a b c d t false true p q =
    let l = leb-false a 0xF0 p in
    let h = leb-true a 0xF3 q in
    char-by 7 (a ∷ b ∷ c ∷ d ∷ []) (omega arith) (also a b (tails-match t.third t.fourth) (omega arith) (omega arith) (omega arith) (omega arith))
four-char a b c d t false false p q =
    let l = leb-false a 0xF3 q in
    char-by 8 (a ∷ b ∷ c ∷ d ∷ []) (omega arith) (also a b (tails-match t.third t.fourth) (omega arith) (omega arith) (omega arith) (omega arith))

pub shape-char : {w : List ℕ} → Shape w → is_char w ≡ true
unfolding alternatives
shape-char (one {a} h) = char-by 0 (a ∷ []) (omega arith) (on {b = a} (omega arith) h end)
shape-char (two {a} {b} l h t) = char-by 1 (a ∷ b ∷ []) (omega arith) (on l h (tail-match t))
shape-char (three {a} {b} {c} t) = three-char a b c t (leb a 0xE0) (leb a 0xEC) (leb a 0xED) refl refl refl
shape-char (four {a} {b} {c} {d} t) = four-char a b c d t (leb a 0xF0) (leb a 0xF3) refl refl

-- ---- what every sequence has

pub char-some : (w : List ℕ) → is_char w ≡ true → (0 < length w) × (length w ≤ 4)
char-some w e = go (char-shape w e)
  where
    go : {w : List ℕ} → Shape w → (0 < length w) × (length w ≤ 4)
    go (one h) = (omega arith, omega arith)
    go (two l h t) = (omega arith, omega arith)
    go (three t) = (omega arith, omega arith)
    go (four t) = (omega arith, omega arith)

low_first : (a : ℕ) → a ≤ 0x7F → within tail a ≡ false
low_first a h = rw (lt-leb 0x80 a (omega arith))

high-first : (a : ℕ) → 0xC0 ≤ a → within tail a ≡ false
high-first a h = rw (lt-leb a 0xBF (omega arith), and-false (leb 0x80 a))

-- the first octet is no tail, whatever text t follows; d is what `get_or` gives past the end
pub char-first : (w t : List ℕ) (d : ℕ) → is_char w ≡ true → within tail (get_or (w ++ t) 0 d) ≡ false
char-first w t d e = go t d (char-shape w e)
  where
    go : {w : List ℕ} (t : List ℕ) (d : ℕ) → Shape w → within tail (get_or (w ++ t) 0 d) ≡ false
    go t d (one {a} h) = low_first a h
    go t d (two {a} l h s) = high-first a (omega arith)
    go t d (three {a} s) = high-first a (omega arith)
    go t d (four {a} s) = high-first a (omega arith)

tail_within : {b : ℕ} → Tail b → within tail b ≡ true
tail_within {b} t = in_within tail b t.low t.high

pub char-further : (w : List ℕ) (n d : ℕ) → is_char w ≡ true → 0 < n → n < length w → within tail (get_or w n d) ≡ true
char-further w n d e l h = go n d (char-shape w e) l h
  where
    go : {w : List ℕ} (n d : ℕ) → Shape w → 0 < n → n < length w → within tail (get_or w n d) ≡ true
    go zero d s l h = absurd (omega arith)
    go (suc n) d (one x) l h = absurd (omega arith)
    go (suc zero) d (two x y t) l h = tail_within t
    go (suc (suc n)) d (two x y t) l h = absurd (omega arith)
    go (suc zero) d (three t) l h = tail_within t.second
    go (suc (suc zero)) d (three t) l h = tail_within t.third
    go (suc (suc (suc n))) d (three t) l h = absurd (omega arith)
    go (suc zero) d (four t) l h = tail_within t.second
    go (suc (suc zero)) d (four t) l h = tail_within t.third
    go (suc (suc (suc zero))) d (four t) l h = tail_within t.fourth
    go (suc (suc (suc (suc n)))) d (four t) l h = absurd (omega arith)

-- ---- what follows for the sequence that a text begins with

pub width-inside : (u : List ℕ) → (width u ≤ length u) × (width u ≤ 4)
width-inside u = go (width u) refl
  where
    go : (n : ℕ) → width u ≡ n → (width u ≤ length u) × (width u ≤ 4)
    go zero e = (omega arith, omega arith)
    go (suc n) e = let k = width-char u (omega arith) in (k.1, omega (arith, (char-some (take (width u) u) k.0).1, length-take-le (width u) u k.1))

pub width-tail : (b : ℕ) (s : List ℕ) → within tail b ≡ true → width (b ∷ s) ≡ 0
width-tail b s e = go (width (b ∷ s)) refl (width-char (b ∷ s))
  where
    go : (n : ℕ) → width (b ∷ s) ≡ n → (0 < n → (is_char (take n (b ∷ s)) ≡ true) × (n ≤ length (b ∷ s))) → n ≡ 0
    go zero q h = refl
    go (suc n) q h = let f = char-first (b ∷ take n s) [] 0 (h (omega arith)).0 in let z : ◌≡◌ {A = ℕ} 0 1 = cc in absurd (omega arith)
