-- What stands at a place of a text, and the places that do not cut a sequence.
--     code-char, rest-char        the first character of a text that begins with a sequence
--     decode-char, see-char       where a sequence stands, `decode_at` and `see` read it
--     decodes                     what `octets` wrote is read back, wherever it stands
--     boundary                    in a text, the boundaries are the places that do not cut a sequence
--     first, between              a text begins at a boundary, and is UTF-8 between two of them
--     sees, skips                 from a boundary, the scanner reads a character as `decode_at` does, and goes to a boundary
-- Assumes nothing.
use Rattle.std.proofs.lemmas.Option.{some_pair_parts}
use Rattle.std.specs.Prelude.{Some}
use Prim.Native.Nat.{ℕ, zero, suc, ◌+◌, ◌-◌, ◌≤◌, ◌<◌, min}
use mathlib.Core.Path.{◌≡◌, refl, sym, ap, subst, ◌∙◌}
use mathlib.Core.Logic.{◌↔◌}
use mathlib.Core.Bool.{Bool, true, false, not}
use mathlib.Core.List.{List, [], ◌∷◌, ◌++◌, append_assoc}
use native.Mathlib.Omega.{arith}
use lib.ListN.{length, get_or, take, drop, length-append, length-drop, get_or-append}
use lib.Seq.{take-nil, drop-nil, take-append_seam, drop-append_seam, take-append-add, drop-append-add, get_or-append-add, get_or-drop, drop-drop, take-add}
use lib.Dec.{leb}
use borrow.Author.Tests.{leb-true, leb-false, le-leb, ne_eqb, not-true}
use Rattle.text.specs.Range.{within}
use Rattle.text.specs.Walk.{answer, pass, walk_from}
use Rattle.text.specs.Utf8.{tail, is_char, Octets, none, next, value, octets, is_scalar, decode_from, decode_at, is_boundary}
use Rattle.text.specs.Scan.{code, rest, see_from, see, look_past, skip, part}
use Rattle.text.specs.Rfc3629.{Cut}
use Rattle.text.specs.declared.utf8.Decoded.TheVariants as decoded
use Rattle.text.proofs.sequences.Walk.{from-answer}
use Rattle.text.proofs.sequences.Alternatives.{char-width}
use Rattle.text.proofs.general.Tests.{both_true}
use Rattle.text.proofs.sequences.Lengths.{char-some, char-first, char-further}
use Rattle.text.proofs.sequences.ScalarValues.{writes, reads}
use Rattle.text.proofs.sequences.Octets.{octets-char, octets-append, octets-after, walk-char}

-- ---- a sequence at a place

pub code-char : (w t : List ℕ) → is_char w ≡ true → code (w ++ t) ≡ value w
unfolding code
code-char w t e = let h = (char-some w e).0 in rw (char-width w t e, ne_eqb (length w) 0 (λ z. omega arith), take-append_seam w t)

pub rest-char : (w t : List ℕ) → is_char w ≡ true → rest (w ++ t) ≡ length w - 1
unfolding rest
rest-char w t e = rw (char-width w t e)

pub see-char : (w t : List ℕ) (i : ℕ) → is_char w ≡ true → see_from (w ++ t) i ≡ Some (value w, i + length w)
unfolding see_from
see-char [] t i e = absurd (omega (arith, (char-some [] e).0))
see-char (b ∷ w) t i e = rw (code-char (b ∷ w) t e, rest-char (b ∷ w) t e) (ap (λ (n' : ℕ). Some ((value (b ∷ w)), n')) (omega arith))

pub decode-char : (w t : List ℕ) (i : ℕ) → is_char w ≡ true → decode_from (w ++ t) i ≡ decoded.Char (value w) (i + length w)
unfolding decode_from
decode-char [] t i e = absurd (omega (arith, (char-some [] e).0))
decode-char (b ∷ w) t i e = rw (char-width (b ∷ w) t e, ne_eqb (length (b ∷ w)) 0 (λ z. omega arith), take-append_seam (b ∷ w) t)

pub decodes : (c : ℕ) (before after : List ℕ) → is_scalar c ≡ true →
    decode_at (before ++ octets c ++ after) (length before) ≡ decoded.Char c (length before + length (octets c))
decodes c before after e =
    rw (append_assoc before (octets c) after, drop-append_seam before (octets c ++ after), decode-char (octets c) after (length before) (writes c e), reads c e)

-- ---- boundaries

octets-first : {u : List ℕ} → Octets u → within tail (get_or u 0 256) ≡ false
octets-first none = refl
octets-first (next w {s} e o) = char-first w s 256 e

cut-boundary : (s : List ℕ) (n : ℕ) → Cut s n → is_boundary s n ≡ true
unfolding is_boundary
cut-boundary s n c =
    let z : n + 0 ≡ n = omega arith in
    let g : within tail (get_or s n 256) ≡ false = rw (get_or-drop n s 0 256, z) at (octets-first c.after) in
    rw (le-leb n (length s) c.inside, g)

-- the place n cuts s into two texts that are UTF-8
abbrev BothOctets : List ℕ → ℕ → Type 0
BothOctets s n = Octets (take n s) × Octets (drop n s)

-- where no tail stands at n, the place n cuts s in this way
abbrev CutsApart : List ℕ → ℕ → Type 0
CutsApart s n = n ≤ length s → within tail (get_or s n 256) ≡ false → BothOctets s n

apart-further : (w s : List ℕ) (n : ℕ) → is_char w ≡ true → length w ≤ n → ((m : ℕ) → CutsApart s m) → CutsApart (w ++ s) n
apart-further w s n e l ih h q =
    let k : length w + (n - length w) ≡ n = omega arith in
    let m = ih (n - length w) (omega (arith, length-append w s)) (rw (← k, get_or-append-add w s (n - length w) 256) at q) in
    subst (BothOctets (w ++ s)) k (rw (take-append-add w s (n - length w), drop-append-add w s (n - length w)) (next w e m.0, m.1))

-- a tail stands at every place inside a sequence
apart-inside : (w s : List ℕ) (n : ℕ) → is_char w ≡ true → 0 < n → n < length w → within tail (get_or (w ++ s) n 256) ≡ false → ⊥
apart-inside w s n e l h q =
    let g = char-further w n 256 e l h in
    let a = get_or-append w s 256 n h in
    let b = ap (within tail) a in let z : ◌≡◌ {A = ℕ} 0 1 = cc in omega arith

cuts-apart : {s : List ℕ} (n : ℕ) → Octets s → CutsApart s n
cuts-apart n none h q = rw (take-nil {A = ℕ} n, drop-nil {A = ℕ} n) (none, none)
cuts-apart zero (next w e o) h q = (none, next w e o)
cuts-apart (suc n) (next w {s} e o) h q = go (leb (length w) (suc n)) refl (λ m l g. cuts-apart m o l g)
  where
    go : (x : Bool) → leb (length w) (suc n) ≡ x → ((m : ℕ) → CutsApart s m) → BothOctets (w ++ s) (suc n)
    go true p ih = apart-further w s (suc n) e (leb-true _ _ p) ih h q
    go false p ih = absurd (apart-inside w s (suc n) e (omega arith) (leb-false _ _ p) q)

boundary-cut : (s : List ℕ) (n : ℕ) → Octets s → is_boundary s n ≡ true → Cut s n
unfolding is_boundary
boundary-cut s n o e =
    let b = both_true (leb n (length s)) (not (within tail (get_or s n 256))) e in
    let l = leb-true _ _ b.0 in
    let h = cuts-apart n o l (not-true _ b.1) in record { inside = l; before = h.0; after = h.1 }

pub boundary : (s : List ℕ) (n : ℕ) → Octets s → (is_boundary s n ≡ true) ↔ Cut s n
boundary s n o = (boundary-cut s n o, cut-boundary s n)

pub first : (s : List ℕ) → Octets s → is_boundary s 0 ≡ true
first s o = cut-boundary s 0 (record { inside = omega arith; before = none; after = o })

pub between : (s : List ℕ) (a e : ℕ) → Octets s → a ≤ e → is_boundary s a ≡ true → is_boundary s e ≡ true → Octets (part s a e)
between s a e o h p q =
    let x = boundary-cut s a o p in
    let y = boundary-cut s e o q in
    octets-after (part s a e) x.before (subst Octets (ap (λ (k : ℕ). take k s) (sum a e (length s) h y.inside)
    ∙ take-add a (min e (length s) - a) s) y.before)
  where
    sum : (a e n : ℕ) → a ≤ e → e ≤ n → e ≡ a + (min e n - a)
    sum a e n h l = omega arith

-- ---- the scanner

-- where i cuts s and a sequence follows, the place after the sequence cuts s too
cut-char : (s : List ℕ) (i : ℕ) (w t : List ℕ) → Cut s i → w ++ t ≡ drop i s → is_char w ≡ true → Octets t →
    (t ≡ drop (i + length w) s) × Cut s (i + length w)
cut-char s i w t c q e o =
    let d : t ≡ drop (i + length w) s = sym (drop-append_seam w t) ∙ ap (drop (length w)) q ∙ drop-drop (length w) i s in
    let f : take (length w) (drop i s) ≡ w = ap (take (length w)) (sym q) ∙ take-append_seam w t in
    let n : length w ≤ length s - i = omega (arith, ap length q, length-append w t, length-drop i s) in
    let h = c.inside in
    (d, record { inside = omega arith; before = rw (take-add i (length w) s, f) (octets-append c.before (octets-char w e)); after = rw (sym d) o })

sees-from : {u : List ℕ} (s : List ℕ) (i c n : ℕ) → Octets u → u ≡ drop i s → Cut s i → see_from u i ≡ Some (c, n) →
    (decode_from u i ≡ decoded.Char c n) × (is_boundary s n ≡ true)
unfolding see_from
sees-from s i c n none q k e = let z : ◌≡◌ {A = ℕ} 0 1 = cc in absurd (omega arith)
sees-from s i c n (next w {s = t} x o) q k e =
    let p = some_pair_parts _ _ _ _ (sym (see-char w t i x) ∙ e) in
    (decode-char w t i x ∙ rw (p.0, p.1), rw p.1 at (cut-boundary s (i + length w) (cut-char s i w t k q x o).1))

pub sees : (s : List ℕ) (i c n : ℕ) → Octets s → is_boundary s i ≡ true → see s i ≡ Some (c, n) →
    (decode_at s i ≡ decoded.Char c n) × (is_boundary s n ≡ true)
sees s i c n o b e = let k = boundary-cut s i o b in sees-from s i c n k.after refl k e

skip-pass : (p : ℕ → Bool) (i : ℕ) (w t : List ℕ) → is_char w ≡ true → p (code (w ++ t)) ≡ true → look_past p i (w ++ t) ≡ pass (length w - 1)
unfolding look_past
skip-pass p i w t e q = rw (q, rest-char w t e)

skip_stop : (p : ℕ → Bool) (i : ℕ) (u : List ℕ) → p (code u) ≡ false → look_past p i u ≡ answer i
unfolding look_past
skip_stop p i u q = rw q

-- the place where a scan that begins at i stops
abbrev skip_from : (ℕ → Bool) → ℕ → List ℕ → ℕ
skip_from p i u = walk_from (look_past p) (λ n. n) i 0 u

skip-turn : (p : ℕ → Bool) (s : List ℕ) (i : ℕ) (w t : List ℕ) → is_char w ≡ true → Cut s i → Cut s (skip_from p (i + length w) t) → (x : Bool) →
    p (code (w ++ t)) ≡ x → Cut s (skip_from p i (w ++ t))
skip-turn p s i w t e k ih true q = rw (walk-char (look_past p) (λ n. n) i w t e (skip-pass p i w t e q)) ih
skip-turn p s i w t e k ih false q =
    rw (from-answer (look_past p) (λ n. n) i (w ++ t) i (omega (arith, (char-some w e).0, length-append w t)) (skip_stop p i (w ++ t) q)) k

skips-from : {u : List ℕ} (p : ℕ → Bool) (s : List ℕ) (i : ℕ) → Octets u → u ≡ drop i s → Cut s i → Cut s (skip_from p i u)
unfolding walk_from
skips-from p s i none q k = k
skips-from p s i (next w {s = t} e o) q k =
    let c = cut-char s i w t k q e o in skip-turn p s i w t e k (skips-from p s (i + length w) o c.0 c.1) (p (code (w ++ t))) refl

pub skips : (p : ℕ → Bool) (s : List ℕ) (i : ℕ) → Octets s → is_boundary s i ≡ true → is_boundary s (skip p s i) ≡ true
unfolding skip
skips p s i o b = let k = boundary-cut s i o b in cut-boundary s (skip p s i) (skips-from p s i k.after refl k)
