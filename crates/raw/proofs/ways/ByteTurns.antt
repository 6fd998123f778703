-- The turns of `quoted`, `number` and `in_braces`, byte by byte: one law for each way through their loops.
--     quoted-closed, quoted-escape, quoted-cut, quoted-plain, quoted-end
--         at the closing quote, a backslash pair, a backslash that ends the text, any other byte, the end of the text
--     number-digit, number-point, number-again, number-done, number-end
--         at a digit, the first point, a second point, any other byte, the end of the text
--     braces-open, braces-close, braces-closed, braces-escape, braces-cut, braces-plain, braces-end
--         at an opening brace, a closing brace of one inside, the closing brace of the value, a backslash pair, a backslash that ends the text,
--         any other byte, the end of the text
-- Assumes nothing.
use Rattle.std.proofs.Common.{Some, None, Result, Ok, Err, ℕ, zero, suc, ◌+◌, ◌-◌, ◌≤◌, ◌<◌, arith, ◌≡◌, refl, ap, Bool, true, false, cond, ◌&&◌, List, [], length, get_or, leb}
use Rattle.std.proofs.Common.{ne_eqb}
use Rattle.row.specs.declared.fault.Fault.{Fault}
use mathlib.Core.Bool.{and-false}
use borrow.Author.Tests.{lt-leb}
use Rattle.text.specs.Range.{◌–◌}
use Rattle.text.specs.Class.{holds_of}
use Rattle.text.specs.declared.class.Test.TheVariants as test
use Rattle.text.specs.Scan.{see}
use Rattle.text.proofs.Seeing.{seeing}
use Rattle.row.specs.declared.fault.Reason.TheVariants.{UnexpectedEof, UnexpectedDecimalPoint}
use Rattle.row.specs.Fault.{fault_at}
use Rattle.raw.specs.Reader.{Reader, ok, again, bad}
use Rattle.raw.specs.Grammar.{is, escape, quoted_turn, quoted, number_turn, number, braced_turn, in_braces}
use Rattle.raw.specs.Says.{step_of, Onward}
use Rattle.raw.proofs.readers.Loop.{many-turn}
use Rattle.raw.proofs.grammar.Readers.{quoted-turn-kept, number-turn-kept, braced-turn-kept}
use Rattle.text.proofs.general.Tests.{narrow-is, within-true}
use Rattle.raw.specs.Inner.{AsciiOnly}
use Rattle.raw.proofs.ways.ByteLoops.{seen_key, seen_other, Unrolls, Wide, Reached, on-turn, on-char, on-cut, on-escape, at-stop, at-bad}

-- r is the step that the code must answer for the reader f, with its bounds
abbrev Answers : Reader → List ℕ → ℕ → Result ℕ Fault → Type 0
Answers f s at r = (r ≡ step_of (f s at)) × Onward (length s) 0 at r

-- ---- in quotes

quoted-un : Unrolls quoted_turn
quoted-un = many-turn quoted-turn-kept

quoted-other : (a : ℕ) (s : List ℕ) (i c n : ℕ) → see s i ≡ Some (c, n) → is 0x22 c ≡ false → is 0x5C c ≡ false → quoted_turn a s i ≡ again n [] a
unfolding quoted_turn
quoted-other a s i c n e p q = rw (e, p, q)

quoted-wide : Wide quoted_turn
quoted-wide a s i c n e h = quoted-other a s i c n e (narrow-is 0x22 (omega arith) c h) (narrow-is 0x5C (omega arith) c h)

module _ {s : List ℕ} {at i : ℕ} (r : Reached quoted_turn s at 0 i) where
  pub quoted-end : length s ≤ i → Answers quoted s at (Err (fault_at UnexpectedEof i))
  unfolding quoted_turn quoted
  quoted-end h = at-bad quoted-un r (rw (seeing.see-end s i h))

  module _ (h : i < length s) where
    pub quoted-closed : get_or s i 0 ≡ 0x22 → Answers quoted s at (Ok i)
    unfolding quoted_turn quoted
    quoted-closed e = at-stop quoted-un r (rw (seen_key s i h 0x22 e (omega arith)))

    quoted-slash : get_or s i 0 ≡ 0x5C → quoted_turn 0 s i ≡ escape 0 s (i + 1)
    unfolding quoted_turn
    quoted-slash e = rw (seen_key s i h 0x5C e (omega arith))

    pub quoted-cut : get_or s i 0 ≡ 0x5C → length s ≤ i + 1 → Reached quoted_turn s at 0 (i + 1)
    quoted-cut e l = on-cut quoted-un r l h (quoted-slash e)

    pub quoted-escape : get_or s i 0 ≡ 0x5C → i + 1 < length s → Reached quoted_turn s at 0 (i + 1 + 1)
    quoted-escape e l = on-escape quoted-un r quoted-wide l (quoted-slash e)

    pub quoted-plain : (get_or s i 0 ≡ 0x22 → ⊥) → (get_or s i 0 ≡ 0x5C → ⊥) → Reached quoted_turn s at 0 (i + 1)
    quoted-plain p q =
        let o = seen_other s i h in
        on-char quoted-un r quoted-wide o.2
        (quoted-other 0 s i o.0 o.1 o.2 (o.3 (is 0x22) (narrow-is 0x22 (omega arith)) (ne_eqb _ _ p)) (o.3 (is 0x5C) (narrow-is 0x5C (omega arith)) (ne_eqb _ _ q)))

-- ---- numbers

number-un : Unrolls number_turn
number-un = many-turn number-turn-kept

-- the number that the loop carries: 0 before the point, and 1 after it
abbrev pub dotted : Bool → ℕ
dotted d = cond d 1 0

digit-on : (d : Bool) (s : List ℕ) (i c n : ℕ) → see s i ≡ Some (c, n) → holds_of test.Digit c ≡ true → number_turn (dotted d) s i ≡ again n [] (dotted d)
unfolding number_turn
digit-on true s i c n e t = rw (e, t)
digit-on false s i c n e t = rw (e, t)

number-none : (d : Bool) (s : List ℕ) (i c n : ℕ) → see s i ≡ Some (c, n) → holds_of test.Digit c ≡ false → is 0x2E c ≡ false →
    number_turn (dotted d) s i ≡ ok i []
unfolding number_turn
number-none true s i c n e t q = rw (e, t, q)
number-none false s i c n e t q = rw (e, t, q)

number_cut : (d : Bool) (s : List ℕ) (i : ℕ) → see s i ≡ None → number_turn (dotted d) s i ≡ bad (fault_at UnexpectedEof i)
unfolding number_turn
number_cut true s i e = rw e
number_cut false s i e = rw e

digit-narrow : AsciiOnly (holds_of test.Digit)
unfolding holds_of
digit-narrow c h = rw (lt-leb c 0x39 (omega arith), and-false (leb 0x30 c))

module _ {s : List ℕ} {at i : ℕ} (d : Bool) (r : Reached number_turn s at (dotted d) i) where
  pub number-end : length s ≤ i → Answers number s at (Err (fault_at UnexpectedEof i))
  unfolding number
  number-end h = at-bad number-un r (number_cut d s i (seeing.see-end s i h))

  module _ (h : i < length s) where
    pub number-digit : (leb 0x30 (get_or s i 0) && leb (get_or s i 0) 0x39) ≡ true → Reached number_turn s at (dotted d) (i + 1)
    unfolding holds_of
    number-digit t =
        let b = within-true (0x30 – 0x39) (get_or s i 0) t in
        on-turn number-un r (digit-on d s i (get_or s i 0) (i + 1) (seeing.see-ascii s i h (omega arith)) t) (omega arith) (omega arith)

    pub number-done : (leb 0x30 (get_or s i 0) && leb (get_or s i 0) 0x39) ≡ false → (get_or s i 0 ≡ 0x2E → ⊥) → Answers number s at (Ok i)
    unfolding number holds_of
    number-done t q =
        let o = seen_other s i h in
        at-stop number-un r (number-none d s i o.0 o.1 o.2 (o.3 (holds_of test.Digit) digit-narrow t) (o.3 (is 0x2E) (narrow-is 0x2E (omega arith)) (ne_eqb _ _ q)))

module _ {s : List ℕ} {at i : ℕ} (h : i < length s) (e : get_or s i 0 ≡ 0x2E) where
  pub number-point : (d : Bool) → Reached number_turn s at (dotted d) i → d ≡ false → Reached number_turn s at 1 (i + 1)
  unfolding number_turn holds_of
  number-point d r q = on-turn number-un (rw q at r) (rw (seen_key s i h 0x2E e (omega arith))) (omega arith) (omega arith)

  pub number-again : (d : Bool) → Reached number_turn s at (dotted d) i → d ≡ true →
      Answers number s at (Err (fault_at UnexpectedDecimalPoint i))
  unfolding number_turn number holds_of
  number-again d r q = at-bad number-un (rw q at r) (rw (seen_key s i h 0x2E e (omega arith)))

-- ---- in braces

braces-un : Unrolls braced_turn
braces-un = many-turn braced-turn-kept

pub slash-on : (d : ℕ) (s : List ℕ) (i n : ℕ) → see s i ≡ Some (0x5C, n) → braced_turn d s i ≡ escape d s n
unfolding braced_turn
slash-on zero s i n e = rw e
slash-on (suc d) s i n e = rw e

pub open-on : (d : ℕ) (s : List ℕ) (i n : ℕ) → see s i ≡ Some (0x7B, n) → braced_turn d s i ≡ again n [] (d + 1)
unfolding braced_turn
open-on zero s i n e = rw e
open-on (suc d) s i n e = rw e (ap (again n []) (omega arith))

pub close-on : (d : ℕ) (s : List ℕ) (i n : ℕ) → see s i ≡ Some (0x7D, n) → (d ≡ 0 → ⊥) → braced_turn d s i ≡ again n [] (d - 1)
unfolding braced_turn
close-on zero s i n e z = absurd (z refl)
close-on (suc d) s i n e z = rw e (ap (again n []) (omega arith))

pub close-stop : (d : ℕ) (s : List ℕ) (i n : ℕ) → see s i ≡ Some (0x7D, n) → d ≡ 0 → braced_turn d s i ≡ ok i []
unfolding braced_turn
close-stop zero s i n e z = rw e
close-stop (suc d) s i n e z = absurd (omega arith)

pub braces-cut-off : (d : ℕ) (s : List ℕ) (i : ℕ) → see s i ≡ None → braced_turn d s i ≡ bad (fault_at UnexpectedEof i)
unfolding braced_turn
braces-cut-off zero s i e = rw e
braces-cut-off (suc d) s i e = rw e

pub braces-other : (d : ℕ) (s : List ℕ) (i c n : ℕ) → see s i ≡ Some (c, n) → is 0x7B c ≡ false → is 0x7D c ≡ false → is 0x5C c ≡ false →
    braced_turn d s i ≡ again n [] d
unfolding braced_turn
braces-other zero s i c n e p q r = rw (e, p, q, r)
braces-other (suc d) s i c n e p q r = rw (e, p, q, r)

braces-wide : Wide braced_turn
braces-wide a s i c n e h =
    braces-other a s i c n e (narrow-is 0x7B (omega arith) c h) (narrow-is 0x7D (omega arith) c h) (narrow-is 0x5C (omega arith) c h)

module _ {s : List ℕ} {at d i : ℕ} (r : Reached braced_turn s at d i) where
  pub braces-end : length s ≤ i → Answers in_braces s at (Err (fault_at UnexpectedEof i))
  unfolding in_braces
  braces-end h = at-bad braces-un r (braces-cut-off d s i (seeing.see-end s i h))

  module _ (h : i < length s) where
    pub braces-open : get_or s i 0 ≡ 0x7B → Reached braced_turn s at (d + 1) (i + 1)
    braces-open e = on-turn braces-un r (open-on d s i (i + 1) (seen_key s i h 0x7B e (omega arith))) (omega arith) (omega arith)

    pub braces-close : get_or s i 0 ≡ 0x7D → (d ≡ 0 → ⊥) → Reached braced_turn s at (d - 1) (i + 1)
    braces-close e z = on-turn braces-un r (close-on d s i (i + 1) (seen_key s i h 0x7D e (omega arith)) z) (omega arith) (omega arith)

    pub braces-closed : get_or s i 0 ≡ 0x7D → d ≡ 0 → Answers in_braces s at (Ok i)
    unfolding in_braces
    braces-closed e z = at-stop braces-un r (close-stop d s i (i + 1) (seen_key s i h 0x7D e (omega arith)) z)

    pub braces-cut : get_or s i 0 ≡ 0x5C → length s ≤ i + 1 → Reached braced_turn s at d (i + 1)
    braces-cut e l = on-cut braces-un r l h (slash-on d s i (i + 1) (seen_key s i h 0x5C e (omega arith)))

    pub braces-escape : get_or s i 0 ≡ 0x5C → i + 1 < length s → Reached braced_turn s at d (i + 1 + 1)
    braces-escape e l = on-escape braces-un r braces-wide l (slash-on d s i (i + 1) (seen_key s i h 0x5C e (omega arith)))

    pub braces-plain : (get_or s i 0 ≡ 0x7B → ⊥) → (get_or s i 0 ≡ 0x7D → ⊥) → (get_or s i 0 ≡ 0x5C → ⊥) → Reached braced_turn s at d (i + 1)
    braces-plain x y z =
        let o = seen_other s i h in
        let no : (k : ℕ) → k < 0x80 → (get_or s i 0 ≡ k → ⊥) → is k o.0 ≡ false = λ k l q. o.3 (is k) (narrow-is k l) (ne_eqb _ _ q) in
        on-char braces-un r braces-wide o.2 (braces-other d s i o.0 o.1 o.2 (no 0x7B (omega arith) x) (no 0x7D (omega arith) y) (no 0x5C (omega arith) z))
