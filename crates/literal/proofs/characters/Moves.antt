-- A way through a text and the parts that it emits; and that readers made of such readers go such ways too.
--     owed, owed-most, owed-odd, owed-inside      what a backslash has written ahead of its place, of a character that it does not eat
--     Move, move-none, move-on, move-put          a way from one place to another
--     MovesOut, Reads                             an outcome that is a way; a reader all of whose outcomes are ways
--     eaten-by, turn-moves, many-reads            a reader that goes by what it sees; a turn; a loop
-- Assumes nothing.
use Rattle.std.proofs.Common.{ℕ, zero, suc, ◌+◌, ◌*◌, ◌-◌, ◌≤◌, ◌<◌, arith, ◌≡◌, refl, Bool, true, false, cond, List, [], ◌∷◌, ◌++◌, length}
use Rattle.std.specs.Prelude.{Option, Some, None}
use Rattle.text.specs.Utf8.{Octets, is_boundary}
use Rattle.text.specs.Scan.{see}
use Rattle.text.proofs.Seeing.{seeing}
use Rattle.raw.specs.Reader.{OutOf, ok, again, bad, more, and_then, after, eaten, loop, many, turn}
use Rattle.turn.specs.Content.{Part, put, Reader, begins}
use Rattle.literal.proofs.characters.PartsToChunks.{PartTexts, append-texts, weights, weights-append, ends, ends-append}

-- ---- what is owed

-- A backslash before a character that no name begins with writes that character too, and does not eat it. So it has written more than twice
-- its own byte, where the character has several octets. The excess is owed at the character's place, and made up for by the turn that reads it.
abbrev owing : ℕ → Option (ℕ × ℕ) → ℕ
owing p None = 0
owing p (Some (c, n)) = cond (begins c) 0 (n - p - 1)

unfoldable pub owed : List ℕ → ℕ → ℕ
owed s p = owing p (see s p)

pub owed-most : (s : List ℕ) (p c n : ℕ) → see s p ≡ Some (c, n) → owed s p + p + 1 ≤ n
unfolding owed
owed-most s p c n e = rw e (by (begins c) (seeing.see-ahead s p c n e).0)
  where
    by : (w : Bool) → p < n → cond w 0 (n - p - 1) + p + 1 ≤ n
    by true h = omega (arith, h)
    by false h = omega (arith, h)

pub owed-odd : (s : List ℕ) (p c n : ℕ) → see s p ≡ Some (c, n) → begins c ≡ false → owed s p ≡ n - p - 1
unfolding owed
owed-odd s p c n e h = rw (e, h) refl

pub owed-inside : (s : List ℕ) (p : ℕ) → p ≤ length s → 2 * p + owed s p ≤ 2 * length s
unfolding owed
owed-inside s p h = by (see s p) refl
  where
    by : (v : Option (ℕ × ℕ)) → see s p ≡ v → 2 * p + owing p v ≤ 2 * length s
    by None e = omega (arith, h)
    by (Some (c, n)) e = let a = seeing.see-ahead s p c n e in two (begins c) a.0 a.1
      where
        two : (w : Bool) → p < n → n ≤ length s → 2 * p + cond w 0 (n - p - 1) ≤ 2 * length s
        two true k l = omega (arith, k, l)
        two false k l = omega (arith, k, l)

-- ---- a way from p to q through the text s, which emits xs

-- It emits at most two octets and ends at most one chunk for each octet read. From a boundary of a text that is UTF-8 it leads to a boundary,
-- and emits texts that are UTF-8.
pub record Move (s : List ℕ) (p q : ℕ) (xs : List Part) : Type 0 where
  pub from : p ≤ q
  pub to : q ≤ length s
  pub size : weights xs + (2 * p + owed s p) ≤ 2 * q + owed s q
  pub few : ends xs + p ≤ q
  pub texts : Octets s → is_boundary s p ≡ true → (is_boundary s q ≡ true) × PartTexts xs

pub move-none : (s : List ℕ) (p : ℕ) → p ≤ length s → Move s p p []
move-none s p h = record { from = omega arith; to = h; size = omega arith; few = omega arith; texts = λ o b. (b, tt) }

pub move-on : (s : List ℕ) (p q r : ℕ) (xs ys : List Part) → Move s p q xs → Move s q r ys → Move s p r (xs ++ ys)
move-on s p q r xs ys m n =
    record {
      from = omega (arith, m.from, n.from);
      to = n.to;
      size = omega (arith, m.size, n.size, weights-append xs ys);
      few = omega (arith, m.few, n.few, ends-append xs ys);
      texts = λ o b. let x = m.texts o b in let y = n.texts o x.0 in (y.0, append-texts xs ys x.1 y.1);
    }

-- one text is put
pub move-put : (s : List ℕ) (p q : ℕ) (w : List ℕ) → p ≤ q → q ≤ length s → length w + (2 * p + owed s p) ≤ 2 * q + owed s q
    → (Octets s → is_boundary s p ≡ true → (is_boundary s q ≡ true) × Octets w) → Move s p q (put w ∷ [])
move-put s p q w h l z f =
    record {
      from = h;
      to = l;
      size = omega (arith, z);
      few = omega (arith, h);
      texts = λ o b. let x = f o b in (x.0, (x.1, tt));
    }

-- ---- outcomes and readers

abbrev pub MovesOut : List ℕ → ℕ → OutOf Part → Type 0
MovesOut s p (ok q xs) = Move s p q xs
MovesOut s p (again q xs a) = Move s p q xs
MovesOut s p (bad f) = Unit {0}

abbrev pub Reads : Reader → Type 0
Reads f = (s : List ℕ) (p : ℕ) → p ≤ length s → MovesOut s p (f s p)

more-moves : (s : List ℕ) (p q : ℕ) (xs : List Part) (o : OutOf Part) → Move s p q xs → MovesOut s q o → MovesOut s p (more xs o)
more-moves s p q xs (ok r ys) m h = move-on s p q r xs ys m h
more-moves s p q xs (again r ys a) m h = move-on s p q r xs ys m h
more-moves s p q xs (bad f) m h = tt

-- a reader that goes by what it sees
pub eaten-by : (R : OutOf Part → Type 0) (t : ℕ → Bool) (s : List ℕ) (p : ℕ) (f : ℕ → OutOf Part) (o : OutOf Part)
    → ((c n : ℕ) → see s p ≡ Some (c, n) → t c ≡ true → R (f n)) → R o → R (eaten t (see s p) f o)
eaten-by R t s p f o h k = by (see s p) refl
  where
    by : (v : Option (ℕ × ℕ)) → see s p ≡ v → R (eaten t v f o)
    by None e = k
    by (Some (c, n)) e = two (t c) (h c n e)
      where
        two : (b : Bool) → (b ≡ true → R (f n)) → R (cond b (f n) o)
        two true g = g refl
        two false g = k

pub cond-by : (R : OutOf Part → Type 0) (b : Bool) (x y : OutOf Part) → R x → R y → R (cond b x y)
cond-by R true x y h k = h
cond-by R false x y h k = k

-- a reader, and then the loop
pub turn-moves : (s : List ℕ) (p d : ℕ) (o : OutOf Part) → MovesOut s p o → MovesOut s p (and_then o (turn d s))
turn-moves s p d (ok q xs) m = move-on s p q q xs [] m (move-none s q m.to)
turn-moves s p d (again q xs a) m = move-on s p q q xs [] m (move-none s q m.to)
turn-moves s p d (bad f) m = tt

after-moves : (s : List ℕ) (p : ℕ) (o : OutOf Part) (g : ℕ → ℕ → OutOf Part) → MovesOut s p o
    → ((b q : ℕ) → q ≤ length s → MovesOut s q (g b q)) → MovesOut s p (after o g)
after-moves s p (ok q xs) g m h = m
after-moves s p (again q xs a) g m h = more-moves s p q xs (g a q) m (h a q m.to)
after-moves s p (bad f) g m h = tt

loop-reads : (f : ℕ → Reader) → ((a : ℕ) → Reads (f a)) → (n a : ℕ) → Reads (loop f n a)
unfolding loop
loop-reads f F zero a s p h = tt
loop-reads f F (suc n) a s p h = after-moves s p (f a s p) (λ b q. loop f n b s q) (F a s p h) (λ b q l. loop-reads f F n b s q l)

pub many-reads : (f : ℕ → Reader) → ((a : ℕ) → Reads (f a)) → (a : ℕ) → Reads (many f a)
unfolding many
many-reads f F a s p h = loop-reads f F (suc (length s)) a s p h
