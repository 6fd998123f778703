-- The ways of a turn, by the character at p.
--     copy-move, blank-move, cut-move, math-move      a character that stands for itself, white space, a brace, math
--     dash-one, dash-two, dash-three                  hyphens
--     slash-move, escape-move, odd-move               what stands behind a backslash and is no command
--     alone-move, one-move, braced-move               a command without an argument, with one character, with braces
-- Assumes nothing.
use Rattle.std.proofs.Common.{ℕ, ◌+◌, ◌*◌, ◌-◌, ◌≤◌, ◌<◌, arith, ◌≡◌, refl, sym, ap, subst}
use Rattle.std.proofs.Common.{◌∙◌, Bool, true, false, List, [], ◌∷◌, length, take, drop, length-take, eqb, eqb-true}
use Rattle.std.specs.Prelude.{Some}
use borrow.Author.Tests.{not-false}
use Rattle.text.specs.Class.{is_whitespace, holds_of}
use Rattle.text.specs.Utf8.{Octets, none, is_boundary, octets, is_scalar}
use Rattle.text.specs.Scan.{see, skip, fails, part, code}
use Rattle.text.specs.declared.class.Test.TheVariants as test
use Rattle.text.proofs.general.Parts.{length_part}
use Rattle.text.proofs.Boundaries.{boundaries}
use Rattle.text.proofs.Seeing.{seeing}
use Rattle.text.proofs.Shapes.{shapes}
use Rattle.chunk.specs.Format.{format_verbatim}
use Rattle.chunk.proofs.WellFormed.{well-formed}
use Rattle.command.specs.Execute.{absent, given, execute_command}
use Rattle.command.proofs.WellFormed as commands
use Rattle.turn.specs.Content.{Part, put, cut, math, chunks_of, begins}
use Rattle.literal.proofs.characters.Pieces.{take-text, take-place, ascii-next}
use Rattle.literal.proofs.characters.PartsToChunks.{chunks-texts, chunks-formatted}
use Rattle.literal.proofs.characters.Moves.{owed, owed-most, owed-odd, owed-inside, Move, move-put}

-- where p is a boundary, q is one
abbrev pub To : List ℕ → ℕ → ℕ → Type 0
To s p q = Octets s → is_boundary s p ≡ true → is_boundary s q ≡ true

en-text : Octets (0xE2 ∷ 0x80 ∷ 0x93 ∷ [])
unfolding octets is_scalar
en-text = shapes.char-text 0x2013 refl

em-text : Octets (0xE2 ∷ 0x80 ∷ 0x94 ∷ [])
unfolding octets is_scalar
em-text = shapes.char-text 0x2014 refl

pub skip-place : (t : ℕ → Bool) (s : List ℕ) (p q : ℕ) → To s p q → To s p (skip t s q)
skip-place t s p q f o b = boundaries.skips t s q o (f o b)

-- ---- the character c at p, which ends at n

pub seen-place : (s : List ℕ) (p c n : ℕ) → see s p ≡ Some (c, n) → To s p n
seen-place s p c n e o b = (boundaries.sees s p c n o b e).1

pub ascii-place : (s : List ℕ) (p c n : ℕ) → see s p ≡ Some (c, n) → c < 0x80 → To s p (p + 1)
ascii-place s p c n e l o b = subst (λ (k : ℕ). is_boundary s k ≡ true) (ascii-next s p c n e l) (seen-place s p c n e o b)

-- the dollar sign that a scan has found
dollar-place : (s : List ℕ) (i r : ℕ) → r ≡ skip (fails test.Dollar) s i → r < length s → To s r (r + 1)
unfolding holds_of
dollar-place s i r q k =
    let x = ap (λ (j : ℕ). fails test.Dollar (code (drop j s))) q ∙ seeing.skip_at (fails test.Dollar) s (length s) i (omega arith) (omega (arith, k, q)) in
    let c = eqb-true (code (drop r s)) 0x24 (not-false (eqb (code (drop r s)) 0x24) x) in
    ascii-place s r _ _ (seeing.see-at s r k) (omega (arith, c))

module _ (s : List ℕ) (p c n : ℕ) (e : see s p ≡ Some (c, n)) where
  pub past : (p < n) × (n ≤ length s)
  past = seeing.see-ahead s p c n e

  next_place : To s p n
  next_place = seen-place s p c n e

  pub copy-move : Move s p n (put (part s p n) ∷ [])
  copy-move =
      move-put s p n (part s p n) (omega (arith, past)) past.1
      (omega (arith, past.0, length_part s p n (omega (arith, past.0)) past.1, owed-most s p c n e))
      (λ o b. let k = next_place o b in (k, boundaries.between s p n o (omega (arith, past.0)) b k))

  pub blank-move : is_whitespace c ≡ true → Move s p (skip is_whitespace s p) (put (0x20 ∷ []) ∷ [])
  blank-move w =
      let a = seeing.skip-inside is_whitespace s n past.1 in
      let k = seeing.white-on s p c n e w in
      move-put s p (skip is_whitespace s p) (0x20 ∷ []) (omega (arith, past.0, a.0, k)) (omega (arith, a.1, k))
      (omega (arith, past.0, a.0, k, owed-most s p c n e))
      (λ o b. (boundaries.skips is_whitespace s p o b, shapes.ascii-text 0x20 (omega arith)))

  -- where it is ASCII, it is one octet
  module _ (l : c < 0x80) where
    pub one : n ≡ p + 1
    one = ascii-next s p c n e l

    pub free : owed s p ≡ 0
    free = omega (arith, owed-most s p c n e, one)

    one_place : To s p (p + 1)
    one_place = ascii-place s p c n e l

    pub cut-move : (d : ℕ) → Move s p (p + 1) (cut d p (p + 1) ∷ [])
    cut-move d =
        record {
          from = omega arith;
          to = omega (arith, past.1, one);
          size = omega (arith, free);
          few = omega arith;
          texts = λ o b. (one_place o b, (tt, tt));
        }

    pub math-move : (d e₁ : ℕ) → e₁ ≡ skip (fails test.Dollar) s (p + 1) → e₁ < length s
        → Move s p (e₁ + 1) (cut d p (e₁ + 1) ∷ math (part s (p + 1) e₁) (p + 1) e₁ ∷ [])
    math-move d e₁ q k =
        let a = seeing.skip-inside (fails test.Dollar) s (p + 1) (omega (arith, past.1, one)) in
        let i : p + 1 ≤ e₁ = omega (arith, a.0, q) in
        record {
          from = omega (arith, i);
          to = omega (arith, k);
          size = omega (arith, free, i, length_part s (p + 1) e₁ i (omega (arith, k)));
          few = omega (arith, i);
          texts = λ o b. let x = to_end o b in (dollar-place s (p + 1) e₁ q k o x, (tt, (boundaries.between s (p + 1) e₁ o i (one_place o b) x, tt)));
        }
      where
        to_end : To s p e₁
        to_end o b = subst (λ (k : ℕ). is_boundary s k ≡ true) (sym q) (skip-place (fails test.Dollar) s p (p + 1) one_place o b)

    pub slash-move : Move s p n (put (0x5C ∷ []) ∷ [])
    slash-move =
        move-put s p n (0x5C ∷ []) (omega (arith, past.0)) past.1 (omega (arith, one, free))
        (λ o b. (next_place o b, shapes.ascii-text 0x5C (omega arith)))

    pub dash-one : Move s p n (put (0x2D ∷ []) ∷ [])
    dash-one =
        move-put s p n (0x2D ∷ []) (omega (arith, past.0)) past.1 (omega (arith, one, free))
        (λ o b. (next_place o b, shapes.ascii-text 0x2D (omega arith)))

-- ---- the character c₁ behind it, which ends at m

module _ (s : List ℕ) (p c n : ℕ) (e : see s p ≡ Some (c, n)) (l : c < 0x80) (c₁ m : ℕ) (e₁ : see s n ≡ Some (c₁, m)) where
  at : n ≡ p + 1
  at = one s p c n e l

  none-owed : owed s p ≡ 0
  none-owed = free s p c n e l

  on : (n < m) × (m ≤ length s)
  on = past s n c₁ m e₁

  on-place : To s p m
  on-place o b = seen-place s n c₁ m e₁ o (seen-place s p c n e o b)

  part-behind : Octets s → is_boundary s p ≡ true → Octets (part s n m)
  part-behind o b = boundaries.between s n m o (omega (arith, on.0)) (seen-place s p c n e o b) (on-place o b)

  part_length : length (part s n m) ≡ m - n
  part_length = length_part s n m (omega (arith, on.0)) on.1

  pub dash-two : Move s p m (put (0xE2 ∷ 0x80 ∷ 0x93 ∷ []) ∷ [])
  dash-two =
      move-put s p m (0xE2 ∷ 0x80 ∷ 0x93 ∷ []) (omega (arith, at, on.0)) on.1 (omega (arith, at, none-owed, on.0))
      (λ o b. (on-place o b, en-text))

  pub dash-three : (c₂ r : ℕ) → see s m ≡ Some (c₂, r) → Move s p r (put (0xE2 ∷ 0x80 ∷ 0x94 ∷ []) ∷ [])
  dash-three c₂ r e₂ =
      let k = past s m c₂ r e₂ in
      move-put s p r (0xE2 ∷ 0x80 ∷ 0x94 ∷ []) (omega (arith, at, on.0, k.0)) k.1 (omega (arith, at, none-owed, on.0, k.0))
      (λ o b. (seen-place s m c₂ r e₂ o (on-place o b), em-text))

  pub escape-move : Move s p m (put (part s n m) ∷ [])
  escape-move =
      move-put s p m (part s n m) (omega (arith, at, on.0)) on.1 (omega (arith, at, none-owed, on.0, part_length))
      (λ o b. (on-place o b, part-behind o b))

  pub odd-move : begins c₁ ≡ false → Move s p n (put (0x5C ∷ part s n m) ∷ [])
  odd-move h =
      move-put s p n (0x5C ∷ part s n m) (omega (arith, at)) (past s p c n e).1
      (omega (arith, at, none-owed, on.0, part_length, owed-odd s n c₁ m e₁ h))
      (λ o b. (seen-place s p c n e o b, shapes.octets-append (shapes.ascii-text 0x5C (omega arith)) (part-behind o b)))

-- ---- the content of an argument from a to f, which is a way from a to q, formatted

argument-size : (s : List ℕ) (a f q : ℕ) (xs : List Part) → f < length s → Move (take f s) a q xs
    → length (format_verbatim (chunks_of a q xs)) + 2 * a ≤ 2 * f
argument-size s a f q xs j m = omega (arith, m.size, owed-inside (take f s) q m.to, length-take f s, j, chunks-formatted a q xs)

argument-text : (s : List ℕ) (a f q : ℕ) (xs : List Part) → a ≤ f → Move (take f s) a q xs → Octets s → is_boundary s a ≡ true
    → is_boundary s f ≡ true → Octets (format_verbatim (chunks_of a q xs))
argument-text s a f q xs i m o x y =
    well-formed.formatted (chunks_of a q xs) (chunks-texts a q xs (m.texts (take-text s f o y) (take-place s f o y a i x)).1)

-- ---- a command, whose backslash stands at p and whose name goes from n to e

module _ (s : List ℕ) (p n e : ℕ) (at : n ≡ p + 1) (free : owed s p ≡ 0) (l : n < e) (k : e ≤ length s) (to-n : To s p n) (to-e : To s p e) where
  abbrev name : List ℕ
  name = part s n e

  name-size : length name ≡ e - n
  name-size = length_part s n e (omega (arith, l)) k

  name-text : Octets s → is_boundary s p ≡ true → Octets name
  name-text o b = boundaries.between s n e o (omega (arith, l)) (to-n o b) (to-e o b)

  -- the white space behind it goes to w
  abbrev w : ℕ
  w = skip is_whitespace s e

  w-in : (e ≤ w) × (w ≤ length s)
  w-in = seeing.skip-inside is_whitespace s e k

  to-w : To s p w
  to-w = skip-place is_whitespace s p e to-e

  pub alone-move : Move s p w (put (execute_command name absent) ∷ [])
  alone-move =
      move-put s p w (execute_command name absent) (omega (arith, at, l, w-in.0)) w-in.1
      (omega (arith, at, free, l, w-in.0, name-size, (commands.well-formed).short name absent))
      (λ o b. (to-w o b, (commands.well-formed).text name absent (name-text o b) none))

  -- the character behind it is the argument
  pub one-move : (r : ℕ) → w ≤ r → r ≤ length s → To s p r → Move s p r (put (execute_command name (given (part s w r))) ∷ [])
  one-move r h i f =
      move-put s p r (execute_command name (given (part s w r))) (omega (arith, at, l, w-in.0, h)) i
      (omega (arith, at, free, l, w-in.0, h, name-size, length_part s w r h i, (commands.well-formed).short name (given (part s w r))))
      (λ o b. (f o b, (commands.well-formed).text name (given (part s w r)) (name-text o b) (boundaries.between s w r o h (to-w o b) (f o b))))

  -- the argument stands in braces, from a to f, and its content is a way from a to q
  pub braced-move : (a f q : ℕ) (xs : List Part) → w + 1 ≤ a → a ≤ f → f < length s → To s p a
      → (Octets s → is_boundary s a ≡ true → (is_boundary s f ≡ true) × (is_boundary s (f + 1) ≡ true))
      → Move (take f s) a q xs → Move s p (f + 1) (put (execute_command name (given (format_verbatim (chunks_of a q xs)))) ∷ [])
  braced-move a f q xs h i j to-a ends m =
      let t = format_verbatim (chunks_of a q xs) in
      let few = (commands.well-formed).short name (given t) in
      move-put s p (f + 1) (execute_command name (given t)) (omega (arith, at, l, w-in.0, h, i)) (omega (arith, j))
      (omega (arith, at, free, l, w-in.0, h, i, name-size, argument-size s a f q xs j m, few))
      (λ o b. let x = to-a o b in let y = ends o x in (
        y.1,
        (commands.well-formed).text name (given t) (name-text o b) (argument-text s a f q xs i m o x y.0),
      ))
