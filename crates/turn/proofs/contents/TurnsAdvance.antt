-- Every turn of content goes on, and not past the end, whatever arguments come to; so content is its first turn and then content.
--     end-inside             an argument ends before the text's end
--     content-advances       every turn goes on, and not past the end
--     turns-on               content is its first turn and then content
-- Assumes nothing.
use Rattle.std.proofs.Common.{ℕ, zero, suc, ◌+◌, ◌≤◌, ◌<◌, max, arith, ◌≡◌, refl, Bool, true, false, cond, not, ◌&&◌, List, [], ◌∷◌, length, take, eqb, ltb, ltb-true}
use Rattle.std.specs.Prelude.{Option, Some, None}
use Rattle.text.specs.Class.{is_whitespace, is_id_continue}
use Rattle.text.specs.Scan.{see, next_of, skip, fails, part}
use Rattle.text.specs.declared.class.Test.TheVariants as test
use Rattle.text.proofs.Seeing.{seeing}
use Rattle.row.specs.declared.fault.Reason.TheVariants.{UnexpectedEof}
use Rattle.row.specs.Fault.{fault_at}
use Rattle.raw.specs.Reader.{OutOf, ok, again, bad, more, and_then, eaten, after, loop, many, turn}
use Rattle.raw.specs.Grammar.{is, any}
use Rattle.raw.proofs.readers.Kept.{Advances}
use Rattle.raw.proofs.readers.Loop.{advancing-turn}
use Rattle.command.specs.Commands.{is_single_char_func}
use Rattle.turn.specs.Content.{Part, put, cut, math, Reader, name_end, takes_one, opens_at, with_name, command, braced, argument_end, end_turn, ends_at, ran}
use Rattle.command.specs.Execute.{absent, execute_command}
use Rattle.turn.specs.Content.{backslash, backslash_at, is_escape, begins, maths, closing, hyphens, copy, content_turn}
use Rattle.turn.specs.Turns.{turns, ArgumentEnds}

-- ---- where an argument ends

-- a turn of the search for an argument's end: an end that is found lies inside the text, and a search that goes on has read something
abbrev EndsTurn : ℕ → ℕ → OutOf Part → Type 0
EndsTurn len p (ok e xs) = (p ≤ e) × (e < len)
EndsTurn len p (again e xs a) = (p < e) × (e ≤ len)
EndsTurn len p (bad f) = Unit {0}

module _ (s : List ℕ) (p : ℕ) (h : p ≤ length s) where
  abbrev j : ℕ
  j = skip (fails test.Brace) s p

  j-from : p ≤ j
  j-from = (seeing.skip-inside (fails test.Brace) s p h).0

  end-turn : (d : ℕ) → EndsTurn (length s) p (end_turn d s p)
  unfolding end_turn
  end-turn zero = by (see s j) refl
    where
      by : (v : Option (ℕ × ℕ)) → see s j ≡ v → EndsTurn (length s) p (more [] (eaten (is 0x7D) v (λ n. ok j [])
          (eaten (is 0x7B) v (λ n. again n [] 1) (bad (fault_at UnexpectedEof j)))))
      by None e = tt
      by (Some (c, n)) e = let a = seeing.see-ahead s j c n e in two (eqb c 0x7D) (eqb c 0x7B) (omega (arith, j-from)) (omega (arith, a.0, a.1))
          (omega (arith, a.0, j-from)) a.1
        where
          two : (x y : Bool) → p ≤ j → j < length s → p < n → n ≤ length s → EndsTurn (length s) p
              (more [] (cond x (ok j []) (cond y (again n [] 1) (bad (fault_at UnexpectedEof j)))))
          two true y a b k l = (a, b)
          two false true a b k l = (k, l)
          two false false a b k l = tt
  end-turn (suc d) = by (see s j) refl
    where
      by : (v : Option (ℕ × ℕ)) → see s j ≡ v → EndsTurn (length s) p (more [] (eaten (is 0x7D) v (λ n. again n [] d)
          (eaten (is 0x7B) v (λ n. again n [] (suc (suc d))) (bad (fault_at UnexpectedEof j)))))
      by None e = tt
      by (Some (c, n)) e = let a = seeing.see-ahead s j c n e in two (eqb c 0x7D) (eqb c 0x7B) (omega (arith, a.0, j-from)) a.1
        where
          two : (x y : Bool) → p < n → n ≤ length s → EndsTurn (length s) p (more []
              (cond x (again n [] d) (cond y (again n [] (suc (suc d))) (bad (fault_at UnexpectedEof j)))))
          two true y k l = (k, l)
          two false true k l = (k, l)
          two false false k l = tt

ends-after : (s : List ℕ) (p : ℕ) (o : OutOf Part) (g : ℕ → ℕ → OutOf Part) → EndsTurn (length s) p o
    → ((b q : ℕ) → q ≤ length s → ArgumentEnds (length s) q (g b q)) → ArgumentEnds (length s) p (after o g)
ends-after s p (ok e xs) g h ih = h
ends-after s p (again e xs a) g h ih = on (g a e) (ih a e h.1)
  where
    on : (o : OutOf Part) → ArgumentEnds (length s) e o → ArgumentEnds (length s) p (more xs o)
    on (ok r ys) k = (omega (arith, h.0, k.0), k.1)
    on (again r ys b) k = k
    on (bad f) k = tt
ends-after s p (bad f) g h ih = tt

ends-loop : (n d : ℕ) (s : List ℕ) (p : ℕ) → p ≤ length s → ArgumentEnds (length s) p (loop end_turn n d s p)
unfolding loop
ends-loop zero d s p h = tt
ends-loop (suc n) d s p h = ends-after s p (end_turn d s p) (λ b q. loop end_turn n b s q) (end-turn s p h d) (λ b q k. ends-loop n b s q k)

pub end-inside : (s : List ℕ) (p : ℕ) → p ≤ length s → ArgumentEnds (length s) p (argument_end s p)
unfolding argument_end many
end-inside s p h = ends-loop (suc (length s)) 0 s p h

pub end-advances : (d : ℕ) (s : List ℕ) (p : ℕ) → p ≤ length s → Advances 1 0 p (length s) (end_turn d s p)
end-advances d s p h = by (end_turn d s p) (end-turn s p h d)
  where
    by : (o : OutOf Part) → EndsTurn (length s) p o → Advances 1 0 p (length s) o
    by (ok e xs) k = (omega (arith, k.0), omega (arith, k.1))
    by (again e xs a) k = (omega (arith, k.0), omega (arith, k.1))
    by (bad f) k = tt

-- ---- the readers of a turn: from q they stay inside

abbrev Fine : List ℕ → ℕ → OutOf Part → Type 0
Fine s q o = Advances 0 0 q (length s) o

fine-ok : (s : List ℕ) (q r : ℕ) → q ≤ r → r ≤ length s → (q + 0 ≤ r) × (r ≤ max q (length s))
fine-ok s q r h k = (omega (arith, h), omega (arith, k))

fine-cond : (s : List ℕ) (q : ℕ) (b : Bool) (x y : OutOf Part) → Fine s q x → Fine s q y → Fine s q (cond b x y)
fine-cond s q true x y h k = h
fine-cond s q false x y h k = k

braced-fine : (argument : Reader) (name s : List ℕ) (q b : ℕ) → q ≤ b → b ≤ length s → Fine s q (braced argument name s b)
unfolding braced
braced-fine argument name s q b h k = by (argument_end s b) (end-inside s b k)
  where
    run : (e : ℕ) → b ≤ e → e < length s → (o : OutOf Part) → Fine s q (ran b name o (λ w. ok (e + 1) (put w ∷ [])))
    run e l m (ok r xs) = fine-ok s q (e + 1) (omega (arith, h, l)) (omega (arith, m))
    run e l m (again r xs a) = fine-ok s q (e + 1) (omega (arith, h, l)) (omega (arith, m))
    run e l m (bad f) = tt

    by : (o : OutOf Part) → ArgumentEnds (length s) b o → Fine s q (ends_at o (λ e. ran b name (argument (take e s) b) (λ w. ok (e + 1) (put w ∷ []))))
    by (ok e xs) x = run e x.0 x.1 (argument (take e s) b)
    by (again e xs a) x = absurd x
    by (bad f) x = tt

pub opens-inside : (s : List ℕ) (w : ℕ) → opens_at (see s w) ≡ true → w + 1 ≤ length s
opens-inside s w = by (see s w) refl
  where
    by : (v : Option (ℕ × ℕ)) → see s w ≡ v → opens_at v ≡ true → w + 1 ≤ length s
    by None e h = let z : ◌≡◌ {A = ℕ} 0 1 = cc in absurd (omega (arith, z))
    by (Some (c, n)) e h = let a = seeing.see-ahead s w c n e in omega (arith, a.0, a.1)

module _ (argument : Reader) (c n : ℕ) (s : List ℕ) (q : ℕ) (h : q ≤ n) (k : n ≤ length s) where
  name-inside : (x : Bool) → (n ≤ cond x n (skip is_id_continue s n)) × (cond x n (skip is_id_continue s n) ≤ length s)
  name-inside true = (omega arith, k)
  name-inside false = seeing.skip-inside is_id_continue s n k

  module _ (e : ℕ) (a : n ≤ e) (b : e ≤ length s) where
    abbrev w : ℕ
    w = skip is_whitespace s e

    w-in : (e ≤ w) × (w ≤ length s)
    w-in = seeing.skip-inside is_whitespace s e b

    abbrev last : OutOf Part
    last = ok w (put (execute_command (part s q e) absent) ∷ [])

    last-fine : Fine s q last
    last-fine = fine-ok s q w (omega (arith, h, a, w-in.0)) w-in.1

    two : (x : Bool) → opens_at (see s w) ≡ x → (y : Bool) → Fine s q (cond (y && x) (braced argument (part s q e) s (w + 1)) last)
    two true o y = fine-cond s q (y && true) _ _ (braced-fine argument (part s q e) s q (w + 1) (omega (arith, h, a, w-in.0)) (opens-inside s w o))
        last-fine
    two false o true = last-fine
    two false o false = last-fine

    named : Fine s q (with_name argument c q n e w s q)
    unfolding with_name
    named =
        let m = seeing.next-inside s w w-in.1 in
        fine-cond s q (takes_one c n e w s) _ _ (fine-ok s q (next_of w (see s w)) (omega (arith, h, a, w-in.0, m.0)) m.1)
        (two (opens_at (see s w)) refl (eqb e w))

  command-fine : Fine s q (command argument c n s q)
  unfolding command
  command-fine = let i = name-inside (is_single_char_func c false) in named (name_end c n s) i.0 i.1

backslash-fine : (argument : Reader) (verb : Bool) (s : List ℕ) (q : ℕ) → q ≤ length s → Fine s q (backslash argument verb s q)
unfolding backslash
backslash-fine argument verb s q h = by verb (see s q) refl
  where
    by : (verb : Bool) (v : Option (ℕ × ℕ)) → see s q ≡ v → Fine s q (backslash_at argument verb s q v)
    by true None e = fine-ok s q q (omega arith) h
    by false None e = tt
    by true (Some (c, n)) e =
        let a = seeing.see-ahead s q c n e in
        fine-cond s q (is_escape true c) _ _ (fine-ok s q n (omega (arith, a.0)) a.1) (fine-ok s q q (omega arith) h)
    by false (Some (c, n)) e =
        let a = seeing.see-ahead s q c n e in
        fine-cond s q (is_escape false c) _ _ (fine-ok s q n (omega (arith, a.0)) a.1)
        (fine-cond s q (begins c) _ _ (command-fine argument c n s q (omega (arith, a.0)) a.1) (fine-ok s q q (omega arith) h))

-- ---- a turn

-- a reader from q on, and then the loop
turn-advances : (s : List ℕ) (p q d : ℕ) (o : OutOf Part) → p < q → q ≤ length s → Fine s q o → Advances 1 0 p (length s) (and_then o (turn d s))
turn-advances s p q d (ok r xs) h k f = (omega (arith, h, f.0), omega (arith, h, k, f.1))
turn-advances s p q d (again r xs a) h k f = (omega (arith, h, f.0), omega (arith, h, k, f.1))
turn-advances s p q d (bad g) h k f = tt

-- by what is seen at p
eaten-advances : (t : ℕ → Bool) (s : List ℕ) (p : ℕ) (f : ℕ → OutOf Part) (o : OutOf Part)
    → ((c n : ℕ) → see s p ≡ Some (c, n) → p < n → n ≤ length s → t c ≡ true → Advances 1 0 p (length s) (f n)) → Advances 1 0 p (length s) o
    → Advances 1 0 p (length s) (eaten t (see s p) f o)
eaten-advances t s p f o h k = by (see s p) refl
  where
    by : (v : Option (ℕ × ℕ)) → see s p ≡ v → Advances 1 0 p (length s) (eaten t v f o)
    by None e = k
    by (Some (c, n)) e = let a = seeing.see-ahead s p c n e in two (t c) (h c n e a.0 a.1)
      where
        two : (b : Bool) → (b ≡ true → Advances 1 0 p (length s) (f n)) → Advances 1 0 p (length s) (cond b (f n) o)
        two true g = g refl
        two false g = k

maths-advances : (d : ℕ) (s : List ℕ) (p : ℕ) → p < length s → Advances 1 0 p (length s) (and_then (maths d s p) (turn d s))
unfolding maths
maths-advances d s p h = by (skip (fails test.Dollar) s (p + 1)) (seeing.skip-inside (fails test.Dollar) s (p + 1) (omega (arith, h)))
  where
    by : (e : ℕ) → (p + 1 ≤ e) × (e ≤ length s)
        → Advances 1 0 p (length s) (and_then (cond (ltb e (length s)) (ok (e + 1) (cut d p (e + 1) ∷ math (part s (p + 1) e) (p + 1) e ∷ []))
        (bad (fault_at UnexpectedEof e))) (turn d s))
    by e l = two (ltb e (length s)) (ltb-true e (length s))
      where
        two : (b : Bool) → (b ≡ true → e < length s)
            → Advances 1 0 p (length s) (and_then (cond b (ok (e + 1) (cut d p (e + 1) ∷ math (part s (p + 1) e) (p + 1) e ∷ []))
            (bad (fault_at UnexpectedEof e))) (turn d s))
        two true m = let k = m refl in (omega (arith, l.0), omega (arith, k))
        two false m = tt

hyphens-advances : (d : ℕ) (s : List ℕ) (p c n : ℕ) → see s p ≡ Some (c, n) → eqb c 0x2D ≡ true → Advances 1 0 p (length s) (and_then (hyphens s p) (turn d s))
unfolding hyphens
hyphens-advances d s p c n e t =
    let a = seeing.see-ahead s p c n e in
    rw (e, t) (by (see s n) refl a.0 a.1)
  where
    three : (v : Option (ℕ × ℕ)) (m : ℕ) → see s m ≡ v → p < m → m ≤ length s
        → Advances 1 0 p (length s) (and_then (eaten (is 0x2D) v (λ r. ok r (put (0xE2 ∷ 0x80 ∷ 0x94 ∷ []) ∷ []))
        (ok m (put (0xE2 ∷ 0x80 ∷ 0x93 ∷ []) ∷ []))) (turn d s))
    three None m e h k = (omega (arith, h), omega (arith, k))
    three (Some (c, r)) m e h k = let a = seeing.see-ahead s m c r e in two (eqb c 0x2D)
      where
        two : (b : Bool) → Advances 1 0 p (length s) (and_then (cond b (ok r (put (0xE2 ∷ 0x80 ∷ 0x94 ∷ []) ∷ []))
            (ok m (put (0xE2 ∷ 0x80 ∷ 0x93 ∷ []) ∷ []))) (turn d s))
        two true = let a = seeing.see-ahead s m c r e in (omega (arith, h, a.0), omega (arith, a.1))
        two false = (omega (arith, h), omega (arith, k))

    by : (v : Option (ℕ × ℕ)) → see s n ≡ v → p < n → n ≤ length s
        → Advances 1 0 p (length s) (and_then (eaten (is 0x2D) v (λ m. eaten (is 0x2D) (see s m) (λ r. ok r (put (0xE2 ∷ 0x80 ∷ 0x94 ∷ []) ∷ []))
        (ok m (put (0xE2 ∷ 0x80 ∷ 0x93 ∷ []) ∷ []))) (ok n (put (0x2D ∷ []) ∷ []))) (turn d s))
    by None f h k = (omega (arith, h), omega (arith, k))
    by (Some (c₁, m)) f h k = let a = seeing.see-ahead s n c₁ m f in two (eqb c₁ 0x2D) (three (see s m) m refl (omega (arith, h, a.0)) a.1)
      where
        two : (b : Bool) → Advances 1 0 p (length s) (and_then (eaten (is 0x2D) (see s m) (λ r. ok r (put (0xE2 ∷ 0x80 ∷ 0x94 ∷ []) ∷ []))
            (ok m (put (0xE2 ∷ 0x80 ∷ 0x93 ∷ []) ∷ []))) (turn d s))
            → Advances 1 0 p (length s) (and_then (cond b (eaten (is 0x2D) (see s m) (λ r. ok r (put (0xE2 ∷ 0x80 ∷ 0x94 ∷ []) ∷ []))
            (ok m (put (0xE2 ∷ 0x80 ∷ 0x93 ∷ []) ∷ []))) (ok n (put (0x2D ∷ []) ∷ []))) (turn d s))
        two true x = x
        two false x = (omega (arith, h), omega (arith, k))

and_left : (a b : Bool) → (a && b) ≡ true → a ≡ true
and_left true b h = refl
and_left false b h = h

pub content-advances : (argument : Reader) (verb : Bool) (d : ℕ) (s : List ℕ) (p : ℕ) → Advances 1 0 p (length s) (content_turn argument verb d s p)
unfolding content_turn closing
content-advances argument verb d s p =
    eaten-advances (is 0x5C) s p _ _ (λ c n e h k t. turn-advances s p n d (backslash argument verb s n) h k (backslash-fine argument verb s n k))
    (eaten-advances (λ c. eqb c 0x24 && not verb) s p _ _ (λ c n e h k t. maths-advances d s p (omega (arith, h, k)))
    (eaten-advances (is 0x7B) s p _ _ (λ c n e h k t. (omega arith, omega (arith, h, k)))
    (eaten-advances (is 0x7D) s p _ _ (λ c n e h k t. closes d (omega (arith, h, k)))
    (eaten-advances (λ c. eqb c 0x2D && not verb) s p _ _ (λ c n e h k t. hyphens-advances d s p c n e (and_left (eqb c 0x2D) (not verb) t))
    (eaten-advances is_whitespace s p _ _ (λ c n e h k t. blank c n e h k t)
    (eaten-advances any s p _ _ (λ c n e h k t. one c n e h k) (omega arith, omega arith)))))))
  where
    closes : (d : ℕ) → p < length s → Advances 1 0 p (length s) (closing d s p)
    closes zero h = tt
    closes (suc d) h = (omega arith, omega (arith, h))

    blank : (c n : ℕ) → see s p ≡ Some (c, n) → p < n → n ≤ length s → is_whitespace c ≡ true
        → Advances 1 0 p (length s) (again (skip is_whitespace s p) (put (0x20 ∷ []) ∷ []) d)
    blank c n e h k t = let a = seeing.skip-inside is_whitespace s n k in let b = seeing.white-on s p c n e t in (omega (arith, h, a.0, b), omega (arith, a.1, b))

    one : (c n : ℕ) → see s p ≡ Some (c, n) → p < n → n ≤ length s → Advances 1 0 p (length s) (and_then (copy s p) (turn d s))
    one c n e h k = rw e (omega (arith, h), omega (arith, k))

-- ---- content is its first turn and then content

pub turns-on : (argument : Reader) (verb : Bool) (d : ℕ) (s : List ℕ) (p : ℕ)
    → turns argument verb d s p ≡ after (content_turn argument verb d s p) (λ b q. turns argument verb b s q)
turns-on argument verb d s p = advancing-turn 0 (content_turn argument verb) (λ d s p. content-advances argument verb d s p) d s p
