-- Content is a way through its text.
--     ends-place                           an argument that begins at a boundary ends at one, and so does the brace behind it
--     command-moves, backslash-moves       a command is a way, and so is all that may stand behind a backslash
--     content-reads                        content is a way, with any number of arguments left to open
-- Assumes nothing.
use Rattle.std.proofs.Common.{ℕ, zero, suc, ◌+◌, ◌≤◌, ◌<◌, arith, ◌≡◌, refl, Bool, true, false}
use Rattle.std.proofs.Common.{cond, not, ◌&&◌, List, [], ◌∷◌, length, take, length-take, eqb, ltb, eqb-true, ltb-true}
use Rattle.std.specs.Prelude.{Option, Some, None}
use Rattle.text.specs.Class.{is_whitespace, is_id_continue}
use Rattle.text.specs.Utf8.{Octets, is_boundary}
use Rattle.text.specs.Scan.{see, next_of, skip, fails, part}
use Rattle.text.specs.declared.class.Test.TheVariants as test
use Rattle.text.proofs.general.Tests.{both_true}
use Rattle.text.proofs.Seeing.{seeing}
use Rattle.row.specs.declared.fault.Reason.TheVariants.{UnexpectedEof}
use Rattle.row.specs.Fault.{fault_at}
use Rattle.raw.specs.Reader.{OutOf, ok, again, bad, more, and_then, after, loop, many, turn}
use Rattle.raw.specs.Grammar.{is, any}
use Rattle.command.specs.Commands.{is_single_char_func}
use Rattle.command.specs.Execute.{absent, execute_command}
use Rattle.turn.specs.Content.{Part, put, cut, math, Reader, name_end, takes_one, opens_at, with_name, command, braced, argument_end, end_turn, ends_at}
use Rattle.turn.specs.Content.{ran, backslash, backslash_at, is_escape, begins, maths, closing, hyphens, copy, content_turn, content_by, inside}
use Rattle.turn.specs.Content.{content}
use Rattle.turn.proofs.Turning.{turning}
use Rattle.turn.specs.Turns.{ArgumentEnds}
use Rattle.literal.proofs.characters.Moves.{owed, move-none, MovesOut, Reads, eaten-by, cond-by, turn-moves, many-reads}
use Rattle.literal.proofs.characters.TurnMoves.{To, skip-place, seen-place, ascii-place, past, copy-move, blank-move, one, free, cut-move}
use Rattle.literal.proofs.characters.TurnMoves.{math-move, slash-move, dash-one, dash-two, dash-three, escape-move, odd-move, alone-move}
use Rattle.literal.proofs.characters.TurnMoves.{one-move, braced-move}

-- a character that equals one of ASCII is below 0x80
small : (c x : ℕ) → x < 0x80 → eqb c x ≡ true → c < 0x80
small c x h e = omega (arith, h, eqb-true c x e)

-- ---- where an argument ends

abbrev EndPlaces : List ℕ → ℕ → OutOf Part → Type 0
EndPlaces s p (ok e xs) = Octets s → is_boundary s p ≡ true → (is_boundary s e ≡ true) × (is_boundary s (e + 1) ≡ true)
EndPlaces s p (again e xs a) = To s p e
EndPlaces s p (bad f) = Unit {0}

module _ (s : List ℕ) (p : ℕ) where
  abbrev j : ℕ
  j = skip (fails test.Brace) s p

  to_j : To s p j
  to_j = skip-place (fails test.Brace) s p p (λ o b. b)

  abbrev Turn : OutOf Part → Type 0
  Turn o = EndPlaces s p (more [] o)

  goes : (a c n : ℕ) → see s j ≡ Some (c, n) → Turn (again n [] a)
  goes a c n e o b = seen-place s j c n e o (to_j o b)

  stops : (c n : ℕ) → see s j ≡ Some (c, n) → eqb c 0x7D ≡ true → Turn (ok j [])
  stops c n e t o b = let x = to_j o b in (x, ascii-place s j c n e (small c 0x7D (omega arith) t) o x)

  end-turn : (d : ℕ) → EndPlaces s p (end_turn d s p)
  unfolding end_turn
  end-turn zero =
      eaten-by Turn (is 0x7D) s j _ _ (λ c n e t. stops c n e t)
      (eaten-by Turn (is 0x7B) s j _ _ (λ c n e t. goes 1 c n e) tt)
  end-turn (suc d) =
      eaten-by Turn (is 0x7D) s j _ _ (λ c n e t. goes d c n e)
      (eaten-by Turn (is 0x7B) s j _ _ (λ c n e t. goes (suc (suc d)) c n e) tt)

ends-after : (s : List ℕ) (p : ℕ) (o : OutOf Part) (g : ℕ → ℕ → OutOf Part) → EndPlaces s p o
    → ((b q : ℕ) → EndPlaces s q (g b q)) → EndPlaces s p (after o g)
ends-after s p (ok e xs) g h ih = h
ends-after s p (again e xs a) g h ih = on (g a e) (ih a e)
  where
    on : (o : OutOf Part) → EndPlaces s e o → EndPlaces s p (more xs o)
    on (ok r ys) k = λ o b. k o (h o b)
    on (again r ys b) k = λ o b. k o (h o b)
    on (bad f) k = tt
ends-after s p (bad f) g h ih = tt

ends-loop : (n d : ℕ) (s : List ℕ) (p : ℕ) → EndPlaces s p (loop end_turn n d s p)
unfolding loop
ends-loop zero d s p = tt
ends-loop (suc n) d s p = ends-after s p (end_turn d s p) (λ b q. loop end_turn n b s q) (end-turn s p d) (λ b q. ends-loop n b s q)

ends-place : (s : List ℕ) (p : ℕ) → EndPlaces s p (argument_end s p)
unfolding argument_end many
ends-place s p = ends-loop (suc (length s)) 0 s p

-- ---- a command, whose backslash stands at p and whose name goes from n to e

opens-place : (s : List ℕ) (w : ℕ) → opens_at (see s w) ≡ true → To s w (w + 1)
opens-place s w = by (see s w) refl
  where
    by : (v : Option (ℕ × ℕ)) → see s w ≡ v → opens_at v ≡ true → To s w (w + 1)
    by None e h = let z : ◌≡◌ {A = ℕ} 0 1 = cc in absurd (omega (arith, z))
    by (Some (c, n)) e h = ascii-place s w c n e (small c 0x7B (omega arith) h)

next_place : (s : List ℕ) (p : ℕ) → To s p (next_of p (see s p))
next_place s p = by (see s p) refl
  where
    by : (v : Option (ℕ × ℕ)) → see s p ≡ v → To s p (next_of p v)
    by None e = λ o b. b
    by (Some (c, n)) e = seen-place s p c n e

module _ (argument : Reader) (A : Reads argument) (s : List ℕ) (p n e : ℕ) (at : n ≡ p + 1) (free : owed s p ≡ 0) (l : n < e) (k : e ≤ length s)
    (to-n : To s p n) (to-e : To s p e) where
  abbrev w : ℕ
  w = skip is_whitespace s e

  w-in : (e ≤ w) × (w ≤ length s)
  w-in = seeing.skip-inside is_whitespace s e k

  to-w : To s p w
  to-w = skip-place is_whitespace s p e to-e

  braced-moves : opens_at (see s w) ≡ true → MovesOut s p (braced argument (part s n e) s (w + 1))
  unfolding braced
  braced-moves h = by (argument_end s (w + 1)) (turning.end-inside s (w + 1) (turning.opens-inside s w h)) (ends-place s (w + 1))
    where
      to-a : To s p (w + 1)
      to-a o b = opens-place s w h o (to-w o b)

      by : (o : OutOf Part) → ArgumentEnds (length s) (w + 1) o → EndPlaces s (w + 1) o
          → MovesOut s p (ends_at o (λ f. ran (w + 1) (part s n e) (argument (take f s) (w + 1)) (λ v. ok (f + 1) (put v ∷ []))))
      by (ok f xs) x y = run (argument (take f s) (w + 1)) (A (take f s) (w + 1) (omega (arith, x.0, x.1, length-take f s)))
        where
          run : (o : OutOf Part) → MovesOut (take f s) (w + 1) o → MovesOut s p (ran (w + 1) (part s n e) o (λ v. ok (f + 1) (put v ∷ [])))
          run (ok q ys) m = braced-move s p n e at free l k to-n to-e (w + 1) f q ys (omega arith) x.0 x.1 to-a y m
          run (again q ys a) m = braced-move s p n e at free l k to-n to-e (w + 1) f q ys (omega arith) x.0 x.1 to-a y m
          run (bad g) m = tt
      by (again f xs a) x y = absurd x
      by (bad g) x y = tt

  abbrev last : OutOf Part
  last = ok w (put (execute_command (part s n e) absent) ∷ [])

  last-moves : MovesOut s p last
  last-moves = alone-move s p n e at free l k to-n to-e

  two : (x : Bool) → opens_at (see s w) ≡ x → (y : Bool) → MovesOut s p (cond (y && x) (braced argument (part s n e) s (w + 1)) last)
  two true o y = cond-by (MovesOut s p) (y && true) _ _ (braced-moves o) last-moves
  two false o true = last-moves
  two false o false = last-moves

  named : (c m : ℕ) → MovesOut s p (with_name argument c n m e w s n)
  unfolding with_name
  named c m =
      let r = seeing.next-inside s w w-in.1 in
      cond-by (MovesOut s p) (takes_one c m e w s) _ _
      (one-move s p n e at free l k to-n to-e (next_of w (see s w)) r.0 r.1 (λ o b. next_place s w o (to-w o b)))
      (two (opens_at (see s w)) refl (eqb e w))

-- ---- behind the backslash at p, which ends at n

module _ (argument : Reader) (A : Reads argument) (s : List ℕ) (p c n : ℕ) (e : see s p ≡ Some (c, n)) (l : c < 0x80) where
  command-moves : (c₁ m : ℕ) → see s n ≡ Some (c₁, m) → MovesOut s p (command argument c₁ m s n)
  unfolding command
  command-moves c₁ m e₁ =
      let a = past s n c₁ m e₁ in
      let i = inside-name (is_single_char_func c₁ false) a.1 in
      named argument A s p n (name_end c₁ m s) (one s p c n e l) (free s p c n e l) (omega (arith, a.0, i.0)) i.1 (seen-place s p c n e)
      (λ o b. i.2 o (seen-place s n c₁ m e₁ o (seen-place s p c n e o b))) c₁ m
    where
      inside-name : (x : Bool) → m ≤ length s → (m ≤ cond x m (skip is_id_continue s m)) × (cond x m (skip is_id_continue s m) ≤ length s)
          × To s m (cond x m (skip is_id_continue s m))
      inside-name true h = (omega arith, h, λ o b. b)
      inside-name false h = let k = seeing.skip-inside is_id_continue s m h in (k.0, k.1, skip-place is_id_continue s m m (λ o b. b))

  backslash-moves : (verb : Bool) → MovesOut s p (backslash argument verb s n)
  unfolding backslash
  backslash-moves verb = by verb (see s n) refl
    where
      alone : MovesOut s p (ok n (put (0x5C ∷ []) ∷ []))
      alone = slash-move s p c n e l

      by : (verb : Bool) (v : Option (ℕ × ℕ)) → see s n ≡ v → MovesOut s p (backslash_at argument verb s n v)
      by true None q = alone
      by false None q = tt
      by true (Some (c₁, m)) q = cond-by (MovesOut s p) (is_escape true c₁) _ _ (escape-move s p c n e l c₁ m q) alone
      by false (Some (c₁, m)) q = cond-by (MovesOut s p) (is_escape false c₁) _ _ (escape-move s p c n e l c₁ m q) (two (begins c₁) refl)
        where
          two : (x : Bool) → begins c₁ ≡ x → MovesOut s p (cond x (command argument c₁ m s n) (ok n (put (0x5C ∷ part s n m) ∷ [])))
          two true h = command-moves c₁ m q
          two false h = odd-move s p c n e l c₁ m q h

-- ---- the other turns

maths-moves : (d : ℕ) (s : List ℕ) (p c n : ℕ) → see s p ≡ Some (c, n) → c < 0x80 → MovesOut s p (maths d s p)
unfolding maths
maths-moves d s p c n e l = by (skip (fails test.Dollar) s (p + 1)) refl
  where
    by : (f : ℕ) → f ≡ skip (fails test.Dollar) s (p + 1)
        → MovesOut s p (cond (ltb f (length s)) (ok (f + 1) (cut d p (f + 1) ∷ math (part s (p + 1) f) (p + 1) f ∷ [])) (bad (fault_at UnexpectedEof f)))
    by f q = two (ltb f (length s)) (ltb-true f (length s))
      where
        two : (b : Bool) → (b ≡ true → f < length s)
            → MovesOut s p (cond b (ok (f + 1) (cut d p (f + 1) ∷ math (part s (p + 1) f) (p + 1) f ∷ [])) (bad (fault_at UnexpectedEof f)))
        two true h = math-move s p c n e l d f q (h refl)
        two false h = tt

hyphens-moves : (s : List ℕ) (p : ℕ) → p ≤ length s → MovesOut s p (hyphens s p)
unfolding hyphens
hyphens-moves s p h =
    eaten-by (MovesOut s p) (is 0x2D) s p _ _
    (λ c n e t. let l = small c 0x2D (omega arith) t in
    eaten-by (MovesOut s p) (is 0x2D) s n _ _
    (λ c₁ m e₁ t₁. eaten-by (MovesOut s p) (is 0x2D) s m _ _ (λ c₂ r e₂ t₂. dash-three s p c n e l c₁ m e₁ c₂ r e₂) (dash-two s p c n e l c₁ m e₁))
    (dash-one s p c n e l))
    (move-none s p h)

turn-reads : (argument : Reader) → Reads argument → (verb : Bool) (d : ℕ) → Reads (content_turn argument verb d)
unfolding content_turn closing
turn-reads argument A verb d s p h =
    eaten-by (MovesOut s p) (is 0x5C) s p _ _
    (λ c n e t. turn-moves s p d (backslash argument verb s n) (backslash-moves argument A s p c n e (small c 0x5C (omega arith) t) verb))
    (eaten-by (MovesOut s p) (λ c. eqb c 0x24 && not verb) s p _ _
    (λ c n e t. turn-moves s p d (maths d s p) (maths-moves d s p c n e (small c 0x24 (omega arith) (both_true (eqb c 0x24) (not verb) t).0)))
    (eaten-by (MovesOut s p) (is 0x7B) s p _ _ (λ c n e t. cut-move s p c n e (small c 0x7B (omega arith) t) (suc d))
    (eaten-by (MovesOut s p) (is 0x7D) s p _ _ (λ c n e t. closes d c n e (small c 0x7D (omega arith) t))
    (eaten-by (MovesOut s p) (λ c. eqb c 0x2D && not verb) s p _ _ (λ c n e t. turn-moves s p d (hyphens s p) (hyphens-moves s p h))
    (eaten-by (MovesOut s p) is_whitespace s p _ _ (λ c n e t. blank-move s p c n e t)
    (eaten-by (MovesOut s p) any s p _ _ (λ c n e t. itself c n e) (move-none s p h)))))))
  where
    closes : (d c n : ℕ) → see s p ≡ Some (c, n) → c < 0x80 → MovesOut s p (closing d s p)
    closes zero c n e l = tt
    closes (suc d) c n e l = cut-move s p c n e l d

    itself : (c n : ℕ) → see s p ≡ Some (c, n) → MovesOut s p (and_then (copy s p) (turn d s))
    itself c n e = rw e (copy-move s p c n e)

-- ---- content

by-reads : (argument : Reader) → Reads argument → (verb : Bool) → Reads (content_by argument verb)
unfolding content_by
by-reads argument A verb = many-reads (content_turn argument verb) (turn-reads argument A verb) 0

inside-reads : (n : ℕ) → Reads (inside n)
unfolding inside
inside-reads zero s p h = tt
inside-reads (suc n) s p h = by-reads (inside n) (inside-reads n) false s p h

pub content-reads : (n : ℕ) (verb : Bool) → Reads (content n verb)
content-reads n verb = by-reads (inside n) (inside-reads n) verb
