-- What a turn of content comes to, by what is seen.
--     leads, ended, stopped                   from a turn to content
--     turn-open, turn-close, turn-math        braces and math
--     turn-blank, turn-copy                   white space, and characters that stand for themselves
--     slash-.., back-.., took-..              behind a backslash
-- Assumes nothing.
use Rattle.std.proofs.Common.{ℕ, suc, ◌+◌, ◌≤◌, ◌<◌, arith, ◌≡◌, refl, sym, ap, ◌∙◌, Bool, true, false, cond, not, ◌&&◌, List, [], ◌∷◌, length, take, get_or, eqb, ne_eqb}
use Rattle.std.specs.Prelude.{Some}
use Rattle.text.specs.Class.{is_whitespace, white_space}
use Rattle.text.specs.Scan.{see, next_of, skip, part}
use Rattle.text.proofs.Seeing.{seeing}
use Rattle.row.specs.declared.fault.Fault.{Fault}
use Rattle.row.specs.declared.fault.Reason.TheVariants.{UnexpectedEof}
use Rattle.row.specs.Fault.{fault_at}
use Rattle.raw.specs.Reader.{OutOf, ok, again, bad, more, and_then, after, turn}
use Rattle.command.specs.Execute.{absent, given, execute_command}
use Rattle.turn.specs.Content.{Part, put, cut, Reader, name_end, takes_one, opens_at, with_name, command, braced, argument_end}
use Rattle.turn.specs.Content.{ran, backslash, is_escape, begins, maths, closing, hyphens, content_turn}
use Rattle.turn.specs.Turns.{turns, opened}
use Rattle.turn.proofs.contents.TurnsAdvance.{turns-on}

-- ---- a turn by the character c at p, which ends at n

abbrev by_char : Reader → Bool → ℕ → List ℕ → ℕ → ℕ → ℕ → OutOf Part
by_char argument verb d s p c n =
    cond (eqb c 0x5C) (and_then (backslash argument verb s n) (turn d s))
    (cond (eqb c 0x24 && not verb) (and_then (maths d s p) (turn d s))
    (cond (eqb c 0x7B) (again (p + 1) (cut (suc d) p (p + 1) ∷ []) (suc d))
    (cond (eqb c 0x7D) (closing d s p)
    (cond (eqb c 0x2D && not verb) (and_then (hyphens s p) (turn d s))
    (cond (is_whitespace c) (again (skip is_whitespace s p) (put (0x20 ∷ []) ∷ []) d)
    (again n (put (part s p n) ∷ []) d))))))

turn-char : (argument : Reader) (verb : Bool) (d : ℕ) (s : List ℕ) (p c n : ℕ) → see s p ≡ Some (c, n)
    → content_turn argument verb d s p ≡ by_char argument verb d s p c n
unfolding content_turn
turn-char argument verb d s p c n e = rw e refl

-- ---- from a turn to content

module _ (argument : Reader) (verb : Bool) (d : ℕ) (s : List ℕ) (p : ℕ) where
  on : (o : OutOf Part) → content_turn argument verb d s p ≡ o → turns argument verb d s p ≡ after o (λ b q. turns argument verb b s q)
  on o e = turns-on argument verb d s p ∙ ap (λ (o : OutOf Part). after o (λ b q. turns argument verb b s q)) e

  pub leads : (q : ℕ) (xs : List Part) (a : ℕ) → content_turn argument verb d s p ≡ again q xs a
      → turns argument verb d s p ≡ more xs (turns argument verb a s q)
  leads q xs a e = on (again q xs a) e

  pub stopped : (f : Fault) → content_turn argument verb d s p ≡ bad f → turns argument verb d s p ≡ bad f
  stopped f e = on (bad f) e

  pub ended : length s ≤ p → turns argument verb d s p ≡ ok p []
  unfolding content_turn
  ended h = on (ok p []) (rw (seeing.see-end s p h) refl)

-- ---- braces and math

module _ (argument : Reader) (verb : Bool) (d : ℕ) (s : List ℕ) (p : ℕ) (l : p < length s) where
  at_ascii : (b : ℕ) → get_or s p 0 ≡ b → b < 0x80 → content_turn argument verb d s p ≡ by_char argument verb d s p b (p + 1)
  at_ascii b e h = turn-char argument verb d s p b (p + 1) (seeing.at_byte s p b l e h)

  pub turn-open : get_or s p 0 ≡ 0x7B → content_turn argument verb d s p ≡ again (p + 1) (cut (suc d) p (p + 1) ∷ []) (suc d)
  turn-open e = at_ascii 0x7B e (omega arith)

  pub turn-close : get_or s p 0 ≡ 0x7D → content_turn argument verb d s p ≡ closing d s p
  turn-close e = at_ascii 0x7D e (omega arith)

  pub turn-math : get_or s p 0 ≡ 0x24 → verb ≡ false → content_turn argument verb d s p ≡ and_then (maths d s p) (turn d s)
  turn-math e v = at_ascii 0x24 e (omega arith) ∙ rw v refl

  pub turn-hyphens : get_or s p 0 ≡ 0x2D → verb ≡ false → content_turn argument verb d s p ≡ and_then (hyphens s p) (turn d s)
  turn-hyphens e v = at_ascii 0x2D e (omega arith) ∙ rw v refl

  pub turn-slash : get_or s p 0 ≡ 0x5C → content_turn argument verb d s p ≡ and_then (backslash argument verb s (p + 1)) (turn d s)
  turn-slash e = at_ascii 0x5C e (omega arith)

-- ---- white space, and characters that stand for themselves

white-other : (c x : ℕ) → is_whitespace x ≡ false → is_whitespace c ≡ true → eqb c x ≡ false
white-other c x h w = ne_eqb c x (λ e. let z : ◌≡◌ {A = ℕ} 0 1 = ap (λ (b : Bool). cond b 0 1) (sym w ∙ ap is_whitespace e ∙ h) in absurd
    (omega (arith, z)))

pub turn-blank : (argument : Reader) (verb : Bool) (d : ℕ) (s : List ℕ) (p c n : ℕ) → see s p ≡ Some (c, n) → is_whitespace c ≡ true
    → content_turn argument verb d s p ≡ again (skip is_whitespace s p) (put (0x20 ∷ []) ∷ []) d
unfolding is_whitespace white_space
turn-blank argument verb d s p c n e w =
    turn-char argument verb d s p c n e
    ∙ rw (white-other c 0x5C refl w, white-other c 0x24 refl w, white-other c 0x7B refl w, white-other c 0x7D refl w, white-other c 0x2D refl w, w)
    refl

-- a character that a turn copies: it is none of the other cases of a turn
pub record Itself (verb : Bool) (c : ℕ) : Type 0 where
  pub slash : eqb c 0x5C ≡ false
  pub dollar : (eqb c 0x24 && not verb) ≡ false
  pub opening : eqb c 0x7B ≡ false
  pub closing : eqb c 0x7D ≡ false
  pub hyphen : (eqb c 0x2D && not verb) ≡ false
  pub white : is_whitespace c ≡ false

pub turn-copy : (argument : Reader) (verb : Bool) (d : ℕ) (s : List ℕ) (p c n : ℕ) → see s p ≡ Some (c, n) → Itself verb c
    → content_turn argument verb d s p ≡ again n (put (part s p n) ∷ []) d
turn-copy argument verb d s p c n e k =
    turn-char argument verb d s p c n e ∙ rw (k.slash, k.dollar, k.opening, k.closing, k.hyphen, k.white) refl

-- ---- behind a backslash, at p

module _ (argument : Reader) (d : ℕ) (s : List ℕ) (p : ℕ) (l : p < length s) (b : get_or s p 0 ≡ 0x5C) where
  pub slash-end-verb : length s ≤ p + 1 → content_turn argument true d s p ≡ again (p + 1) (put (0x5C ∷ []) ∷ []) d
  unfolding backslash
  slash-end-verb h = turn-slash argument true d s p l b ∙ rw (seeing.see-end s (p + 1) h) refl

  pub slash-end : length s ≤ p + 1 → content_turn argument false d s p ≡ bad (fault_at UnexpectedEof (p + 1))
  unfolding backslash
  slash-end h = turn-slash argument false d s p l b ∙ rw (seeing.see-end s (p + 1) h) refl

  module _ (c n : ℕ) (e : see s (p + 1) ≡ Some (c, n)) where
    pub slash-escape : (verb : Bool) → is_escape verb c ≡ true → content_turn argument verb d s p ≡ again n (put (part s (p + 1) n) ∷ []) d
    unfolding backslash
    slash-escape true h = turn-slash argument true d s p l b ∙ rw (e, h) refl
    slash-escape false h = turn-slash argument false d s p l b ∙ rw (e, h) refl

    pub slash-verb : is_escape true c ≡ false → content_turn argument true d s p ≡ again (p + 1) (put (0x5C ∷ []) ∷ []) d
    unfolding backslash
    slash-verb h = turn-slash argument true d s p l b ∙ rw (e, h) refl

    module _ (h : is_escape false c ≡ false) where
      pub slash-back : begins c ≡ false → content_turn argument false d s p ≡ again (p + 1) (put (0x5C ∷ part s (p + 1) n) ∷ []) d
      unfolding backslash
      slash-back k = turn-slash argument false d s p l b ∙ rw (e, h, k) refl

      pub slash-command : begins c ≡ true → content_turn argument false d s p ≡ and_then (command argument c n s (p + 1)) (turn d s)
      unfolding backslash
      slash-command k = turn-slash argument false d s p l b ∙ rw (e, h, k) refl

      -- a command whose name ends at f, and white space behind it at w
      module _ (k : begins c ≡ true) (f w : ℕ) (i : f ≡ name_end c n s) (j : w ≡ skip is_whitespace s f) where
        named : command argument c n s (p + 1) ≡ with_name argument c (p + 1) n f w s (p + 1)
        unfolding command
        named = ap (λ (g : ℕ). with_name argument c (p + 1) n g (skip is_whitespace s g) s (p + 1)) (sym i)
            ∙ ap (λ (g : ℕ). with_name argument c (p + 1) n f g s (p + 1)) (sym j)

        by_name : (o : OutOf Part) → with_name argument c (p + 1) n f w s (p + 1) ≡ o → content_turn argument false d s p ≡ and_then o (turn d s)
        by_name o q = slash-command k ∙ ap (λ (o : OutOf Part). and_then o (turn d s)) (named ∙ q)

        pub took_one : takes_one c n f w s ≡ true
            → content_turn argument false d s p ≡ again (next_of w (see s w)) (put (execute_command (part s (p + 1) f)
            (given (part s w (next_of w (see s w))))) ∷ []) d
        unfolding with_name
        took_one t = by_name (ok (next_of w (see s w)) (put (execute_command (part s (p + 1) f) (given (part s w (next_of w (see s w))))) ∷ []))
            (rw t refl)

        module _ (t : takes_one c n f w s ≡ false) where
          pub took-none : (eqb f w && opens_at (see s w)) ≡ false → content_turn argument false d s p ≡ again w
              (put (execute_command (part s (p + 1) f) absent) ∷ []) d
          unfolding with_name
          took-none q = by_name (ok w (put (execute_command (part s (p + 1) f) absent) ∷ [])) (rw (t, q) refl)

          took-braces : (eqb f w && opens_at (see s w)) ≡ true → content_turn argument false d s p ≡ and_then
              (braced argument (part s (p + 1) f) s (w + 1)) (turn d s)
          unfolding with_name
          took-braces q = by_name (braced argument (part s (p + 1) f) s (w + 1)) (rw (t, q) refl)

          module _ (q : (eqb f w && opens_at (see s w)) ≡ true) where
            pub took-endless : (g : Fault) → argument_end s (w + 1) ≡ bad g → content_turn argument false d s p ≡ bad g
            unfolding braced
            took-endless g r = took-braces q ∙ rw r refl

            run : (a : ℕ) (o : OutOf Part)
                → after (and_then (ran (w + 1) (part s (p + 1) f) o (λ v. ok (a + 1) (put v ∷ []))) (turn d s)) (λ b q. turns argument false b s q)
                ≡ ran (w + 1) (part s (p + 1) f) o (λ v. more (put v ∷ []) (turns argument false d s (a + 1)))
            run a (ok r xs) = refl
            run a (again r xs b) = refl
            run a (bad g) = refl

            pub took-argument : (a : ℕ) (xs : List Part) → argument_end s (w + 1) ≡ ok a xs
                → turns argument false d s p ≡ opened argument false d s p f (w + 1) a
            unfolding braced
            took-argument a xs r =
                on argument false d s p (and_then (ran (w + 1) (part s (p + 1) f) (argument (take a s) (w + 1)) (λ v. ok (a + 1) (put v ∷ [])))
                (turn d s))
                (took-braces q ∙ rw r refl) ∙ run a (argument (take a s) (w + 1))
