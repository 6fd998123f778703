-- The ways through the functions of src/turn.rt.
--     hyphen-one, hyphen-two, hyphen-three       `hyphens`
--     itself-of                                  `other`
--     back-turn, blank_turn, control-turn        a backslash before white space or a control character, and then that character
--     end-off, end-open, end-close, end-found    `argument_end`
-- Assumes nothing.
use Rattle.std.proofs.Common.{ℕ, zero, suc, ◌+◌, ◌-◌, ◌≤◌, ◌<◌, arith, sub-one, ◌≡◌, refl, sym, ap, ◌∙◌, Bool, true}
use Rattle.std.proofs.Common.{false, cond, not, ◌&&◌, List, [], ◌∷◌, length, drop, get_or, eqb, leb, eqb-true, ne_eqb, leb-true, leb-false}
use Rattle.std.specs.Prelude.{Option, Some, None, Result, Ok, Err}
use Rattle.row.specs.declared.fault.Fault.{Fault}
use Rattle.text.specs.Class.{is_whitespace, is_control, control, holds_of}
use Rattle.text.specs.Scan.{see, skip, fails, part, past_one, single, code, rest}
use Rattle.text.specs.declared.class.Test.TheVariants as test
use Rattle.text.proofs.Seeing.{seeing}
use Rattle.row.specs.declared.fault.Reason.TheVariants.{UnexpectedEof}
use Rattle.row.specs.Fault.{fault_at}
use Rattle.raw.specs.Reader.{OutOf, ok, again, bad, more, and_then, after, turn, eaten, many}
use Rattle.raw.specs.Grammar.{is}
use Rattle.raw.proofs.readers.Kept.{Advances}
use Rattle.raw.proofs.readers.Loop.{advancing-turn}
use Rattle.text.proofs.general.Parts.{part-head}
use Rattle.text.proofs.general.Tests.{true-not-false}
use Rattle.turn.specs.Content.{Part, put, begins, hyphens, end_turn}
use Rattle.turn.specs.Turns.{Behind, Ordinary, end_of}
use Rattle.turn.proofs.contents.TurnsAdvance.{end-advances}
use Rattle.turn.proofs.contents.TurnsSeen.{turn-hyphens, turn-blank, turn-copy, Itself, slash-back}
use Rattle.turn.proofs.ways.TextTurns.{Turns}

-- ---- `hyphens`

abbrev en_dash : List ℕ
en_dash = 0xE2 ∷ 0x80 ∷ 0x93 ∷ []

abbrev em_dash : List ℕ
em_dash = 0xE2 ∷ 0x80 ∷ 0x94 ∷ []

module _ (s : List ℕ) (p : ℕ) (l : p < length s) (b : get_or s p 0 ≡ 0x2D) where
  abbrev third : ℕ → Option (ℕ × ℕ) → OutOf Part
  third m v = eaten (is 0x2D) v (λ r. ok r (put em_dash ∷ [])) (ok m (put en_dash ∷ []))

  abbrev second : Option (ℕ × ℕ) → OutOf Part
  second v = eaten (is 0x2D) v (λ m. third m (see s m)) (ok (p + 1) (put (0x2D ∷ []) ∷ []))

  first : hyphens s p ≡ second (see s (p + 1))
  unfolding hyphens
  first = rw (seeing.at_byte s p 0x2D l b (omega arith)) refl

  turn-puts : (q : ℕ) (w : List ℕ) → second (see s (p + 1)) ≡ ok q (put w ∷ []) → Turns false s p w q
  turn-puts q w e argument d = turn-hyphens argument false d s p l b refl ∙ ap (λ (o : OutOf Part). and_then o (turn d s)) (first ∙ e)

  module _ (two : ℕ) (h : two ≡ past_one (single 0x2D) (p + 1) (see s (p + 1))) where
    pub hyphen-one : two ≡ p + 1 → Turns false s p (0x2D ∷ []) (p + 1)
    hyphen-one e = turn-puts (p + 1) (0x2D ∷ []) (by (see s (p + 1)) refl (sym h ∙ e))
      where
        by : (v : Option (ℕ × ℕ)) → see s (p + 1) ≡ v → past_one (single 0x2D) (p + 1) v ≡ p + 1 → second v ≡ ok (p + 1) (put (0x2D ∷ []) ∷ [])
        by None q k = refl
        by (Some (c, n)) q k = let a = seeing.see-ahead s (p + 1) c n q in pick (eqb c 0x2D) a.0 k
          where
            pick : (x : Bool) → p + 1 < n → cond x n (p + 1) ≡ p + 1 → cond x (third n (see s n)) (ok (p + 1) (put (0x2D ∷ []) ∷ [])) ≡ ok (p + 1)
                (put (0x2D ∷ []) ∷ [])
            pick true a k = absurd (omega (arith, a, k))
            pick false a k = refl

    module _ (e : two ≡ p + 1 → ⊥) where
      on : second (see s (p + 1)) ≡ third two (see s two)
      on = by (see s (p + 1)) refl h
        where
          by : (v : Option (ℕ × ℕ)) → see s (p + 1) ≡ v → two ≡ past_one (single 0x2D) (p + 1) v → second v ≡ third two (see s two)
          by None q k = absurd (e k)
          by (Some (c, n)) q k = pick (eqb c 0x2D) k
            where
              pick : (x : Bool) → two ≡ cond x n (p + 1) → cond x (third n (see s n)) (ok (p + 1) (put (0x2D ∷ []) ∷ [])) ≡ third two (see s two)
              pick true k = ap (λ (m : ℕ). third m (see s m)) (sym k)
              pick false k = absurd (e k)

      module _ (three : ℕ) (k : three ≡ past_one (single 0x2D) two (see s two)) where
        pub hyphen-two : three ≡ two → Turns false s p en_dash two
        hyphen-two f = turn-puts two en_dash (on ∙ by (see s two) refl (sym k ∙ f))
          where
            by : (v : Option (ℕ × ℕ)) → see s two ≡ v → past_one (single 0x2D) two v ≡ two → third two v ≡ ok two (put en_dash ∷ [])
            by None q k = refl
            by (Some (c, n)) q k = let a = seeing.see-ahead s two c n q in pick (eqb c 0x2D) a.0 k
              where
                pick : (x : Bool) → two < n → cond x n two ≡ two → cond x (ok n (put em_dash ∷ [])) (ok two (put en_dash ∷ [])) ≡ ok two
                    (put en_dash ∷ [])
                pick true a k = absurd (omega (arith, a, k))
                pick false a k = refl

        pub hyphen-three : (three ≡ two → ⊥) → Turns false s p em_dash three
        hyphen-three f = turn-puts three em_dash (on ∙ by (see s two) refl k)
          where
            by : (v : Option (ℕ × ℕ)) → see s two ≡ v → three ≡ past_one (single 0x2D) two v → third two v ≡ ok three (put em_dash ∷ [])
            by None q k = absurd (f k)
            by (Some (c, n)) q k = pick (eqb c 0x2D) k
              where
                pick : (x : Bool) → three ≡ cond x n two → cond x (ok n (put em_dash ∷ [])) (ok two (put en_dash ∷ [])) ≡ ok three (put em_dash ∷ [])
                pick true k = ap (λ (m : ℕ). ok m (put em_dash ∷ [])) (sym k)
                pick false k = absurd (f k)

-- ---- `other`

apart : (s : List ℕ) (p c n x : ℕ) → see s p ≡ Some (c, n) → x < 0x80 → (get_or s p 0 ≡ x → ⊥) → eqb c x ≡ false
apart s p c n x e h k = ne_eqb c x (λ q. k (seeing.byte_of s p c n e (omega (arith, h, q)) ∙ q))

apart-verb : (s : List ℕ) (p c n x : ℕ) (verb : Bool) → see s p ≡ Some (c, n) → x < 0x80 → (get_or s p 0 ≡ x → verb ≡ true) → (eqb c x && not verb) ≡ false
apart-verb s p c n x verb e h k = by (eqb c x) refl
  where
    by : (w : Bool) → eqb c x ≡ w → (w && not verb) ≡ false
    by true q = let z = eqb-true c x q in rw (k (seeing.byte_of s p c n e (omega (arith, h, z)) ∙ z)) refl
    by false q = refl

pub itself-of : (verb : Bool) (s : List ℕ) (p c n : ℕ) → see s p ≡ Some (c, n) → Ordinary verb (get_or s p 0) → (get_or s p 0 ≡ 0x5C → ⊥)
    → (get_or s p 0 ≡ 0x2D → verb ≡ true)
    → is_whitespace c ≡ false → Itself verb c
itself-of verb s p c n e h k m w = record {
  slash = apart s p c n 0x5C e (omega arith) k;
  dollar = apart-verb s p c n 0x24 verb e (omega arith) h.2;
  opening = apart s p c n 0x7B e (omega arith) h.0;
  closing = apart s p c n 0x7D e (omega arith) h.1;
  hyphen = apart-verb s p c n 0x2D verb e (omega arith) m;
  white = w;
}

-- ---- a backslash before white space or a control character

-- the backslash and the character behind it
pub slash-part : (s : List ℕ) (p c n : ℕ) → Behind s p c n → part s p n ≡ 0x5C ∷ part s (p + 1) n
slash-part s p c n h = part-head s p n (omega (arith, h.from)) h.to ∙ ap (λ (b : ℕ). b ∷ part s (p + 1) n) h.backslash

pub back-turn : (s : List ℕ) (p c n : ℕ) → Behind s p c n → begins c ≡ false → Turns false s p (part s p n) (p + 1)
back-turn s p c n h k argument d =
    slash-back argument d s p h.inside h.backslash c n h.seen h.command k
    ∙ ap (λ (w : List ℕ). again (p + 1) (put w ∷ []) d) (sym (slash-part s p c n h))

pub white-begins : (c : ℕ) → is_whitespace c ≡ true → begins c ≡ false
white-begins c h = rw h refl

pub control-begins : (c : ℕ) → is_control c ≡ true → begins c ≡ false
control-begins c h = by (is_whitespace c)
  where
    by : (w : Bool) → (not w && not (is_control c)) ≡ false
    by true = refl
    by false = rw h refl

pub blank_turn : (verb : Bool) (s : List ℕ) (p c n : ℕ) → see s p ≡ Some (c, n) → is_whitespace c ≡ true
    → Turns verb s p (0x20 ∷ []) (skip is_whitespace s p)
blank_turn verb s p c n e w argument d = turn-blank argument verb d s p c n e w

control-apart : (c x : ℕ) → is_control x ≡ false → is_control c ≡ true → eqb c x ≡ false
control-apart c x h w = ne_eqb c x (λ e. true-not-false (is_control c) w (ap is_control e ∙ h))

pub control-turn : (s : List ℕ) (p c n : ℕ) → see s p ≡ Some (c, n) → is_control c ≡ true → is_whitespace c ≡ false → Turns false s p (part s p n) n
unfolding is_control control
control-turn s p c n e h w argument d = turn-copy argument false d s p c n e (record {
  slash = control-apart c 0x5C refl h;
  dollar = rw (control-apart c 0x24 refl h) refl;
  opening = control-apart c 0x7B refl h;
  closing = control-apart c 0x7D refl h;
  hyphen = rw (control-apart c 0x2D refl h) refl;
  white = w;
})

pub copy-turn : (verb : Bool) (s : List ℕ) (p c n : ℕ) → see s p ≡ Some (c, n) → Itself verb c → Turns verb s p (part s p n) n
copy-turn verb s p c n e k argument d = turn-copy argument verb d s p c n e k

-- ---- `argument_end`

any-advances : (d : ℕ) (s : List ℕ) (p : ℕ) → Advances 1 0 p (length s) (end_turn d s p)
unfolding end_turn
any-advances d s p = by (leb p (length s)) refl
  where
    past : (d : ℕ) → length s ≤ p → Advances 1 0 p (length s) (end_turn d s p)
    past zero h = rw (seeing.skip-end (fails test.Brace) s p h, seeing.see-end s p h) tt
    past (suc d) h = rw (seeing.skip-end (fails test.Brace) s p h, seeing.see-end s p h) tt

    by : (w : Bool) → leb p (length s) ≡ w → Advances 1 0 p (length s) (end_turn d s p)
    by true e = end-advances d s p (leb-true p (length s) e)
    by false e = past d (omega (arith, leb-false p (length s) e))

end-un : (d : ℕ) (s : List ℕ) (p : ℕ) → many end_turn d s p ≡ after (end_turn d s p) (λ b q. many end_turn b s q)
end-un d s p = advancing-turn 0 end_turn any-advances d s p

end_more : (xs : List Part) (o : OutOf Part) → end_of (more xs o) ≡ end_of o
end_more xs (ok q ys) = refl
end_more xs (again q ys a) = refl
end_more xs (bad f) = refl

-- the search from i on, with d braces open inside the argument, where the next brace stands at j
module _ (d : ℕ) (s : List ℕ) (i j : ℕ) (h : j ≡ skip (fails test.Brace) s i) where
  abbrev left : ℕ → ℕ → Result ℕ Fault
  left d i = end_of (many end_turn d s i)

  by_turn : (o : OutOf Part) → end_turn d s i ≡ o → left d i ≡ end_of (after o (λ b q. many end_turn b s q))
  by_turn o e = ap end_of (end-un d s i ∙ ap (λ (o : OutOf Part). after o (λ b q. many end_turn b s q)) e)

  pub end-off : length s ≤ j → Err (fault_at UnexpectedEof j) ≡ left d i
  unfolding end_turn
  end-off l = sym (by_turn (bad (fault_at UnexpectedEof j)) (none d))
    where
      none : (d : ℕ) → end_turn d s i ≡ bad (fault_at UnexpectedEof j)
      none zero = rw (sym h, seeing.see-end s j l) refl
      none (suc d) = rw (sym h, seeing.see-end s j l) refl

  module _ (l : j < length s) where
    -- the byte at j is an opening brace
    brace : get_or s j 0 ≡ 0x7B → see s j ≡ Some (0x7B, j + 1)
    brace e = seeing.at_byte s j 0x7B l e (omega arith)

    pub end-open : get_or s j 0 ≡ 0x7B → left d i ≡ left (suc d) (j + 1)
    unfolding end_turn
    end-open e = by_turn (again (j + 1) [] (suc d)) (opens d) ∙ end_more [] (many end_turn (suc d) s (j + 1))
      where
        opens : (d : ℕ) → end_turn d s i ≡ again (j + 1) [] (suc d)
        opens zero = rw (sym h, brace e) refl
        opens (suc d) = rw (sym h, brace e) refl

    -- where the byte at j is no opening brace, it is a closing one
    closes : (get_or s j 0 ≡ 0x7B → ⊥) → see s j ≡ Some (0x7D, j + 1)
    unfolding holds_of
    closes n = by (eqb (code (drop j s)) 0x7B) (eqb (code (drop j s)) 0x7D) refl refl
        (seeing.skip_at (fails test.Brace) s (length s) i (omega arith) (omega (arith, l, h)))
      where
        seen : see s j ≡ Some (code (drop j s), j + 1 + rest (drop j s))
        seen = seeing.see-at s j l

        by : (x y : Bool) → eqb (code (drop j s)) 0x7B ≡ x → eqb (code (drop j s)) 0x7D ≡ y
            → fails test.Brace (code (drop (skip (fails test.Brace) s i) s)) ≡ false → see s j ≡ Some (0x7D, j + 1)
        by true y p q f = absurd (n (seeing.byte_of s j _ _ (seen ∙ ap (λ (c : ℕ). Some (c, j + 1 + rest (drop j s))) (eqb-true _ _ p)) (omega arith)))
        by false true p q f = seeing.at_byte s j 0x7D l (seeing.byte_of s j _ _ (seen ∙ ap (λ (c : ℕ). Some (c, j + 1 + rest (drop j s))) (eqb-true _ _ q))
            (omega arith)) (omega arith)
        by false false p q f = true-not-false (fails test.Brace (code (drop j s))) (rw (p, q) refl)
            (ap (λ (j : ℕ). fails test.Brace (code (drop j s))) h ∙ f)

    module _ (n : get_or s j 0 ≡ 0x7B → ⊥) where
      pub end-found : d ≡ 0 → Ok j ≡ left d i
      unfolding end_turn
      end-found e = sym (by_turn (ok j []) (zeroed d e))
        where
          zeroed : (d : ℕ) → d ≡ 0 → end_turn d s i ≡ ok j []
          zeroed zero e = rw (sym h, closes n) refl
          zeroed (suc d) e = absurd (omega (arith, e))

      pub end-close : (d ≡ 0 → ⊥) → left d i ≡ left (d - 1) (j + 1)
      unfolding end_turn
      end-close e = by_turn (again (j + 1) [] (d - 1)) (some d e) ∙ end_more [] (many end_turn (d - 1) s (j + 1))
        where
          some : (d : ℕ) → (d ≡ 0 → ⊥) → end_turn d s i ≡ again (j + 1) [] (d - 1)
          some zero e = absurd (e refl)
          some (suc d) e = rw (sym h, closes n, sub-one (suc d)) refl
