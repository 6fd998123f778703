-- Which refusals a literal can come to, and their places: `refusals`.
-- Assumes nothing.
use Rattle.std.proofs.Common.{ℕ, zero, suc, ◌+◌, ◌-◌, ◌≤◌, ◌<◌, arith, ◌≡◌, refl, sym, ap, subst, ◌∙◌, Bool, true, false}
use Rattle.std.proofs.Common.{cond, not, ◌&&◌, List, [], ◌∷◌, length, take, get_or, length-take, get_or-take, eqb, leb, ltb, eqb-true, ltb-true, leb-true, leb-false}
use Rattle.std.specs.Prelude.{Option, Some, None}
use Rattle.text.specs.Class.{is_whitespace, is_id_continue}
use Rattle.text.specs.Scan.{see, skip, fails, part}
use Rattle.text.specs.declared.class.Test.TheVariants as test
use Rattle.text.proofs.Seeing.{seeing}
use Rattle.row.specs.declared.fault.Fault.{Fault}
use Rattle.row.specs.declared.fault.Reason.TheVariants.{UnexpectedEof}
use Rattle.row.specs.Fault.{number_of, fault_at}
use Rattle.row.specs.Limits.{most_literal, most_arguments}
use Rattle.raw.specs.Reader.{OutOf, ok, again, bad, more, and_then, after, loop, many, turn}
use Rattle.raw.specs.Grammar.{is, any}
use Rattle.command.specs.Commands.{is_single_char_func}
use Rattle.command.specs.Execute.{absent, execute_command}
use Rattle.turn.specs.Content.{Part, put, cut, math, Reader, name_end, takes_one, opens_at, with_name, command, braced, argument_end, end_turn, ends_at}
use Rattle.turn.specs.Content.{ran, backslash, backslash_at, is_escape, begins, maths, closing, hyphens, content_turn, content_by, inside, content}
use Rattle.turn.specs.Turns.{ArgumentEnds}
use Rattle.turn.proofs.Turning.{turning}
use Rattle.literal.specs.Literal.{Resolved, chunks, refused, resolved_of, too_long, resolve_literal}
use Rattle.literal.specs.Refusals.{ContentFault, ended, closed, deep, LiteralFault, long, met, Refusals}
use Rattle.literal.proofs.characters.Moves.{eaten-by, cond-by}

-- ---- outcomes of readers

-- a reader ends inside the text, or refuses as content may
abbrev Fair : List ℕ → OutOf Part → Type 0
Fair s (ok q xs) = q ≤ length s
Fair s (again q xs a) = q ≤ length s
Fair s (bad f) = ContentFault s f

more-fair : (s : List ℕ) (xs : List Part) (o : OutOf Part) → Fair s o → Fair s (more xs o)
more-fair s xs (ok q ys) h = h
more-fair s xs (again q ys a) h = h
more-fair s xs (bad f) h = h

-- a reader, and then the loop
turn-fair : (s : List ℕ) (d : ℕ) (o : OutOf Part) → Fair s o → Fair s (and_then o (turn d s))
turn-fair s d (ok q xs) h = h
turn-fair s d (again q xs a) h = h
turn-fair s d (bad f) h = h

after-fair : (s : List ℕ) (o : OutOf Part) (g : ℕ → ℕ → OutOf Part) → Fair s o → ((b q : ℕ) → q ≤ length s → Fair s (g b q)) → Fair s (after o g)
after-fair s (ok q xs) g h k = h
after-fair s (again q xs a) g h k = more-fair s xs (g a q) (k a q h)
after-fair s (bad f) g h k = h

-- turns from any place of the text
abbrev Turns : List ℕ → (ℕ → Reader) → Type 0
Turns s f = (a p : ℕ) → p ≤ length s → Fair s (f a s p)

loop-fair : (s : List ℕ) (f : ℕ → Reader) → Turns s f → (n : ℕ) → Turns s (loop f n)
unfolding loop
loop-fair s f F zero a p h = ended p h
loop-fair s f F (suc n) a p h = after-fair s (f a s p) (λ b q. loop f n b s q) (F a p h) (loop-fair s f F n)

many-fair : (s : List ℕ) (f : ℕ → Reader) → Turns s f → Turns s (many f)
unfolding many
many-fair s f F a p h = loop-fair s f F (suc (length s)) a p h

-- ---- a byte that is seen

-- the character c that is seen at p, where it is the character x of ASCII
seen-byte : (s : List ℕ) (p c n x : ℕ) → see s p ≡ Some (c, n) → x < 0x80 → eqb c x ≡ true → (p < length s) × (get_or s p 0 ≡ x)
seen-byte s p c n x e l t =
    let q = eqb-true c x t in
    ((seeing.char-parts s p c n e).0, seeing.byte_of s p c n e (omega (arith, q, l)) ∙ q)

opens-byte : (s : List ℕ) (w : ℕ) → opens_at (see s w) ≡ true → get_or s w 0 ≡ 0x7B
opens-byte s w = by (see s w) refl
  where
    by : (v : Option (ℕ × ℕ)) → see s w ≡ v → opens_at v ≡ true → get_or s w 0 ≡ 0x7B
    by None e h = let z : ◌≡◌ {A = ℕ} 0 1 = cc in absurd (omega (arith, z))
    by (Some (c, n)) e h = (seen-byte s w c n 0x7B e (omega arith) h).1

-- ---- a command's argument

-- a reader that begins behind an opening brace
abbrev Behind : Reader → Type 0
Behind f = (s : List ℕ) (p : ℕ) → p + 1 ≤ length s → get_or s p 0 ≡ 0x7B → Fair s (f s (p + 1))

-- bytes of an argument are bytes of the text in which it stands
within_text : (e : ℕ) (s : List ℕ) {f : Fault} → ContentFault (take e s) f → ContentFault s f
within_text e s (ended p h) = ended p (omega (arith, h, length-take e s))
within_text e s (closed p h b) = closed p (omega (arith, h, length-take e s)) (sym (get_or-take e s p 0 (omega (arith, h, length-take e s))) ∙ b)
within_text e s (deep p h b) = deep p (omega (arith, h, length-take e s)) (sym (get_or-take e s p 0 (omega (arith, h, length-take e s))) ∙ b)

-- where it ends is sought
end-turns : (s : List ℕ) → Turns s end_turn
unfolding end_turn
end-turns s zero p h = let j = skip (fails test.Brace) s p in
    let l = (seeing.skip-inside (fails test.Brace) s p h).1 in
    eaten-by (λ o. Fair s (more [] o)) (is 0x7D) s j _ _ (λ c n e t. l)
    (eaten-by (λ o. Fair s (more [] o)) (is 0x7B) s j _ _ (λ c n e t. (seeing.see-ahead s j c n e).1) (ended j l))
end-turns s (suc d) p h = let j = skip (fails test.Brace) s p in
    let l = (seeing.skip-inside (fails test.Brace) s p h).1 in
    eaten-by (λ o. Fair s (more [] o)) (is 0x7D) s j _ _ (λ c n e t. (seeing.see-ahead s j c n e).1)
    (eaten-by (λ o. Fair s (more [] o)) (is 0x7B) s j _ _ (λ c n e t. (seeing.see-ahead s j c n e).1) (ended j l))

end-fair : (s : List ℕ) (p : ℕ) → p ≤ length s → Fair s (argument_end s p)
unfolding argument_end
end-fair s p h = many-fair s end_turn (end-turns s) 0 p h

module _ (argument : Reader) (A : Behind argument) (s : List ℕ) where
  -- behind the opening brace at w
  braced-fair : (name : List ℕ) (w : ℕ) → opens_at (see s w) ≡ true → Fair s (braced argument name s (w + 1))
  unfolding braced
  braced-fair name w h =
      let l = turning.opens-inside s w h in
      by (argument_end s (w + 1)) (turning.end-inside s (w + 1) l) (end-fair s (w + 1) l)
    where
      by : (o : OutOf Part) → ArgumentEnds (length s) (w + 1) o → Fair s o
          → Fair s (ends_at o (λ e. ran (w + 1) name (argument (take e s) (w + 1)) (λ v. ok (e + 1) (put v ∷ []))))
      by (ok e xs) x y =
          run (argument (take e s) (w + 1))
          (A (take e s) w (omega (arith, x.0, x.1, length-take e s)) (get_or-take e s w 0 (omega (arith, x.0)) ∙ opens-byte s w h))
        where
          run : (o : OutOf Part) → Fair (take e s) o → Fair s (ran (w + 1) name o (λ v. ok (e + 1) (put v ∷ [])))
          run (ok q ys) m = omega (arith, x.1)
          run (again q ys a) m = omega (arith, x.1)
          run (bad f) m = within_text e s m
      by (again e xs a) x y = absurd x
      by (bad f) x y = y

  -- a command, whose name goes from p to e, and the white space behind it to w
  named : (c p n e w : ℕ) → w ≤ length s → Fair s (with_name argument c p n e w s p)
  unfolding with_name
  named c p n e w l = cond-by (Fair s) (takes_one c n e w s) _ _ (seeing.next-inside s w l).1 (two (opens_at (see s w)) refl (eqb e w))
    where
      two : (x : Bool) → opens_at (see s w) ≡ x → (y : Bool)
          → Fair s (cond (y && x) (braced argument (part s p e) s (w + 1)) (ok w (put (execute_command (part s p e) absent) ∷ [])))
      two true o y = cond-by (Fair s) (y && true) _ _ (braced-fair (part s p e) w o) l
      two false o true = l
      two false o false = l

  command-fair : (c n p : ℕ) → n ≤ length s → Fair s (command argument c n s p)
  unfolding command
  command-fair c n p h = named c p n e (skip is_whitespace s e) (seeing.skip-inside is_whitespace s e (by (is_single_char_func c false))).1
    where
      e : ℕ
      e = name_end c n s

      by : (x : Bool) → cond x n (skip is_id_continue s n) ≤ length s
      by true = h
      by false = (seeing.skip-inside is_id_continue s n h).1

  backslash-fair : (verb : Bool) (p : ℕ) → p ≤ length s → Fair s (backslash argument verb s p)
  unfolding backslash
  backslash-fair verb p h = by verb (see s p) refl
    where
      by : (verb : Bool) (v : Option (ℕ × ℕ)) → see s p ≡ v → Fair s (backslash_at argument verb s p v)
      by true None e = h
      by false None e = ended p h
      by true (Some (c, n)) e = cond-by (Fair s) (is_escape true c) _ _ (seeing.see-ahead s p c n e).1 h
      by false (Some (c, n)) e =
          let l = (seeing.see-ahead s p c n e).1 in
          cond-by (Fair s) (is_escape false c) _ _ l (cond-by (Fair s) (begins c) _ _ (command-fair c n p l) h)

-- ---- the other turns

maths-fair : (s : List ℕ) (d p : ℕ) → p < length s → Fair s (maths d s p)
unfolding maths
maths-fair s d p h = by (skip (fails test.Dollar) s (p + 1)) (seeing.skip-inside (fails test.Dollar) s (p + 1) (omega (arith, h))).1
  where
    by : (e : ℕ) → e ≤ length s
        → Fair s (cond (ltb e (length s)) (ok (e + 1) (cut d p (e + 1) ∷ math (part s (p + 1) e) (p + 1) e ∷ [])) (bad (fault_at UnexpectedEof e)))
    by e l = two (ltb e (length s)) (ltb-true e (length s))
      where
        two : (b : Bool) → (b ≡ true → e < length s)
            → Fair s (cond b (ok (e + 1) (cut d p (e + 1) ∷ math (part s (p + 1) e) (p + 1) e ∷ [])) (bad (fault_at UnexpectedEof e)))
        two true k = omega (arith, k refl)
        two false k = ended e l

hyphens-fair : (s : List ℕ) (p : ℕ) → p ≤ length s → Fair s (hyphens s p)
unfolding hyphens
hyphens-fair s p h =
    eaten-by (Fair s) (is 0x2D) s p _ _
    (λ c n e t. eaten-by (Fair s) (is 0x2D) s n _ _
    (λ c₁ m e₁ t₁. eaten-by (Fair s) (is 0x2D) s m _ _ (λ c₂ r e₂ t₂. (seeing.see-ahead s m c₂ r e₂).1) (seeing.see-ahead s n c₁ m e₁).1)
    (seeing.see-ahead s p c n e).1)
    h

content-turns : (argument : Reader) → Behind argument → (verb : Bool) (s : List ℕ) → Turns s (content_turn argument verb)
unfolding content_turn closing
content-turns argument A verb s d p h =
    eaten-by (Fair s) (is 0x5C) s p _ _
    (λ c n e t. turn-fair s d (backslash argument verb s n) (backslash-fair argument A s verb n (seeing.see-ahead s p c n e).1))
    (eaten-by (Fair s) (λ c. eqb c 0x24 && not verb) s p _ _
    (λ c n e t. turn-fair s d (maths d s p) (maths-fair s d p (seeing.char-parts s p c n e).0))
    (eaten-by (Fair s) (is 0x7B) s p _ _ (λ c n e t. omega (arith, (seeing.char-parts s p c n e).0))
    (eaten-by (Fair s) (is 0x7D) s p _ _ (λ c n e t. closes d (seen-byte s p c n 0x7D e (omega arith) t))
    (eaten-by (Fair s) (λ c. eqb c 0x2D && not verb) s p _ _ (λ c n e t. turn-fair s d (hyphens s p) (hyphens-fair s p h))
    (eaten-by (Fair s) is_whitespace s p _ _ (λ c n e t. (seeing.skip-inside is_whitespace s p h).1)
    (eaten-by (Fair s) any s p _ _ (λ c n e t. (seeing.next-inside s p h).1) h))))))
  where
    closes : (d : ℕ) → (p < length s) × (get_or s p 0 ≡ 0x7D) → Fair s (closing d s p)
    closes zero b = closed p b.0 b.1
    closes (suc d) b = omega (arith, b.0)

-- ---- content

by-fair : (argument : Reader) → Behind argument → (verb : Bool) (s : List ℕ) (p : ℕ) → p ≤ length s → Fair s (content_by argument verb s p)
unfolding content_by
by-fair argument A verb s p h = many-fair s (content_turn argument verb) (content-turns argument A verb s) 0 p h

inside-fair : (n : ℕ) → Behind (inside n)
unfolding inside
inside-fair zero s p h b = let e : p + 1 - 1 ≡ p = omega arith in rw e (deep p (omega (arith, h)) b)
inside-fair (suc n) s p h b = by-fair (inside n) (inside-fair n) false s (p + 1) h

-- ---- the statement

literal-fault : (verb : Bool) (s : List ℕ) (base : ℕ) (f : Fault) → resolve_literal verb s base ≡ refused f → LiteralFault s base f
unfolding resolve_literal
literal-fault verb s base f =
    by (leb (length s) most_literal) (leb-true (length s) most_literal) (leb-false (length s) most_literal) (content most_arguments verb s 0)
    (by-fair (inside most_arguments) (inside-fair most_arguments) verb s 0 (omega arith))
  where
    fault_in : Resolved → Fault
    fault_in (chunks cs) = f
    fault_in (refused g) = g

    by : (w : Bool) → (w ≡ true → length s ≤ most_literal) → (w ≡ false → most_literal < length s) → (o : OutOf Part) → Fair s o
        → cond w (resolved_of base o) (refused (too_long base (base + length s))) ≡ refused f → LiteralFault s base f
    by true h k (ok q xs) m e = let z : ◌≡◌ {A = ℕ} 0 1 = cc in absurd (omega arith)
    by true h k (again q xs a) m e = let z : ◌≡◌ {A = ℕ} 0 1 = cc in absurd (omega arith)
    by true h k (bad g) m e = subst (LiteralFault s base) (ap fault_in e) (met g (h refl) m)
    by false h k o m e = subst (LiteralFault s base) (ap fault_in e) (long (k refl))

content-number : (s : List ℕ) (f : Fault) → ContentFault s f → number_of f.reason ≤ 14
content-number s f (ended p h) = omega arith
content-number s f (closed p h b) = omega arith
content-number s f (deep p h b) = omega arith

literal-number : (s : List ℕ) (base : ℕ) (f : Fault) → LiteralFault s base f → number_of f.reason ≤ 14
literal-number s base f (long h) = omega arith
literal-number s base f (met g h m) = content-number s g m

pub refusals : Refusals
refusals = record { literal = literal-fault; own = literal-number }
