-- Loops of the code go by bytes, and turns of the grammar by characters: they agree, because only ASCII decides.
--     seen_key, seen_other     what is seen at a byte: one that the code asks for, or none of them
--     Unrolls                  a loop is its first turn and then the loop
--     Wide                     a turn passes every character that is not ASCII
--     Reached                  the loop's invariant: from here on the loop answers what the whole loop answers
--     reached                  it holds at the start
--     on-turn, on-char         after a turn the loop has reached the place after the character, and so the place after its first byte
--     on-escape, on-cut        a turn that passes a backslash and the character after it, and one at the end of the text
--     at-stop, at-bad          the loop's answers
-- Assumes nothing.
use Rattle.std.proofs.Common.{Some, Ok, Err, ℕ, zero, suc, ◌+◌, ◌-◌, ◌≤◌, ◌<◌, max, arith, ◌≡◌, refl, sym, ap, ◌∙◌, subst, Bool, true, false, List, [], length, get_or, take}
use Rattle.std.proofs.Common.{drop, length-take-le, get_or-take, get_or-drop, ltb, ltb-true, ltb-false}
use Rattle.std.proofs.lemmas.Option.{some_pair_parts}
use Rattle.text.specs.Range.{within}
use Rattle.text.specs.Utf8.{tail, width}
use Rattle.text.specs.Scan.{code, rest, see, Inside}
use Rattle.text.proofs.Shapes.{shapes}
use Rattle.text.proofs.general.Places.{drop-next}
use Rattle.text.proofs.Seeing.{seeing}
use Rattle.row.specs.declared.fault.Fault.{Fault}
use Rattle.raw.specs.Reader.{ok, again, bad, Reader, after, many}
use Rattle.raw.specs.Grammar.{escape}
use Rattle.raw.specs.Inner.{AsciiOnly}
use Rattle.raw.specs.Says.{step_of, Onward}
use Rattle.raw.proofs.readers.Then.{more-none}

-- ---- what is seen at a byte

module _ (s : List ℕ) (i : ℕ) (h : i < length s) where
  pub seen_key : (k : ℕ) → get_or s i 0 ≡ k → k < 0x80 → see s i ≡ Some (k, i + 1)
  seen_key k e l = seeing.see-ascii s i h (omega arith) ∙ ap (λ (c : ℕ). Some (c, i + 1)) e

  -- a class of ASCII characters that does not have the byte does not have the character that begins with it
  pub seen_other : (c : ℕ) × (n : ℕ) × (see s i ≡ Some (c, n)) × ((p : ℕ → Bool) → AsciiOnly p → p (get_or s i 0) ≡ false → p c ≡ false)
  seen_other = go (ltb (get_or s i 0) 0x80) refl
    where
      go : (t : Bool) → ltb (get_or s i 0) 0x80 ≡ t →
          (c : ℕ) × (n : ℕ) × (see s i ≡ Some (c, n)) × ((p : ℕ → Bool) → AsciiOnly p → p (get_or s i 0) ≡ false → p c ≡ false)
      go true e = (get_or s i 0, i + 1, seeing.see-ascii s i h (ltb-true _ _ e), λ p a q. q)
      go false e =
          let w : 0x80 ≤ code (drop i s) = rw (drop-next s i h) (seeing.code-wide (get_or s i 0) (drop (i + 1) s) (ltb-false _ _ e)) in
          (code (drop i s), i + 1 + rest (drop i s), seeing.see-at s i h, λ p a q. a _ w)

  pub seen-tail : within tail (get_or s i 0) ≡ true → see s i ≡ Some (0xFFFD, i + 1)
  unfolding code rest
  seen-tail t =
      let w : width (drop i s) ≡ 0 = rw (drop-next s i h) (shapes.width-tail (get_or s i 0) (drop (i + 1) s) t) in
      seeing.see-at s i h ∙ rw w (ap (λ (n' : ℕ). Some (0xFFFD, n')) (omega arith))

-- ---- turns

abbrev pub Unrolls : (ℕ → Reader) → Type 0
Unrolls f = (a : ℕ) (s : List ℕ) (p : ℕ) → many f a s p ≡ after (f a s p) (λ b q. many f b s q)

abbrev pub Wide : (ℕ → Reader) → Type 0
Wide f = (a : ℕ) (s : List ℕ) (i c n : ℕ) → see s i ≡ Some (c, n) → 0x80 ≤ c → f a s i ≡ again n [] a

-- the octets behind the first of a character are tails
tails : (u : List ℕ) (k : ℕ) → width u ≡ suc k → (j : ℕ) → j < k → within tail (get_or u (j + 1) 0) ≡ true
tails u k e j l =
    let c = shapes.width-char u (omega arith) in
    let n = length-take-le (width u) u c.1 in
    rw (get_or-take (width u) u (j + 1) 0 (omega arith)) at (shapes.char-further (take (width u) u) (j + 1) 0 c.0 (omega arith) (omega arith))

module _ (f : ℕ → Reader) (un : Unrolls f) (s : List ℕ) where
  many-on : (a i : ℕ) {j b : ℕ} → f a s i ≡ again j [] b → many f a s i ≡ many f b s j
  many-on a i {j} {b} e = un a s i ∙ rw e (more-none (many f b s j))

  module _ (w : Wide f) (a : ℕ) where
    many-tails : (k j : ℕ) → j + k ≤ length s → ((m : ℕ) → m < k → within tail (get_or s (j + m) 0) ≡ true) → many f a s j ≡ many f a s (j + k)
    many-tails zero j h t = ap (many f a s) (omega arith)
    many-tails (suc k) j h t =
        let e : (m n : ℕ) → m ≡ n → within tail (get_or s m 0) ≡ true → within tail (get_or s n 0) ≡ true = λ m n q x. rw q at x in
        many-on a j (w a s j 0xFFFD (j + 1) (seen-tail s j (omega arith) (e (j + 0) j (omega arith) (t 0 (omega arith)))) (omega arith))
        ∙ many-tails k (j + 1) (omega arith) (λ m l. e (j + suc m) (j + 1 + m) (omega arith) (t (suc m) (omega arith)))
        ∙ ap (many f a s) (omega arith)

    -- from behind a character the loop answers what it answers from behind its first byte
    many-char : (i : ℕ) {c n : ℕ} → see s i ≡ Some (c, n) → many f a s n ≡ many f a s (i + 1)
    unfolding rest
    many-char i {c} {n} e =
        let h = subst (Inside s i) e (seeing.see-inside s i) in
        let q : n ≡ i + 1 + (width (drop i s) - 1) = (some_pair_parts c _ n _ (sym e ∙ seeing.see-at s i (omega arith))).1 in
        go (width (drop i s)) refl h q
      where
        tail_at : (j : ℕ) → within tail (get_or (drop i s) (j + 1) 0) ≡ true → within tail (get_or s (i + 1 + j) 0) ≡ true
        tail_at j x = let e : i + (j + 1) ≡ i + 1 + j = omega arith in rw (get_or-drop, e) at x

        go : (k : ℕ) → width (drop i s) ≡ k → (i < n) × (n ≤ length s) → n ≡ i + 1 + (k - 1) → many f a s n ≡ many f a s (i + 1)
        go zero e h q = ap (many f a s) (omega arith)
        go (suc k) e h q =
            ap (many f a s) (omega arith)
            ∙ sym (many-tails k (i + 1) (omega arith) (λ j l. tail_at j (tails (drop i s) k e j l)))

-- ---- the invariant

pub record Reached (f : ℕ → Reader) (s : List ℕ) (at a i : ℕ) : Type 0 where
  pub same : many f 0 s at ≡ many f a s i
  pub from : at ≤ i
  pub to : i ≤ max at (length s)

pub reached : {f : ℕ → Reader} {s : List ℕ} {at : ℕ} → Reached f s at 0 at
reached = record { same = refl; from = omega arith; to = omega arith }

module _ {f : ℕ → Reader} (un : Unrolls f) {s : List ℕ} {at a i : ℕ} (r : Reached f s at a i) where
  pub on-turn : {j b : ℕ} → f a s i ≡ again j [] b → i ≤ j → j ≤ length s → Reached f s at b j
  on-turn e l h = record { same = r.same ∙ many-on f un s a i e; from = omega arith; to = omega arith }

  pub at-stop : f a s i ≡ ok i [] → (Ok i ≡ step_of (many f 0 s at)) × Onward (length s) 0 at (Ok i)
  at-stop e = let q : many f 0 s at ≡ ok i [] = r.same ∙ un a s i ∙ rw e in (ap step_of (sym q), (omega arith, r.to))

  pub at-bad : {x : Fault} → f a s i ≡ bad x → (Err x ≡ step_of (many f 0 s at)) × Onward (length s) 0 at (Err x)
  at-bad {x} e = let q : many f 0 s at ≡ bad x = r.same ∙ un a s i ∙ rw e in (ap step_of (sym q), tt)

  pub on-cut : length s ≤ i + 1 → i < length s → f a s i ≡ escape a s (i + 1) → Reached f s at a (i + 1)
  on-cut l h e = on-turn (e ∙ rw (seeing.see-end s (i + 1) l)) (omega arith) (omega arith)

  module _ (w : Wide f) where
    pub on-char : {c n b : ℕ} → see s i ≡ Some (c, n) → f a s i ≡ again n [] b → Reached f s at b (i + 1)
    on-char {b = b} p e =
        let h = subst (Inside s i) p (seeing.see-inside s i) in
        record { same = r.same ∙ many-on f un s a i e ∙ many-char f un s w b i p; from = omega arith; to = omega arith }

    pub on-escape : i + 1 < length s → f a s i ≡ escape a s (i + 1) → Reached f s at a (i + 1 + 1)
    on-escape h e =
        let p = seeing.see-at s (i + 1) h in
        record {
          same = r.same ∙ many-on f un s a i (e ∙ rw p) ∙ many-char f un s w a (i + 1) p;
          from = omega arith;
          to = omega arith;
        }
