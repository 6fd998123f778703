-- Turns that write text, as the functions of src/turn.rt answer them.
--     wrote_one, wrote-two                         one turn; two turns
--     plain-copies, wide-copies, blank-copies      turns that copy what stands there
--     runs-.., wrote-.., grows-on                  many turns, one behind the other
--     says-.., grows-..                            what a function's answer says, and its bounds
-- Assumes nothing.
use Rattle.std.proofs.Common.{ℕ, zero, suc, ◌+◌, ◌-◌, ◌≤◌, ◌<◌, max, arith, ◌≡◌, refl, sym, ap, subst, ◌∙◌, Bool, true, false, cond}
use Rattle.std.proofs.Common.{not, ◌&&◌, ◌||◌, List, [], ◌∷◌, ◌++◌, map, append_assoc, append-nil, length, take, drop, get_or, T, eqb, ltb, ltb-true, eqb-true, ne_eqb}
use Rattle.std.specs.Prelude.{Some, Result, Ok}
use Rattle.row.specs.declared.fault.Fault.{Fault}
use Rattle.turn.specs.declared.turn.Text.{Text}
use mathlib.Core.List.{map-append}
use borrow.Author.Tests.{not-true, eqb-false}
use Rattle.text.specs.Block.{is_simple}
use Rattle.text.specs.Class.{is_whitespace, white_space}
use Rattle.text.specs.Scan.{see, skip, part, code, rest}
use Rattle.text.proofs.general.Below.{each}
use Rattle.raw.specs.Reader.{OutOf, ok, again, bad, more}
use Rattle.text.proofs.Seeing.{seeing}
use Rattle.text.proofs.general.Tests.{both_true, narrow-is}
use Rattle.text.proofs.general.Parts.{part_none, part-head, part_join}
use Rattle.text.proofs.general.Places.{drop-next}
use Rattle.command.specs.Stack.{Lays}
use Rattle.command.proofs.stacks.LaysLaws.{lays-as, lays-on}
use Rattle.turn.specs.declared.turn.Text.TheVariants as text
use Rattle.turn.specs.Content.{Part, put, Reader, content_turn}
use Rattle.turn.specs.Turns.{turns, concat, Copies, CopiesOne, CopiesAll, WordRun, Wrote, SaysText, GrowsText, Grows}
use Rattle.turn.proofs.contents.TurnsSeen.{leads, Itself, turn-copy, turn-blank}

pub more-more : (xs ys : List Part) (o : OutOf Part) → more xs (more ys o) ≡ more (xs ++ ys) o
more-more xs ys (ok q zs) = ap (λ (l : List Part). ok q l) (sym (append_assoc xs ys zs))
more-more xs ys (again q zs a) = ap (λ (l : List Part). again q l a) (sym (append_assoc xs ys zs))
more-more xs ys (bad f) = refl

-- a turn from p to q that writes w
abbrev pub Turns : Bool → List ℕ → ℕ → List ℕ → ℕ → Type 0
Turns verb s p w q = (argument : Reader) (d : ℕ) → content_turn argument verb d s p ≡ again q (put w ∷ []) d

pub wrote_one : (verb : Bool) (s : List ℕ) (p n : ℕ) (o : List ℕ) (q l : ℕ) (o' w : List ℕ) → Turns verb s p w q → Lays n w o l o'
    → Wrote verb s p n o q l o'
unfolding concat
wrote_one verb s p n o q l o' w t k = record {
  texts = w ∷ [];
  leads = λ argument d. leads argument verb d s p q (put w ∷ []) d (t argument d);
  lays = lays-as n w (w ++ []) o l o' (sym (append-nil w)) k;
}

pub wrote-two : (verb : Bool) (s : List ℕ) (p n : ℕ) (o : List ℕ) (q l : ℕ) (o' w : List ℕ) (r : ℕ) (v : List ℕ) → Turns verb s p w r
    → Turns verb s r v q
    → Lays n (w ++ v) o l o' → Wrote verb s p n o q l o'
unfolding concat
wrote-two verb s p n o q l o' w r v t u k = record {
  texts = w ∷ v ∷ [];
  leads = λ argument d.
      leads argument verb d s p r (put w ∷ []) d (t argument d)
      ∙ ap (more (put w ∷ [])) (leads argument verb d s r q (put v ∷ []) d (u argument d))
      ∙ more-more (put w ∷ []) (put v ∷ []) (turns argument verb d s q);
  lays = lays-as n (w ++ v) (w ++ (v ++ [])) o l o' (ap (λ (t : List ℕ). w ++ t) (sym (append-nil v))) k;
}

-- ---- a run

abbrev all : ℕ → Bool
all b = not (eqb b 0x5C) && (not (eqb b 0x24) && (not (eqb b 0x7B) && (not (eqb b 0x7D) && (not (eqb b 0x2D) && not (is_whitespace b)))))

abbrev fine : ℕ → Bool
fine b = cond (is_simple b) (eqb b 0x20 || all b) true

simple-ascii : (b : ℕ) → is_simple b ≡ true → b < 0x7F
unfolding is_simple
simple-ascii b h = ltb-true b 0x7F (both_true (ltb 0x1F b) (ltb b 0x7F) (both_true (ltb 0x1F b && ltb b 0x7F) _ h).0).1

is_true : (a : Bool) → T a → a ≡ true
is_true true t = refl
is_true false t = absurd t

nor : (a b : Bool) → a ≡ false → (a && b) ≡ false
nor a b h = rw h refl

-- a byte that is simple, and no blank
pub plain-itself : (verb : Bool) (b : ℕ) → is_simple b ≡ true → (b ≡ 0x20 → ⊥) → Itself verb b
unfolding is_simple is_whitespace white_space
plain-itself verb b h n =
    let t = is_true (fine b) (each fine 0x7F tt b (simple-ascii b h)) in
    let u = sym (ap (λ (w : Bool). cond w (eqb b 0x20 || all b) true) h) ∙ t in
    let a = both_true (not (eqb b 0x5C)) _ (sym (ap (λ (w : Bool). w || all b) (ne_eqb b 0x20 n)) ∙ u) in
    let e = both_true (not (eqb b 0x24)) _ a.1 in
    let i = both_true (not (eqb b 0x7B)) _ e.1 in
    let o = both_true (not (eqb b 0x7D)) _ i.1 in
    let u = both_true (not (eqb b 0x2D)) _ o.1 in
    record {
      slash = not-true _ a.0;
      dollar = nor (eqb b 0x24) (not verb) (not-true _ e.0);
      opening = not-true _ i.0;
      closing = not-true _ o.0;
      hyphen = nor (eqb b 0x2D) (not verb) (not-true _ u.0);
      white = not-true _ u.1;
    }

-- a character that is no white space, from a byte that is not ASCII
wide-itself : (verb : Bool) (c : ℕ) → 0x80 ≤ c → is_whitespace c ≡ false → Itself verb c
wide-itself verb c h w = record {
  slash = narrow-is 0x5C (omega arith) c h;
  dollar = nor (eqb c 0x24) (not verb) (narrow-is 0x24 (omega arith) c h);
  opening = narrow-is 0x7B (omega arith) c h;
  closing = narrow-is 0x7D (omega arith) c h;
  hyphen = nor (eqb c 0x2D) (not verb) (narrow-is 0x2D (omega arith) c h);
  white = w;
}

-- the turns that copy what stands there
pub plain-copies : (s : List ℕ) (p : ℕ) → p < length s → is_simple (get_or s p 0) ≡ true → (get_or s p 0 ≡ 0x20 → ⊥) → Copies s p (p + 1)
plain-copies s p l h n argument verb d =
    let b = get_or s p 0 in
    turn-copy argument verb d s p b (p + 1) (seeing.at_byte s p b l refl (omega (arith, simple-ascii b h))) (plain-itself verb b h n)

pub wide-copies : (s : List ℕ) (p c n : ℕ) → 0x80 ≤ get_or s p 0 → see s p ≡ Some (c, n) → is_whitespace c ≡ false → Copies s p n
wide-copies s p c n h e w argument verb d = turn-copy argument verb d s p c n e (wide-itself verb c wide w)
  where
    k : (p < length s) × (c ≡ code (drop p s)) × (n ≡ p + 1 + rest (drop p s))
    k = seeing.char-parts s p c n e

    wide : 0x80 ≤ c
    wide = omega (arith, k.1, ap code (drop-next s p k.0), seeing.code-wide (get_or s p 0) (drop (p + 1) s) h)

-- white space is one blank, as a blank by itself is
pub blank-copies : (s : List ℕ) (p q : ℕ) → p < length s → get_or s p 0 ≡ 0x20 → q ≡ skip is_whitespace s p → q ≡ p + 1 → Copies s p q
unfolding is_whitespace white_space
blank-copies s p q l b h e argument verb d =
    turn-blank argument verb d s p 0x20 (p + 1) (seeing.at_byte s p 0x20 l b (omega arith)) refl
    ∙ ap (λ (r : ℕ). again r (put (0x20 ∷ []) ∷ []) d) (sym h) ∙ ap (λ (w : List ℕ). again q (put w ∷ []) d) same
  where
    same : 0x20 ∷ [] ≡ part s p q
    same = sym (ap (part s p) e ∙ part-head s p (p + 1) (omega arith) (omega (arith, l)) ∙ rw (b, part_none s (p + 1)) refl)

-- a blank before a byte that is simple and no blank
single-copies : (s : List ℕ) (p : ℕ) → p + 1 < length s → get_or s p 0 ≡ 0x20 → is_simple (get_or s (p + 1) 0) ≡ true
    → (get_or s (p + 1) 0 ≡ 0x20 → ⊥) → Copies s p (p + 1)
unfolding is_whitespace white_space
single-copies s p l b h n =
    blank-copies s p (p + 1) (omega (arith, l)) b
    (sym (seeing.white-on s p 0x20 (p + 1) (seeing.at_byte s p 0x20 (omega (arith, l)) b (omega arith)) refl ∙ stop)) refl
  where
    next : ℕ
    next = get_or s (p + 1) 0

    seen : (p + 1 < length s) × (next ≡ code (drop (p + 1) s)) × (p + 1 + 1 ≡ p + 1 + 1 + rest (drop (p + 1) s))
    seen = seeing.char-parts s (p + 1) next (p + 1 + 1) (seeing.at_byte s (p + 1) next l refl (omega (arith, simple-ascii next h)))

    stop : skip is_whitespace s (p + 1) ≡ p + 1
    stop = seeing.skip_stop is_whitespace s (p + 1) l (ap is_whitespace (sym seen.1) ∙ (plain-itself false next h n).white)

pub steps-none : (s : List ℕ) (p : ℕ) → p < length s → CopiesOne s p p
steps-none s p l = record { from = omega arith; to = omega (arith, l); copies = λ h. absurd (omega (arith, h)) }

pub steps-blank : (s : List ℕ) (p q : ℕ) → p < length s → get_or s p 0 ≡ 0x20 → q ≡ skip is_whitespace s p → q ≡ p + 1 → CopiesOne s p q
steps-blank s p q l b h e = record { from = omega (arith, e); to = omega (arith, e, l); copies = λ k. blank-copies s p q l b h e }

pub steps-wide : (s : List ℕ) (p c n : ℕ) → 0x80 ≤ get_or s p 0 → see s p ≡ Some (c, n) → is_whitespace c ≡ false → CopiesOne s p n
steps-wide s p c n h e w =
    let a = seeing.see-ahead s p c n e in
    record { from = omega (arith, a.0); to = a.1; copies = λ k. wide-copies s p c n h e w }

-- ---- many turns

none : (o : OutOf Part) → more [] o ≡ o
none (ok q xs) = refl
none (again q xs a) = refl
none (bad f) = refl

concat-on : (a b : List (List ℕ)) → concat (a ++ b) ≡ concat a ++ concat b
unfolding concat
concat-on [] b = refl
concat-on (w ∷ a) b = ap (λ (t : List ℕ). w ++ t) (concat-on a b) ∙ sym (append_assoc w (concat a) (concat b))

concat-one : (w : List ℕ) → concat (w ∷ []) ≡ w
unfolding concat
concat-one w = append-nil w

puts-on : (a b : List (List ℕ)) (o : OutOf Part) → more (map put a) (more (map put b) o) ≡ more (map put (a ++ b)) o
puts-on a b o = more-more (map put a) (map put b) o ∙ ap (λ (xs : List Part). more xs o) (sym (map-append put a b))

pub runs_none : (s : List ℕ) (p : ℕ) → CopiesAll s p p
unfolding concat
runs_none s p = record {
  from = omega arith;
  to = omega arith;
  texts = [];
  same = sym (part_none s p);
  leads = λ argument verb d. sym (none (turns argument verb d s p));
}

pub runs_on : (s : List ℕ) (p i r : ℕ) → CopiesAll s p i → i < r → r ≤ length s → Copies s i r → CopiesAll s p r
runs_on s p i r h a l t = record {
  from = omega (arith, h.from, a);
  to = omega (arith, l);
  texts = h.texts ++ (part s i r ∷ []);
  same =
      concat-on h.texts (part s i r ∷ []) ∙ ap (λ (w : List ℕ). w ++ concat (part s i r ∷ [])) h.same
      ∙ ap (λ (w : List ℕ). part s p i ++ w) (concat-one (part s i r)) ∙ sym (part_join s p i r h.from (omega (arith, a)) l);
  leads = λ argument verb d.
      h.leads argument verb d
      ∙ ap (more (map put h.texts)) (leads argument verb d s i r (put (part s i r) ∷ []) d (t argument verb d))
      ∙ puts-on h.texts (part s i r ∷ []) (turns argument verb d s r);
}

-- words behind turns that copied
pub runs-words : (s : List ℕ) (p i r : ℕ) → CopiesAll s p i → WordRun s i r → CopiesAll s p r
runs-words s p i r h w = subst (λ (k : ℕ). CopiesAll s p k) (omega (arith, w.from)) (go (r - i) (omega (arith, w.from)))
  where
    one : (k : ℕ) → i ≤ k → k < r → Copies s k (k + 1)
    one k a b = by (eqb (get_or s k 0) 0x20) refl
      where
        by : (t : Bool) → eqb (get_or s k 0) 0x20 ≡ t → Copies s k (k + 1)
        by true e =
            let n = w.single k a b (eqb-true _ _ e) in
            single-copies s k (omega (arith, n.0, w.to)) (eqb-true _ _ e) (w.simple (k + 1) (omega (arith, a)) n.0) n.1
        by false e = plain-copies s k (omega (arith, a, b, w.to)) (w.simple k a b) (eqb-false _ _ e)

    go : (n : ℕ) → i + n ≤ r → CopiesAll s p (i + n)
    go zero l = subst (CopiesAll s p) (omega arith) h
    go (suc n) l =
        runs_on s p (i + n) (i + suc n) (go n (omega (arith, l))) (omega arith) (omega (arith, l, w.to))
        (subst (Copies s (i + n)) (omega arith) (one (i + n) (omega arith) (omega (arith, l))))

pub wrote_none : (verb : Bool) (s : List ℕ) (p n : ℕ) (o : List ℕ) → Wrote verb s p n o p n o
unfolding concat
wrote_none verb s p n o = record {
  texts = [];
  leads = λ argument d. sym (none (turns argument verb d s p));
  lays = record { end = omega arith; text = sym (append-nil (take n o)) };
}

pub wrote-run : (verb : Bool) (s : List ℕ) (p n : ℕ) (o : List ℕ) (r l : ℕ) (o' : List ℕ) → CopiesAll s p r → Lays n (part s p r) o l o'
    → Wrote verb s p n o r l o'
wrote-run verb s p n o r l o' h y = record {
  texts = h.texts;
  leads = λ argument d. h.leads argument verb d;
  lays = lays-as n (part s p r) (concat h.texts) o l o' (sym h.same) y;
}

pub wrote_on : (verb : Bool) (s : List ℕ) (p n : ℕ) (o : List ℕ) (q k : ℕ) (o₁ : List ℕ) (r l : ℕ) (o₂ : List ℕ) → Wrote verb s p n o q k o₁
    → Wrote verb s q k o₁ r l o₂ → Wrote verb s p n o r l o₂
wrote_on verb s p n o q k o₁ r l o₂ x y = record {
  texts = x.texts ++ y.texts;
  leads = λ argument d.
      x.leads argument d ∙ ap (more (map put x.texts)) (y.leads argument d) ∙ puts-on x.texts y.texts (turns argument verb d s r);
  lays = lays-as n (concat x.texts ++ concat y.texts) (concat (x.texts ++ y.texts)) o l o₂ (sym (concat-on x.texts y.texts))
      (lays-on n (concat x.texts) (concat y.texts) o k o₁ l o₂ x.lays y.lays);
}

-- a run behind turns that wrote text
pub wrote-more : (verb : Bool) (s : List ℕ) (p n : ℕ) (o : List ℕ) (i l : ℕ) (o₁ : List ℕ) (j k : ℕ) (o₂ : List ℕ) → Wrote verb s p n o i l o₁
    → CopiesAll s i j → Lays l (part s i j) o₁ k o₂ → Wrote verb s p n o j k o₂
wrote-more verb s p n o i l o₁ j k o₂ x h y = wrote_on verb s p n o i l o₁ j k o₂ x (wrote-run verb s i l o₁ j k o₂ h y)

pub grows-more : (len p n i l j k : ℕ) → Grows len 0 p n i l → i ≤ j → j ≤ max i len → k + i ≡ l + j → Grows len 0 p n j k
grows-more len p n i l j k g a b e = record {
  at = omega (arith, g.at, a);
  inside = omega (arith, g.inside, b);
  text = omega (arith, g.text, a, e);
}

pub grows-on : (len v w p n q k r l : ℕ) → Grows len v p n q k → Grows len w q k r l → Grows len v p n r l
grows-on len v w p n q k r l x y = record {
  at = omega (arith, x.at, y.at);
  inside = y.inside;
  text = omega (arith, x.text, y.text);
}

-- ---- by what a function answers

pub says-put : (verb : Bool) (s : List ℕ) (p n : ℕ) (o : List ℕ) (r : Result Text Fault) (o' : List ℕ) (q l : ℕ) → r ≡ Ok (text.Put q l) → Wrote verb s p n o q l o'
    → SaysText verb s p n o r o'
says-put verb s p n o r o' q l e h = rw e h

pub grows-put : (len p n : ℕ) (r : Result Text Fault) (q l : ℕ) → r ≡ Ok (text.Put q l) → Grows len 1 p n q l → GrowsText len p n r
grows-put len p n r q l e h = rw e h

-- text that was handed on by `?` and then taken apart
pub put-so : {r : Result Text Fault} {t : Text} {q l : ℕ} → r ≡ Ok t → t ≡ text.Put q l → r ≡ Ok (text.Put q l)
put-so e h = cc

pub put-says : (verb : Bool) (s : List ℕ) (p n : ℕ) (o : List ℕ) {r : Result Text Fault} (o' : List ℕ) {q l : ℕ} → r ≡ Ok (text.Put q l) → SaysText verb s p n o r o'
    → Wrote verb s p n o q l o'
put-says verb s p n o o' e h = rw e at h

pub put-grows : (len p n : ℕ) {r : Result Text Fault} {q l : ℕ} → r ≡ Ok (text.Put q l) → GrowsText len p n r → Grows len 1 p n q l
put-grows len p n e h = rw e at h

pub wrote_as : (verb verb' : Bool) (s : List ℕ) (p n : ℕ) (o : List ℕ) (q l : ℕ) (o' : List ℕ) → verb ≡ verb' → Wrote verb s p n o q l o'
    → Wrote verb' s p n o q l o'
wrote_as verb verb' s p n o q l o' e h = subst (λ (v : Bool). Wrote v s p n o q l o') e h

pub says-as : (verb verb' : Bool) (s : List ℕ) (p n : ℕ) (o : List ℕ) (r : Result Text Fault) (o' : List ℕ) → verb ≡ verb' → SaysText verb s p n o r o'
    → SaysText verb' s p n o r o'
says-as verb verb' s p n o r o' e h = rw e at h
