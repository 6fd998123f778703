-- A chunk's text formatted in place: for src/settle.rt.
--     Moving, moved, stays_at                  `shift`: what is moved down, and what still stands behind it
--     Lining, lining, runs, passes, blanks     the loop of `lines`: its invariant, where it begins, and its three turns
--     finished, finished-white                 where the loop ends
--     settle-normal, settle-verbatim           the two ways through `settle`
-- Assumes nothing.
use Rattle.std.proofs.Common.{ℕ, zero, suc, ◌+◌, ◌-◌, ◌≤◌, ◌<◌, min, arith, ◌≡◌, refl, sym, ap, ap₂, subst, ◌∙◌, Bool}
use Rattle.std.proofs.Common.{true, false, List, [], ◌∷◌, ◌++◌, append_assoc, append-nil, length}
use Rattle.std.proofs.Common.{get_or, take, drop, set, length-set, take-suc-set, drop-set-lt, get_or-drop, drop-drop}
use Rattle.text.specs.Scan.{part}
use Rattle.chunk.specs.Format.{Written, written, before, ends_white, lines, is_line_end, format_one}
use Rattle.chunk.specs.Inner.{plain, stops}
use Rattle.text.proofs.general.Parts.{part_none, part-more, part-head, part_join, length_part}
use Rattle.chunk.proofs.texts.LineEnds.{run-turn, end-white, end-blank}
use Rattle.command.specs.Stack.{Lays, default_chunk}
use Rattle.command.proofs.stacks.LaysLaws.{lays-as, lays-on, lays-still, pushed}

-- ---- what still stands as it was lent

part_of : (o o₀ : List ℕ) (i e : ℕ) → length o ≡ length o₀ → drop i o ≡ drop i o₀ → part o i e ≡ part o₀ i e
part_of o o₀ i e l d = ap₂ (λ (n : ℕ) (t : List ℕ). take (min e n - i) t) l d

drop_more : (o o₀ : List ℕ) (i k : ℕ) → i ≤ k → drop i o ≡ drop i o₀ → drop k o ≡ drop k o₀
drop_more o o₀ i k h d = ap (λ (n : ℕ). drop n o) (sum i k h) ∙ sym (drop-drop (k - i) i o) ∙ ap (drop (k - i)) d ∙ drop-drop (k - i) i o₀
    ∙ ap (λ (n : ℕ). drop n o₀) (sym (sum i k h))
  where
    sum : (i k : ℕ) → i ≤ k → k ≡ i + (k - i)
    sum i k h = omega arith

-- ---- `shift`

-- of the bytes from a on, the first k are moved down to `at`

pub record Moving (o₀ : List ℕ) (a at : ℕ) (o : List ℕ) (k : ℕ) : Type 0 where
  pub text : take (at + k) o ≡ take at o₀ ++ part o₀ a (a + k)
  pub rest : drop (a + k) o ≡ drop (a + k) o₀
  pub long : length o ≡ length o₀

pub moved : (o₀ : List ℕ) (a at : ℕ) (o : List ℕ) (k : ℕ) → Moving o₀ a at o k → at ≤ a → a + k < length o₀
    → Moving o₀ a at (set o (at + k) (get_or o (a + k) 0)) (k + 1)
moved o₀ a at o k g h l =
    let b = get_or o (a + k) 0 in record {
      text =
          ap (λ (n : ℕ). take n (set o (at + k) b)) (sym (next at)) ∙ take-suc-set o (at + k) b (omega (arith, g.long, h, l))
          ∙ ap (λ (t : List ℕ). t ++ (b ∷ [])) g.text
          ∙ append_assoc (take at o₀) (part o₀ a (a + k)) (b ∷ []) ∙ ap (λ (c : ℕ). take at o₀ ++ (part o₀ a (a + k) ++ (c ∷ []))) byte
          ∙ ap (λ (t : List ℕ). take at o₀ ++ t) (sym (part-more o₀ a (a + k) (omega arith) l) ∙ ap (part o₀ a) (sym (over a)));
      rest = drop-set-lt (a + (k + 1)) o (at + k) b (omega (arith, h)) ∙ drop_more o o₀ (a + k) (a + (k + 1)) (omega arith) g.rest;
      long = length-set o (at + k) b ∙ g.long;
    }
  where
    next : (i : ℕ) → suc (i + k) ≡ i + (k + 1)
    next i = omega arith

    over : (i : ℕ) → i + (k + 1) ≡ i + k + 1
    over i = omega arith

    zeroed : (i : ℕ) → i ≡ i + 0
    zeroed i = omega arith

    byte : get_or o (a + k) 0 ≡ get_or o₀ (a + k) 0
    byte =
        let i = a + k in
        ap (λ (n : ℕ). get_or o n 0) (zeroed i) ∙ sym (get_or-drop i o 0 0) ∙ ap (λ (t : List ℕ). get_or t 0 0) g.rest ∙ get_or-drop i o₀ 0 0
        ∙ ap (λ (n : ℕ). get_or o₀ n 0) (sym (zeroed i))

pub stays_at : (o : List ℕ) (a e at : ℕ) → at ≡ a → a ≤ e → e ≤ length o → Lays at (part o a e) o e o
stays_at o a e at q h l = subst (λ (n : ℕ). Lays n (part o a e) o e o) (sym q) (lays-still o a e h l)

-- ---- `lines`

-- of the text from a to e, what comes before i is written, and the rest stands as it was lent
pub record Lining (o₀ : List ℕ) (a e : ℕ) (w₀ : Bool) (o : List ℕ) (w : Bool) (i j : ℕ) : Type 0 where
  pub text : List ℕ
  pub lays : Lays a text o₀ j o
  pub same : before text (lines w [] (part o₀ i e)) ≡ lines w₀ [] (part o₀ a e)
  pub rest : drop i o ≡ drop i o₀
  pub long : length o ≡ length o₀
  pub behind : j ≤ i
  pub first : a ≤ i
  pub inside : i ≤ e

pub lining : (o : List ℕ) (a e : ℕ) (w : Bool) → a ≤ e → Lining o a e w o w a a
lining o a e w h = record {
  text = [];
  lays = record { end = omega arith; text = sym (append-nil (take a o)) };
  same = refl;
  rest = refl;
  long = refl;
  behind = omega arith;
  first = omega arith;
  inside = h;
}

module _ (o₀ : List ℕ) (a e : ℕ) (w₀ : Bool) (o : List ℕ) (w : Bool) (i j : ℕ) (g : Lining o₀ a e w₀ o w i j) (eo : e ≤ length o₀) where
  here : (n : ℕ) → part o i n ≡ part o₀ i n
  here n = part_of o o₀ i n g.long g.rest

  -- after a run that ends at n and is moved down to j
  pub runs : (n r : ℕ) (o' : List ℕ) (w' : Bool) → i < n → n ≤ e → plain (part o i n) ≡ true → stops (part o n e) ≡ true → w' ≡ ends_white (part o i n)
      → Lays j (part o i n) o r o' → drop n o' ≡ drop n o → length o' ≡ length o → Lining o₀ a e w₀ o' w' n r
  runs n r o' w' l m p s q y d z = record {
    text = g.text ++ part o i n;
    lays = lays-on a g.text (part o i n) o₀ j o r o' g.lays y;
    same = ap₂ (λ (x : List ℕ) (b : Bool). before (g.text ++ x) (lines b [] (part o₀ n e))) (here n) (q ∙ ap ends_white (here n))
        ∙ ap (λ (x : List ℕ). written x (lines (ends_white (part o₀ i n)) [] (part o₀ n e)).white)
        (append_assoc g.text (part o₀ i n) (lines (ends_white (part o₀ i n)) [] (part o₀ n e)).text)
        ∙ ap (before g.text) (sym (ap (lines w []) (part_join o₀ i n e (omega arith) m eo)
        ∙ run-turn w (part o₀ i n) (part o₀ n e) some (sym (ap plain (here n)) ∙ p) (sym (ap stops later) ∙ s)))
        ∙ g.same;
    rest = d ∙ drop_more o o₀ i n (omega arith) g.rest;
    long = z ∙ g.long;
    behind = omega (arith, y.end, g.behind, length_part o i n (omega arith) (omega (arith, m, eo, g.long)));
    first = omega (arith, g.first, l);
    inside = m;
  }
    where
      some : 0 < length (part o₀ i n)
      some = omega (arith, length_part o₀ i n (omega arith) (omega (arith, m, eo)), l)

      later : part o n e ≡ part o₀ n e
      later = part_of o o₀ n e g.long (drop_more o o₀ i n (omega arith) g.rest)

  module _ (l : i < e) (s : stops (part o i e) ≡ true) where
    opened : part o₀ i e ≡ get_or o₀ i 0 ∷ part o₀ (i + 1) e
    opened = part-head o₀ i e l eo

    is-end : is_line_end (get_or o₀ i 0) ≡ true
    is-end = sym (ap stops (here e ∙ opened)) ∙ s

    pub passes : w ≡ true → Lining o₀ a e w₀ o w (i + 1) j
    passes q = record {
      text = g.text;
      lays = g.lays;
      same = ap (λ (b : Bool). before g.text (lines b [] (part o₀ (i + 1) e))) q
          ∙ ap (before g.text) (sym (ap₂ (λ (b : Bool) (x : List ℕ). lines b [] x) q opened ∙ end-white (get_or o₀ i 0) (part o₀ (i + 1) e) is-end))
          ∙ g.same;
      rest = drop_more o o₀ i (i + 1) (omega arith) g.rest;
      long = g.long;
      behind = omega (arith, g.behind);
      first = omega (arith, g.first);
      inside = omega (arith, l);
    }

    pub blanks : w ≡ false → Lining o₀ a e w₀ (set o j 32) true (i + 1) (j + 1)
    blanks q = record {
      text = g.text ++ 0x20 ∷ [];
      lays = lays-on a g.text (0x20 ∷ []) o₀ j o (j + 1) (set o j 32) g.lays (pushed o j 32 (omega (arith, g.behind, l, eo, g.long)));
      same = ap (λ (x : List ℕ). written x (lines true [] (part o₀ (i + 1) e)).white)
          (append_assoc g.text (0x20 ∷ []) (lines true [] (part o₀ (i + 1) e)).text)
          ∙ ap (before g.text) (sym (ap₂ (λ (b : Bool) (x : List ℕ). lines b [] x) q opened ∙ end-blank (get_or o₀ i 0) (part o₀ (i + 1) e) is-end))
          ∙ g.same;
      rest = drop-set-lt (i + 1) o j 32 (omega (arith, g.behind)) ∙ drop_more o o₀ i (i + 1) (omega arith) g.rest;
      long = length-set o j 32 ∙ g.long;
      behind = omega (arith, g.behind);
      first = omega (arith, g.first);
      inside = omega (arith, l);
    }

  finish : e ≤ i → before g.text (written [] w) ≡ lines w₀ [] (part o₀ a e)
  unfolding lines
  finish h = ap (λ (t : List ℕ). before g.text (lines w [] t)) (sym (ap (λ (n : ℕ). part o₀ n e) at-end ∙ part_none o₀ e)) ∙ g.same
    where
      at-end : i ≡ e
      at-end = omega (arith, h, g.inside)

  pub finished : e ≤ i → Lays a (lines w₀ [] (part o₀ a e)).text o₀ j o
  finished h = lays-as a g.text _ o₀ j o (sym (append-nil g.text) ∙ ap (λ (x : Written). x.text) (finish h)) g.lays

  pub finished-white : e ≤ i → w ≡ (lines w₀ [] (part o₀ a e)).white
  finished-white h = ap (λ (x : Written). x.white) (finish h)

-- ---- `settle`

pub settle-normal : (k : ℕ) (w : Bool) (t : List ℕ) → k ≡ 0 → lines w [] t ≡ format_one w (default_chunk k) t
settle-normal k w t q = sym (ap (λ (n : ℕ). format_one w (default_chunk n) t) q)

pub settle-verbatim : (k : ℕ) (w : Bool) (t : List ℕ) → (k ≡ 0 → ⊥) → written t (ends_white t) ≡ format_one w (default_chunk k) t
settle-verbatim zero w t h = absurd (h refl)
settle-verbatim (suc k) w t h = refl
