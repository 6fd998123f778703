-- A Normal text, run by run between its line ends.
--     plain-start, plain-on, plain-clear            a run: the empty one, with one octet more, a stretch without bytes below 0x0E
--     stops_at, stops_end, run-once                 how far a run goes, and that it goes no other way
--     Lining, lining, runs, passes, blanks          the loop that writes the text: its invariant, where it begins, and its three turns
--     finished                                      where the loop ends
-- Assumes nothing.
use Rattle.std.proofs.Common.{ℕ, zero, suc, ◌+◌, ◌-◌, ◌≤◌, ◌<◌, arith, ◌≡◌, refl, sym, ap, ap₂, subst, ◌∙◌, Bool, true, false, cond}
use Rattle.std.proofs.Common.{not, ◌&&◌, true≢false, List, [], ◌∷◌, ◌++◌, append_assoc, append-nil}
use Rattle.std.proofs.Common.{length, get_or, take, length-take-le, get_or-take, add-zero, ltb, ne_eqb, ltb-true, ltb-false}
use borrow.Author.Tests.{not-true}
use Rattle.text.specs.Block.{in_set, lines as line_bytes, Clear}
use Rattle.text.proofs.general.Tests.{told-apart, both_true}
use Rattle.text.specs.Scan.{part}
use Rattle.chunk.specs.Format.{Written, written, before, ends_white, is_line_end, lines}
use Rattle.chunk.specs.Inner.{plain, stops}
use Rattle.chunk.specs.Put.{Puts}
use Rattle.text.proofs.general.Parts.{part_none, part-more, part-head, part_join, length_part}
use Rattle.chunk.proofs.texts.Puts.{puts_none, puts-on, puts-as}

-- ---- how far a run goes

plain-snoc : (u : List ℕ) (b : ℕ) → plain u ≡ true → is_line_end b ≡ false → plain (u ++ b ∷ []) ≡ true
unfolding plain
plain-snoc [] b h e = rw e refl
plain-snoc (a ∷ u) b h e = by (is_line_end a) h (λ k. plain-snoc u b k e)
  where
    by : (w : Bool) → (not w && plain u) ≡ true → (plain u ≡ true → plain (u ++ b ∷ []) ≡ true) → (not w && plain (u ++ b ∷ [])) ≡ true
    by true h ih = h
    by false h ih = ih h

pub plain-start : (t : List ℕ) (a : ℕ) → plain (part t a a) ≡ true
unfolding plain
plain-start t a = ap plain (part_none t a)

-- a byte that is not below 0x0E is no line end
high-bytes : (b : ℕ) → in_set line_bytes b ≡ false → is_line_end b ≡ false
unfolding in_set
high-bytes b h = rw (ne_eqb b 0x0A (told-apart (in_set line_bytes) 0x0A refl h), ne_eqb b 0x0D (told-apart (in_set line_bytes) 0x0D refl h))

pub plain-on : (t : List ℕ) (a i : ℕ) → a ≤ i → i < length t → plain (part t a i) ≡ true → is_line_end (get_or t i 0) ≡ false →
    plain (part t a (i + 1)) ≡ true
plain-on t a i l n h e = ap plain (part-more t a i l n) ∙ plain-snoc (part t a i) (get_or t i 0) h e

-- a stretch of the text that ends at e, without a byte below 0x0E
pub plain-clear : (t : List ℕ) (a e : ℕ) {r : ℕ} → a ≤ e → e ≤ length t → Clear line_bytes (take e t) a r →
    (a ≤ r) × (r ≤ e) × (plain (part t a r) ≡ true)
plain-clear t a e {r} h l x =
    (x.from, end, subst (λ (k : ℕ). plain (part t a k) ≡ true) (back x.from) (on (r - a) (omega (arith, end, x.from)) (λ k p q. (x.clear k p (omega arith)).1)))
  where
    end : r ≤ e
    end = omega (arith, x.to, length-take-le e t l)

    back : a ≤ r → a + (r - a) ≡ r
    back h = omega arith

    next : (n : ℕ) → a + n + 1 ≡ a + suc n
    next n = omega arith

    on : (n : ℕ) → a + n ≤ e → ((k : ℕ) → a ≤ k → k < a + n → in_set line_bytes (get_or (take e t) k 0) ≡ false) → plain (part t a (a + n)) ≡ true
    on zero h c = subst (λ (k : ℕ). plain (part t a k) ≡ true) (sym (add-zero a)) (plain-start t a)
    on (suc n) h c =
        let other = high-bytes (get_or (take e t) (a + n) 0) (c (a + n) (omega arith) (omega arith)) in
        let here = sym (ap is_line_end (get_or-take e t (a + n) 0 (omega arith))) ∙ other in
        subst (λ (k : ℕ). plain (part t a k) ≡ true) (next n)
        (plain-on t a (a + n) (omega arith) (omega arith) (on n (omega arith) (λ k p q. c k p (omega arith))) here)

pub stops_at : (t : List ℕ) (i e : ℕ) → i < e → e ≤ length t → is_line_end (get_or t i 0) ≡ true → stops (part t i e) ≡ true
stops_at t i e h l q = ap stops (part-head t i e h l) ∙ q

pub stops_end : (t : List ℕ) (i e : ℕ) → i ≡ e → stops (part t i e) ≡ true
stops_end t i e q = ap stops (ap (λ (n : ℕ). part t n e) q ∙ part_none t e)

-- an octet of a run is no line end
plain-octet : (u : List ℕ) (b : ℕ) (v : List ℕ) → plain (u ++ b ∷ v) ≡ true → is_line_end b ≡ false
unfolding plain
plain-octet [] b v h = not-true (is_line_end b) (both_true (not (is_line_end b)) (plain v) h).0
plain-octet (a ∷ u) b v h = plain-octet u b v (both_true (not (is_line_end a)) (plain (u ++ b ∷ v)) h).1

-- r is where the run ends that begins at a, in the text t up to e
abbrev pub RunEnds : List ℕ → ℕ → ℕ → ℕ → Type 0
RunEnds t a e r = (plain (part t a r) ≡ true) × (stops (part t r e) ≡ true) × (a ≤ r) × (r ≤ e)

module _ (t : List ℕ) (a e : ℕ) (l : e ≤ length t) where
  no-later : {r q : ℕ} → RunEnds t a e r → RunEnds t a e q → r < q → ⊥
  no-later {r} {q} x y h =
      let some = sym (ap stops (part-head t r e (omega (arith, h, y.3)) l)) ∙ x.1 in
      let cut = part_join t a r q x.2 (omega (arith, h)) (omega (arith, l, y.3)) in
      let head = part-head t r q h (omega (arith, l, y.3)) in
      let none = plain-octet (part t a r) (get_or t r 0) (part t (r + 1) q) (sym (ap plain (cut ∙ ap (λ (v : List ℕ). part t a r ++ v) head)) ∙ y.0) in
      true≢false (sym some ∙ none)

  pub run-once : {r q : ℕ} → RunEnds t a e r → RunEnds t a e q → r ≡ q
  run-once {r} {q} x y = by (ltb r q) (ltb q r) refl refl
    where
      by : (u v : Bool) → ltb r q ≡ u → ltb q r ≡ v → r ≡ q
      by true v f g = absurd (no-later x y (ltb-true r q f))
      by false true f g = absurd (no-later y x (ltb-true q r g))
      by false false f g = omega (arith, ltb-false r q f, ltb-false q r g)

-- ---- the definition's turns

pub run : (w : Bool) (v u t : List ℕ) → plain u ≡ true → lines w v (u ++ t) ≡ before u (lines w (v ++ u) t)
unfolding lines plain
run w v [] t h = ap (λ (x : List ℕ). lines w x t) (sym (append-nil v))
run w v (b ∷ u) t h = by (is_line_end b) refl h (λ k. run w (v ++ b ∷ []) u t k)
  where
    by : (e : Bool) → is_line_end b ≡ e → (not e && plain u) ≡ true →
        (plain u ≡ true → lines w (v ++ b ∷ []) (u ++ t) ≡ before u (lines w ((v ++ b ∷ []) ++ u) t)) →
        lines w v (b ∷ u ++ t) ≡ before (b ∷ u) (lines w (v ++ b ∷ u) t)
    by true e h ih = let z : ◌≡◌ {A = ℕ} 0 1 = ap (λ (x : Bool). cond x 1 0) h in absurd (omega (arith, z))
    by false e h ih = rw e (ap (before (b ∷ [])) (ih h ∙ ap (λ (x : List ℕ). before u (lines w x t)) (append_assoc v (b ∷ []) u)))

ends : (w : Bool) (b : ℕ) (u t : List ℕ) → stops t ≡ true → lines w (b ∷ u) t ≡ lines (ends_white (b ∷ u)) [] t
unfolding lines
ends w b u [] h = refl
ends w b u (a ∷ t) h = rw h refl

pub run-turn : (w : Bool) (u t : List ℕ) → 0 < length u → plain u ≡ true → stops t ≡ true → lines w [] (u ++ t) ≡ before u (lines (ends_white u) [] t)
run-turn w [] t l p s = absurd (omega arith)
run-turn w (b ∷ u) t l p s = run w [] (b ∷ u) t p ∙ ap (before (b ∷ u)) (ends w b u t s)

pub end-white : (b : ℕ) (t : List ℕ) → is_line_end b ≡ true → lines true [] (b ∷ t) ≡ lines true [] t
unfolding lines
end-white b t e = rw e refl

pub end-blank : (b : ℕ) (t : List ℕ) → is_line_end b ≡ true → lines false [] (b ∷ t) ≡ before (0x20 ∷ []) (lines true [] t)
unfolding lines
end-blank b t e = rw e refl

-- ---- the loop

-- of the text t from a to e, what comes before i is put over the lent bytes o₀ from n on
pub record Lining (t : List ℕ) (a e : ℕ) (w₀ : Bool) (o₀ : List ℕ) (n : ℕ) (o : List ℕ) (w : Bool) (i j : ℕ) : Type 0 where
  pub text : List ℕ
  pub puts : Puts o₀ n text j o
  pub same : before text (lines w [] (part t i e)) ≡ lines w₀ [] (part t a e)
  pub room : j + a ≤ n + i
  pub first : a ≤ i
  pub inside : i ≤ e
  pub long : length o ≡ length o₀

pub lining : (t : List ℕ) (a e : ℕ) (w : Bool) (o : List ℕ) (n : ℕ) → a ≤ e → Lining t a e w o n o w a n
lining t a e w o n h = record { text = []; puts = puts_none o n; same = refl; room = omega arith; first = omega arith; inside = h; long = refl }

module _ {t : List ℕ} {a e : ℕ} {w₀ : Bool} {o₀ : List ℕ} {n : ℕ} {o : List ℕ} {w : Bool} {i j : ℕ}
    (g : Lining t a e w₀ o₀ n o w i j) (l : e ≤ length t) where
  -- what the loop has written, then v, and then what is left of the definition's text
  on : (v : List ℕ) (x : Written) → before (g.text ++ v) x ≡ before g.text (before v x)
  on v x = ap (λ (y : List ℕ). written y x.white) (append_assoc g.text v x.text)

  -- the turn over a run that ends at k
  pub runs : {k r : ℕ} {o' : List ℕ} {w' : Bool} → i < k → k ≤ e → plain (part t i k) ≡ true → stops (part t k e) ≡ true →
      w' ≡ ends_white (part t i k) → Puts o j (part t i k) r o' → length o' ≡ length o → Lining t a e w₀ o₀ n o' w' k r
  runs {k} h m p s q y z = record {
    text = g.text ++ part t i k;
    puts = puts-on g.puts y;
    same =
        ap (λ (b : Bool). before (g.text ++ part t i k) (lines b [] (part t k e))) q
        ∙ on (part t i k) (lines (ends_white (part t i k)) [] (part t k e))
        ∙ ap (before g.text) (sym (ap (lines w []) (part_join t i k e (omega arith) m l) ∙ run-turn w (part t i k) (part t k e) some p s))
        ∙ g.same;
    room = omega (arith, y.end, g.room, size, h);
    first = omega (arith, g.first, h);
    inside = m;
    long = z ∙ g.long;
  }
    where
      size : length (part t i k) ≡ k - i
      size = length_part t i k (omega arith) (omega (arith, m, l))

      some : 0 < length (part t i k)
      some = omega (arith, size, h)

  module _ (h : i < e) (s : stops (part t i e) ≡ true) where
    opened : part t i e ≡ get_or t i 0 ∷ part t (i + 1) e
    opened = part-head t i e h l

    is-end : is_line_end (get_or t i 0) ≡ true
    is-end = sym (ap stops opened) ∙ s

    -- what the definition says here, where the flag is b
    here : (b : Bool) → w ≡ b → lines w [] (part t i e) ≡ lines b [] (get_or t i 0 ∷ part t (i + 1) e)
    here b q = ap₂ (λ (b : Bool) (x : List ℕ). lines b [] x) q opened

    -- a line end after white space
    pub passes : w ≡ true → Lining t a e w₀ o₀ n o w (i + 1) j
    passes q = record {
      text = g.text;
      puts = g.puts;
      same =
          ap (λ (b : Bool). before g.text (lines b [] (part t (i + 1) e))) q
          ∙ ap (before g.text) (sym (here true q ∙ end-white (get_or t i 0) (part t (i + 1) e) is-end))
          ∙ g.same;
      room = omega (arith, g.room);
      first = omega (arith, g.first);
      inside = omega (arith, h);
      long = g.long;
    }

    -- a line end after anything else
    pub blanks : {r : ℕ} {o' : List ℕ} → w ≡ false → Puts o j (0x20 ∷ []) r o' → length o' ≡ length o → Lining t a e w₀ o₀ n o' true (i + 1) r
    blanks q y z = record {
      text = g.text ++ 0x20 ∷ [];
      puts = puts-on g.puts y;
      same =
          on (0x20 ∷ []) (lines true [] (part t (i + 1) e))
          ∙ ap (before g.text) (sym (here false q ∙ end-blank (get_or t i 0) (part t (i + 1) e) is-end))
          ∙ g.same;
      room = omega (arith, y.end, g.room);
      first = omega (arith, g.first);
      inside = omega (arith, h);
      long = z ∙ g.long;
    }

  finish : e ≤ i → before g.text (written [] w) ≡ lines w₀ [] (part t a e)
  unfolding lines
  finish h = ap (λ (x : List ℕ). before g.text (lines w [] x)) (sym (ap (λ (n : ℕ). part t n e) at-end ∙ part_none t e)) ∙ g.same
    where
      at-end : i ≡ e
      at-end = omega (arith, h, g.inside)

  pub finished : e ≤ i → Puts o₀ n (lines w₀ [] (part t a e)).text j o × (w ≡ (lines w₀ [] (part t a e)).white)
  finished h =
      let q = finish h in
      (puts-as (sym (append-nil g.text) ∙ ap (λ (x : Written). x.text) q) g.puts, ap (λ (x : Written). x.white) q)
