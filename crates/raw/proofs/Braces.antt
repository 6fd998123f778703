-- The proof of specs/Braces.antt: `braced-value`. It is proved of the loop of `in_braces` with d braces open already: the loop ends at the
-- first closing brace that outnumbers these and those opened since, or refuses because there is none. What is seen at each place decides.
-- Assumes nothing.
use Rattle.std.proofs.Common.{Option, Some, None, ℕ, zero, suc, ◌+◌, ◌≤◌, ◌<◌, arith, ◌≡◌, refl, sym, ap, ◌∙◌, subst, Bool, true, false, List, [], length, eqb, eqb-true}
use borrow.Author.Tests.{eqb-false}
use Rattle.std.proofs.lemmas.Option.{some_pair_parts}
use Rattle.text.specs.Scan.{see}
use Rattle.text.proofs.Seeing.{seeing}
use Rattle.row.specs.declared.fault.Fault.{Fault}
use Rattle.row.specs.declared.fault.Reason.TheVariants.{UnexpectedEof}
use Rattle.raw.specs.Reader.{Out, ok, again, bad, after, many}
use Rattle.raw.specs.Grammar.{braced_turn, in_braces}
use Rattle.raw.specs.Braces.{Braces, none, pair, opens, closes, other, Outnumbers, First, BracedValue}
use Rattle.raw.proofs.readers.Then.{more-none}
use Rattle.raw.proofs.readers.Loop.{many-turn}
use Rattle.raw.proofs.grammar.Readers.{braced-turn-kept}
use Rattle.raw.proofs.ways.ByteTurns.{slash-on, open-on, close-on, close-stop, braces-cut-off, braces-other}

-- at q stands a closing brace that outnumbers the braces opened since p, and d more
record OutBy (d : ℕ) (s : List ℕ) (p q : ℕ) : Type 0 where
  opened : ℕ
  closed : ℕ
  next : ℕ
  counted : Braces s p q opened closed
  brace : see s q ≡ Some (0x7D, next)
  outnumbers : d + opened ≤ closed

-- ---- what is seen at a place decides

-- what is seen at a place is one thing: not two characters, and not a character and the end
apart : {A : Type 0} {x : Option (ℕ × ℕ)} {a b k n : ℕ} → x ≡ Some (a, k) → x ≡ Some (b, n) → (a ≡ b → ⊥) → A
apart {a = a} {b} {k} {n} e f h = absurd (h (some_pair_parts a b k n (sym e ∙ f)).0)

ended : {A : Type 0} {x : Option (ℕ × ℕ)} {b n : ℕ} → x ≡ None → x ≡ Some (b, n) → A
ended e f = let z = sym e ∙ f in cc

same_place : {x : Option (ℕ × ℕ)} {a b k n : ℕ} → x ≡ Some (a, k) → x ≡ Some (b, n) → n ≡ k
same_place {a = a} {b} {k} {n} e f = (some_pair_parts b a n k (sym f ∙ e)).1

-- braces are counted from a place to one that is not before it
forward : {s : List ℕ} {p q o c : ℕ} → Braces s p q o c → p ≤ q
forward none = omega arith
forward {s} {p} (pair {b = b} {n} {x = x} e f h) =
    let i = seeing.see-ahead s p 0x5C b e in let j = seeing.see-ahead s b x n f in omega (arith, forward h)
forward {s} {p} (opens {n = n} e h) = let i = seeing.see-ahead s p 0x7B n e in omega (arith, forward h)
forward {s} {p} (closes {n = n} e h) = let i = seeing.see-ahead s p 0x7D n e in omega (arith, forward h)
forward {s} {p} (other {n = n} {x = x} e u v w h) = let i = seeing.see-ahead s p x n e in omega (arith, forward h)

-- ---- one step on: the same brace outnumbers from the next place on, by what stands at p

module _ {s : List ℕ} {p : ℕ} where
  -- at the end of the text there is no such brace
  no_end : {q d : ℕ} → see s p ≡ None → OutBy d s p q → ⊥
  no_end {q} z x = by q x.counted x.brace
    where
      by : (q : ℕ) {o c n : ℕ} → Braces s p q o c → see s q ≡ Some (0x7D, n) → ⊥
      by q none b = ended z b
      by q (pair e f h) b = ended z e
      by q (opens e h) b = ended z e
      by q (closes e h) b = ended z e
      by q (other e u v w h) b = ended z e

  -- behind a backslash at the end of the text there is no such brace
  no-pair : {q d b : ℕ} → see s p ≡ Some (0x5C, b) → see s b ≡ None → OutBy d s p q → ⊥
  no-pair {q} {b = b} z y x = by q x.counted x.brace
    where
      by : (q : ℕ) {o c n : ℕ} → Braces s p q o c → see s q ≡ Some (0x7D, n) → ⊥
      by q none k = apart z k (λ i. omega arith)
      by q (pair {b = m} e f h) k = let i : m ≡ b = same_place z e in ended (rw i y) f
      by q (opens e h) k = apart z e (λ i. omega arith)
      by q (closes e h) k = apart z e (λ i. omega arith)
      by q (other e u v w h) k = apart z e (λ i. u (sym i))

  after-pair : {q d b x m : ℕ} → see s p ≡ Some (0x5C, b) → see s b ≡ Some (x, m) → OutBy d s p q → OutBy d s m q
  after-pair {q} {d} {b} {x} {m} z y o = by q o.counted o.brace o.outnumbers
    where
      by : (q : ℕ) {o c n : ℕ} → Braces s p q o c → see s q ≡ Some (0x7D, n) → d + o ≤ c → OutBy d s m q
      by q none k l = apart z k (λ i. omega arith)
      by q (pair {b = b'} {n = n} e f h) k l =
          let i : b' ≡ b = same_place z e in
          let j : n ≡ m = same_place y (rw i at f) in
          record { opened = _; closed = _; next = _; counted = rw j at h; brace = k; outnumbers = l }
      by q (opens e h) k l = apart z e (λ i. omega arith)
      by q (closes e h) k l = apart z e (λ i. omega arith)
      by q (other e u v w h) k l = apart z e (λ i. u (sym i))

  after_open : {q d k : ℕ} → see s p ≡ Some (0x7B, k) → OutBy d s p q → OutBy (suc d) s k q
  after_open {q} {d} {k} z o = by q o.counted o.brace o.outnumbers
    where
      by : (q : ℕ) {o c n : ℕ} → Braces s p q o c → see s q ≡ Some (0x7D, n) → d + o ≤ c → OutBy (suc d) s k q
      by q none y l = apart z y (λ i. omega arith)
      by q (pair e f h) y l = apart z e (λ i. omega arith)
      by q (opens {n = n} e h) y l =
          let j : n ≡ k = same_place z e in
          record { opened = _; closed = _; next = _; counted = rw j at h; brace = y; outnumbers = omega arith }
      by q (closes e h) y l = apart z e (λ i. omega arith)
      by q (other e u v w h) y l = apart z e (λ i. v (sym i))

  after-close : {q d k : ℕ} → see s p ≡ Some (0x7D, k) → OutBy (suc d) s p q → OutBy d s k q
  after-close {q} {d} {k} z o = by q o.counted o.brace o.outnumbers
    where
      by : (q : ℕ) {o c n : ℕ} → Braces s p q o c → see s q ≡ Some (0x7D, n) → suc d + o ≤ c → OutBy d s k q
      by q none y l = absurd (omega arith)
      by q (pair e f h) y l = apart z e (λ i. omega arith)
      by q (opens e h) y l = apart z e (λ i. omega arith)
      by q (closes {n = n} e h) y l =
          let j : n ≡ k = same_place z e in
          record { opened = _; closed = _; next = _; counted = rw j at h; brace = y; outnumbers = omega arith }
      by q (other e u v w h) y l = apart z e (λ i. w (sym i))

  after-other : {q d a k : ℕ} → see s p ≡ Some (a, k) → (a ≡ 0x5C → ⊥) → (a ≡ 0x7B → ⊥) → (a ≡ 0x7D → ⊥) → OutBy d s p q → OutBy d s k q
  after-other {q} {d} {a} {k} z f g h o = by q o.counted o.brace o.outnumbers
    where
      by : (q : ℕ) {o c n : ℕ} → Braces s p q o c → see s q ≡ Some (0x7D, n) → d + o ≤ c → OutBy d s k q
      by q none y l = apart z y h
      by q (pair e i j) y l = apart z e f
      by q (opens e i) y l = apart z e g
      by q (closes e i) y l = apart z e h
      by q (other {n = n} e u v w i) y l =
          let j : n ≡ k = same_place z e in
          record { opened = _; closed = _; next = _; counted = rw j at i; brace = y; outnumbers = l }

-- ---- what the loop answers, with d more braces open

abbrev Answers : ℕ → List ℕ → ℕ → Out → Type 0
Answers d s p (ok q rs) = (rs ≡ []) × OutBy d s p q × ((r : ℕ) → OutBy d s p r → q ≤ r)
Answers d s p (again q rs a) = ⊥
Answers d s p (bad f) = (f.reason ≡ UnexpectedEof) × ((q : ℕ) → OutBy d s p q → ⊥)

-- where the same braces outnumber from p on and from k on, an answer that is right from k on is right from p on
carry : (d e : ℕ) (s : List ℕ) (p k : ℕ) (o : Out) → ((q : ℕ) → OutBy e s k q → OutBy d s p q) → ((q : ℕ) → OutBy d s p q → OutBy e s k q) →
    Answers e s k o → Answers d s p o
carry d e s p k (ok q rs) f g x = (x.0, f q x.1, λ r y. x.2 r (g r y))
carry d e s p k (again q rs a) f g x = x
carry d e s p k (bad j) f g x = (x.0, λ q y. x.1 q (g q y))

module _ (s : List ℕ) where
  abbrev rest : ℕ → ℕ → Out
  rest d p = many braced_turn d s p

  by_turn : (d p : ℕ) {o : Out} → braced_turn d s p ≡ o → rest d p ≡ after o rest
  by_turn d p h = many-turn braced-turn-kept d s p ∙ ap (λ (o : Out). after o rest) h

  on-turn : (d e p k : ℕ) → braced_turn d s p ≡ again k [] e → rest d p ≡ rest e k
  on-turn d e p k h = by_turn d p h ∙ more-none (rest e k)

  -- at the end of the text
  at-end : (d p : ℕ) → see s p ≡ None → Answers d s p (rest d p)
  at-end d p z = subst (Answers d s p) (sym (by_turn d p (braces-cut-off d s p z))) (refl, λ q y. no_end z y)

  module _ (p : ℕ) (go : (e k : ℕ) → p < k → Answers e s k (rest e k)) where
    -- after a turn that goes to k
    by-rest : (d e k : ℕ) → p < k → braced_turn d s p ≡ again k [] e →
        ((q : ℕ) → OutBy e s k q → OutBy d s p q) → ((q : ℕ) → OutBy d s p q → OutBy e s k q) → Answers d s p (rest d p)
    by-rest d e k l h f g = subst (Answers d s p) (sym (on-turn d e p k h)) (carry d e s p k (rest e k) f g (go e k l))

    at-backslash : (d b : ℕ) → see s p ≡ Some (0x5C, b) → Answers d s p (rest d p)
    at-backslash d b z = by (see s b) refl
      where
        by : (x : Option (ℕ × ℕ)) → see s b ≡ x → Answers d s p (rest d p)
        by None y =
            by-rest d d b (seeing.see-ahead s p 0x5C b z).0 (slash-on d s p b z ∙ rw y) (λ q x. absurd (no_end y x)) (λ q x. absurd (no-pair z y x))
        by (Some (x, m)) y =
            let i = seeing.see-ahead s p 0x5C b z in
            let j = seeing.see-ahead s b x m y in
            by-rest d d m (omega arith) (slash-on d s p b z ∙ rw y)
            (λ q o. record { opened = _; closed = _; next = _; counted = pair z y o.counted; brace = o.brace; outnumbers = o.outnumbers })
            (λ q. after-pair z y)

    at-closing : (d k : ℕ) → see s p ≡ Some (0x7D, k) → Answers d s p (rest d p)
    at-closing zero k z =
        subst (Answers zero s p) (sym (by_turn zero p (close-stop zero s p k z refl)))
        (refl, record { opened = _; closed = _; next = k; counted = none; brace = z; outnumbers = omega arith }, λ r y. forward y.counted)
    at-closing (suc d) k z =
        by-rest (suc d) d k (seeing.see-ahead s p 0x7D k z).0 (close-on (suc d) s p k z (λ i. omega arith) ∙ ap (again k []) (omega arith))
        (λ q o. record { opened = _; closed = _; next = _; counted = closes z o.counted; brace = o.brace; outnumbers = omega (arith, o.outnumbers) })
        (λ q. after-close z)

    at-opening : (d k : ℕ) → see s p ≡ Some (0x7B, k) → Answers d s p (rest d p)
    at-opening d k z =
        by-rest d (suc d) k (seeing.see-ahead s p 0x7B k z).0 (open-on d s p k z ∙ ap (again k []) (omega arith))
        (λ q o. record { opened = _; closed = _; next = _; counted = opens z o.counted; brace = o.brace; outnumbers = omega (arith, o.outnumbers) })
        (λ q. after_open z)

    at_other : (d a k : ℕ) → see s p ≡ Some (a, k) → eqb a 0x5C ≡ false → eqb a 0x7B ≡ false → eqb a 0x7D ≡ false → Answers d s p (rest d p)
    at_other d a k z f g h =
        let u = eqb-false a 0x5C f in
        let v = eqb-false a 0x7B g in
        let w = eqb-false a 0x7D h in
        by-rest d d k (seeing.see-ahead s p a k z).0 (braces-other d s p a k z g h f)
        (λ q o. record { opened = _; closed = _; next = _; counted = other z u v w o.counted; brace = o.brace; outnumbers = o.outnumbers })
        (λ q. after-other z u v w)

    at-char : (d a k : ℕ) → see s p ≡ Some (a, k) → Answers d s p (rest d p)
    at-char d a k z = by (eqb a 0x5C) (eqb a 0x7B) (eqb a 0x7D) refl refl refl
      where
        by : (x y w : Bool) → eqb a 0x5C ≡ x → eqb a 0x7B ≡ y → eqb a 0x7D ≡ w → Answers d s p (rest d p)
        by true y w e f g = at-backslash d k (rw (eqb-true a 0x5C e) at z)
        by false true w e f g = at-opening d k (rw (eqb-true a 0x7B f) at z)
        by false false true e f g = at-closing d k (rw (eqb-true a 0x7D g) at z)
        by false false false e f g = at_other d a k z e f g

    at_place : (d : ℕ) → Answers d s p (rest d p)
    at_place d = by (see s p) refl
      where
        by : (x : Option (ℕ × ℕ)) → see s p ≡ x → Answers d s p (rest d p)
        by None z = at-end d p z
        by (Some (a, k)) z = at-char d a k z

  answers : (n d p : ℕ) → length s ≤ p + n → Answers d s p (rest d p)
  answers zero d p h = at-end d p (seeing.see-end s p (omega arith))
  answers (suc n) d p h = at_place p (λ e k l. answers n e k (omega arith)) d

-- ---- the theorem

out : {s : List ℕ} {p q : ℕ} → OutBy 0 s p q → Outnumbers s p q
out x = record { opened = _; closed = _; next = _; counted = x.counted; brace = x.brace; outnumbers = omega (arith, x.outnumbers) }

out-by : {s : List ℕ} {p q : ℕ} → Outnumbers s p q → OutBy 0 s p q
out-by x = record { opened = _; closed = _; next = _; counted = x.counted; brace = x.brace; outnumbers = omega (arith, x.outnumbers) }

module _ (s : List ℕ) (p : ℕ) where
  ends_at : (q : ℕ) (o : Out) → Answers 0 s p o → o ≡ ok q [] → First s p q
  ends_at q o x e = let y = subst (Answers 0 s p) e x in record { here = out y.1; first = λ r z. y.2 r (out-by z) }

  is-end : (q : ℕ) (o : Out) → Answers 0 s p o → First s p q → o ≡ ok q []
  is-end q (ok r rs) x f =
      let l = x.2 q (out-by f.here) in
      let m = f.first r (out x.1) in
      let e : r ≡ q = omega arith in
      rw (x.0, e)
  is-end q (again r rs a) x f = absurd x
  is-end q (bad j) x f = absurd (x.1 q (out-by f.here))

  none-there : (o : Out) → Answers 0 s p o → (f : Fault) × (o ≡ bad f) × (f.reason ≡ UnexpectedEof) → (q : ℕ) → Outnumbers s p q → ⊥
  none-there o x h q y = let z = subst (Answers 0 s p) h.1 x in z.1 q (out-by y)

  is-refused : (o : Out) → Answers 0 s p o → ((q : ℕ) → Outnumbers s p q → ⊥) → (f : Fault) × (o ≡ bad f) × (f.reason ≡ UnexpectedEof)
  is-refused (ok q rs) x h = absurd (h q (out x.1))
  is-refused (again q rs a) x h = absurd x
  is-refused (bad f) x h = (f, refl, x.0)

pub braced-value : BracedValue
unfolding in_braces
braced-value =
    record {
      ends = λ s p q. (λ e. ends_at s p q _ (answers s (length s) 0 p (omega arith)) e, λ f. is-end s p q _ (answers s (length s) 0 p (omega arith)) f);
      refused = λ s p. (none-there s p _ (answers s (length s) 0 p (omega arith)), is-refused s p _ (answers s (length s) 0 p (omega arith)));
    }
