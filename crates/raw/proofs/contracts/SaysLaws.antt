-- Laws of `Says` and `SaysTurn`: the answer and the rows of readers that are put together.
--     says_of, says_at          `Says` of an equal reader, and with an equal answer
--     says_on, says-off         a reader that is done with no row; one that refuses
--     exit, says-exit           what the exit of a `?` answers; of a reader that refuses
--     said-off                  a reader whose answer is a refusal refuses (go on with `then-off` of readers/Then.antt)
--     says-more, says_row       rows that were put in front before: several, and one
--     says-mark                 a row that was put in front before, over a reader without rows
--     says_then                 what follows a reader with rows (after one without: `then-on` of readers/Then.antt)
--     says-under                a row over all that a reader reads, put last
--     turn-of, turn_at, turn-done, turn-again, turn-off, turn-exit, turn_more, turn-then
--                               these laws for one turn of a loop
-- Assumes nothing.
use Rattle.std.proofs.Common.{Result, Ok, Err, Continue, Break, IsErrAnd, ℕ, suc, ◌+◌, ◌≡◌, refl, sym, ap, ◌∙◌, subst, List, [], ◌∷◌, ◌++◌, arith, add-one, length, length-append}
use Rattle.std.proofs.lemmas.Result.{err_from_is_err_and}
use Rattle.row.specs.declared.form.Kind.{Kind}
use Rattle.row.specs.declared.fault.Fault.{Fault}
use Rattle.row.specs.Row.{Row, row, row_up, moved, put_row, overlay}
use Rattle.raw.specs.Reader.{Out, ok, again, bad, more, and_then, under}
use Rattle.raw.specs.Says.{answer_of, Turn, turn_of, RowsLaid, Says, SaysTurn}
use Rattle.text.proofs.general.Answers.{ok_pair_parts}
use Rattle.row.proofs.Laid.{laid}

-- ---- different answers are not equal

next-not-refused : {p m : ℕ} {f : Fault} → ◌≡◌ {A = Result (ℕ × ℕ) Fault} (Ok (p, m)) (Err f) → ⊥
next-not-refused h = cc

-- ---- rows in front

module _ (base : ℕ) (rs : List Row) (n : ℕ) where
  answer-more : (o : Out) → answer_of o (n + length rs) ≡ answer_of (more rs o) n
  answer-more (ok q ss) = ap (λ (n' : ℕ). Ok (q, n')) (omega (arith, length-append rs ss))
  answer-more (again q ss a) = ap (λ (n' : ℕ). Ok (q, n')) (omega (arith, length-append rs ss))
  answer-more (bad f) = refl

  turned_more : (o : Out) → turn_of o (n + length rs) ≡ turn_of (more rs o) n
  turned_more (ok q ss) = ap (λ (n' : ℕ). Ok (Break (q, n'))) (omega (arith, length-append rs ss))
  turned_more (again q ss a) = ap (λ (n' : ℕ). Ok (Continue (q, n'))) (omega (arith, length-append rs ss))
  turned_more (bad f) = refl

  over-more : (ss : List Row) (b : List ℕ) →
      overlay (overlay b n (moved base rs)) (n + length rs) (moved base ss) ≡ overlay b n (moved base (rs ++ ss))
  over-more ss b =
      ap (λ (k : ℕ). overlay (overlay b n (moved base rs)) (n + k) (moved base ss)) (sym (laid.moved_length base rs))
      ∙ sym (laid.overlay-append (moved base rs) (moved base ss) b n)
      ∙ ap (overlay b n) (sym (laid.moved-append base rs ss))

  laid_more : (o : Out) (b b' : List ℕ) → RowsLaid base o (n + length rs) (overlay b n (moved base rs)) b' → RowsLaid base (more rs o) n b b'
  laid_more (ok q ss) b b' h = h ∙ over-more ss b
  laid_more (again q ss a) b b' h = h ∙ over-more ss b
  laid_more (bad f) b b' h = tt

-- the rows rs, of which the first was row n, and then what o puts: from row m on, over the numbers c
module _ {base : ℕ} {o : Out} (rs : List Row) {n m : ℕ} {b c b' : List ℕ} (e : n + length rs ≡ m) (d : overlay b n (moved base rs) ≡ c) where
  pub says-more : {r : Result (ℕ × ℕ) Fault} → Says base o m c r b' → Says base (more rs o) n b r b'
  says-more h =
      let g = rw (← e, ← d) at h in record { told = g.told ∙ answer-more base rs n o; rows = laid_more base rs n o b b' g.rows }

  pub turn_more : {r : Result Turn Fault} → SaysTurn base o m c r b' → SaysTurn base (more rs o) n b r b'
  turn_more h =
      let g = rw (← e, ← d) at h in record { told = g.told ∙ turned_more base rs n o; rows = laid_more base rs n o b b' g.rows }

-- ---- a reader that answered the place q, and m as the number of the next row

-- its rows, whatever comes after it
record Went (base : ℕ) (o : Out) (n : ℕ) (b : List ℕ) (q m : ℕ) (b' : List ℕ) : Type 0 where
  rs : List Row
  next : n + length rs ≡ m
  rows : overlay b n (moved base rs) ≡ b'
  goes : (g : ℕ → Out) → more rs (g q) ≡ and_then o g

module _ {base n : ℕ} {b b' : List ℕ} where
  went-rows : (rs : List Row) (o : Out) {p q m : ℕ} → ◌≡◌ {A = Result (ℕ × ℕ) Fault} (Ok (q, m)) (Ok (p, n + length rs)) → b' ≡ overlay b n (moved base rs) →
      ((g : ℕ → Out) → more rs (g p) ≡ and_then o g) → Went base o n b q m b'
  went-rows rs o {p} {q} {m} t h k =
      let e = ok_pair_parts q p m (n + length rs) t in
      record { rs = rs; next = sym e.1; rows = sym h; goes = λ g. ap (λ (x : ℕ). more rs (g x)) e.0 ∙ k g }

  went : {o : Out} {q m : ℕ} → Says base o n b (Ok (q, m)) b' → Went base o n b q m b'
  went {o = ok p rs} h = went-rows rs (ok p rs) h.told h.rows (λ g. refl)
  went {o = again p rs a} h = went-rows rs (again p rs a) h.told h.rows (λ g. refl)
  went {o = bad f} h = absurd (next-not-refused h.told)

-- ---- equal readers and equal answers

-- what the exit of a `?` answers
pub exit : {X : Type 0} (r : Result X Fault) {f : Fault} → IsErrAnd r (λ g. g ≡ f) → r ≡ Err f
exit r h = let p = err_from_is_err_and r h in p.1 ∙ ap Err p.2

module _ {base n : ℕ} {b b' : List ℕ} where
  module _ {o o' : Out} (e : o ≡ o') where
    pub says_of : {r : Result (ℕ × ℕ) Fault} → Says base o' n b r b' → Says base o n b r b'
    says_of {r} h = subst (λ (x : Out). Says base x n b r b') (sym e) h

    pub turn-of : {r : Result Turn Fault} → SaysTurn base o' n b r b' → SaysTurn base o n b r b'
    turn-of {r} h = subst (λ (x : Out). SaysTurn base x n b r b') (sym e) h

  module _ {o : Out} where
    pub says_at : {r r' : Result (ℕ × ℕ) Fault} → r ≡ r' → Says base o n b r b' → Says base o n b r' b'
    says_at e h = subst (λ (x : Result (ℕ × ℕ) Fault). Says base o n b x b') e h

    pub turn_at : {r r' : Result Turn Fault} → r ≡ r' → SaysTurn base o n b r b' → SaysTurn base o n b r' b'
    turn_at e h = subst (λ (x : Result Turn Fault). SaysTurn base o n b x b') e h

    -- ---- done with no row, or a refusal

    pub says-off : {f : Fault} → o ≡ bad f → Says base o n b (Err f) b'
    says-off {f} e = says_of e (record { told = refl; rows = tt })

    pub turn-off : {f : Fault} → o ≡ bad f → SaysTurn base o n b (Err f) b'
    turn-off {f} e = turn-of e (record { told = refl; rows = tt })

    -- the exit of a `?`, which hands the refusal f on
    pub says-exit : {f : Fault} → o ≡ bad f → (r : Result (ℕ × ℕ) Fault) → IsErrAnd r (λ g. g ≡ f) → Says base o n b r b'
    says-exit e r h = says_at (sym (exit r h)) (says-off e)

    pub turn-exit : {f : Fault} → o ≡ bad f → (r : Result Turn Fault) → IsErrAnd r (λ g. g ≡ f) → SaysTurn base o n b r b'
    turn-exit e r h = turn_at (sym (exit r h)) (turn-off e)

    -- a refusal that was answered
    pub said-off : {f : Fault} → Says base o n b (Err f) b' → o ≡ bad f
    said-off {f} h = was o h.told
      where
        was : (o : Out) → Err f ≡ answer_of o n → o ≡ bad f
        was (ok q rs) t = absurd (next-not-refused (sym t))
        was (again q rs a) t = absurd (next-not-refused (sym t))
        was (bad g) t = let e : g ≡ f = cc in ap bad e

module _ {base n : ℕ} {b : List ℕ} {o : Out} {p : ℕ} where
  pub says_on : o ≡ ok p [] → Says base o n b (Ok (p, n)) b
  unfolding overlay moved
  says_on e = says_of e (record { told = ap (λ (n' : ℕ). Ok (p, n')) (omega arith); rows = refl })

  pub turn-done : o ≡ ok p [] → SaysTurn base o n b (Ok (Break (p, n))) b
  unfolding overlay moved
  turn-done e = turn-of e (record { told = ap (λ (n' : ℕ). Ok (Break (p, n'))) (omega arith); rows = refl })

  pub turn-again : {a : ℕ} → o ≡ again p [] a → SaysTurn base o n b (Ok (Continue (p, n))) b
  unfolding overlay moved
  turn-again e = turn-of e (record { told = ap (λ (n' : ℕ). Ok (Continue (p, n'))) (omega arith); rows = refl })

-- ---- one reader after another

module _ {base : ℕ} {o : Out} (g : ℕ → Out) {n : ℕ} {b : List ℕ} {p m : ℕ} {c b' : List ℕ} (h : Says base o n b (Ok (p, m)) c) where
  pub says_then : {r : Result (ℕ × ℕ) Fault} → Says base (g p) m c r b' → Says base (and_then o g) n b r b'
  says_then k = let w = went h in says_of (sym (w.goes g)) (says-more w.rs w.next w.rows k)

  pub turn-then : {r : Result Turn Fault} → SaysTurn base (g p) m c r b' → SaysTurn base (and_then o g) n b r b'
  turn-then k = let w = went h in turn-of (sym (w.goes g)) (turn_more w.rs w.next w.rows k)

-- ---- a row of the reader's own

-- in front of what follows, and put before it
row_first : (base : ℕ) (k : Kind) (a e n : ℕ) (b : List ℕ) → overlay b n (moved base (row k a e ∷ [])) ≡ put_row b n (row k (base + a) (base + e))
unfolding overlay moved
row_first base k a e n b = ap (put_row b n) (sym (laid.row_up_lem base k a e))

module _ {base : ℕ} (k : Kind) (a e : ℕ) {o : Out} {n : ℕ} {b b' : List ℕ} where
  pub says_row : {r : Result (ℕ × ℕ) Fault} → Says base o (n + 1) (put_row b n (row k (base + a) (base + e))) r b' → Says base (more (row k a e ∷ []) o) n b r b'
  says_row h = says-more (row k a e ∷ []) refl (row_first base k a e n b) h

-- over what a reader without rows read, before what follows
module _ {base : ℕ} (k : Kind) (a : ℕ) {o : Out} (g : ℕ → Out) {q n : ℕ} {b b' : List ℕ} where
  pub says-mark : {r : Result (ℕ × ℕ) Fault} → o ≡ ok q [] → Says base (g q) (n + 1) (put_row b n (row k (base + a) (base + q))) r b' →
      Says base (and_then (under (row k a) o) g) n b r b'
  says-mark e h = says_of (ap (λ (x : Out). and_then (under (row k a) x) g) e) (says_row k a q h)

-- over the whole, put last
module _ {base : ℕ} (k : Kind) (a : ℕ) {n : ℕ} {b c : List ℕ} where
  under-rows : {p q m : ℕ} (rs : List Row) → ◌≡◌ {A = Result (ℕ × ℕ) Fault} (Ok (q, m)) (Ok (p, n + 1 + length rs)) → c ≡ overlay b (n + 1) (moved base rs) →
      Says base (ok p (row k a p ∷ rs)) n b (Ok (q, m)) (put_row c n (row k (base + a) (base + q)))
  unfolding overlay moved
  under-rows {p} {q} {m} rs t h =
      let e = (ok_pair_parts q p m (n + 1 + length rs) t).0 in
      record {
        told = t ∙ ap (λ (n' : ℕ). Ok (p, n')) (omega arith);
        rows = rw (e, laid.row_up_lem base k a p, h, add-one n) (laid.put-overlay (moved base rs) b n (suc n) (row_up base (row k a p)) (omega arith));
      }

  pub says-under : {o : Out} {q m : ℕ} → Says base o (n + 1) b (Ok (q, m)) c →
      Says base (under (row k a) o) n b (Ok (q, m)) (put_row c n (row k (base + a) (base + q)))
  says-under {o = ok p rs} h = under-rows rs h.told h.rows
  says-under {o = again p rs x} h = let u = under-rows rs h.told h.rows in record { told = u.told; rows = u.rows }
  says-under {o = bad f} h = absurd (next-not-refused h.told)
