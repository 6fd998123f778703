-- What a trace tells of places and rows.
--     rising-less                                     rows that rise from a place on rise from every earlier place on
--     reach-order, reach-inside, reach-boundary       the place that is reached is not before the first, in the text, and a boundary
--     trace-rising, trace-spans, trace-clean          the rows rise, have spans in the text, and none of them is damage
-- Assumes nothing.
use Rattle.std.proofs.Common.{ℕ, ◌≤◌, arith, ◌≡◌, refl, ◌∙◌, subst, true, List, [], ◌∷◌, ◌++◌, append_assoc, append-nil, length}
use Rattle.text.specs.Utf8.{Octets, is_boundary}
use Rattle.text.proofs.Seeing.{seeing}
use Rattle.text.proofs.Boundaries.{boundaries}
use Rattle.row.specs.Row.{Row}
use Rattle.row.specs.Rules.{clean}
use Rattle.row.proofs.Ruled.{ruled}
use Rattle.raw.specs.Strict.{Rising, Spans}
use Rattle.raw.proofs.readers.Trace.{Reach, here, on, Trace, none, eats, joins, lays, trace-reach}

-- ---- rows

pub rising-less : (n m : ℕ) (rs : List Row) → n ≤ m → Rising m rs → Rising n rs
unfolding Rising
rising-less n m [] h x = tt
rising-less n m (r ∷ rs) h x = (omega (arith, x.0), x.1)

spans-append : (s : List ℕ) (rs ss : List Row) → Spans s rs → Spans s ss → Spans s (rs ++ ss)
unfolding Spans
spans-append s [] ss x y = y
spans-append s (r ∷ rs) ss x y = (x.0, spans-append s rs ss x.1 y)

clean-append : (rs ss : List Row) → clean rs ≡ true → clean ss ≡ true → clean (rs ++ ss) ≡ true
clean-append rs ss h k = ruled.clean-append rs ss ∙ rw (h, k)

-- ---- traces

module _ {s : List ℕ} where
  pub reach-order : {p q : ℕ} → Reach s p q → p ≤ q
  reach-order here = omega arith
  reach-order {p} (on {n = n} {c = c} e x) = omega (arith, seeing.see-ahead s p c n e, reach-order x)

  pub reach-inside : {p q : ℕ} → Reach s p q → p ≤ length s → q ≤ length s
  reach-inside here h = h
  reach-inside {p} (on {n = n} {c = c} e x) h = reach-inside x (seeing.see-ahead s p c n e).1

  pub reach-boundary : {p q : ℕ} → Octets s → Reach s p q → is_boundary s p ≡ true → is_boundary s q ≡ true
  reach-boundary o here b = b
  reach-boundary {p} o (on {n = n} {c = c} e x) b = reach-boundary o x (boundaries.sees s p c n o b e).1

  -- a trace to q, and then rows that start from q on
  rising-on : {p q : ℕ} {rs : List Row} (n : ℕ) (ss : List Row) → Trace s p rs q → n ≤ p → Rising q ss → Rising n (rs ++ ss)
  unfolding Rising
  rising-on {p} n ss none h x = rising-less n p ss h x
  rising-on {p} n ss (eats {n = m} {c = c} e t) h x = rising-on n ss t (omega (arith, seeing.see-ahead s p c m e)) x
  rising-on n ss (joins {q = m} {rs = rs} {ss = us} t u) h x =
      rw (append_assoc rs us ss) (rising-on n (us ++ ss) t h (rising-on m ss u (omega arith) x))
  rising-on {p} n ss (lays k d t) h x = (h, rising-on p ss t (omega arith) x)

  pub trace-rising : {p q : ℕ} {rs : List Row} → Trace s p rs q → Rising p rs
  unfolding Rising
  trace-rising {p} {q} {rs} t = subst (Rising p) (append-nil rs) (rising-on p [] t (omega arith) tt)

  pub trace-spans : {p q : ℕ} {rs : List Row} → Octets s → Trace s p rs q → p ≤ length s → is_boundary s p ≡ true → Spans s rs
  unfolding Spans
  trace-spans o none h b = tt
  trace-spans {p} o (eats {n = n} {c = c} e t) h b = trace-spans o t (seeing.see-ahead s p c n e).1 (boundaries.sees s p c n o b e).1
  trace-spans o (joins {rs = rs} {ss = ss} t u) h b =
      let x = trace-reach t in
      spans-append s rs ss (trace-spans o t h b) (trace-spans o u (reach-inside x h) (reach-boundary o x b))
  trace-spans o (lays k d t) h b =
      let x = trace-reach t in
      (record { order = reach-order x; inside = reach-inside x h; starts = b; ends = reach-boundary o x b }, trace-spans o t h b)

  pub trace-clean : {p q : ℕ} {rs : List Row} → Trace s p rs q → clean rs ≡ true
  unfolding clean
  trace-clean none = refl
  trace-clean (eats e t) = trace-clean t
  trace-clean (joins {rs = rs} {ss = ss} t u) = clean-append rs ss (trace-clean t) (trace-clean u)
  trace-clean (lays k d t) = rw d (trace-clean t)
