-- How a reader goes through a text: what it reads it eats character by character, and its rows stand over what it ate.
--     Reach, Trace, Refused, Traced       the definitions: by characters from p to q; with these rows; a refusal; an answer
--     reach-on, trace-reach, reach-trace, joined      one way after another
--     eat-traced, back-traced, lay-traced             an answer after a character, or after several; a row over what was read
-- Assumes nothing.
use Rattle.std.proofs.Common.{Some, ℕ, ◌≤◌, ◌≡◌, false, List, [], ◌∷◌, ◌++◌, eqb}
use Rattle.text.specs.Scan.{see}
use Rattle.row.specs.declared.fault.Fault.{Fault}
use Rattle.row.specs.Fault.{number_of}
use Rattle.row.specs.Row.{Row, Mark, marked, kind_of}
use Rattle.raw.specs.Reader.{Out, ok, again, bad, more, and_then, under, after}

-- ---- the definitions

-- by whole characters from p to q
pub data Reach (s : List ℕ) : ℕ → ℕ → Type 0 where
  here : {p : ℕ} → Reach s p p
  on : {p n q c : ℕ} → see s p ≡ Some (c, n) → Reach s n q → Reach s p q

-- by whole characters from p to q with these rows: none is a damage row, and each goes from where its reading began to where it ended
pub data Trace (s : List ℕ) : ℕ → List Row → ℕ → Type 0 where
  none : {p : ℕ} → Trace s p [] p
  eats : {p n q c : ℕ} {rs : List Row} → see s p ≡ Some (c, n) → Trace s n rs q → Trace s p rs q
  joins : {p q r : ℕ} {rs ss : List Row} → Trace s p rs q → Trace s q ss r → Trace s p (rs ++ ss) r
  lays : {p q : ℕ} {rs : List Row} (m : Mark) → eqb (kind_of m.kind) 9 ≡ false → Trace s p rs q → Trace s p (marked m p q ∷ rs) q

-- a refusal by one of the numbers 3 to 10, at an empty place that was reached
pub record Refused (s : List ℕ) (p : ℕ) (f : Fault) : Type 0 where
  pub place : Reach s p f.start
  pub empty : f.end ≡ f.start
  pub least : 3 ≤ number_of f.reason
  pub most : number_of f.reason ≤ 10

abbrev pub Traced : List ℕ → ℕ → Out → Type 0
Traced s p (ok q rs) = Trace s p rs q
Traced s p (again q rs a) = Trace s p rs q
Traced s p (bad f) = Refused s p f

-- ---- laws

module _ {s : List ℕ} where
  pub reach-on : {p q r : ℕ} → Reach s p q → Reach s q r → Reach s p r
  reach-on here y = y
  reach-on (on e x) y = on e (reach-on x y)

  pub trace-reach : {p q : ℕ} {rs : List Row} → Trace s p rs q → Reach s p q
  trace-reach none = here
  trace-reach (eats e t) = on e (trace-reach t)
  trace-reach (joins t u) = reach-on (trace-reach t) (trace-reach u)
  trace-reach (lays k d t) = trace-reach t

  pub reach-trace : {p q : ℕ} → Reach s p q → Trace s p [] q
  reach-trace here = none
  reach-trace (on e x) = eats e (reach-trace x)

  refused-from : {p q : ℕ} {f : Fault} → Reach s p q → Refused s q f → Refused s p f
  refused-from x r = record { place = reach-on x r.place; empty = r.empty; least = r.least; most = r.most }

  pub joined : {p q : ℕ} {rs : List Row} (o : Out) → Trace s p rs q → Traced s q o → Traced s p (more rs o)
  joined (ok r ss) t u = joins t u
  joined (again r ss a) t u = joins t u
  joined (bad f) t u = refused-from (trace-reach t) u

module _ (s : List ℕ) (p : ℕ) where
  pub eat-traced : (c n : ℕ) (o : Out) → see s p ≡ Some (c, n) → Traced s n o → Traced s p o
  eat-traced c n (ok q rs) e t = eats e t
  eat-traced c n (again q rs a) e t = eats e t
  eat-traced c n (bad f) e t = refused-from (on e here) t

  -- from an earlier place
  pub back-traced : (q : ℕ) (o : Out) → Reach s p q → Traced s q o → Traced s p o
  back-traced q (ok r rs) x t = joins (reach-trace x) t
  back-traced q (again r rs a) x t = joins (reach-trace x) t
  back-traced q (bad f) x t = refused-from x t

  pub chain-traced : (o : Out) (g : ℕ → Out) → Traced s p o → ((q : ℕ) → Traced s q (g q)) → Traced s p (and_then o g)
  chain-traced (ok q rs) g t G = joined (g q) t (G q)
  chain-traced (again q rs a) g t G = joined (g q) t (G q)
  chain-traced (bad f) g t G = t

  pub after-traced : (o : Out) (g : ℕ → ℕ → Out) → Traced s p o → ((b q : ℕ) → Traced s q (g b q)) → Traced s p (after o g)
  after-traced (ok q rs) g t G = t
  after-traced (again q rs a) g t G = joined (g a q) t (G a q)
  after-traced (bad f) g t G = t

  pub lay-traced : (m : Mark) (o : Out) → eqb (kind_of m.kind) 9 ≡ false → Traced s p o → Traced s p (under (marked m p) o)
  lay-traced m (ok q rs) d t = lays m d t
  lay-traced m (again q rs a) d t = lays m d t
  lay-traced m (bad f) d t = t
