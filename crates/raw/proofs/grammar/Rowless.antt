-- Readers without rows: the code answers a `Step` for them, and these laws recover what the reader answers.
--     Rowless                       an answer that is done with no row, or a refusal
--     rowless-at, rowless-off       the answer, by the step that the code answered
--     rowless                       a reader that has the laws from any point has such an answer
--     x-rowless                     the readers for which the code answers a step
-- Assumes nothing.
use Rattle.std.proofs.Common.{Ok, Err, ℕ, ◌≡◌, refl, sym, ap, subst, List, [], ◌++◌, append-nil, append_assoc}
use Rattle.row.specs.declared.fault.Fault.{Fault}
use Rattle.raw.specs.Reader.{Out, ok, again, bad, Reader}
use Rattle.raw.specs.Says.{step_of}
use Rattle.row.specs.Row.{Row}
use Rattle.raw.proofs.readers.Points.{Order, Point, at, RouteOut, done, goes, refuses}
use Rattle.raw.specs.Grammar.{comma, at_sign, opening, closing, quote, equals, comment, key, ident, quoted, number, in_braces, string, lead}
use Rattle.raw.proofs.grammar.Laws.{Laws}
use Rattle.raw.proofs.grammar.Readers.{comment-laws, key_laws, ident-laws, comma-laws, at-sign-laws, opening-laws, closing-laws, quote-laws}
use Rattle.raw.proofs.grammar.Readers.{equals-laws, quoted-laws, number-laws, in-braces-laws, string-laws, lead-laws}

pub data Rowless : Out → Type 0 where
  rowless-ok : {q : ℕ} → Rowless (ok q [])
  rowless-bad : {f : Fault} → Rowless (bad f)

-- ---- by the step that the code answered

pub rowless-at : {o : Out} {q : ℕ} → Rowless o → Ok q ≡ step_of o → o ≡ ok q []
rowless-at {q = q} (rowless-ok {q = p}) e = let d : p ≡ q = cc in ap (λ (x : ℕ). ok x []) d
rowless-at rowless-bad e = cc

pub rowless-off : (o : Out) {f : Fault} → Err f ≡ step_of o → o ≡ bad f
rowless-off (ok p rs) e = cc
rowless-off (again p rs a) e = cc
rowless-off (bad g) e = cc

-- ---- a reader without rows

-- an order that remembers all rows: a reader that leads from no row to no row has put none
abbrev pub listed : Order Row
listed = record { State = List Row; run = λ rs ss. rs ++ ss; run_none = append-nil; run-append = λ rs ss us. sym (append_assoc rs ss us) }

-- a point before which no row was put; and one that is never reached
abbrev pub unrowed : ℕ → ℕ → Point listed
unrowed e n = at e n (λ rs. rs ≡ [])

abbrev pub never : Point listed
never = at 0 0 (λ rs. ⊥)

rowless-route : {e n p : ℕ} {o : Out} → RouteOut (unrowed 0 0) never (unrowed e n) p o → Rowless o
rowless-route (done {q} x) = subst (λ (rs : List Row). Rowless (ok q rs)) (sym (x.follows [] refl)) rowless-ok
rowless-route (goes x) = absurd (x.follows [] refl)
rowless-route refuses = rowless-bad

-- a reader that has the laws from any point puts no row, and is no turn of a loop
pub rowless : {e n : ℕ} {f : Reader} → Laws (unrowed 0 0) never (unrowed e n) f → (s : List ℕ) (p : ℕ) → Rowless (f s p)
rowless F s p = rowless-route (F.core.route s p)

module _ (s : List ℕ) (i : ℕ) where
  pub comment-rowless : Rowless (comment s i)
  comment-rowless = rowless comment-laws s i

  pub key-rowless : Rowless (key s i)
  key-rowless = rowless key_laws s i

  pub ident-rowless : Rowless (ident s i)
  ident-rowless = rowless ident-laws s i

  pub comma-rowless : Rowless (comma s i)
  comma-rowless = rowless comma-laws s i

  pub at-sign-rowless : Rowless (at_sign s i)
  at-sign-rowless = rowless at-sign-laws s i

  pub opening-rowless : Rowless (opening s i)
  opening-rowless = rowless opening-laws s i

  pub closing-rowless : Rowless (closing s i)
  closing-rowless = rowless closing-laws s i

  pub quote-rowless : Rowless (quote s i)
  quote-rowless = rowless quote-laws s i

  pub equals-rowless : Rowless (equals s i)
  equals-rowless = rowless equals-laws s i

  pub quoted-rowless : Rowless (quoted s i)
  quoted-rowless = rowless quoted-laws s i

  pub number-rowless : Rowless (number s i)
  number-rowless = rowless number-laws s i

  pub in-braces-rowless : Rowless (in_braces s i)
  in-braces-rowless = rowless in-braces-laws s i

  pub string-rowless : Rowless (string s i)
  string-rowless = rowless string-laws s i

  pub lead-rowless : Rowless (lead s i)
  lead-rowless = rowless lead-laws s i
