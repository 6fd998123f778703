-- The proof of specs/Steps.antt: `steps`. Strict reading asks the length of the text, its UTF-8, and then the grammar.
--     strict-valid, strict-ill, strict-is     strict reading of a text inside the limit, by whether it is UTF-8
--     strict-short, strict-ok     an accepted text is inside the limit, UTF-8, and accepted by the grammar
--     strict-file                 where strict reading does not refuse, it is the grammar's reading
--     strict-bad                  a text inside the limit is refused with 2 or more
--     strict-spans                the spans of an accepted text's rows lie in it
--     rows_told                   what is known where a reading answered rows
-- Assumes nothing.
use Rattle.text.specs.declared.utf8.IllFormed.{IllFormed}
use Rattle.std.proofs.Common.{Ok, Err, Result, ℕ, ◌*◌, ◌/◌, ◌≤◌, arith, ◌≡◌, refl, sym, ap, ◌∙◌, subst, Bool, true, false, cond, List, [], ◌∷◌, ◌++◌, length, drop, leb}
use Rattle.std.proofs.Common.{leb-true, le-leb}
use Rattle.std.specs.Prelude.{⊤}
use Rattle.text.specs.Utf8.{Octets, validity_of}
use Rattle.text.proofs.Rfc3629.{rfc3629}
use Rattle.row.specs.declared.fault.Fault.{Fault}
use Rattle.row.specs.declared.fault.Reason.TheVariants.{TooLong, NotUtf8, NoRoom}
use Rattle.row.specs.Fault.{number_of, fault_at, nowhere}
use Rattle.row.specs.Limits.{most_bytes}
use Rattle.row.specs.Row.{Row, flat}
use Rattle.row.specs.Spans.{SpansIn}
use Rattle.raw.specs.Reader.{Out, ok, again, bad}
use Rattle.raw.specs.Grammar.{file}
use Rattle.raw.specs.Says.{answer_of}
use Rattle.raw.specs.Read.{underlined, checked, strict, reading_out, left_out}
use Rattle.raw.specs.Strict.{Spans}
use Rattle.raw.specs.Steps.{Steps}
use Rattle.raw.proofs.readers.Then.{more-none}
use Rattle.raw.proofs.readers.Loop.{many-turn}
use Rattle.raw.proofs.readers.Scans.{scan-turn-kept}
use Rattle.raw.proofs.readers.Spans.{rising-less}
use Rattle.raw.proofs.grammar.Culprits.{underlined-ok, underlined-bad, refused-of}
use Rattle.raw.proofs.Strict.{strict-by, strict-reading}

-- ---- a text inside the limit

module _ (s : List ℕ) (h : length s ≤ most_bytes) where
  strict-checked : strict s ≡ checked s (validity_of s)
  unfolding strict
  strict-checked = rw (le-leb (length s) most_bytes h)

  pub strict-valid : validity_of s ≡ Ok tt → strict s ≡ underlined s (file s 0)
  strict-valid e = strict-checked ∙ ap (checked s) e

  pub strict-ill : (n : ℕ) → validity_of s ≡ Err (record { at = n }) → strict s ≡ bad (fault_at NotUtf8 n)
  strict-ill n e = strict-checked ∙ ap (checked s) e

  strict-is : Octets s → strict s ≡ underlined s (file s 0)
  strict-is o = strict-valid ((rfc3629.accepts s).1 o)

  strict-bad : (f : Fault) → strict s ≡ bad f → 2 ≤ number_of f.reason
  strict-bad f e = by (validity_of s) (sym strict-checked ∙ e)
    where
      by : (v : Result ⊤ IllFormed) → checked s v ≡ bad f → 2 ≤ number_of f.reason
      by (Ok tt) e =
          let g = underlined-bad s (file s 0) e in
          subst (λ (h : Fault). 2 ≤ number_of h.reason) g.2 (omega (arith, (refused-of s g.0 g.1).least))
      by (Err n) e = let z : fault_at NotUtf8 n.at ≡ f = cc in rw (← z) (omega arith)

-- ---- an accepted text

module _ (s : List ℕ) (q : ℕ) (rs : List Row) where
  strict-short : strict s ≡ ok q rs → length s ≤ most_bytes
  unfolding strict
  strict-short = by (leb (length s) most_bytes) refl
    where
      by : (b : Bool) → leb (length s) most_bytes ≡ b → cond b (checked s (validity_of s)) (bad (nowhere TooLong)) ≡ ok q rs → length s ≤ most_bytes
      by true d e = leb-true (length s) most_bytes d
      by false d e = cc

  strict-ok : strict s ≡ ok q rs → (length s ≤ most_bytes) × Octets s × (file s 0 ≡ ok q rs)
  strict-ok e = let h = strict-short e in let v = read e in (h, v.0, v.1)
    where
      read : strict s ≡ ok q rs → Octets s × (file s 0 ≡ ok q rs)
      read =
          strict-by s (λ o. o ≡ ok q rs → Octets s × (file s 0 ≡ ok q rs)) (λ e. cc)
          (λ n h e. cc) (λ o e. (o, underlined-ok s (file s 0) e))

-- where strict reading does not refuse, it is the grammar's reading
pub strict-file : (s : List ℕ) {p n : ℕ} → Ok (p, n) ≡ answer_of (strict s) 0 → file s 0 ≡ strict s
strict-file s {p} {n} =
    strict-by s (λ o. Ok (p, n) ≡ answer_of o 0 → file s 0 ≡ o) (λ e. cc)
    (λ i h e. cc) (λ o. by (file s 0))
  where
    by : (o : Out) → Ok (p, n) ≡ answer_of (underlined s o) 0 → o ≡ underlined s o
    by (ok q rs) e = refl
    by (again q rs a) e = refl
    by (bad f) e = cc

spans-in : (s : List ℕ) (rs : List Row) → Spans s rs → SpansIn (length s) rs
unfolding Spans SpansIn
spans-in s [] x = tt
spans-in s (r ∷ rs) x = (record { order = x.0.order; inside = x.0.inside }, spans-in s rs x.1)

strict-spans : (s : List ℕ) (q : ℕ) (rs : List Row) → strict s ≡ ok q rs → SpansIn (length s) rs
strict-spans s q rs e = spans-in s rs (strict-reading.accepts s q rs e).spans

-- ---- the lent numbers

-- what is known where rows were answered: how many they are, that there was room, and where they stand
rows_told : (q : ℕ) (rs : List Row) (b : List ℕ) {n : ℕ} → Ok n ≡ reading_out (ok q rs) (length b)
    → (n ≡ length rs) × (length rs ≤ length b / 4) × (left_out (ok q rs) b ≡ flat rs ++ drop (length rs * 4) b)
rows_told q rs b {n} = by (leb (length rs) (length b / 4)) refl
  where
    by : (x : Bool) → leb (length rs) (length b / 4) ≡ x
        → Ok n ≡ cond x (Ok (length rs)) (Err (nowhere NoRoom))
        → (n ≡ length rs) × (length rs ≤ length b / 4) × (left_out (ok q rs) b ≡ flat rs ++ drop (length rs * 4) b)
    by true d e = (cc, leb-true (length rs) (length b / 4) d, rw d)
    by false d e = cc

pub steps : Steps
steps =
    record {
      more-none = more-none;
      scans = λ t. many-turn (scan-turn-kept t) 0;
      strict-is = strict-is;
      strict-ill = strict-ill;
      strict-bad = strict-bad;
      strict-ok = strict-ok;
      strict-spans = strict-spans;
      rising-less = rising-less;
      rows_told = rows_told;
    }
