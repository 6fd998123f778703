-- Rows that keep the row rules, with spans that lie in a file of at most 16,777,215 bytes, pack without refusal. So do the rows that strict
-- reading gives, because theorems of `raw` say all this of them.
--     fitting                rows with these properties
--     strictly, readings     the rows of strict reading, by its definition; and by the contract of `read`
-- Assumes nothing.
use Rattle.std.proofs.Common.{Result, Ok, ℕ, ◌*◌, ◌≤◌, arith, ◌≡◌, refl, ap, ◌∙◌, subst, true, List, ◌++◌, length, take, drop, take_at}
use Rattle.row.specs.declared.fault.Fault.{Fault}
use Rattle.row.specs.Row.{Row, flat}
use Rattle.row.specs.Limits.{most_bytes}
use Rattle.row.specs.Rules.{is_rows}
use Rattle.row.specs.Spans.{SpansIn}
use Rattle.raw.specs.Reader.{Out, ok, again, bad}
use Rattle.raw.specs.Read.{strict, reading_out, left_out, Read}
use Rattle.raw.proofs.Strict.{strict-reading}
use Rattle.raw.proofs.Steps.{steps}
use Rattle.row.proofs.Laid.{laid}
use Rattle.pack.specs.Pack.{is_packable, bytes_for, Pack}
use Rattle.pack.proofs.bytes.AcceptedInput.{spans_fit, flat-packable}
use Rattle.pack.proofs.contracts.KnownAnswers.{pack-gives}

pub fitting : (n : ℕ) (rs : List Row) → n ≤ most_bytes → is_rows rs ≡ true → SpansIn n rs → is_packable (flat rs) ≡ true
fitting n rs h k a = flat-packable rs k (spans_fit n h rs a)

pub strictly : (s : List ℕ) (q : ℕ) (rs : List Row) → strict s ≡ ok q rs → is_packable (flat rs) ≡ true
strictly s q rs e =
    fitting (length s) rs (steps.strict-ok s q rs e).0 (strict-reading.accepts s q rs e).rules (steps.strict-spans s q rs e)

-- rows that stand in front of the numbers c
front-packs : (rs : List Row) (c b b' : List ℕ) (r : Result ℕ Fault) → is_packable (flat rs) ≡ true
    → Pack (take (length rs * 4) (flat rs ++ drop (length rs * 4) c)) b r b' → length rs * 7 ≤ length b → r ≡ Ok (length rs * 7)
front-packs rs c b b' r k p h =
    let x = take_at (flat rs) (drop (length rs * 4) c) (length rs * 4) (laid.flat-length rs) in
    let e : bytes_for (length (flat rs)) ≡ length rs * 7 = omega (arith, laid.flat-length rs) in
    (pack-gives (flat rs) b b' r k (omega (arith, e)) (subst (λ (l : List ℕ). Pack l b r b') x p)).0 ∙ ap Ok e

module _ (s c c' : List ℕ) (n : ℕ) (b b' : List ℕ) (r : Result ℕ Fault) (p : Pack (take (n * 4) c') b r b') (h : n * 7 ≤ length b) where
  out-packs : (o : Out) → strict s ≡ o → Ok n ≡ reading_out o (length c) → c' ≡ left_out o c → r ≡ Ok (n * 7)
  out-packs (ok q rs) e f g =
      let t = steps.rows_told q rs c f in
      rw t.0 (front-packs rs c b b' r (strictly s q rs e) (rw (t.0, g ∙ t.2) at p) (rw t.0 at h))
  out-packs (again q rs a) e f g = absurd (strict-reading.decides s q a rs e)
  out-packs (bad x) e f g = cc

pub readings : (s c c' : List ℕ) (n : ℕ) → Read s c (Ok n) c'
    → (b b' : List ℕ) (r : Result ℕ Fault) → Pack (take (n * 4) c') b r b' → n * 7 ≤ length b → r ≡ Ok (n * 7)
readings s c c' n d b b' r p h = out-packs s c c' n b b' r p h (strict s) refl d.answer d.rows
