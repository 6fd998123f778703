-- Where a scan of a class of characters ends.
--     Halts, NoneOver                            what is seen stops the scan; no character reaches over a place
--     Scanned                                    the scan ends at the first place that stops it
--     scan-found, scan-stays                     every scan ends; one that is stopped at once eats nothing
--     white-found, white-scanned, white-stays    these laws for white space
--     ok-place                                   equal answers have equal places
-- Assumes nothing.
use Rattle.std.proofs.Common.{Option, Some, None, ℕ, zero, suc, ◌+◌, ◌≤◌, ◌<◌, arith, ◌≡◌, refl, sym, ap, ◌∙◌, subst, Bool, true, false, List, [], length}
use Rattle.text.specs.Class.{is_whitespace}
use Rattle.text.specs.Scan.{see}
use Rattle.text.proofs.Seeing.{seeing}
use Rattle.text.proofs.general.Tests.{true-not-false}
use Rattle.row.specs.Row.{Row}
use Rattle.raw.specs.Reader.{ok, more, after, eaten, stop, turn, many, scan_turn, scan}
use Rattle.raw.specs.Grammar.{white}
use Rattle.raw.proofs.Steps.{steps}

-- a scan of class t stops here
abbrev pub Halts : (ℕ → Bool) → Option (ℕ × ℕ) → Type 0
Halts t None = Unit {0}
Halts t (Some (c, n)) = t c ≡ false

-- no character of the text reaches over the place j
abbrev pub NoneOver : List ℕ → ℕ → Type 0
NoneOver s j = (i c n : ℕ) → see s i ≡ Some (c, n) → i < j → n ≤ j

-- the scan ends at a place that stops it, and before or at every such place that no character reaches over
pub record Scanned (t : ℕ → Bool) (s : List ℕ) (p q : ℕ) : Type 0 where
  pub found : scan {P = Row} t s p ≡ ok q []
  pub from : p ≤ q
  pub halts : Halts t (see s q)
  pub least : (j : ℕ) → p ≤ j → NoneOver s j → Halts t (see s j) → q ≤ j

pub ok-place : {q r : ℕ} {rs ss : List Row} → ok q rs ≡ ok r ss → q ≡ r
ok-place e = cc

module _ (t : ℕ → Bool) (s : List ℕ) where
  scan-turned : (p : ℕ) → scan {P = Row} t s p ≡ after (eaten t (see s p) (turn 0 s) (stop s p)) (λ b q. many (scan_turn t) b s q)
  scan-turned p = steps.scans t s p

  -- a scan that is stopped at once eats nothing
  pub scan-stays : (p : ℕ) → Halts t (see s p) → scan {P = Row} t s p ≡ ok p []
  scan-stays p h = scan-turned p ∙ go (see s p) h
    where
      go : (x : Option (ℕ × ℕ)) → Halts t x → after {P = Row} (eaten t x (turn 0 s) (stop s p)) (λ b q. many (scan_turn t) b s q) ≡ ok p []
      go None h = refl
      go (Some (c, m)) h = rw h refl

  stayed : (p : ℕ) → Halts t (see s p) → (q : ℕ) × Scanned t s p q
  stayed p h = (p, record { found = scan-stays p h; from = omega arith; halts = h; least = λ j a l x. a })

  -- where the character at p is of the class, the scan goes past it
  module _ (p c m : ℕ) (d : see s p ≡ Some (c, m)) (k : t c ≡ true) where
    beyond : (j : ℕ) → p ≤ j → NoneOver s j → Halts t (see s j) → m ≤ j
    beyond j a l h =
        let ne : p ≡ j → ⊥ = λ e. true-not-false _ k (subst (Halts t) (ap (see s) (sym e) ∙ d) h) in
        l p c m d (omega arith)

    passed : (q : ℕ) × Scanned t s m q → (q : ℕ) × Scanned t s p q
    passed z =
        let i = seeing.see-ahead s p c m d in
        let y : Scanned t s m z.0 = z.1 in
        let e₁ = scan-turned p in
        let e₂ : scan {P = Row} t s p ≡ more [] (scan t s m) = rw (d, k) at e₁ in (
          z.0,
          record {
            found = e₂ ∙ ap (more []) y.found;
            from = omega (arith, y.from);
            halts = y.halts;
            least = λ j a l h. y.least j (beyond j a l h) l h;
          },
        )

  scan_step : (p : ℕ) → ((m : ℕ) → p < m → m ≤ length s → (q : ℕ) × Scanned t s m q) → (q : ℕ) × Scanned t s p q
  scan_step p ih = go (see s p) refl
    where
      go : (x : Option (ℕ × ℕ)) → see s p ≡ x → (q : ℕ) × Scanned t s p q
      go None d = stayed p (rw d tt)
      go (Some (c, m)) d = by (t c) refl
        where
          by : (b : Bool) → t c ≡ b → (q : ℕ) × Scanned t s p q
          by false k = stayed p (rw d k)
          by true k = let i = seeing.see-ahead s p c m d in passed p c m d k (ih m i.0 i.1)

  scan-by : (n p : ℕ) → length s ≤ p + n → (q : ℕ) × Scanned t s p q
  scan-by zero p h = scan_step p (λ m a b. absurd (omega arith))
  scan-by (suc n) p h = scan_step p (λ m a b. scan-by n m (omega arith))

  pub scan-found : (p : ℕ) → (q : ℕ) × Scanned t s p q
  scan-found p = scan-by (length s) p (omega arith)

-- ---- white space

module _ (s : List ℕ) (p : ℕ) where
  pub white-found : (q : ℕ) → Scanned is_whitespace s p q → white s p ≡ ok q []
  unfolding white
  white-found q y = y.found

  pub white-scanned : (q : ℕ) → white s p ≡ ok q [] → Scanned is_whitespace s p q
  unfolding white
  white-scanned q e =
      let z = scan-found is_whitespace s p in
      let y : Scanned is_whitespace s p z.0 = z.1 in
      let x : z.0 ≡ q = ok-place (sym y.found ∙ e) in
      subst (Scanned is_whitespace s p) x y

  pub white-stays : Halts is_whitespace (see s p) → white s p ≡ ok p []
  unfolding white
  white-stays h = scan-stays is_whitespace s p h
