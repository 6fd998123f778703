-- What each piece gives; and what calls of `salvage` give that are not refused.
--     told-by              what holds of the rows of an accepted text, and of those of damage, holds of the rows of a piece
--     each                 what a piece of a file gives, which stands behind some pieces and before others
--     calls                what salvage gives for two texts, and for both together
-- Assumes nothing.
use Rattle.std.proofs.Common.{Result, Ok, Err, ℕ, ◌+◌, ◌/◌, ◌≤◌, arith, ◌≡◌, refl, sym, ap, ◌∙◌, subst, ◌↔◌, Bool, true, false, cond, List, ◌∷◌, ◌++◌, length, length-append}
use Rattle.std.proofs.Common.{leb, leb-true, le-leb}
use Rattle.text.proofs.general.Tests.{true-not-false}
use Rattle.row.specs.declared.fault.Fault.{Fault}
use Rattle.row.specs.declared.fault.Reason.TheVariants.{TooLong}
use Rattle.row.specs.Fault.{nowhere}
use Rattle.row.specs.Row.{Row, moved}
use Rattle.raw.specs.Reader.{Out, ok, again, bad}
use Rattle.row.specs.Limits.{most_bytes}
use Rattle.raw.specs.Read.{strict, reading_out, left_out}
use Rattle.row.specs.Rules.{clean}
use Rattle.raw.proofs.Strict.{strict-reading}
use Rattle.row.proofs.Laid.{laid}
use Rattle.raw.proofs.Steps.{steps}
use Rattle.salvage.specs.Salvage.{Texts, cut, damaged, told, pieces, salvage_of, salvaged, Salvage}
use Rattle.salvage.specs.Demand3.{lined, fresh, Holds, joined, CauseOf, PieceGives}
use Rattle.salvage.proofs.cutting.PiecesAppend.{joined-cut, joined-append, pieces-append, salvage-append}

-- ---- a piece

-- P holds of the rows of a piece if it holds of those of an accepted text, and of those of damage
module _ (w : List ℕ) (P : List Row → Type 0) where
  pub told-by : ((q : ℕ) (rs : List Row) → strict w ≡ ok q rs → P rs) → ((f : Fault) → strict w ≡ bad f → P (damaged w f)) → P (told w (strict w))
  told-by accepted off = by (strict w) refl
    where
      by : (o : Out) → strict w ≡ o → P (told w o)
      by (ok q rs) e = accepted q rs e
      by (again q rs a) e = absurd (strict-reading.decides w q a rs e)
      by (bad f) e = off f e

told-damaged : (w : List ℕ) → (clean (told w (strict w)) ≡ false) ↔ ((f : Fault) × (strict w ≡ bad f))
unfolding clean
told-damaged w = (
  told-by w (λ rs. clean rs ≡ false → (f : Fault) × (strict w ≡ bad f)) (λ q rs e h. true-not-false _ (strict-reading.accepts w q rs e).undamaged h)
      (λ f e h. (f, e)),
  λ z. rw z.1 refl,
)

module _ (s : List ℕ) (ws : Texts) (w : List ℕ) (vs : Texts) (h : length s ≤ most_bytes) (e : cut s ≡ ws ++ w ∷ vs) where
  piece-rows : salvage_of s ≡ pieces 0 ws ++ (moved (length (joined ws)) (told w (strict w)) ++ pieces (length (joined ws) + length w) vs)
  unfolding salvage_of pieces
  piece-rows =
      let z : 0 + length (joined ws) ≡ length (joined ws) = omega arith in
      rw (e, pieces-append 0 ws (w ∷ vs), z) refl

  piece-length : length w ≤ length s
  unfolding joined
  piece-length =
      let j : joined ws ++ (w ++ joined vs) ≡ s = sym (joined-append ws (w ∷ vs)) ∙ sym (ap joined e) ∙ joined-cut s in
      omega (arith, ap length j, length-append (joined ws) (w ++ joined vs), length-append w (joined vs))

  piece-cause : (f : Fault) → strict w ≡ bad f → CauseOf w f
  piece-cause f d =
      record { least = steps.strict-bad w (omega (arith, piece-length)) f d; refusal = strict-reading.refuses w f d }

  pub each : PieceGives s ws w vs
  each =
      record {
        rows = piece-rows;
        accepted = λ q rs. ap (told w);
        refused = λ f d. (ap (told w) d, piece-cause f d);
        exactly = told-damaged w;
      }

-- ---- calls

module _ (s b b' : List ℕ) (r : Result ℕ Fault) (h : length s ≤ most_bytes) (c : Salvage s b r b') where
  call-is : salvaged s ≡ ok (length s) (salvage_of s)
  unfolding salvaged
  call-is = rw (le-leb (length s) most_bytes h) refl

  -- where there is room, the rows stand in front
  call-holds : length (salvage_of s) ≤ length b / 4 → Holds (salvage_of s) b r b'
  call-holds l =
      let t = le-leb (length (salvage_of s)) (length b / 4) l in
      record {
        answer = c.answer ∙ ap (λ (o : Out). reading_out o (length b)) call-is ∙ rw t refl;
        rows = c.rows ∙ ap (λ (o : Out). left_out o b) call-is ∙ rw t refl;
      }

  -- where rows are answered, there was room
  call-room : (n : ℕ) → r ≡ Ok n → (n ≡ length (salvage_of s)) × (length (salvage_of s) ≤ length b / 4)
  call-room n e =
      let t = steps.rows_told (length s) (salvage_of s) b (sym e ∙ c.answer ∙ ap (λ (o : Out). reading_out o (length b)) call-is) in
      (t.0, t.1)

rows-not-refused : {n : ℕ} {f : Fault} → Ok n ≡ Err f → ⊥
rows-not-refused e = cc

module _ (s b b' : List ℕ) (n : ℕ) where
  -- a file for which rows are answered is not too long
  pub call-short : Salvage s b (Ok n) b' → length s ≤ most_bytes
  unfolding salvaged
  call-short c = by (leb (length s) most_bytes) refl c.answer
    where
      by : (t : Bool) → leb (length s) most_bytes ≡ t →
          Ok n ≡ reading_out (cond t (ok (length s) (salvage_of s)) (bad (nowhere TooLong))) (length b) → length s ≤ most_bytes
      by true e k = leb-true (length s) most_bytes e
      by false e k = absurd (rows-not-refused k)

  -- the rows stand in front of what was lent
  pub call-answered : length s ≤ most_bytes → Salvage s b (Ok n) b' → Holds (salvage_of s) b (Ok n) b'
  call-answered h c = call-holds s b b' (Ok n) h c (call-room s b b' (Ok n) h c n refl).1

module _ (a s x y b x' y' b' : List ℕ) (m n : ℕ) (r : Result ℕ Fault) (h : lined a ≡ true) (k : fresh s ≡ true) (l : length (a ++ s) ≤ most_bytes) where
  pub calls : m + n ≤ length b / 4 → Salvage a x (Ok m) x' → Salvage s y (Ok n) y' → Salvage (a ++ s) b r b'
      → (rs : List Row) × (ss : List Row) × Holds rs x (Ok m) x' × Holds ss y (Ok n) y' × Holds (rs ++ moved (length a) ss) b r b'
  calls f c d e =
      let la : length a ≤ most_bytes = omega (arith, length-append a s) in
      let ls : length s ≤ most_bytes = omega (arith, length-append a s) in
      let i = call-room a x x' (Ok m) la c m refl in
      let j = call-room s y y' (Ok n) ls d n refl in
      let p = salvage-append a s h k in
      let z = length-append (salvage_of a) (moved (length a) (salvage_of s)) in
      let u = laid.moved_length (length a) (salvage_of s) in
      let v : length (salvage_of (a ++ s)) ≤ length b / 4 = rw p (omega (arith, i.0, j.0)) in
      let whole = subst (λ (rs : List Row). Holds rs b r b') p (call-holds (a ++ s) b b' r l e v) in
      (salvage_of a, salvage_of s, call-holds a x x' (Ok m) la c i.1, call-holds s y y' (Ok n) ls d j.1, whole)
