-- Pieces begin at the boundaries and nowhere else.
--     begins     a piece behind others begins at a boundary
--     cuts       at each boundary that is not the first byte a piece begins
-- Assumes nothing.
use Rattle.std.proofs.Common.{ℕ, zero, suc, ◌+◌, ◌≤◌, ◌<◌, arith, ◌≡◌, refl, sym, ap, ◌∙◌, subst, subst₂, Bool, true, false, List, [], ◌∷◌, ◌++◌, inl, inr, length}
use Rattle.std.proofs.Common.{length-append, eqb, eqb-true}
use borrow.Author.Tests.{eqb-false}
use Rattle.salvage.specs.Salvage.{Texts, cut}
use Rattle.salvage.specs.Demand3.{joined, Boundary, first, line}
use Rattle.salvage.proofs.cutting.PiecesAppend.{cut-append, joined-cut}
use Rattle.salvage.proofs.cutting.Boundaries.{CutBetween, Front, front, parts, head-opens, cut-boundary, boundary-shift}

-- a boundary of the second text is one of the whole
shift : (a r : List ℕ) {n : ℕ} → Boundary r n → 0 < n → Boundary (a ++ r) (n + length a)
shift a r (first h) l = absurd (omega arith)
shift a r (line e h k) l = subst (Boundary (a ++ r)) (omega arith) (boundary-shift a r e h k)

-- where another piece follows the first, a boundary stands between them
between : (b : ℕ) (xs r w : List ℕ) (vs : Texts) → CutBetween (b ∷ xs) r → cut r ≡ w ∷ vs → Boundary ((b ∷ xs) ++ r) (suc (length xs))
unfolding cut
between b xs r w vs (inr m) e = cut-boundary b xs r m.0 m.1
between b xs r w vs (inl d) e = none (sym (ap cut d) ∙ e)
  where
    none : {X : Type 0} → [] ≡ w ∷ vs → X
    none e = cc

some : (ws : Texts) (w : List ℕ) (vs : Texts) → (u : List ℕ) × (us : Texts) × (ws ++ w ∷ vs ≡ u ∷ us)
some [] w vs = (w, vs, refl)
some (v ∷ ws) w vs = (v, ws ++ w ∷ vs, refl)

pub begins : (n : ℕ) (s : List ℕ) (ws : Texts) (w : List ℕ) (vs : Texts) → length s ≤ n → cut s ≡ ws ++ w ∷ vs
    → 0 < length (joined ws) → Boundary s (length (joined ws))
unfolding joined cut
begins n s [] w vs h e l = absurd (omega arith)
begins n [] (u ∷ ws) w vs h e l = cc
begins zero (b ∷ s) (u ∷ ws) w vs h e l = absurd (omega arith)
begins (suc n) (b ∷ s) (u ∷ ws) w vs h e l = by (eqb (length (joined ws)) 0) refl (begins n f.1 ws w vs shorter rest)
  where
    f : Front b s
    f = front b s

    shorter : length f.1 ≤ n
    shorter = omega (arith, ap length f.2, length-append f.0 f.1)

    equal : (b ∷ f.0) ∷ cut f.1 ≡ u ∷ (ws ++ w ∷ vs)
    equal = sym f.3 ∙ e

    same : b ∷ f.0 ≡ u
    same = cc equal

    rest : cut f.1 ≡ ws ++ w ∷ vs
    rest = cc equal

    size : length (u ++ joined ws) ≡ suc (length f.0) + length (joined ws)
    size = length-append u (joined ws) ∙ ap (λ (l : List ℕ). length l + length (joined ws)) (sym same)

    whole : (b ∷ f.0) ++ f.1 ≡ b ∷ s
    whole = ap (λ (l : List ℕ). b ∷ l) (sym f.2)

    by : (x : Bool) → eqb (length (joined ws)) 0 ≡ x → (0 < length (joined ws) → Boundary f.1 (length (joined ws)))
        → Boundary (b ∷ s) (length (u ++ joined ws))
    by true x ih =
        let o = some ws w vs in
        let q : suc (length f.0) ≡ length (u ++ joined ws) = omega (arith, size, eqb-true (length (joined ws)) 0 x) in
        subst₂ Boundary whole q (between b f.0 f.1 o.0 o.1 f.4 (rest ∙ o.2))
    by false x ih =
        let k : 0 < length (joined ws) = omega (arith, eqb-false (length (joined ws)) 0 x) in
        let q : length (joined ws) + suc (length f.0) ≡ length (u ++ joined ws) = omega (arith, size) in
        subst₂ Boundary whole q (shift (b ∷ f.0) f.1 (ih k) k)

pub cuts : (s : List ℕ) {n : ℕ} → Boundary s n → 0 < n → (ws : Texts) × (vs : Texts) × (cut s ≡ ws ++ vs) × (length (joined ws) ≡ n)
cuts s (first h) l = absurd (omega arith)
cuts s (line e h k) l =
    let p = parts s e h k in
    let a = p.0 ∷ p.1 in
    let e = ap cut p.3 ∙ cut-append a p.2 p.5 (head-opens p.2 p.6) in
    (cut a, cut p.2, e, ap length (joined-cut a) ∙ ap suc p.4)
