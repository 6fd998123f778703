-- Answers: what follows where two of them are equal.
--     ok_pair_parts     a pair that is answered with `Ok` (of one with `Some` std has `some_pair_parts`)
-- Assumes nothing.
use Rattle.std.proofs.Common.{◌≡◌, ap, Result, Ok}

pub ok_pair_parts : {A B E : Type 0} (a x : A) (b y : B) → ◌≡◌ {A = Result (A × B) E} (Ok (a, b)) (Ok (x, y)) → (a ≡ x) × (b ≡ y)
ok_pair_parts {A} {B} a x b y e = let p : ◌≡◌ {A = A × B} (a, b) (x, y) = cc in (ap (λ (q : A × B). q.0) p, ap (λ (q : A × B). q.1) p)
