-- What one reader after another keeps to, and a reader with a row over what it reads.
--     chain-advances, chain-local             a reader and what follows it, which is given as a function of the place
--     then-kept, over-kept, from-kept         two readers; a row over a reader, from its own beginning or from an earlier place
--     more-none, then-on, then-off, bad-is    answers: without rows in front; after a reader whose answer is known; equal refusals
-- Assumes nothing.
use Rattle.std.proofs.Common.{ℕ, ◌+◌, ◌≤◌, max, arith, ◌≡◌, refl, sym, ap, ◌∙◌, subst, List, [], length}
use Rattle.row.specs.declared.fault.Fault.{Fault}
use Rattle.row.specs.Row.{Row, Mark, marked}
use Rattle.raw.specs.Reader.{OutOf, ok, again, bad, ReaderOf, Out, Reader, more, and_then, under, ◌then◌, over, over_from}
use Rattle.raw.specs.Strict.{ShowsSame, Stops}
use Rattle.raw.proofs.readers.Kept.{Advances, Kept}

-- ---- rows in front

pub more-none : {P : Type 0} (o : OutOf P) → more [] o ≡ o
more-none (ok q ss) = refl
more-none (again q ss a) = refl
more-none (bad f) = refl

-- equal answers that refuse have equal refusals
pub bad-is : {P : Type 0} {f g : Fault} → ◌≡◌ {A = OutOf P} (bad f) (bad g) → f ≡ g
bad-is e = cc

-- what follows a reader whose answer is known
module _ {P : Type 0} {o : OutOf P} (g : ℕ → OutOf P) where
  pub then-on : {q : ℕ} → o ≡ ok q [] → and_then o g ≡ g q
  then-on {q} e = ap (λ (x : OutOf P). and_then x g) e ∙ more-none (g q)

  pub then-off : {f : Fault} → o ≡ bad f → and_then o g ≡ bad f
  then-off e = ap (λ (x : OutOf P). and_then x g) e

pub more-stops : {P : Type 0} (rs : List P) (o : OutOf P) (q : ℕ) → Stops (more rs o) q → Stops o q
more-stops rs (ok q' ss) q h = h
more-stops rs (again q' ss a) q h = h
more-stops rs (bad f) q h = h

pub more-advances : {P : Type 0} (v w p n : ℕ) (rs : List P) (o : OutOf P) → Advances v w p n o → Advances v w p n (more rs o)
more-advances v w p n rs (ok q ss) x = x
more-advances v w p n rs (again q ss a) x = x
more-advances v w p n rs (bad f) x = tt

-- ---- from a place further on

-- an answer that advances from q on advances from p on
pub advances-from : {P : Type 0} (v w v' w' w₁ p q n : ℕ) (o : OutOf P) → p + w₁ ≤ q → q ≤ max p n → v' ≤ w₁ + v → w' ≤ w₁ + w
    → Advances v w q n o → Advances v' w' p n o
advances-from v w v' w' w₁ p q n (ok q' ss) a b c d x = omega arith
advances-from v w v' w' w₁ p q n (again q' ss z) a b c d x = omega arith
advances-from v w v' w' w₁ p q n (bad f) a b c d x = tt

-- the least distance from p of an answer that advances
pub least-from : {P : Type 0} (v w p n q : ℕ) (o : OutOf P) → Advances v w p n o → Stops o q → (l m : ℕ) → m ≤ v + l → m ≤ w + l → p + m ≤ q + l
least-from v w p n q (ok q' rs) x e l m a b = omega arith
least-from v w p n q (again q' rs a) x e l m b c = omega arith
least-from v w p n q (bad f) x e l m a b = absurd e

-- ---- f, and then what g answers at the place r where f is done

module _ {P : Type 0} {w₁ m : ℕ} {f : ReaderOf P} (F : Kept w₁ w₁ m f) (s : List ℕ) (p : ℕ) (g : ℕ → OutOf P) where
  module _ (v w v' w' : ℕ) (G : (r : ℕ) → Advances v w r (length s) (g r)) (k : (v' ≤ w₁ + v) × (w' ≤ w₁ + w)) where
    from-advances : (rs : List P) (q : ℕ) → (p + w₁ ≤ q) × (q ≤ max p (length s)) → Advances v' w' p (length s) (more rs (g q))
    from-advances rs q x =
        more-advances v' w' p (length s) rs (g q) (advances-from v w v' w' w₁ p q (length s) (g q) x.0 x.1 k.0 k.1 (G q))

    out-advances : (o : OutOf P) → Advances w₁ w₁ p (length s) o → Advances v' w' p (length s) (and_then o g)
    out-advances (ok q rs) x = from-advances rs q x
    out-advances (again q rs a) x = from-advances rs q x
    out-advances (bad j) x = tt

    pub chain-advances : Advances v' w' p (length s) (and_then (f s p) g)
    chain-advances = out-advances (f s p) (F.advances s p)

  -- where what follows answers the same on t, so do both together
  module _ (v w l : ℕ) (t : List ℕ) (q : ℕ) (h : ℕ → OutOf P)
      (G : (r : ℕ) → Advances v w r (length s) (g r))
      (H : (r : ℕ) → p ≤ r → r ≤ q → Stops (g r) q → h r ≡ g r)
      (i : q ≤ length t) (e : ShowsSame s t p (q + l)) (k : (m ≤ v + l) × (m ≤ w + l)) where
    out-local : (o : OutOf P) (rs : List P) (r : ℕ) → f s p ≡ o → Stops o r → p ≤ r → Stops (more rs (g r)) q
        → (f t p ≡ o) × (more rs (h r) ≡ more rs (g r))
    out-local o rs r d a b c =
        let u : Stops (g r) q = more-stops rs (g r) q c in
        let y : r + m ≤ q + l = least-from v w r (length s) q (g r) (G r) u l m k.0 k.1 in
        let z : r + 0 ≤ q + 0 = least-from v w r (length s) q (g r) (G r) u 0 0 (omega arith) (omega arith) in (
          F.local s t p r (subst (λ (o : OutOf P). Stops o r) (sym d) a) (omega arith) (λ j n o. e j n (omega arith)) ∙ d,
          ap (more rs) (H r b (omega arith) u),
        )

    by_out : (o : OutOf P) → f s p ≡ o → Advances w₁ w₁ p (length s) o → Stops (and_then o g) q → and_then (f t p) h ≡ and_then o g
    by_out (ok r rs) d x c = let y = out-local (ok r rs) rs r d refl (omega arith) c in rw y.0 y.1
    by_out (again r rs a) d x c = let y = out-local (again r rs a) rs r d refl (omega arith) c in rw y.0 y.1
    by_out (bad j) d x c = absurd c

    pub chain-local : Stops (and_then (f s p) g) q → and_then (f t p) h ≡ and_then (f s p) g
    chain-local c = by_out (f s p) refl (F.advances s p) c

-- ---- one after the other

pub then-kept : {P : Type 0} {w₁ m v w l v' w' : ℕ} {f g : ReaderOf P} → Kept w₁ w₁ m f → Kept v w l g
    → (m ≤ v + l) × (m ≤ w + l) × (v' ≤ w₁ + v) × (w' ≤ w₁ + w) → Kept v' w' l (f then g)
then-kept {v = v} {w = w} {l = l} {v' = v'} {w' = w'} {g = g} F G k =
    record {
      advances = λ s p. chain-advances F s p (g s) v w v' w' (G.advances s) (k.2, k.3);
      local = λ s t p q h i e.
          chain-local F s p (g s) v w l t q (g t) (G.advances s) (λ r a b u. G.local s t r q u i (λ j x y. e j (omega arith) y)) i e (k.0, k.1) h;
    }

-- ---- a row over what is read

module _ (mk : ℕ → Row) where
  under-stops : (o : Out) (q : ℕ) → Stops (under mk o) q → Stops o q
  under-stops (ok q' rs) q h = h
  under-stops (again q' rs a) q h = h
  under-stops (bad f) q h = h

  under-advances : (v w p n : ℕ) (o : Out) → Advances v w p n o → Advances v w p n (under mk o)
  under-advances v w p n (ok q rs) x = x
  under-advances v w p n (again q rs a) x = x
  under-advances v w p n (bad f) x = tt

module _ {v w l : ℕ} (m : Mark) {f : Reader} where
  -- from an earlier place
  pub from-kept : (a : ℕ) → Kept v w l f → Kept v w l (over_from m a f)
  from-kept a F =
      record {
        advances = λ s p. under-advances (marked m a) v w p (length s) (f s p) (F.advances s p);
        local = λ s t p q h i e. ap (under (marked m a)) (F.local s t p q (under-stops (marked m a) (f s p) q h) i e);
      }

  -- from where the reader begins
  pub over-kept : Kept v w l f → Kept v w l (over m f)
  over-kept F = record { advances = λ s p. (from-kept p F).advances s p; local = λ s t p q h i e. (from-kept p F).local s t p q h i e }
