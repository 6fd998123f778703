-- Loops: more fuel than enough changes nothing, and a loop keeps to what its turns keep to.
--     loop-fuel                  any two amounts of fuel that last to the end of the text give the same answer, refusals included
--     loop-more                  any amount of fuel that lasts to the place of the answer gives the same answer
--     many-turn                  a loop is its first turn and then the loop, so that other laws need not speak of fuel; `advancing-turn` requires
--                                less of the turns
--     many-kept, loop-traced     a loop keeps to what its turns keep to, and its rows stand over what it ate
-- Assumes nothing.
use Rattle.std.proofs.Common.{ℕ, zero, suc, ◌+◌, ◌≤◌, ◌<◌, arith, ◌≡◌, refl, sym, ap, ◌∙◌, subst, List, length}
use Rattle.raw.specs.Reader.{OutOf, ok, again, bad, ReaderOf, Reader, more, after, loop, many}
use Rattle.raw.proofs.readers.Trace.{here, Traced, after-traced}
use Rattle.raw.specs.Strict.{ShowsSame, Stops}
use Rattle.raw.proofs.readers.Kept.{Advances, Kept}
use Rattle.raw.proofs.readers.Then.{more-stops, more-advances, advances-from, least-from}

-- the rest of a loop with the fuel n
abbrev on : {P : Type 0} → (ℕ → ReaderOf P) → ℕ → List ℕ → ℕ → ℕ → OutOf P
on f n s = λ b q. loop f n b s q

-- every turn that says `again` has gone forward, and not past the end
module _ {P : Type 0} (w : ℕ) (f : ℕ → ReaderOf P) (F : (a : ℕ) (s : List ℕ) (p : ℕ) → Advances 1 w p (length s) (f a s p)) where
  fuel-after : (s : List ℕ) (p n m : ℕ) (o : OutOf P) → Advances 1 w p (length s) o → length s ≤ p + n → length s ≤ p + m
      → ((b q : ℕ) → p < q → q ≤ length s → loop f n b s q ≡ loop f m b s q) → after o (on f n s) ≡ after o (on f m s)
  fuel-after s p n m (ok q rs) x h k ih = refl
  fuel-after s p n m (again q rs a) x h k ih = ap (more rs) (ih a q (omega arith) (omega arith))
  fuel-after s p n m (bad j) x h k ih = refl

  advancing-fuel : (n m a : ℕ) (s : List ℕ) (p : ℕ) → length s ≤ p + n → length s ≤ p + m → loop f (suc n) a s p ≡ loop f (suc m) a s p
  unfolding loop
  advancing-fuel zero zero a s p h k = refl
  advancing-fuel zero (suc m) a s p h k = fuel-after s p zero (suc m) (f a s p) (F a s p) h k (λ b q x y. absurd (omega arith))
  advancing-fuel (suc n) zero a s p h k = fuel-after s p (suc n) zero (f a s p) (F a s p) h k (λ b q x y. absurd (omega arith))
  advancing-fuel (suc n) (suc m) a s p h k =
      fuel-after s p (suc n) (suc m) (f a s p) (F a s p) h k (λ b q x y. advancing-fuel n m b s q (omega arith) (omega arith))

  turn-after : (s : List ℕ) (p n : ℕ) (o : OutOf P) → length s ≡ n → Advances 1 w p (length s) o
      → after o (on f n s) ≡ after o (on f (suc n) s)
  turn-after s p n (ok q rs) e x = refl
  turn-after s p zero (again q rs a) e x = absurd (omega arith)
  turn-after s p (suc n) (again q rs a) e x = ap (more rs) (advancing-fuel n (suc n) a s q (omega arith) (omega arith))
  turn-after s p n (bad j) e x = refl

  pub advancing-turn : (a : ℕ) (s : List ℕ) (p : ℕ) → many f a s p ≡ after (f a s p) (λ b q. many f b s q)
  unfolding many loop
  advancing-turn a s p = turn-after s p (length s) (f a s p) refl (F a s p)

-- turns that also answer the same on a text that shows the same
module _ {P : Type 0} {w l : ℕ} {f : ℕ → ReaderOf P} (F : (a : ℕ) → Kept 1 w l (f a)) where
  pub loop-fuel : (n m a : ℕ) (s : List ℕ) (p : ℕ) → length s ≤ p + n → length s ≤ p + m → loop f (suc n) a s p ≡ loop f (suc m) a s p
  loop-fuel = advancing-fuel w f (λ a. (F a).advances)

  pub many-turn : (a : ℕ) (s : List ℕ) (p : ℕ) → many f a s p ≡ after (f a s p) (λ b q. many f b s q)
  many-turn = advancing-turn w f (λ a. (F a).advances)

  advances-after : (v : ℕ) (s : List ℕ) (p n : ℕ) (o : OutOf P) → Advances 1 w p (length s) o
      → ((b q : ℕ) → Advances v w q (length s) (loop f n b s q)) → Advances v w p (length s) (after o (on f n s))
  advances-after v s p n (ok q rs) x ih = x
  advances-after v s p n (again q rs a) x ih =
      more-advances v w p (length s) rs (loop f n a s q)
      (advances-from v w v w 0 p q (length s) (loop f n a s q) (omega arith) (omega arith) (omega arith) (omega arith) (ih a q))
  advances-after v s p n (bad j) x ih = tt

  loop-advances : (v n a : ℕ) (s : List ℕ) (p : ℕ) → Advances v w p (length s) (loop f n a s p)
  unfolding loop
  loop-advances v zero a s p = tt
  loop-advances v (suc n) a s p = advances-after v s p n (f a s p) ((F a).advances s p) (λ b q. loop-advances v n b s q)

  more-after : (s : List ℕ) (p n m r : ℕ) (o : OutOf P) → Advances 1 w p (length s) o → Stops (after o (on f n s)) r → r < p + suc m
      → ((b q : ℕ) → Stops (loop f n b s q) r → r < q + m → loop f m b s q ≡ loop f n b s q) → after o (on f m s) ≡ after o (on f n s)
  more-after s p n m r (ok q rs) x h k ih = refl
  more-after s p n m r (again q rs a) x h k ih = ap (more rs) (ih a q (more-stops rs (loop f n a s q) r h) (omega arith))
  more-after s p n m r (bad j) x h k ih = refl

  pub loop-more : (n m a : ℕ) (s : List ℕ) (p r : ℕ) → Stops (loop f n a s p) r → r < p + m → loop f m a s p ≡ loop f n a s p
  unfolding loop
  loop-more zero m a s p r h k = absurd h
  loop-more (suc n) zero a s p r h k =
      let z = least-from 0 w p (length s) r (loop f (suc n) a s p) (loop-advances 0 (suc n) a s p) h 0 0 (omega arith) (omega arith) in
      absurd (omega arith)
  loop-more (suc n) (suc m) a s p r h k = more-after s p n m r (f a s p) ((F a).advances s p) h k (λ b q. loop-more n m b s q r)

  module _ (s t : List ℕ) (r : ℕ) (i : r ≤ length t) where
    -- one turn answers the same on t
    turn-local : (p q a : ℕ) (o : OutOf P) → f a s p ≡ o → Stops o q → q ≤ r → ShowsSame s t p (r + l) → f a t p ≡ o
    turn-local p q a o d x y e = (F a).local s t p q (subst (λ (o : OutOf P). Stops o q) (sym d) x) (omega arith) (λ j u z. e j u (omega arith)) ∙ d

    local-after : (p n a : ℕ) (o : OutOf P) → f a s p ≡ o → Advances 1 w p (length s) o → Stops (after o (on f n s)) r → ShowsSame s t p (r + l)
        → ((b q : ℕ) → Stops (loop f n b s q) r → ShowsSame s t q (r + l) → loop f n b t q ≡ loop f n b s q)
        → after (f a t p) (on f n t) ≡ after o (on f n s)
    local-after p n a (ok q rs) d x h e ih = rw (turn-local p q a (ok q rs) d refl (omega arith) e) refl
    local-after p n a (again q rs b) d x h e ih =
        let h' = more-stops rs (loop f n b s q) r h in
        let y = least-from 0 w q (length s) r (loop f n b s q) (loop-advances 0 n b s q) h' 0 0 (omega arith) (omega arith) in
        rw (turn-local p q a (again q rs b) d refl (omega arith) e) (ap (more rs) (ih b q h' (λ j u z. e j (omega arith) z)))
    local-after p n a (bad k) d x h e ih = absurd h

    loop-local : (n a p : ℕ) → Stops (loop f n a s p) r → ShowsSame s t p (r + l) → loop f n a t p ≡ loop f n a s p
    unfolding loop
    loop-local zero a p h e = absurd h
    loop-local (suc n) a p h e = local-after p n a (f a s p) refl ((F a).advances s p) h e (loop-local n)

  many-local : (a : ℕ) (s t : List ℕ) (p q : ℕ) → Stops (many f a s p) q → q ≤ length t → ShowsSame s t p (q + l) → many f a t p ≡ many f a s p
  unfolding many
  many-local a s t p q h i e =
      let k = loop-local s t q i (suc (length s)) a p h e in
      loop-more (suc (length s)) (suc (length t)) a t p q (subst (λ (o : OutOf P). Stops o q) (sym k) h) (omega arith) ∙ k

  pub many-kept : {v : ℕ} (a : ℕ) → Kept v w l (many f a)
  unfolding many
  many-kept {v} a = record { advances = λ s p. loop-advances v (suc (length s)) a s p; local = many-local a }

-- ---- the rows of a loop

pub loop-traced : (f : ℕ → Reader) → ((a : ℕ) (s : List ℕ) (p : ℕ) → Traced s p (f a s p)) → (s : List ℕ) (n a p : ℕ) → Traced s p (loop f n a s p)
unfolding loop
loop-traced f F s zero a p = record { place = here; empty = refl; least = omega arith; most = omega arith }
loop-traced f F s (suc n) a p = after-traced s p (f a s p) (λ b q. loop f n b s q) (F a s p) (loop-traced f F s n)
