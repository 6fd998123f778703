-- What every reader keeps to: it goes forward, stays inside the text, and answers the same on a text that shows the same.
-- Of readers that emit parts of any type.
--     Advances, Kept                                    the definitions
--     stop-kept, turn-kept, refuse-kept, put-kept       readers that are not made of others
--     kept-weaker                                       a reader that keeps to some numbers keeps to weaker ones
--     eaten-both, eaten-holds                           what holds of both cases of `eaten` holds of it
--     when-kept, sees-kept                              readers that look at a character
-- Assumes nothing.
use Rattle.std.proofs.Common.{Option, Some, None, ℕ, suc, ◌+◌, ◌≤◌, ◌<◌, max, arith, ◌≡◌, refl, Bool, true, false, cond, List, length}
use Rattle.text.specs.Scan.{see}
use Rattle.text.proofs.Seeing.{seeing}
use Rattle.row.specs.Row.{Mark}
use Rattle.row.specs.declared.fault.Reason.{Reason}
use Rattle.raw.specs.Strict.{ShowsSame, Stops}
use Rattle.raw.specs.Reader.{OutOf, ok, again, bad, ReaderOf, eaten, stop, turn, refuse, put, when, sees}

-- ---- the definitions

-- a reader that began at p went forward by at least w octets (v, where it says `again`), and not past n
abbrev pub Advances : {P : Type 0} → ℕ → ℕ → ℕ → ℕ → OutOf P → Type 0
Advances v w p n (ok q rs) = (p + w ≤ q) × (q ≤ max p n)
Advances v w p n (again q rs a) = (p + v ≤ q) × (q ≤ max p n)
Advances v w p n (bad f) = Unit {0}

-- A reader eats at least w octets (v, where it says `again`), looks at most at the l places after its end, and answers the
-- same on a text that shows the same so far
pub record Kept {P : Type 0} (v w l : ℕ) (f : ReaderOf P) : Type 0 where
  pub advances : (s : List ℕ) (p : ℕ) → Advances v w p (length s) (f s p)
  pub local : (s t : List ℕ) (p q : ℕ) → Stops (f s p) q → q ≤ length t → ShowsSame s t p (q + l) → f t p ≡ f s p

-- ---- readers that are not made of others

module _ {P : Type 0} where
  pub stop-kept : {v l : ℕ} → Kept {P = P} v 0 l stop
  stop-kept = record { advances = λ s p. omega arith; local = λ s t p q h i e. refl }

  pub turn-kept : {w l : ℕ} (a : ℕ) → Kept {P = P} 0 w l (turn a)
  turn-kept a = record { advances = λ s p. omega arith; local = λ s t p q h i e. refl }

  pub refuse-kept : {v w l : ℕ} (reason : Reason) → Kept {P = P} v w l (refuse reason)
  refuse-kept reason = record { advances = λ s p. tt; local = λ s t p q h i e. refl }

pub put-kept : {v l : ℕ} (m : Mark) (a e : ℕ) → Kept v 0 l (put m a e)
put-kept m a e = record { advances = λ s p. omega arith; local = λ s t p q h i e. refl }

-- ---- weaker numbers

advances-less : {P : Type 0} (v w v' w' p n : ℕ) (o : OutOf P) → Advances v w p n o → v' ≤ v → w' ≤ w → Advances v' w' p n o
advances-less v w v' w' p n (ok q rs) x a b = omega arith
advances-less v w v' w' p n (again q rs z) x a b = omega arith
advances-less v w v' w' p n (bad f) x a b = tt

pub kept-weaker : {P : Type 0} {v w l v' w' l' : ℕ} {f : ReaderOf P} → Kept v w l f → (v' ≤ v) × (w' ≤ w) × (l ≤ l') → Kept v' w' l' f
kept-weaker {v = v} {w} {v' = v'} {w'} {f = f} F m =
    record {
      advances = λ s p. advances-less v w v' w' p (length s) (f s p) (F.advances s p) m.0 m.1;
      local = λ s t p q h i e. F.local s t p q h i (λ j a b. e j a (omega arith));
    }

-- ---- by what is seen

-- R holds of `eaten` if it holds in both cases, where a character of class c is seen and where none is
pub eaten-both : {P : Type 0} (R : OutOf P → OutOf P → Type 0) (c : ℕ → Bool) (x : Option (ℕ × ℕ)) (f f' : ℕ → OutOf P) (o o' : OutOf P)
    → ((k n : ℕ) → x ≡ Some (k, n) → R (f n) (f' n)) → R o o'
    → R (eaten c x f o) (eaten c x f' o')
eaten-both R c None f f' o o' h i = i
eaten-both R c (Some (k, n)) f f' o o' h i = by (c k)
  where
    by : (b : Bool) → R (cond b (f n) o) (cond b (f' n) o')
    by true = h k n refl
    by false = i

pub eaten-holds : {P : Type 0} (R : OutOf P → Type 0) (c : ℕ → Bool) (x : Option (ℕ × ℕ)) (f : ℕ → OutOf P) (o : OutOf P)
    → ((k n : ℕ) → x ≡ Some (k, n) → R (f n)) → R o → R (eaten c x f o)
eaten-holds R c x f o h i = eaten-both (λ o o'. R o) c x f f o o h i

-- the least place of an answer that advances
least : {P : Type 0} (v w p n q : ℕ) (o : OutOf P) → Advances v w p n o → Stops o q → (l : ℕ) → 1 ≤ v + l → 1 ≤ w + l → p < q + l
least v w p n q (ok q' rs) x e l a b = omega arith
least v w p n q (again q' rs a) x e l b c = omega arith
least v w p n q (bad f) x e l a b = absurd e

advances-later : {P : Type 0} (v w v' w' p m n : ℕ) (o : OutOf P) → p < m → m ≤ n → v' ≤ suc v → w' ≤ suc w → Advances v w m n o
    → Advances v' w' p n o
advances-later v w v' w' p m n (ok q rs) a b c d x = omega arith
advances-later v w v' w' p m n (again q rs z) a b c d x = omega arith
advances-later v w v' w' p m n (bad f) a b c d x = tt

-- `when c f g`: f goes on behind the character that was eaten, and g at its place. The numbers v, w and l are those of the whole
module _ {P : Type 0} {v w l v₁ w₁ : ℕ} (c : ℕ → Bool) {f g : ReaderOf P} (F : Kept v₁ w₁ l f) (G : Kept v w l g)
    (m : (v ≤ suc v₁) × (w ≤ suc w₁) × (1 ≤ v + l) × (1 ≤ w + l)) where
  when-advances : (s : List ℕ) (p : ℕ) → Advances v w p (length s) (when c f g s p)
  when-advances s p =
      eaten-holds (Advances v w p (length s)) c (see s p) (f s) (g s p)
      (λ k n x. let y = seeing.see-ahead s p k n x in advances-later v₁ w₁ v w p n (length s) (f s n) y.0 y.1 m.0 m.1 (F.advances s n))
      (G.advances s p)

  when-local : (s t : List ℕ) (p q : ℕ) → Stops (when c f g s p) q → q ≤ length t → ShowsSame s t p (q + l) → when c f g t p ≡ when c f g s p
  when-local s t p q h i e =
      let y = least v w p (length s) q (when c f g s p) (when-advances s p) h l m.2 m.3 in
      rw (← e p (omega arith) y)
      (eaten-both (λ o o'. Stops o q → o' ≡ o) c (see s p) (f s) (f t) (g s p) (g t p)
      (λ k n x h. let y = seeing.see-ahead s p k n x in F.local s t n q h i (λ j a b. e j (omega arith) b)) (λ h. G.local s t p q h i e) h)

  pub when-kept : Kept v w l (when c f g)
  when-kept = record { advances = when-advances; local = when-local }

-- `sees c f g`: both f and g go on at the place that was looked at
module _ {P : Type 0} {v w l : ℕ} (c : ℕ → Bool) {f g : ReaderOf P} (F : Kept v w l f) (G : Kept v w l g) (m : (1 ≤ v + l) × (1 ≤ w + l)) where
  sees-advances : (s : List ℕ) (p : ℕ) → Advances v w p (length s) (sees c f g s p)
  sees-advances s p = eaten-holds (Advances v w p (length s)) c (see s p) (λ n. f s p) (g s p) (λ k n x. F.advances s p) (G.advances s p)

  sees-local : (s t : List ℕ) (p q : ℕ) → Stops (sees c f g s p) q → q ≤ length t → ShowsSame s t p (q + l) → sees c f g t p ≡ sees c f g s p
  sees-local s t p q h i e =
      let y = least v w p (length s) q (sees c f g s p) (sees-advances s p) h l m.0 m.1 in
      rw (← e p (omega arith) y)
      (eaten-both (λ o o'. Stops o q → o' ≡ o) c (see s p) (λ n. f s p) (λ n. f t p) (g s p) (g t p)
      (λ k n x h. F.local s t p q h i e) (λ h. G.local s t p q h i e) h)

  pub sees-kept : Kept v w l (sees c f g)
  sees-kept = record { advances = sees-advances; local = sees-local }
