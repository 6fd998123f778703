-- Rows that keep the row rules have kinds and details of at most 10, so that half a byte holds each.
--     next-large                       a row of a kind above 10 breaks the rules
--     rules-small                      rows that keep the rules have kinds and details of at most 10
-- Assumes nothing.
use Prim.Native.Nat.{ℕ, ◌≤◌, ◌<◌}
use native.Mathlib.Omega.{arith}
use mathlib.Core.Path.{◌≡◌, refl, ap}
use mathlib.Core.Bool.{Bool, true, false, cond, ◌&&◌}
use mathlib.Core.List.{List, [], ◌∷◌}
use lib.Dec.{eqb, leb}
use borrow.Author.Tests.{leb-true, leb-false, eqb-true, ne_eqb}
use Rattle.row.specs.Row.{Row}
use Rattle.row.specs.Rules.{Await, part, type, key, value, chunk, chunks, cause, wrong, is_detail, begun, next, run, whole, is_rows}
use Rattle.row.specs.Ruled.{AllSmall}
use Rattle.row.proofs.rules.Append.{run-wrong}

-- ---- kinds

module _ (n : ℕ) (h : 10 < n) where
  not-it : (k : ℕ) → k ≤ 10 → eqb n k ≡ false
  not-it k l = ne_eqb n k (λ e. omega arith)

  begun-large : (f : Bool) → begun f n ≡ wrong
  begun-large f = rw (not-it 1 (omega arith), not-it 4 (omega arith), not-it 8 (omega arith), not-it 0 (omega arith), not-it 9 (omega arith))

  pub next-large : (a : Await) → next a n ≡ wrong
  unfolding next
  next-large (part f) = begun-large f
  next-large type = rw (not-it 2 (omega arith))
  next-large key = rw (not-it 3 (omega arith))
  next-large (value f) = rw (not-it 5 (omega arith))
  next-large (chunk f) = rw (not-it 6 (omega arith), not-it 7 (omega arith))
  next-large (chunks f) = rw (not-it 6 (omega arith), not-it 7 (omega arith)) (begun-large f)
  next-large cause = rw (not-it 10 (omega arith))
  next-large wrong = refl

-- ---- details

detail-small : (n d : ℕ) → is_detail n d ≡ true → d ≤ 10
detail-small n d = by (eqb n 10)
  where
    on : (b c : Bool) → leb d 10 ≡ c → (b && c) ≡ true → d ≤ 10
    on true true p e = leb-true d 10 p
    on true false p e = let z : ◌≡◌ {A = ℕ} 0 1 = cc in absurd (omega arith)
    on false c p e = let z : ◌≡◌ {A = ℕ} 0 1 = cc in absurd (omega arith)

    by : (b : Bool) → cond b (leb 2 d && leb d 10) (eqb d 0) ≡ true → d ≤ 10
    by true e = on (leb 2 d) (leb d 10) refl e
    by false e = let z = eqb-true d 0 e in omega arith

-- ---- rows

not-wrong : (rs : List Row) → whole (run wrong rs) ≡ true → ⊥
not-wrong rs e = let x = ap whole (run-wrong rs) in let z : ◌≡◌ {A = ℕ} 0 1 = cc in omega arith

kind-small : (a : Await) (n : ℕ) (rs : List Row) → whole (run (next a n) rs) ≡ true → n ≤ 10
kind-small a n rs e = by (leb n 10) refl
  where
    by : (b : Bool) → leb n 10 ≡ b → n ≤ 10
    by true p = leb-true n 10 p
    by false p = absurd (not-wrong rs (rw (next-large n (leb-false n 10 p) a) at e))

pub run_small : (rs : List Row) (a : Await) → whole (run a rs) ≡ true → AllSmall rs
unfolding run AllSmall
run_small [] a e = tt
run_small (r ∷ rs) a e = by (is_detail r.kind r.detail) refl e (run_small rs)
  where
    by : (b : Bool) → is_detail r.kind r.detail ≡ b → whole (run (cond b (next a r.kind) wrong) rs) ≡ true
        → ((a : Await) → whole (run a rs) ≡ true → AllSmall rs) → AllSmall (r ∷ rs)
    by true p e rest = (record { kind = kind-small a r.kind rs e; detail = detail-small r.kind r.detail p }, rest (next a r.kind) e)
    by false p e rest = absurd (not-wrong rs e)

pub rules-small : (rs : List Row) → is_rows rs ≡ true → AllSmall rs
unfolding is_rows
rules-small rs e = run_small rs (part false) e
