-- Whether rows keep the row rules, and whether damage is among them, when they are put together or moved on.
--     run-append, run-wrong         the rules go over one list and then over the next; once broken, they stay broken
--     free-whole                    where a part of the sequence may begin, the sequence may end
--     rows_append, rows-moved       two lists that keep the rules keep them when put together; rows moved on keep them as before
--     clean-append, clean-moved     two lists put together are clean if both are; rows moved on are clean as before
-- Assumes nothing.
use Prim.Native.Nat.{ℕ}
use native.Mathlib.Omega.{arith}
use mathlib.Core.Path.{◌≡◌, refl, ap, ◌∙◌}
use mathlib.Core.Bool.{Bool, true, false, cond, ◌&&◌, ◌||◌}
use mathlib.Core.List.{List, [], ◌∷◌, ◌++◌}
use lib.Dec.{eqb}
use borrow.Author.Tests.{eqb-true}
use Rattle.row.specs.Row.{Row, moved}
use Rattle.row.specs.Rules.{Await, part, type, key, value, chunk, chunks, cause, wrong, begun, or_chunk, next}
use Rattle.row.specs.Rules.{is_detail, run, whole, is_rows, clean}
use Rattle.row.specs.Ruled.{Free, none, one}

pub run-append : (a : Await) (rs ss : List Row) → run a (rs ++ ss) ≡ run (run a rs) ss
unfolding run
run-append a [] ss = refl
run-append a (r ∷ rs) ss = run-append (cond (is_detail r.kind r.detail) (next a r.kind) wrong) rs ss

pub run-wrong : (rs : List Row) → run wrong rs ≡ wrong
unfolding run next
run-wrong [] = refl
run-wrong (r ∷ rs) = by (is_detail r.kind r.detail) (run-wrong rs)
  where
    by : (b : Bool) → run wrong rs ≡ wrong → run (cond b wrong wrong) rs ≡ wrong
    by true e = e
    by false e = e

pub free-whole : (a : Await) → Free a → whole a ≡ true
free-whole a (none f) = refl
free-whole a (one f) = refl

-- whatever row may come where b is awaited may come where a is awaited
data Covers : Await → Await → Type 0 where
  same : {a : Await} → Covers a a
  free : {a : Await} → Free a → Covers a (part false)
  over : {a : Await} → Covers a wrong

-- every part of the sequence that may begin outside an entry may also begin after a field
begun-covers : (f : Bool) (n : ℕ) → Covers (begun f n) (begun false n)
begun-covers true n = by (eqb n 1) (eqb n 4) refl
  where
    others : Await
    others = cond (eqb n 8) (value false) (cond (eqb n 0) (part false) (cond (eqb n 9) cause wrong))

    with-field : Bool → Bool → Await
    with-field b c = cond b type (cond c (value true) others)

    by : (b c : Bool) → eqb n 4 ≡ c → Covers (with-field b (c && true)) (with-field b (c && false))
    by true c e = same
    by false false e = same
    by false true e = rw (eqb-true n 4 e) over
begun-covers false n = same

chunk-covers : (f : Bool) (n : ℕ) → Covers (or_chunk f (begun f n) n) (begun false n)
chunk-covers f n = by (eqb n 6) (eqb n 7) refl refl
  where
    by : (b c : Bool) → eqb n 6 ≡ b → eqb n 7 ≡ c → Covers (cond (b || c) (chunks f) (begun f n)) (begun false n)
    by true c d e = rw (eqb-true n 6 d) over
    by false true d e = rw (eqb-true n 7 e) over
    by false false d e = begun-covers f n

next-covers : {a b : Await} (n : ℕ) → Covers a b → Covers (next a n) (next b n)
unfolding next
next-covers n same = same
next-covers n (free (none f)) = begun-covers f n
next-covers n (free (one f)) = chunk-covers f n
next-covers n over = over

run-covers : {a b : Await} (rs : List Row) → Covers a b → Covers (run a rs) (run b rs)
unfolding run
run-covers [] c = c
run-covers {a} {b} (r ∷ rs) c =
    run-covers
    {a = cond (is_detail r.kind r.detail) (next a r.kind) wrong}
    {b = cond (is_detail r.kind r.detail) (next b r.kind) wrong}
    rs (by (is_detail r.kind r.detail))
  where
    by : (t : Bool) → Covers (cond t (next a r.kind) wrong) (cond t (next b r.kind) wrong)
    by true = next-covers r.kind c
    by false = over

covers-whole : {a b : Await} → Covers a b → whole b ≡ true → whole a ≡ true
covers-whole same h = h
covers-whole {a} (free x) h = free-whole a x
covers-whole over h = let z : ◌≡◌ {A = ℕ} 0 1 = cc in absurd (omega arith)

whole-free : (a : Await) → whole a ≡ true → Covers a (part false)
whole-free (part f) h = free (none f)
whole-free type h = let z : ◌≡◌ {A = ℕ} 0 1 = cc in absurd (omega arith)
whole-free key h = let z : ◌≡◌ {A = ℕ} 0 1 = cc in absurd (omega arith)
whole-free (value f) h = let z : ◌≡◌ {A = ℕ} 0 1 = cc in absurd (omega arith)
whole-free (chunk f) h = let z : ◌≡◌ {A = ℕ} 0 1 = cc in absurd (omega arith)
whole-free (chunks f) h = free (one f)
whole-free cause h = let z : ◌≡◌ {A = ℕ} 0 1 = cc in absurd (omega arith)
whole-free wrong h = let z : ◌≡◌ {A = ℕ} 0 1 = cc in absurd (omega arith)

pub rows_append : (rs ss : List Row) → is_rows rs ≡ true → is_rows ss ≡ true → is_rows (rs ++ ss) ≡ true
unfolding is_rows
rows_append rs ss h k = rw (run-append (part false) rs ss) (covers-whole (run-covers ss (whole-free (run (part false) rs) h)) k)

clean_step : (b x y : Bool) → cond b false (x && y) ≡ (cond b false x && y)
clean_step true x y = refl
clean_step false x y = refl

pub clean-append : (rs ss : List Row) → clean (rs ++ ss) ≡ (clean rs && clean ss)
unfolding clean
clean-append [] ss = refl
clean-append (r ∷ rs) ss = ap (cond (eqb r.kind 9) false) (clean-append rs ss) ∙ clean_step (eqb r.kind 9) (clean rs) (clean ss)

-- ---- rows moved on

run_moved : (d : ℕ) (a : Await) (rs : List Row) → run a (moved d rs) ≡ run a rs
unfolding run moved
run_moved d a [] = refl
run_moved d a (r ∷ rs) = run_moved d (cond (is_detail r.kind r.detail) (next a r.kind) wrong) rs

pub rows-moved : (d : ℕ) (rs : List Row) → is_rows (moved d rs) ≡ is_rows rs
unfolding is_rows
rows-moved d rs = ap whole (run_moved d (part false) rs)

pub clean-moved : (d : ℕ) (rs : List Row) → clean (moved d rs) ≡ clean rs
unfolding clean moved
clean-moved d [] = refl
clean-moved d (r ∷ rs) = ap (cond (eqb r.kind 9) false) (clean-moved d rs)
