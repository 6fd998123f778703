-- Laws of spans that lie in a file.
--     spans-more       spans that lie in a file lie in a longer one
--     spans-append     where the spans of two lists of rows lie in a file, so do those of both lists put together
--     spans-moved      the spans of rows moved on by d lie in a file that is longer by d
-- Assumes nothing.
use Prim.Native.Nat.{ℕ, ◌+◌, ◌≤◌}
use native.Mathlib.Omega.{arith}
use mathlib.Core.List.{List, [], ◌∷◌, ◌++◌}
use Rattle.row.specs.Row.{Row, moved}
use Rattle.row.specs.Spans.{SpansIn}

pub spans-more : (n m : ℕ) (rs : List Row) → n ≤ m → SpansIn n rs → SpansIn m rs
unfolding SpansIn
spans-more n m [] h x = tt
spans-more n m (r ∷ rs) h x = (record { order = x.0.order; inside = omega (arith, x.0.inside) }, spans-more n m rs h x.1)

pub spans-append : (n : ℕ) (rs ss : List Row) → SpansIn n rs → SpansIn n ss → SpansIn n (rs ++ ss)
unfolding SpansIn
spans-append n [] ss x y = y
spans-append n (r ∷ rs) ss x y = (x.0, spans-append n rs ss x.1 y)

pub spans-moved : (d n : ℕ) (rs : List Row) → SpansIn n rs → SpansIn (n + d) (moved d rs)
unfolding SpansIn moved
spans-moved d n [] x = tt
spans-moved d n (r ∷ rs) x =
    (record { order = omega (arith, x.0.order); inside = omega (arith, x.0.inside) }, spans-moved d n rs x.1)
