-- The order of the rows that salvage gives.
--     pieces-rules      the rows keep the row rules
--     pieces-spans      their spans lie in the file
--     pieces-rising     their starts never fall
-- Assumes nothing.
use Rattle.std.proofs.Common.{ℕ, ◌+◌, ◌≤◌, arith, ◌≡◌, refl, ◌∙◌, true, List, [], ◌∷◌, ◌++◌, length, length-append, le-leb}
use Rattle.row.specs.declared.fault.Fault.{Fault}
use Rattle.row.specs.Fault.{number_of}
use Rattle.row.specs.Row.{Row, moved}
use Rattle.row.specs.Spans.{SpanIn, SpansIn}
use Rattle.row.specs.Limits.{most_bytes}
use Rattle.raw.specs.Read.{strict}
use Rattle.row.specs.Rules.{is_rows, run, next}
use Rattle.raw.specs.Strict.{Rising}
use Rattle.raw.proofs.Steps.{steps}
use Rattle.raw.proofs.Strict.{strict-reading}
use Rattle.row.proofs.Laid.{laid}
use Rattle.row.proofs.Ruled.{ruled}
use Rattle.salvage.specs.Salvage.{Texts, cause, damaged, told, pieces}
use Rattle.salvage.specs.Demand3.{joined}
use Rattle.salvage.proofs.rows.EachPiece.{told-by}

-- ---- the row rules

damaged-rules : (w : List ℕ) (f : Fault) → 2 ≤ number_of f.reason → number_of f.reason ≤ 10 → is_rows (damaged w f) ≡ true
unfolding is_rows run next
damaged-rules w f h k = rw (le-leb 2 (number_of f.reason) h, le-leb (number_of f.reason) 10 k) refl

told-rules : (w : List ℕ) → length w ≤ most_bytes → is_rows (told w (strict w)) ≡ true
told-rules w h =
    told-by w (λ rs. is_rows rs ≡ true) (λ q rs e. (strict-reading.accepts w q rs e).rules)
    (λ f e. damaged-rules w f (steps.strict-bad w h f e) (strict-reading.refuses w f e).number.1)

pub pieces-rules : (p : ℕ) (ws : Texts) → length (joined ws) ≤ most_bytes → is_rows (pieces p ws) ≡ true
unfolding pieces joined is_rows run
pieces-rules p [] h = refl
pieces-rules p (w ∷ ws) h =
    let l = length-append w (joined ws) in
    let rs = told w (strict w) in
    ruled.rows_append (moved p rs) (pieces (p + length w) ws) (ruled.rows-moved p rs ∙ told-rules w (omega arith))
    (pieces-rules (p + length w) ws (omega arith))

-- ---- spans

told-spans : (w : List ℕ) → SpansIn (length w) (told w (strict w))
unfolding SpansIn
told-spans w =
    told-by w (SpansIn (length w)) (steps.strict-spans w)
    (λ f e.
    let r = strict-reading.refuses w f e in
    let c : SpanIn (length w) (cause f) = record { order = r.place.0; inside = r.place.1 } in
    (record { order = omega arith; inside = omega arith }, (c, tt)))

pub pieces-spans : (p : ℕ) (ws : Texts) → SpansIn (p + length (joined ws)) (pieces p ws)
unfolding pieces joined SpansIn
pieces-spans p [] = tt
pieces-spans p (w ∷ ws) =
    let l = length-append w (joined ws) in
    let n = p + length (w ++ joined ws) in
    let rs = told w (strict w) in
    laid.spans-append n (moved p rs) (pieces (p + length w) ws)
    (laid.spans-more (length w + p) n (moved p rs) (omega arith) (laid.spans-moved p (length w) rs (told-spans w)))
    (laid.spans-more (p + length w + length (joined ws)) n (pieces (p + length w) ws) (omega arith) (pieces-spans (p + length w) ws))

-- ---- starts

rising-moved : (d n : ℕ) (rs : List Row) → Rising n rs → Rising (n + d) (moved d rs)
unfolding Rising moved
rising-moved d n [] x = tt
rising-moved d n (r ∷ rs) x = (omega (arith, x.0), rising-moved d r.start rs x.1)

-- rows that end at m or before, and then rows that start at m or after
rising-append : (n m : ℕ) (rs ss : List Row) → n ≤ m → Rising n rs → SpansIn m rs → Rising m ss → Rising n (rs ++ ss)
unfolding Rising SpansIn
rising-append n m [] ss h x y z = steps.rising-less n m ss h z
rising-append n m (r ∷ rs) ss h x y z =
    (x.0, rising-append r.start m rs ss (omega (arith, y.0.order, y.0.inside)) x.1 y.1 z)

told-rising : (w : List ℕ) → Rising 0 (told w (strict w))
unfolding Rising
told-rising w = told-by w (Rising 0) (λ q rs e. (strict-reading.accepts w q rs e).rising) (λ f e. (omega arith, (omega arith, tt)))

pub pieces-rising : (p : ℕ) (ws : Texts) → Rising p (pieces p ws)
unfolding pieces Rising
pieces-rising p [] = tt
pieces-rising p (w ∷ ws) =
    let rs = told w (strict w) in
    rising-append p (p + length w) (moved p rs) (pieces (p + length w) ws) (omega arith)
    (steps.rising-less p (0 + p) (moved p rs) (omega arith) (rising-moved p 0 rs (told-rising w)))
    (laid.spans-more (length w + p) (p + length w) (moved p rs) (omega arith) (laid.spans-moved p (length w) rs (told-spans w)))
    (pieces-rising (p + length w) ws)
