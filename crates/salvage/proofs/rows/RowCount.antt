-- The rows of salvage are at most one more than the bytes: `salvage-few`. A damaged piece has two rows, so that only a piece of one byte can
-- have more rows than bytes. Such a piece, unless it is the last, is a newline, which strict reading accepts.
-- Assumes nothing.
use Rattle.std.proofs.Common.{ℕ, suc, ◌+◌, ◌≤◌, arith, ◌≡◌, refl, ap, Bool, true, false, cond, ◌&&◌, List, [], ◌∷◌, length, length-append, eqb-true}
use Rattle.text.specs.Walk.{walk_from}
use Rattle.text.specs.Utf8.{alternatives, begins, width_by, gather, value, octets, look_valid, validity_of}
use Rattle.text.specs.Class.{white_space, is_whitespace, holds_of}
use Rattle.text.specs.Scan.{code, see_from}
use Rattle.text.specs.Scan as scan
use Rattle.row.specs.declared.fault.Fault.{Fault}
use Rattle.row.specs.Row.{moved}
use Rattle.raw.specs.Reader.{ok, bad, loop, many}
use Rattle.raw.specs.Grammar.{white, file_turn, file}
use Rattle.raw.specs.Read.{strict}
use Rattle.raw.proofs.Strict.{strict-reading}
use Rattle.row.proofs.Laid.{laid}
use Rattle.salvage.specs.Salvage.{head, newline, Texts, push, cut, told, pieces, salvage_of}
use Rattle.salvage.specs.Demand3.{joined}
use Rattle.salvage.proofs.cutting.PiecesAppend.{joined-cut}
use Rattle.salvage.proofs.rows.EachPiece.{told-by}

-- ---- the pieces of a file, by their length

-- a piece that is not the last: a newline, or at least two bytes
data Line : List ℕ → Type 0 where
  bare : Line (0x0A ∷ [])
  long : (b c : ℕ) (w : List ℕ) → Line (b ∷ c ∷ w)

data Lines : Texts → Type 0 where
  none : Lines []
  last : (b : ℕ) (w : List ℕ) → Lines ((b ∷ w) ∷ [])
  more : {w : List ℕ} {ws : Texts} → Line w → Lines ws → Lines (w ∷ ws)

line-push : (b : ℕ) {w : List ℕ} → Line w → Line (b ∷ w)
line-push b bare = long b 0x0A []
line-push b (long c d w) = long b c (d ∷ w)

lines-push : (b : ℕ) {ws : Texts} → Lines ws → Lines (push b ws)
lines-push b none = last b []
lines-push b (last c w) = last b (c ∷ w)
lines-push b (more x l) = more (line-push b x) l

newline-line : (b : ℕ) (x : Bool) → newline b && x ≡ true → Line (b ∷ [])
newline-line b x h = by (newline b) refl h
  where
    by : (y : Bool) → newline b ≡ y → y && x ≡ true → Line (b ∷ [])
    by true e h = rw (eqb-true b 0x0A e) bare
    by false e h = cc

cut-lines : (s : List ℕ) → Lines (cut s)
unfolding cut
cut-lines [] = none
cut-lines (b ∷ s) = by (newline b && head s) refl (cut-lines s)
  where
    by : (x : Bool) → newline b && head s ≡ x → Lines (cut s) → Lines (cond x ((b ∷ []) ∷ cut s) (push b (cut s)))
    by true e l = more (newline-line b (head s) e) l
    by false e l = lines-push b l

-- ---- the rows of the pieces

-- strict reading accepts a newline, and gives no rows
newline-strict : strict (0x0A ∷ []) ≡ ok 1 []
unfolding
    walk_from alternatives begins width_by gather value octets look_valid validity_of white_space is_whitespace holds_of code scan.rest see_from
    loop many white file_turn file strict
newline-strict = refl

told-few : (w : List ℕ) (n : ℕ) → length w ≤ n → ((f : Fault) → strict w ≡ bad f → 2 ≤ n) → length (told w (strict w)) ≤ n
told-few w n h k = told-by w (λ rs. length rs ≤ n) (λ q rs e. omega (arith, (strict-reading.accepts w q rs e).few)) k

line-few : {w : List ℕ} → Line w → length (told w (strict w)) ≤ length w
line-few bare = told-few (0x0A ∷ []) 1 (omega arith) (λ f e. let z : ◌≡◌ {A = ℕ} 0 1 = cc newline-strict in absurd (omega arith))
line-few (long b c w) = told-few (b ∷ c ∷ w) (length (b ∷ c ∷ w)) (omega arith) (λ f e. omega arith)

pieces-few : (p : ℕ) {ws : Texts} → Lines ws → length (pieces p ws) ≤ suc (length (joined ws))
unfolding pieces joined
pieces-few p none = omega arith
pieces-few p (last b w) =
    let v = b ∷ w in
    let rs = told v (strict v) in
    let l = told-few v (suc (length v)) (omega arith) (λ f e. omega arith) in
    omega (arith, laid.moved_length p rs, length-append (moved p rs) [], length-append v [])
pieces-few p (more {w} {ws} x l) =
    let rs = told w (strict w) in
    let h = line-few x in
    let k = pieces-few (p + length w) l in
    omega (arith, laid.moved_length p rs, length-append (moved p rs) (pieces (p + length w) ws), length-append w (joined ws))

pub salvage-few : (s : List ℕ) → length (salvage_of s) ≤ suc (length s)
unfolding salvage_of
salvage-few s = omega (arith, pieces-few 0 (cut-lines s), ap length (joined-cut s))
