-- Rows put into lent numbers, and rows moved on in a file.
--     length-put, put-sets, put-out    putting a row keeps the length, is the code's four stores, and does nothing where the row does not fit
--     put-overlay, overlay-append      a row may be put before or after the rows that follow it; two lists of rows are put one after the other
--     overlay-length, overlay-fits     putting rows keeps the length; rows that all fit stand in front
--     moved_length, moved-append, moved_none, row_up_lem      rows moved on in a file
-- Assumes nothing.
use Prim.Native.Nat.{ℕ, zero, suc, ◌+◌, ◌*◌, ◌/◌, ◌≤◌, ◌<◌}
use mathlib.Core.Path.{◌≡◌, refl, sym, ap, ap₂, ◌∙◌}
use mathlib.Core.List.{List, [], ◌∷◌, ◌++◌}
use native.Mathlib.Omega.{arith}
use lib.ListN.{length, set, drop}
use Rattle.row.specs.declared.form.Kind.{Kind}
use Rattle.row.specs.Row.{Row, kind_of, row, row_up, moved, flat, put_row, overlay}
use Rattle.row.proofs.numbers.Flat.{four}

-- ---- one row

pub length-put : (b : List ℕ) (n : ℕ) (r : Row) → length (put_row b n r) ≡ length b
unfolding put_row
length-put [] n r = refl
length-put (a ∷ []) n r = refl
length-put (a ∷ b ∷ []) n r = refl
length-put (a ∷ b ∷ c ∷ []) n r = refl
length-put (a ∷ b ∷ c ∷ d ∷ l) zero r = refl
length-put (a ∷ b ∷ c ∷ d ∷ l) (suc n) r = ap (λ (k : ℕ). suc (suc (suc (suc k)))) (length-put l n r)

-- the code's four stores
pub put-sets : (b : List ℕ) (n : ℕ) (r : Row) → n < length b / 4
    → set (set (set (set b (n * 4) r.kind) (n * 4 + 1) r.detail) (n * 4 + 2) r.start) (n * 4 + 3) r.end ≡ put_row b n r
unfolding put_row
put-sets [] n r h = absurd (omega arith)
put-sets (a ∷ []) n r h = absurd (omega arith)
put-sets (a ∷ b ∷ []) n r h = absurd (omega arith)
put-sets (a ∷ b ∷ c ∷ []) n r h = absurd (omega arith)
put-sets (a ∷ b ∷ c ∷ d ∷ l) zero r h = refl
put-sets (a ∷ b ∷ c ∷ d ∷ l) (suc n) r h =
    let e₀ : suc n * 4 ≡ suc (suc (suc (suc (n * 4)))) = omega arith in
    let e₁ : suc n * 4 + 1 ≡ suc (suc (suc (suc (n * 4 + 1)))) = omega arith in
    let e₂ : suc n * 4 + 2 ≡ suc (suc (suc (suc (n * 4 + 2)))) = omega arith in
    let e₃ : suc n * 4 + 3 ≡ suc (suc (suc (suc (n * 4 + 3)))) = omega arith in
    rw (e₁, e₂, e₃, e₀) (ap (four a b c d) (put-sets l n r (omega arith)))

pub put-out : (b : List ℕ) (n : ℕ) (r : Row) → length b / 4 ≤ n → b ≡ put_row b n r
unfolding put_row
put-out [] n r h = refl
put-out (a ∷ []) n r h = refl
put-out (a ∷ b ∷ []) n r h = refl
put-out (a ∷ b ∷ c ∷ []) n r h = refl
put-out (a ∷ b ∷ c ∷ d ∷ l) zero r h = absurd (omega arith)
put-out (a ∷ b ∷ c ∷ d ∷ l) (suc n) r h = ap (four a b c d) (put-out l n r (omega arith))

put-comm : (b : List ℕ) (m n : ℕ) (x y : Row) → m < n → put_row (put_row b n y) m x ≡ put_row (put_row b m x) n y
unfolding put_row
put-comm [] m n x y h = refl
put-comm (a ∷ []) m n x y h = refl
put-comm (a ∷ b ∷ []) m n x y h = refl
put-comm (a ∷ b ∷ c ∷ []) m n x y h = refl
put-comm (a ∷ b ∷ c ∷ d ∷ l) m zero x y h = absurd (omega arith)
put-comm (a ∷ b ∷ c ∷ d ∷ l) zero (suc n) x y h = refl
put-comm (a ∷ b ∷ c ∷ d ∷ l) (suc m) (suc n) x y h = ap (four a b c d) (put-comm l m n x y (omega arith))

-- ---- a list of rows

pub overlay-length : (rs : List Row) (b : List ℕ) (n : ℕ) → length (overlay b n rs) ≡ length b
unfolding overlay
overlay-length [] b n = refl
overlay-length (r ∷ rs) b n = overlay-length rs (put_row b n r) (suc n) ∙ length-put b n r

pub put-overlay : (rs : List Row) (b : List ℕ) (m n : ℕ) (x : Row) → m < n → put_row (overlay b n rs) m x ≡ overlay (put_row b m x) n rs
unfolding overlay
put-overlay [] b m n x h = refl
put-overlay (r ∷ rs) b m n x h =
    put-overlay rs (put_row b n r) m (suc n) x (omega arith) ∙ ap (λ (k : List ℕ). overlay k (suc n) rs) (put-comm b m n x r h)

pub overlay-append : (rs ss : List Row) (b : List ℕ) (n : ℕ) → overlay b n (rs ++ ss) ≡ overlay (overlay b n rs) (n + length rs) ss
unfolding overlay
overlay-append [] ss b n = ap (λ (k : ℕ). overlay b k ss) (omega arith)
overlay-append (r ∷ rs) ss b n =
    overlay-append rs ss (put_row b n r) (suc n) ∙ ap (λ (k : ℕ). overlay (overlay (put_row b n r) (suc n) rs) k ss) (omega arith)

overlay-past : (rs : List Row) (a b c d : ℕ) (l : List ℕ) (n : ℕ) → overlay (four a b c d l) (suc n) rs ≡ four a b c d (overlay l n rs)
unfolding overlay put_row
overlay-past [] a b c d l n = refl
overlay-past (r ∷ rs) a b c d l n = overlay-past rs a b c d (put_row l n r) (suc n)

pub overlay-fits : (rs : List Row) (b : List ℕ) → length rs ≤ length b / 4 → overlay b 0 rs ≡ flat rs ++ drop (length rs * 4) b
unfolding overlay put_row flat
overlay-fits [] b h = refl
overlay-fits (r ∷ rs) [] h = absurd (omega arith)
overlay-fits (r ∷ rs) (a ∷ []) h = absurd (omega arith)
overlay-fits (r ∷ rs) (a ∷ b ∷ []) h = absurd (omega arith)
overlay-fits (r ∷ rs) (a ∷ b ∷ c ∷ []) h = absurd (omega arith)
overlay-fits (r ∷ rs) (a ∷ b ∷ c ∷ d ∷ l) h =
    let e : suc (length rs) * 4 ≡ suc (suc (suc (suc (length rs * 4)))) = omega arith in
    let put = four r.kind r.detail r.start r.end in
    overlay-past rs r.kind r.detail r.start r.end l 0
    ∙ ap put (overlay-fits rs l (omega arith))
    ∙ ap (λ (k : ℕ). put (flat rs ++ drop k (four a b c d l))) (sym e)

-- ---- rows moved on

pub moved_length : (d : ℕ) (rs : List Row) → length (moved d rs) ≡ length rs
unfolding moved
moved_length d [] = refl
moved_length d (r ∷ rs) = ap suc (moved_length d rs)

pub moved-append : (d : ℕ) (rs ss : List Row) → moved d (rs ++ ss) ≡ moved d rs ++ moved d ss
unfolding moved
moved-append d [] ss = refl
moved-append d (r ∷ rs) ss = ap (λ (l : List Row). row_up d r ∷ l) (moved-append d rs ss)

-- the code adds the text's place on the left, and `row_up` on the right
pub row_up_lem : (d : ℕ) (k : Kind) (a e : ℕ) → row k (d + a) (d + e) ≡ row_up d (row k a e)
row_up_lem d k a e =
    ap₂ (λ (x y : ℕ). record { kind = kind_of k; detail = 0; start = x; end = y }) (same d a) (same d e)
  where
    same : (x y : ℕ) → x + y ≡ y + x
    same x y = omega arith

-- rows of a text at the beginning of a file are not moved
pub moved_none : (rs : List Row) → moved 0 rs ≡ rs
unfolding moved
moved_none [] = refl
moved_none (r ∷ rs) =
    ap₂ (λ (x y : ℕ). record { kind = r.kind; detail = r.detail; start = x; end = y } ∷ moved 0 rs) (none r.start) (none r.end)
    ∙ ap (λ (k : List Row). r ∷ k) (moved_none rs)
  where
    none : (x : ℕ) → x + 0 ≡ x
    none x = omega arith
