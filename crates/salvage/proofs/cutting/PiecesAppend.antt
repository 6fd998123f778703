-- The pieces of two texts put together, of which the first ends in a newline and the second begins with "@".
--     head-append                        whether a text begins with "@" shows in its first byte
--     cut-append                         the pieces are those of the first and those of the second
--     joined-cut, joined-append          the pieces of a text make it up; so do those of two texts
--     pieces-move, pieces-append         the rows of pieces that stand further on in a file, and of pieces behind others
--     salvage-append                     salvage of two texts put together
-- Assumes nothing.
use Rattle.std.proofs.Common.{ℕ, ◌+◌, ◌<◌, arith, ◌≡◌, refl, sym, ap, ◌∙◌, Bool, true, false, cond, ◌&&◌, List, [], ◌∷◌, ◌++◌, append_assoc, length, length-append}
use Rattle.row.specs.Row.{Row, row_up, moved}
use Rattle.raw.specs.Read.{strict}
use Rattle.row.proofs.Laid.{laid}
use Rattle.salvage.specs.Salvage.{head, newline, Texts, push, cut, told, pieces, salvage_of}
use Rattle.salvage.specs.Demand3.{lined, fresh, joined}

-- ---- the pieces of two texts

push-append : (b : ℕ) (ws vs : Texts) → 0 < length ws → push b (ws ++ vs) ≡ push b ws ++ vs
push-append b [] vs h = absurd (omega arith)
push-append b (w ∷ ws) vs h = refl

push-some : (b : ℕ) (ws : Texts) → 0 < length (push b ws)
push-some b [] = omega arith
push-some b (w ∷ ws) = omega arith

cut-some : (b : ℕ) (s : List ℕ) → 0 < length (cut (b ∷ s))
unfolding cut
cut-some b s = by (newline b && head s)
  where
    by : (x : Bool) → 0 < length (cond x ((b ∷ []) ∷ cut s) (push b (cut s)))
    by true = omega arith
    by false = push-some b (cut s)

-- a text that is fresh and not empty begins with "@"
fresh-head : (s : List ℕ) → fresh s ≡ true → 0 < length s → head s ≡ true
unfolding fresh
fresh-head [] h l = absurd (omega arith)
fresh-head (b ∷ s) h l = h

pub head-append : (b : ℕ) (a s : List ℕ) → head (b ∷ a ++ s) ≡ head (b ∷ a)
unfolding head
head-append b a s = refl

pub cut-append : (a s : List ℕ) → lined a ≡ true → fresh s ≡ true → cut (a ++ s) ≡ cut a ++ cut s
unfolding cut lined
cut-append [] s h k = refl
cut-append (b ∷ []) [] h k = rw h (alone b (head []))
  where
    alone : (b : ℕ) (x : Bool) → cond {A = Texts} x ((b ∷ []) ∷ []) ((b ∷ []) ∷ []) ≡ cond x ((b ∷ []) ∷ []) ((b ∷ []) ∷ []) ++ []
    alone b true = refl
    alone b false = refl
cut-append (b ∷ []) (c ∷ s) h k = rw (h, fresh-head (c ∷ s) k (omega arith)) (alone b (head []))
  where
    alone : (b : ℕ) (x : Bool) → (b ∷ []) ∷ cut (c ∷ s) ≡ cond {A = Texts} x ((b ∷ []) ∷ []) ((b ∷ []) ∷ []) ++ cut (c ∷ s)
    alone b true = refl
    alone b false = refl
cut-append (b ∷ c ∷ a) s h k = rw (head-append c a s) (by (newline b && head (c ∷ a)) (cut-append (c ∷ a) s h k))
  where
    by : (x : Bool) → cut (c ∷ a ++ s) ≡ cut (c ∷ a) ++ cut s
        → cond x ((b ∷ []) ∷ cut (c ∷ a ++ s)) (push b (cut (c ∷ a ++ s))) ≡ cond x ((b ∷ []) ∷ cut (c ∷ a)) (push b (cut (c ∷ a))) ++ cut s
    by true e = ap (λ (l : Texts). (b ∷ []) ∷ l) e
    by false e = ap (push b) e ∙ push-append b (cut (c ∷ a)) (cut s) (cut-some c a)

-- ---- the pieces make up the text

joined-push : (b : ℕ) (ws : Texts) → joined (push b ws) ≡ b ∷ joined ws
unfolding joined
joined-push b [] = refl
joined-push b (w ∷ ws) = refl

pub joined-cut : (s : List ℕ) → joined (cut s) ≡ s
unfolding cut joined
joined-cut [] = refl
joined-cut (b ∷ s) = by (newline b && head s) (joined-cut s)
  where
    by : (x : Bool) → joined (cut s) ≡ s → joined (cond x ((b ∷ []) ∷ cut s) (push b (cut s))) ≡ b ∷ s
    by true e = ap (λ (l : List ℕ). b ∷ l) e
    by false e = joined-push b (cut s) ∙ ap (λ (l : List ℕ). b ∷ l) e

pub joined-append : (ws vs : Texts) → joined (ws ++ vs) ≡ joined ws ++ joined vs
unfolding joined
joined-append [] vs = refl
joined-append (w ∷ ws) vs = ap (λ (l : List ℕ). w ++ l) (joined-append ws vs) ∙ sym (append_assoc w (joined ws) (joined vs))

-- ---- the rows of pieces

moved-moved : (d e : ℕ) (rs : List Row) → moved (d + e) rs ≡ moved e (moved d rs)
unfolding moved
moved-moved d e [] = refl
moved-moved d e (r ∷ rs) =
    let x : r.start + (d + e) ≡ r.start + d + e = omega arith in
    let y : r.end + (d + e) ≡ r.end + d + e = omega arith in
    rw (x, y) (ap (λ (l : List Row). row_up e (row_up d r) ∷ l) (moved-moved d e rs))

moved_front : (p d : ℕ) (rs ss : List Row) → moved (p + d) rs ++ moved d ss ≡ moved d (moved p rs ++ ss)
moved_front p d rs ss = ap (λ (l : List Row). l ++ moved d ss) (moved-moved p d rs) ∙ sym (laid.moved-append d (moved p rs) ss)

pub pieces-move : (p d : ℕ) (ws : Texts) → pieces (p + d) ws ≡ moved d (pieces p ws)
unfolding pieces moved
pieces-move p d [] = refl
pieces-move p d (w ∷ ws) =
    let x : p + d + length w ≡ p + length w + d = omega arith in
    rw (x, pieces-move (p + length w) d ws) (moved_front p d (told w (strict w)) (pieces (p + length w) ws))

pub pieces-append : (p : ℕ) (ws vs : Texts) → pieces p (ws ++ vs) ≡ pieces p ws ++ pieces (p + length (joined ws)) vs
unfolding pieces joined
pieces-append p [] vs = ap (λ (n : ℕ). pieces n vs) (omega arith)
pieces-append p (w ∷ ws) vs =
    let x : p + length w + length (joined ws) ≡ p + length (w ++ joined ws) = omega (arith, length-append w (joined ws)) in
    rw (pieces-append (p + length w) ws vs, x) (sym (append_assoc (moved p (told w (strict w))) (pieces (p + length w) ws) _))

pub salvage-append : (a s : List ℕ) → lined a ≡ true → fresh s ≡ true → salvage_of (a ++ s) ≡ salvage_of a ++ moved (length a) (salvage_of s)
unfolding salvage_of
salvage-append a s h k =
    let x : 0 + length (joined (cut a)) ≡ 0 + length a = ap (λ (l : List ℕ). 0 + length l) (joined-cut a) in
    rw (cut-append a s h k, pieces-append 0 (cut a) (cut s), x, pieces-move 0 (length a) (cut s)) refl
