-- Parts of lent lists.
--     mid-rest, put_rest      the part from a number on, and the list when the part is back
--     put-behind              what is written behind a front
--     sets_behind             numbers that are stored behind a front
--     store-six               six numbers that are stored one by one: `put_answer`
-- Assumes nothing.
use Prim.Native.Nat.{ℕ, ◌+◌, ◌-◌, ◌≤◌}
use native.Mathlib.Omega.{arith}
use mathlib.Core.Path.{◌≡◌, sym, ap, ap₂, ◌∙◌}
use mathlib.Core.List.{List, [], ◌∷◌, ◌++◌, append_assoc, append-nil}
use native.Mathlib.Numerals.{towards_suc}
use lib.ListN.{length, set, take, drop, length-drop, drop_of_length-le}
use lib.Seq.{take_all, take_at, drop_at, drop-drop, sets, sets-eq}
use borrow.Rule.Slice.PartMut.{mid_of, put_mid}

pub mid-rest : (n : ℕ) (b : List ℕ) → mid_of n (length b - n) b ≡ drop n b
mid-rest n b = take_all (length b - n) (drop n b) (omega (arith, length-drop n b))

pub put_rest : (n : ℕ) (b ys : List ℕ) → put_mid n (length b - n) b ys ≡ take n b ++ ys
put_rest n b ys =
    ap (λ (z : List ℕ). take n b ++ (ys ++ z)) (drop_of_length-le (drop n b) {i = length b - n} (omega (arith, length-drop n b)))
    ∙ ap (λ (z : List ℕ). take n b ++ z) (append-nil ys)

-- the list b has p in front of what d has from n on; e is written behind p
pub put-behind : (p e d b ys : List ℕ) (n m : ℕ) → length p ≡ n → b ≡ p ++ drop n d → ys ≡ e ++ drop m (drop n b)
    → take n b ++ ys ≡ (p ++ e) ++ drop (n + m) d
put-behind p e d b ys n m h k g =
    let front : take n b ≡ p = ap (take n) k ∙ take_at p (drop n d) n h in
    let back : drop n b ≡ drop n d = ap (drop n) k ∙ drop_at p (drop n d) n h in
    let rest : drop m (drop n b) ≡ drop (n + m) d = ap (drop m) back ∙ drop-drop m n d in
    ap₂ (λ (u v : List ℕ). u ++ v) front (g ∙ ap (λ (z : List ℕ). e ++ z) rest) ∙ sym (append_assoc p e (drop (n + m) d))

pub sets_behind : (p e d b : List ℕ) (n : ℕ) → length p ≡ n → b ≡ p ++ drop n d → n + length e ≤ length b
    → sets b n e ≡ (p ++ e) ++ drop (n + length e) d
sets_behind p e d b n h k l =
    sets-eq e b n l
    ∙ append_assoc (take n b) e (drop (n + length e) b)
    ∙ put-behind p e d b (e ++ drop (n + length e) b) n (length e) h k (ap (λ (z : List ℕ). e ++ z) (sym (drop-drop (length e) n b)))

pub store-six : (l : List ℕ) (i a b c d e f : ℕ)
    → set (set (set (set (set (set l i a) (i + 1) b) (i + 2) c) (i + 3) d) (i + 4) e) (i + 5) f ≡ sets l i (a ∷ b ∷ c ∷ d ∷ e ∷ f ∷ [])
store-six l i a b c d e f = simp towards_suc
