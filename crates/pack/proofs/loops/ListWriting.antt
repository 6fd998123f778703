-- A list that is written piece by piece into a lent one.
--     set-seven                    the seven stores of the code put seven bytes in their place
--     WrittenTo                    the front of the list stands in the lent one, and the rest is still to come
--     at_first, go_on, at_last     before the first piece, after one more, and after the last
-- Assumes nothing.
use Rattle.std.proofs.Common.{ℕ, suc, ◌+◌, ◌≤◌, arith, ◌≡◌, refl, sym, ap, ap₂, ◌∙◌, List, [], ◌∷◌, ◌++◌, append_assoc, append-nil, length, set, take, drop, length-append}
use Rattle.std.proofs.Common.{take_at, drop-drop}
use lib.Seq.{sets-eq, drop-append-add}

module _ (l : List ℕ) (i a b c d e f g : ℕ) (h : i + 7 ≤ length l) where
  pub set-seven :
      set (set (set (set (set (set (set l i a) (i + 1) b) (i + 2) c) (i + 3) d) (i + 4) e) (i + 5) f) (i + 6) g
      ≡ take i l ++ (a ∷ b ∷ c ∷ d ∷ e ∷ f ∷ g ∷ []) ++ drop (i + 7) l
  set-seven =
      let e₁ : i + 1 ≡ suc i = omega arith in
      let e₂ : i + 2 ≡ suc (suc i) = omega arith in
      let e₃ : i + 3 ≡ suc (suc (suc i)) = omega arith in
      let e₄ : i + 4 ≡ suc (suc (suc (suc i))) = omega arith in
      let e₅ : i + 5 ≡ suc (suc (suc (suc (suc i)))) = omega arith in
      let e₆ : i + 6 ≡ suc (suc (suc (suc (suc (suc i))))) = omega arith in
      rw (e₁, e₂, e₃, e₄, e₅, e₆) (sets-eq (a ∷ b ∷ c ∷ d ∷ e ∷ f ∷ g ∷ []) l i h)

-- the first p numbers of t stand in front of out, and behind them stands what b held; rest is still to be written
pub record WrittenTo (t b : List ℕ) (p : ℕ) (rest out : List ℕ) : Type 0 where
  pub front : List ℕ
  pub size : length front ≡ p
  pub lent : out ≡ front ++ drop p b
  pub all : front ++ rest ≡ t

pub at_first : (t b : List ℕ) → WrittenTo t b 0 t b
at_first t b = record { front = []; size = refl; lent = refl; all = refl }

module _ (t b : List ℕ) (p : ℕ) (w rest out out' : List ℕ) (n : ℕ) (o : WrittenTo t b p (w ++ rest) out) (s : length w ≡ n)
    (e : out' ≡ take p out ++ w ++ drop (p + n) out) where
  kept : take p out ≡ o.front
  kept = ap (take p) o.lent ∙ take_at o.front (drop p b) p o.size

  over : drop (p + n) out ≡ drop (p + n) b
  over =
      ap (drop (p + n)) o.lent
      ∙ ap (λ (k : ℕ). drop (k + n) (o.front ++ drop p b)) (sym o.size)
      ∙ drop-append-add o.front (drop p b) n
      ∙ drop-drop n p b

  pub go_on : WrittenTo t b (p + n) rest out'
  go_on =
      record {
        front = o.front ++ w;
        size = length-append o.front w ∙ ap₂ (λ (x y : ℕ). x + y) o.size s;
        lent = e ∙ ap₂ (λ (x y : List ℕ). x ++ w ++ y) kept over;
        all = append_assoc o.front w rest ∙ o.all;
      }

pub at_last : {t b out : List ℕ} {p : ℕ} → WrittenTo t b p [] out → out ≡ t ++ drop p b
at_last {t} {b} {out} {p} o = o.lent ∙ ap (λ (x : List ℕ). x ++ drop p b) (sym (append-nil o.front) ∙ o.all)
