-- Bytes of a text copied over lent bytes, as far as they fit.
--     copied, lowered              as many as there is room for, as they are or lowered
--     copy-past, lower-past        past the end of the lent bytes this changes nothing
--     lower-more                   the turn of the loop that lowers them
-- Assumes nothing.
use Rattle.std.proofs.Common.{ℕ, ◌+◌, ◌-◌, ◌≤◌, ◌<◌, arith, ◌≡◌, refl, sym, ap, ap₂, ◌∙◌, false, List, [], ◌∷◌, ◌++◌, map, length, get_or, set}
use mathlib.Core.List.{map-append}
use lib.Seq.{sets}
use Rattle.text.specs.Scan.{part}
use Rattle.text.proofs.general.Lists.{sets-append}
use Rattle.text.proofs.general.Parts.{part-more, part_join, length_part}
use Rattle.casing.specs.Casing.{ascii_cased}
use Rattle.chunk.specs.Put.{Puts}
use Rattle.chunk.proofs.texts.Puts.{puts-past, puts-as, puts-most}

abbrev low : List ℕ → List ℕ
low u = map (ascii_cased false) u

size_low : (u : List ℕ) → length (low u) ≡ length u
size_low [] = refl
size_low (b ∷ u) = omega (arith, size_low u)

module _ (s : List ℕ) (a e : ℕ) {o : List ℕ} {n : ℕ} (h : a ≤ e) (l : e ≤ length s) where
  pub copy-past : length o ≤ n → Puts o n (part s a e) (n + (e - a)) o
  copy-past k = puts-past (part s a e) k (ap (λ (m : ℕ). n + m) (sym (length_part s a e h l)))

  pub lower-past : length o ≤ n → Puts o n (low (part s a e)) (n + (e - a)) o
  lower-past k = puts-past (low (part s a e)) k (ap (λ (m : ℕ). n + m) (sym (size_low (part s a e) ∙ length_part s a e h l)))

-- the first m bytes, which are all, or fill what is lent
module _ (s : List ℕ) (a e : ℕ) (h : a ≤ e) (l : e ≤ length s) (m : ℕ) (k : m ≤ e - a) where
  first : length (part s a (a + m)) ≡ m
  first = omega (arith, length_part s a (a + m) (omega arith) (omega arith))

  others : length (part s (a + m) e) ≡ e - a - m
  others = omega (arith, length_part s (a + m) e (omega arith) l)

  cut : part s a e ≡ part s a (a + m) ++ part s (a + m) e
  cut = part_join s a (a + m) e (omega arith) (omega arith) l

  module _ {o o' : List ℕ} {n : ℕ} (full : m < e - a → length o ≤ n + m) where
    pub copied : o' ≡ sets o n (part s a (a + m)) → Puts o n (part s a e) (n + (e - a)) o'
    copied q =
        puts-as (sym cut)
        (puts-most (part s a (a + m)) (part s (a + m) e) (λ x. omega (arith, full (omega (arith, others, x)), first)) q (omega (arith, first, others, k)))

    pub lowered : o' ≡ sets o n (low (part s a (a + m))) → Puts o n (low (part s a e)) (n + (e - a)) o'
    lowered q =
        let u = size_low (part s a (a + m)) ∙ first in
        let v = size_low (part s (a + m) e) ∙ others in
        puts-as (sym (ap low cut ∙ map-append (ascii_cased false) (part s a (a + m)) (part s (a + m) e)))
        (puts-most (low (part s a (a + m))) (low (part s (a + m) e)) (λ x. omega (arith, full (omega (arith, v, x)), u)) q (omega (arith, u, v, k)))

-- ---- the loop that lowers

module _ (s o : List ℕ) (a n : ℕ) where
  pub lower-more : (i : ℕ) {o₁ : List ℕ} {x : ℕ} → a + i < length s → o₁ ≡ sets o n (low (part s a (a + i))) → x ≡ ascii_cased false (get_or s (a + i) 0) →
      set o₁ (n + i) x ≡ sets o n (low (part s a (a + (i + 1))))
  lower-more i h q r =
      ap₂ (λ (t : List ℕ) (y : ℕ). set t (n + i) y) q r
      ∙ ap (λ (k : ℕ). set (sets o n u) (n + k) last) (size (size_low (part s a (a + i)) ∙ length_part s a (a + i) (omega arith) (omega arith)))
      ∙ sym (sets-append u (last ∷ []) o n)
      ∙ ap (sets o n)
      (sym (map-append (ascii_cased false) (part s a (a + i)) (get_or s (a + i) 0 ∷ []))
      ∙ ap low (sym (part-more s a (a + i) (omega arith) h) ∙ ap (part s a) next))
    where
      u : List ℕ
      u = low (part s a (a + i))

      last : ℕ
      last = ascii_cased false (get_or s (a + i) 0)

      size : {n : ℕ} → n ≡ a + i - a → i ≡ n
      size e = omega arith

      next : a + i + 1 ≡ a + (i + 1)
      next = omega arith
