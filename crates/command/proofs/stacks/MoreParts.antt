-- More laws of `part`, the text from one place to another, beside those of text/proofs/general/Parts.antt.
-- Assumes nothing.
use Rattle.std.proofs.Common.{ℕ, ◌+◌, ◌-◌, ◌≤◌, min, arith, ◌≡◌, sym, ap, ◌∙◌, List, [], ◌++◌, length, take, drop, take-take, take-add}
use Rattle.text.specs.Scan.{part}

pub part-empty : (s : List ℕ) (a e : ℕ) → e ≤ a → part s a e ≡ []
part-empty s a e h = ap (λ (n : ℕ). take n (drop a s)) (none a e (length s) h)
  where
    none : (a e n : ℕ) → e ≤ a → min e n - a ≡ 0
    none a e n h = omega arith

-- the first octets of a text are those below a, and then those of its part from a on
pub take_part : (o : List ℕ) (a e k : ℕ) → k ≤ e - a → a ≤ e → e ≤ length o → take (a + k) o ≡ take a o ++ take k (part o a e)
take_part o a e k h l n = take-add a k o ∙ ap (λ (t : List ℕ). take a o ++ t) (sym (take-take k (min e (length o) - a) (drop a o) (omega arith)))
