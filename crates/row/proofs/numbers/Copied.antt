-- The first numbers of a list, copied over those of another.
--     copy-on       one number more
-- Assumes nothing.
use Prim.Native.Nat.{ℕ, suc, ◌+◌, ◌<◌}
use native.Mathlib.Omega.{arith}
use native.Mathlib.Numerals.{add-one}
use mathlib.Core.Path.{◌≡◌, sym, ap, ◌∙◌}
use mathlib.Core.List.{List, ◌++◌}
use lib.ListN.{length, get_or, take, drop, set}
use lib.Seq.{length-take-le, drop-cons, take-suc, append_snoc, set_at}

pub copy-on : (s out : List ℕ) (i : ℕ) → i < length s → i < length out
    → set (take i s ++ drop i out) i (get_or s i 0) ≡ take (i + 1) s ++ drop (i + 1) out
copy-on s out i h k =
    ap (λ (l : List ℕ). set (take i s ++ l) i (get_or s i 0)) (drop-cons out i 0 k)
    ∙ set_at (take i s) (get_or out i 0) (drop (suc i) out) (get_or s i 0) i (length-take-le i s (omega arith))
    ∙ sym (append_snoc (take i s) (get_or s i 0) (drop (suc i) out))
    ∙ ap (λ (l : List ℕ). l ++ drop (suc i) out) (sym (take-suc s i 0 h))
    ∙ ap (λ (n : ℕ). take n s ++ drop n out) (sym (add-one i))
