-- Numbers as digits in a base, most significant first [01:Rows and their packing]: "most significant bit first". Bytes are digits in
-- base 256.
--     digits          the w digits of n in a base
--     of_digits       the number whose digits are those of a, and then l
--     AllBelow        numbers that are digits in a base
-- Assumes nothing.
use Rattle.std.specs.Prelude.{ℕ, zero, suc, ◌+◌, ◌*◌, ◌/◌, ◌%◌, ◌<◌, List, [], ◌∷◌, ◌++◌}

unfoldable pub digits : ℕ → ℕ → ℕ → List ℕ
digits base zero n = []
digits base (suc w) n = digits base w (n / base) ++ (n % base ∷ [])

unfoldable pub of_digits : ℕ → ℕ → List ℕ → ℕ
of_digits base a [] = a
of_digits base a (d ∷ l) = of_digits base (a * base + d) l

unfoldable pub AllBelow : ℕ → List ℕ → Type 0
AllBelow base [] = Unit {0}
AllBelow base (d ∷ l) = (d < base) × AllBelow base l

-- ---- bytes

abbrev pub Bytes : List ℕ → Type 0
Bytes l = AllBelow 256 l

-- a number as three bytes, and bytes as a number
abbrev pub three_bytes : ℕ → List ℕ
three_bytes n = digits 256 3 n

abbrev pub of_bytes : List ℕ → ℕ
of_bytes l = of_digits 256 0 l
