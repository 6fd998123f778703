-- A chain of tests, as the code joins them and as `mark` does: for `is_single_char_func`.
-- Assumes nothing.
use Rattle.std.proofs.Common.{◌≡◌, Bool, false, ◌&&◌, ◌||◌}
use mathlib.Core.Bool.{or_assoc, or-false}

pub singles : (a b c d e f g h i j w k l m n o p q r : Bool) →
    (a || b || c || d || e || f || g || h || i || j || (w && (k || l || m || n || o || p || q || r)))
    ≡ ((a || (b || (c || (d || (e || (f || (g || (h || (i || (j || false))))))))))
    || (w && (k || (l || (m || (n || (o || (p || (q || (r || false))))))))))
singles a b c d e f g h i j w k l m n o p q r = simp (or_assoc, or-false)
