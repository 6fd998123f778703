-- A scan of the grammar ends where the scanner's `skip` does: `scan-skip`.
-- Assumes nothing.
use Rattle.std.proofs.Common.{ℕ, zero, suc, ◌+◌, ◌≤◌, ◌<◌, arith, ◌≡◌, refl, ◌∙◌, Bool, true, false, List, [], length, drop, ltb, ltb-true, ltb-false}
use Rattle.text.specs.Scan.{code, rest, skip}
use Rattle.text.proofs.Seeing.{seeing}
use Rattle.raw.specs.Reader.{ok, scan_turn, scan, many}
use Rattle.raw.proofs.readers.Loop.{many-turn}
use Rattle.raw.proofs.readers.Kept.{Kept, stop-kept, turn-kept, when-kept}

pub scan-turn-kept : {P : Type 0} (t : ℕ → Bool) (a : ℕ) → Kept {P = P} 1 0 1 (scan_turn t a)
scan-turn-kept t a = when-kept t (turn-kept {w = 0} a) stop-kept (omega arith)

module _ {P : Type 0} (t : ℕ → Bool) (s : List ℕ) where
  -- one turn, by what is seen
  scan-end : (a p : ℕ) → length s ≤ p → many {P = P} (scan_turn t) a s p ≡ ok (skip t s p) []
  scan-end a p h = many-turn (scan-turn-kept t) a s p ∙ rw (seeing.see-end s p h, seeing.skip-end t s p h)

  scan-stop : (a p : ℕ) → p < length s → t (code (drop p s)) ≡ false → many {P = P} (scan_turn t) a s p ≡ ok (skip t s p) []
  scan-stop a p h q = many-turn (scan-turn-kept t) a s p ∙ rw (seeing.see-at s p h, q, seeing.skip_stop t s p h q)

  scan-eats : (a p n : ℕ) → p < length s → t (code (drop p s)) ≡ true → p + 1 + rest (drop p s) ≡ n
      → many {P = P} (scan_turn t) a s n ≡ ok (skip t s n) [] → many {P = P} (scan_turn t) a s p ≡ ok (skip t s p) []
  scan-eats a p n h q d e = many-turn (scan-turn-kept t) a s p ∙ rw (seeing.see-at s p h, q, d, e, seeing.skip-on t s p h q, d)

  -- by induction on k, where at most k octets are left
  scan-by : (k a p : ℕ) → length s ≤ p + k → many {P = P} (scan_turn t) a s p ≡ ok (skip t s p) []
  scan-by zero a p h = scan-end a p (omega arith)
  scan-by (suc k) a p h = by (ltb p (length s)) (t (code (drop p s))) refl refl (λ n l. scan-by k a n l)
    where
      by : (b c : Bool) → ltb p (length s) ≡ b → t (code (drop p s)) ≡ c
          → ((n : ℕ) → length s ≤ n + k → many {P = P} (scan_turn t) a s n ≡ ok (skip t s n) [])
          → many {P = P} (scan_turn t) a s p ≡ ok (skip t s p) []
      by false c x y ih = scan-end a p (ltb-false p (length s) x)
      by true false x y ih = scan-stop a p (ltb-true p (length s) x) y
      by true true x y ih = scan-eats a p (p + 1 + rest (drop p s)) (ltb-true p (length s) x) y refl (ih _ (omega arith))

  pub scan-skip : (p : ℕ) → scan {P = P} t s p ≡ ok (skip t s p) []
  scan-skip p = scan-by (length s) 0 p (omega arith)
