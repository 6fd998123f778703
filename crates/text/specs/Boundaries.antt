-- Where a text is UTF-8 and a place in it a boundary, the scanner sees whole characters and goes from boundary to boundary.
-- The proof is `boundaries` of proofs/Boundaries.antt. Assumes nothing.
use Rattle.std.specs.Prelude.{ℕ, ◌≤◌, ◌≡◌, Bool, true, List, Some}
use Rattle.text.specs.Utf8.{Octets, decode_at, is_boundary}
use Rattle.text.specs.Scan.{see, skip, part}
use Rattle.text.specs.declared.utf8.Decoded.TheVariants as decoded

pub record Boundaries : Type 0 where
  pub sees : (s : List ℕ) (i c n : ℕ) → Octets s → is_boundary s i ≡ true → see s i ≡ Some (c, n) → (decode_at s i ≡ decoded.Char c n) × (is_boundary s n ≡ true)
  pub skips : (p : ℕ → Bool) (s : List ℕ) (i : ℕ) → Octets s → is_boundary s i ≡ true → is_boundary s (skip p s i) ≡ true
  -- a text begins at a boundary, and is UTF-8 between two of them
  pub first : (s : List ℕ) → Octets s → is_boundary s 0 ≡ true
  pub between : (s : List ℕ) (a e : ℕ) → Octets s → a ≤ e → is_boundary s a ≡ true → is_boundary s e ≡ true → Octets (part s a e)
