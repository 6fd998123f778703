-- Parts of a text between boundaries.
--     take-text, take-place   the text before a boundary is UTF-8, and the boundaries in it stay boundaries
--     ascii-next              a character of ASCII is one octet
-- Assumes nothing.
use Rattle.std.proofs.Common.{ℕ, ◌+◌, ◌≤◌, ◌<◌, arith, ◌≡◌, sym, ap, subst, ◌∙◌, true, List, take, length-take, take-take}
use Rattle.std.specs.Prelude.{Option, Some, None}
use Rattle.text.specs.Utf8.{Octets, is_boundary}
use Rattle.text.specs.Scan.{see}
use Rattle.text.proofs.general.Parts.{part-drop}
use Rattle.text.proofs.Rfc3629.{rfc3629}
use Rattle.text.proofs.Seeing.{seeing}
use Rattle.text.proofs.Boundaries.{boundaries}

-- ---- before a boundary

module _ (s : List ℕ) (e : ℕ) (o : Octets s) (q : is_boundary s e ≡ true) where
  pub take-text : Octets (take e s)
  take-text = ((rfc3629.boundary s e o).0 q).before

  pub take-place : (a : ℕ) → a ≤ e → is_boundary s a ≡ true → is_boundary (take e s) a ≡ true
  take-place a h p =
      let l = ((rfc3629.boundary s e o).0 q).inside in
      (rfc3629.boundary (take e s) a take-text).1 (record {
        inside = omega (arith, length-take e s, l, h);
        before = subst Octets (sym (take-take a e s h)) ((rfc3629.boundary s a o).0 p).before;
        after = subst Octets (part-drop s a e l) (boundaries.between s a e o h p q);
      })

-- ---- a character of ASCII

abbrev place_of : Option (ℕ × ℕ) → ℕ
place_of None = 0
place_of (Some (c, n)) = n

pub ascii-next : (s : List ℕ) (p c n : ℕ) → see s p ≡ Some (c, n) → c < 0x80 → n ≡ p + 1
ascii-next s p c n e h = ap place_of (sym e ∙ seeing.at_byte s p c (seeing.char-parts s p c n e).0 (seeing.byte_of s p c n e h) h)
