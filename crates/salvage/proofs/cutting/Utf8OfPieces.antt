-- The pieces of a text that is UTF-8 are UTF-8.
--     octets-both                    where a valid text is cut at the beginning of a piece, both parts are valid
--     front-append, octets-piece     a text is its front and what follows; a piece of a valid front is valid
-- Assumes nothing.
use Rattle.std.proofs.Common.{ℕ, ◌+◌, ◌-◌, ◌≤◌, arith, ◌≡◌, refl, sym, ap, ap₂, ◌∙◌, subst, true, List, ◌++◌, length, get_or, take, drop, length-append, take-append-drop}
use Rattle.std.proofs.Common.{length-drop, get_or-append-add, length-take-le, drop-drop, le-leb}
use lib.Seq.{take-append_seam, drop-append_seam, take-append-le, drop-append-le}
use Rattle.text.specs.Utf8.{Octets, is_boundary}
use Rattle.text.specs.Rfc3629.{Cut}
use Rattle.text.proofs.Rfc3629.{rfc3629}
use Rattle.raw.specs.Strict.{Fresh}

-- ---- two texts

fresh-boundary : (a r : List ℕ) → Fresh r → is_boundary (a ++ r) (length a) ≡ true
unfolding is_boundary
fresh-boundary a r f =
    let z : length a ≡ length a + 0 = omega arith in
    let g : get_or (a ++ r) (length a) 256 ≡ get_or r 0 256 = ap (λ (n : ℕ). get_or (a ++ r) n 256) z ∙ get_or-append-add a r 0 256 in
    rw (le-leb (length a) (length (a ++ r)) (omega (arith, length-append a r)), g, f) refl

pub octets-both : (a r : List ℕ) → Fresh r → Octets (a ++ r) → Octets a × Octets r
octets-both a r f o =
    let c : Cut (a ++ r) (length a) = (rfc3629.boundary (a ++ r) (length a) o).0 (fresh-boundary a r f) in
    (subst Octets (take-append_seam a r) c.before, subst Octets (drop-append_seam a r) c.after)

-- ---- the front of a text, up to v

module _ (s : List ℕ) (v : ℕ) (h : v ≤ length s) where
  pub front-append : (p : ℕ) → p ≤ v → drop p s ≡ drop p (take v s) ++ drop v s
  front-append p l =
      let n = length-take-le v s h in
      ap (drop p) (sym (take-append-drop v s)) ∙ drop-append-le p (take v s) (drop v s) (omega arith)

  front-piece : (p e : ℕ) → p ≤ e → e ≤ v → take (e - p) (drop p s) ≡ take (e - p) (drop p (take v s))
  front-piece p e l m =
      let n = length-take-le v s h in
      let k : e - p ≤ length (drop p (take v s)) = omega (arith, length-drop p (take v s)) in
      ap (take (e - p)) (front-append p (omega arith)) ∙ take-append-le (e - p) (drop p (take v s)) (drop v s) k

  front-split : (p e : ℕ) → p ≤ e → e ≤ v → drop p (take v s) ≡ take (e - p) (drop p s) ++ drop e (take v s)
  front-split p e l m =
      let q : p + (e - p) ≡ e = omega arith in
      let r = drop-drop (e - p) p (take v s) ∙ ap (λ (n : ℕ). drop n (take v s)) q in
      sym (take-append-drop (e - p) (drop p (take v s)))
      ∙ ap₂ (λ (a c : List ℕ). a ++ c) (sym (front-piece p e l m)) r

  pub octets-piece : (p e : ℕ) → p ≤ e → e ≤ v → Fresh (drop e (take v s)) → Octets (drop p (take v s))
      → Octets (take (e - p) (drop p s)) × Octets (drop e (take v s))
  octets-piece p e l m f o = octets-both (take (e - p) (drop p s)) (drop e (take v s)) f (subst Octets (front-split p e l m) o)
