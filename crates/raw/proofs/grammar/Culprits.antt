-- The culprit of a refusal: where the grammar refuses a text that is UTF-8, the place is widened over the character that is seen there.
--     underlined-ok, underlined-again, underlined-bad     what the grammar answered, by the answer with its place widened
--     refused-of                        what is known of a refusal by the grammar
--     culprit-order, culprit-of         its widened place is in the text, and is over its culprit
-- Assumes nothing.
use Rattle.std.proofs.Common.{Option, Some, None, ℕ, ◌≤◌, ◌<◌, arith, ◌≡◌, refl, ap, ◌∙◌, subst, ◌↔◌, true, List, length}
use Rattle.text.specs.Utf8.{Octets, decode_at, is_boundary}
use Rattle.text.specs.Scan.{see, next_of, Inside}
use Rattle.text.specs.declared.utf8.Decoded.TheVariants as decoded
use Rattle.text.proofs.Seeing.{seeing}
use Rattle.text.proofs.Boundaries.{boundaries}
use Rattle.row.specs.declared.fault.Fault.{Fault}
use Rattle.row.specs.Row.{Row}
use Rattle.raw.specs.Reader.{Out, ok, again, bad}
use Rattle.raw.specs.Grammar.{file}
use Rattle.raw.specs.Read.{culprit, underlined}
use Rattle.raw.specs.Strict.{Culprit}
use Rattle.raw.proofs.readers.Trace.{Refused, Traced}
use Rattle.raw.proofs.readers.Spans.{reach-inside, reach-boundary}
use Rattle.raw.proofs.grammar.Readers.{from_start}
use Rattle.raw.proofs.grammar.Files.{file-laws}

-- ---- what the grammar answered

module _ (s : List ℕ) where
  pub underlined-ok : (o : Out) {q : ℕ} {rs : List Row} → underlined s o ≡ ok q rs → o ≡ ok q rs
  underlined-ok (ok q rs) e = e
  underlined-ok (again q rs a) e = cc
  underlined-ok (bad f) e = cc

  pub underlined-again : (o : Out) {q a : ℕ} {rs : List Row} → underlined s o ≡ again q rs a → o ≡ again q rs a
  underlined-again (ok q rs) e = cc
  underlined-again (again q rs a) e = e
  underlined-again (bad f) e = cc

  pub underlined-bad : (o : Out) {f : Fault} → underlined s o ≡ bad f → (g : Fault) × (o ≡ bad g) × (culprit s g ≡ f)
  underlined-bad (ok q rs) e = cc
  underlined-bad (again q rs a) e = cc
  underlined-bad (bad g) e = (g, refl, cc)

-- ---- by what is seen at p

module _ (s : List ℕ) (p : ℕ) where
  -- the character ends in the text, and nothing is seen at its end only
  seen-order : p ≤ length s → (x : Option (ℕ × ℕ)) → Inside s p x → (p ≤ next_of p x) × (next_of p x ≤ length s)
  seen-order h None i = (omega arith, h)
  seen-order h (Some (c, n)) i = (omega arith, omega arith)

  seen-empty : p ≤ length s → (x : Option (ℕ × ℕ)) → Inside s p x → (next_of p x ≡ p) ↔ (p ≡ length s)
  seen-empty h None i = (λ e. omega arith, λ e. refl)
  seen-empty h (Some (c, n)) i = (λ e. absurd (omega arith), λ e. absurd (omega arith))

  module _ (o : Octets s) (b : is_boundary s p ≡ true) where
    seen-ends : (x : Option (ℕ × ℕ)) → see s p ≡ x → is_boundary s (next_of p x) ≡ true
    seen-ends None e = b
    seen-ends (Some (c, n)) e = (boundaries.sees s p c n o b e).1

    seen-whole : (x : Option (ℕ × ℕ)) → see s p ≡ x → Inside s p x → p < length s → (c : ℕ) × (decode_at s p ≡ decoded.Char c (next_of p x))
    seen-whole None e i h = absurd (omega arith)
    seen-whole (Some (c, n)) e i h = (c, (boundaries.sees s p c n o b e).0)

-- ---- a refusal of the grammar

module _ (s : List ℕ) (g : Fault) (e : file s 0 ≡ bad g) where
  pub refused-of : Refused s 0 g
  refused-of = subst (Traced s 0) e ((from_start file-laws).traced s 0)

  pub refused-inside : g.start ≤ length s
  refused-inside = reach-inside refused-of.place (omega arith)

  pub culprit-order : (g.start ≤ (culprit s g).end) × ((culprit s g).end ≤ length s)
  culprit-order = seen-order s g.start refused-inside (see s g.start) (seeing.see-inside s g.start)

  pub culprit-of : Octets s → Culprit s (culprit s g)
  culprit-of o =
      let p = g.start in
      let i = seeing.see-inside s p in
      let b = reach-boundary o refused-of.place (boundaries.first s o) in
      record {
        start = e ∙ ap (λ (n : ℕ). bad (record { reason = g.reason; start = p; end = n })) refused-of.empty;
        character = seen-whole s p o b (see s p) refl i;
        empty = seen-empty s p refused-inside (see s p) i;
        starts = b;
        ends = seen-ends s p o b (see s p) refl;
      }
