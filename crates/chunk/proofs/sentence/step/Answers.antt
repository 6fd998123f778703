-- `chunk::sentence::step` meets its contract. Assumes nothing.
use Rattle.std.proofs.Common.{ℕ, ◌≤◌, le_refl, ◌≡◌, sym, ap, subst, ◌∙◌, Bool, ◌&&◌}
use Rattle.text.specs.Utf8.{is_scalar}
use Rattle.text.specs.Scan.{part, code}
use Rattle.chunk.specs.Sentence.{unbroken}
use Rattle.chunk.proofs.texts.Decoded.{code-scalar}
use Rattle.chunk.proofs.sentences.Said.{unbroken-scalar}
use Rattle.chunk.proofs.sentences.Steps as laws
use Rattle.chunk.proofs.sentence.step.Goals as goal

pub returns-then-not-is_boundary : goal.returns-then-not-is_boundary
returns-then-not-is_boundary c =
    let a = c.args in
    let tail = sym c.is_boundary.ensures ∙ c.if-not-is_boundary.true in
    let all = laws.stays-tail a.t.now a.i a.to c.requires.0 c.requires.1 a.s.first a.s.white tail in
    record { puts = all.0; white_value = all.1 }

pub returns-then-is_line_end-s : goal.returns-then-is_line_end-s
returns-then-is_line_end-s c =
    let a = c.args in
    let first = sym c.is_boundary.ensures ∙ c.if-not-is_boundary.false in
    let end = ap (λ (x : Bool). x && a.s.white) (sym c.is_line_end.ensures) ∙ c.if-is_line_end-s.true in
    let all = laws.stays-end a.t.now a.i a.to c.requires.0 c.requires.1 a.s.first a.s.white first c.code_at-c.ensures end in
    record { puts = all.0; white_value = all.1 }

pub put_cased-at-requires : goal.put_cased-at-requires
put_cased-at-requires c =
    let a = c.args in
    let it = code (part a.t.now a.i a.to) in
    let same : c.unbroken-d.result ≡ unbroken it = c.unbroken-d.ensures ∙ ap unbroken c.code_at-c.ensures in (
      ap is_scalar same ∙ (unbroken-scalar it (code-scalar (part a.t.now a.i a.to))).0,
      c.requires.2,
      λ w. c.requires.3 a.i (le_refl a.i) c.requires.0
          (laws.wide-octet a.t.now a.i a.to c.requires.0 c.requires.1 (subst (λ (d : ℕ). 0x80 ≤ d) same w)),
    )

pub returns : goal.returns
returns c =
    let a = c.args in
    let first = sym c.is_boundary.ensures ∙ c.if-not-is_boundary.false in
    let other = ap (λ (x : Bool). x && a.s.white) (sym c.is_line_end.ensures) ∙ c.if-is_line_end-s.false in
    let all = laws.goes a.t.now a.i a.to c.requires.0 c.requires.1 a.s.first a.s.white first c.code_at-c.ensures other
    c.unbroken-d.ensures c.put_cased-at.ensures.puts c.is_whitespace-white.ensures c.put_cased-at.ensures.upper_bound in
    record { puts = all.0; white_value = all.1 }
