-- `text::utf8::validate_short` meets its contract: what is told without `validate` is what the walk comes to. Assumes nothing.
use Rattle.std.specs.Prelude.{Ok}
use mathlib.Core.Path.{refl, sym, ◌∙◌}
use native.Mathlib.Omega.{arith}
use Rattle.text.proofs.sequences.FirstOctet.{width-none}
use Rattle.text.proofs.sequences.ValidateLoop.{valid-stop, valid-to}
use Rattle.text.proofs.sequences.Walk.{walk_end}
use Rattle.text.specs.Utf8.{look_valid}
use Rattle.text.proofs.utf8.validate_short.Goals as goal

pub returns-then-s-at : goal.returns-then-s-at
returns-then-s-at c = let at = c.wide_at-at.ensures in sym (valid-to c.args.s.now c.wide_at-at.result at.to at.narrow ∙ walk_end look_valid (λ n. (Ok tt)) _ _ c.if-s-at.true)

pub returns-then-a : goal.returns-then-a
returns-then-a c =
    let a = c.args in
    let inside = c.if-s-at.false in
    let octet = c.shared_slice_known-then-s-lt16-1.given c.wide_at-at.result in
    let none = width-none a.s.now c.wide_at-at.result inside (omega arith) (c.wide_at-at.ensures.wide inside) c.if-a.true in
    sym (valid-to a.s.now c.wide_at-at.result c.wide_at-at.ensures.to c.wide_at-at.ensures.narrow ∙ valid-stop (λ n. (Ok tt)) _ _ 0 (sym none) refl inside)
