-- `chunk::ending::line_end` meets its contract. Assumes nothing.
use Rattle.std.proofs.Common.{ℕ, ◌<◌, arith, ◌≡◌, refl, sym, ap, subst, ◌∙◌, true, length}
use Rattle.text.specs.Scan.{part}
use Rattle.chunk.specs.Format.{is_line_end}
use Rattle.chunk.specs.Inner.{plain}
use Rattle.chunk.proofs.texts.LineEnds as laws
use Rattle.chunk.proofs.ending.line_end.Goals as goal

pub loop-i-init : goal.loop-i-init
loop-i-init c =
    let a = c.args in
    laws.plain-clear a.t.now a.from a.to c.requires.0 c.requires.1 c.past_lines-i.ensures

pub returns-then-is_line_end : goal.returns-then-is_line_end
returns-then-is_line_end c =
    let a = c.args in
    let b = c.loop-i in
    let end = sym (c.is_line_end.ensures ∙ ap is_line_end c.from.ensures) ∙ c.if-is_line_end.true in
    (b.invariant.2, laws.stops_at a.t.now b.i a.to c.loop-i-test.true c.requires.1 end, b.invariant.0, b.invariant.1)

pub loop-i-preserved : goal.loop-i-preserved
loop-i-preserved c =
    let a = c.args in
    let b = c.loop-i in
    let l = c.loop-i-test.true in
    let h : b.i < length a.t.now = omega (arith, l, c.requires.1) in
    let other = sym (c.is_line_end.ensures ∙ ap is_line_end c.from.ensures) ∙ c.if-is_line_end.false in
    (omega (arith, b.invariant.0), omega (arith, l), laws.plain-on a.t.now a.from b.i b.invariant.0 h b.invariant.2 other)

pub returns : goal.returns
returns c =
    let a = c.args in
    let b = c.loop-i in
    let i : b.i ≡ a.to = omega (arith, c.loop-i-test.false, b.invariant.1) in
    (subst (λ (k : ℕ). plain (part a.t.now a.from k) ≡ true) i b.invariant.2, laws.stops_end a.t.now a.to a.to refl, c.requires.0, omega arith)
