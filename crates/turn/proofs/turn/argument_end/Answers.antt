-- `turn::turn::argument_end` meets its contract. The invariant: the search from `i` on finds what the search from the start finds.
-- Assumes nothing.
use Rattle.std.proofs.Common.{ℕ, ◌+◌, arith, add-one, refl, sym, ap, ◌∙◌}
use Rattle.raw.specs.Reader.{many}
use Rattle.turn.specs.Content.{end_turn, argument_end}
use Rattle.turn.specs.Turns.{end_of}
use Rattle.turn.proofs.ways.TextWays.{end-off, end-open, end-close, end-found}
use Rattle.turn.proofs.turn.argument_end.Goals as goal

pub loop-at-init : goal.loop-at-init
unfolding argument_end
loop-at-init c = (omega arith, c.requires, omega arith, refl)

pub returns-then-s-j : goal.returns-then-s-j
returns-then-s-j c =
    let loop = c.loop-at in
    let s = c.args.s.now in
    let off = end-off loop.depth s loop.i c.eat_until-j.result c.eat_until-j.ensures.0 c.if-s-j.true in
    rw c.fault_at.ensures (record {
      value = off ∙ sym loop.invariant.3;
      end_inside = (omega (arith, c.eat_until-j.ensures.1.to, loop.invariant.1), omega (arith, c.eat_until-j.ensures.1.to, loop.invariant.1));
    })

pub loop-at-preserved-then-s-j-eq123 : goal.loop-at-preserved-then-s-j-eq123
loop-at-preserved-then-s-j-eq123 c = (
  omega (arith, c.eat_until-j.ensures.1.from, c.loop-at.invariant.0),
  omega (arith, c.if-s-j.false),
  omega (arith, c.eat_until-j.ensures.1.from, c.loop-at.invariant.2),
  c.loop-at.invariant.3 ∙ end-open c.loop-at.depth c.args.s.now c.loop-at.i c.eat_until-j.result c.eat_until-j.ensures.0
      c.if-s-j.false c.if-s-j-eq123.true
      ∙ ap (λ (d : ℕ). end_of (many end_turn d c.args.s.now (c.eat_until-j.result + 1))) (sym (add-one c.loop-at.depth)),
)

pub returns-then-depth-eq0 : goal.returns-then-depth-eq0
returns-then-depth-eq0 c = record {
  value = end-found c.loop-at.depth c.args.s.now c.loop-at.i c.eat_until-j.result c.eat_until-j.ensures.0 c.if-s-j.false
      c.if-s-j-eq123.false c.if-depth-eq0.true ∙ sym c.loop-at.invariant.3;
  end_inside = (omega (arith, c.eat_until-j.ensures.1.from, c.loop-at.invariant.0), c.if-s-j.false);
}

pub loop-at-preserved : goal.loop-at-preserved
loop-at-preserved c = (
  omega (arith, c.eat_until-j.ensures.1.from, c.loop-at.invariant.0),
  omega (arith, c.if-s-j.false),
  omega (arith, c.eat_until-j.ensures.1.from, c.loop-at.invariant.2),
  c.loop-at.invariant.3 ∙ end-close c.loop-at.depth c.args.s.now c.loop-at.i c.eat_until-j.result c.eat_until-j.ensures.0
      c.if-s-j.false c.if-s-j-eq123.false c.if-depth-eq0.false,
)
