-- `turn::turn::hyphens` meets its contract. Assumes nothing.
use Rattle.std.proofs.Common.{◌+◌, arith, refl, false, ◌∷◌, []}
use Rattle.text.specs.Utf8.{is_scalar, octets}
use Rattle.command.proofs.stacks.LaysLaws.{octets-three}
use Rattle.turn.proofs.ways.TextTurns.{wrote_one}
use Rattle.turn.proofs.ways.TextWays.{hyphen-one, hyphen-two, hyphen-three}
use Rattle.turn.proofs.turn.hyphens.Goals as goal

pub returns-then-two-one : goal.returns-then-two-one
returns-then-two-one c =
    let a = c.args in
    let p = c.requires in record {
      wrote = wrote_one false a.s.now a.at a.len a.out.now (a.at + 1) c.push-l.result _ (0x2D ∷ [])
          (hyphen-one a.s.now a.at p.0 p.1 c.eat_byte-two.result c.eat_byte-two.ensures.0 c.if-two-one.true)
          c.push-l.ensures.lays;
      grows = record { at = omega arith; inside = omega (arith, p.0); text = omega (arith, c.push-l.ensures.value) };
    }

pub put_code-l-requires : goal.put_code-l-requires
unfolding is_scalar
put_code-l-requires c = (
  refl,
  omega (
    arith,
    c.requires.2,
    c.requires.0,
    c.eat_byte-two.ensures.1.from,
    c.eat_byte-two.ensures.1.to,
    c.if-two-one.false,
    octets-three
        0x2013 (omega arith),
  ),
)

pub returns-then-three-two : goal.returns-then-three-two
unfolding octets
returns-then-three-two c =
    let a = c.args in
    let p = c.requires in record {
      wrote = wrote_one false a.s.now a.at a.len a.out.now c.eat_byte-two.result c.put_code-l.result _ (octets 0x2013)
          (hyphen-two a.s.now a.at p.0 p.1 c.eat_byte-two.result c.eat_byte-two.ensures.0 c.if-two-one.false
          c.eat_byte-three.result c.eat_byte-three.ensures.0 c.if-three-two.true)
          c.put_code-l.ensures;
      grows = record {
        at = omega (arith, c.eat_byte-two.ensures.1.from);
        inside = omega (arith, c.eat_byte-two.ensures.1.to, p.0);
        text = omega (arith, c.put_code-l.ensures.end, c.eat_byte-two.ensures.1.from, c.if-two-one.false, octets-three 0x2013 (omega arith));
      };
    }

pub put_code-l-requires-2 : goal.put_code-l-requires-2
unfolding is_scalar
put_code-l-requires-2 c = (
  refl,
  omega (
    arith,
    c.requires.2,
    c.requires.0,
    c.eat_byte-two.ensures.1.from,
    c.eat_byte-two.ensures.1.to,
    c.if-two-one.false,
    octets-three
        0x2014 (omega arith),
  ),
)

pub returns : goal.returns
unfolding octets
returns c =
    let a = c.args in
    let p = c.requires in record {
      wrote = wrote_one false a.s.now a.at a.len a.out.now c.eat_byte-three.result c.put_code-l-2.result _ (octets 0x2014)
          (hyphen-three a.s.now a.at p.0 p.1 c.eat_byte-two.result c.eat_byte-two.ensures.0 c.if-two-one.false
          c.eat_byte-three.result c.eat_byte-three.ensures.0 c.if-three-two.false)
          c.put_code-l-2.ensures;
      grows = record {
        at = omega (arith, c.eat_byte-two.ensures.1.from, c.eat_byte-three.ensures.1.from);
        inside = omega (arith, c.eat_byte-two.ensures.1.to, c.eat_byte-three.ensures.1.to, p.0);
        text = omega (
          arith,
          c.put_code-l-2.ensures.end,
          c.eat_byte-two.ensures.1.from,
          c.eat_byte-three.ensures.1.from,
          c.if-two-one.false,
          octets-three 0x2014 (omega arith),
        );
      };
    }
