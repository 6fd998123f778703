-- `command::execute::execute_before` meets its contract. Assumes nothing.
use Rattle.std.proofs.Common.{arith, refl}
use Rattle.text.specs.Scan.{part}
use Rattle.text.specs.Utf8.{is_scalar}
use Rattle.command.specs.declared.meaning.Meaning.TheVariants as meaning
use Rattle.command.proofs.stacks.LaysLaws.{lays-none, octets-two}
use Rattle.command.proofs.ways.ExecuteWays.{leads, leads-unknown}
use Rattle.command.proofs.execute.execute_before.Goals as goal

pub put_code-requires : goal.put_code-requires
unfolding is_scalar
put_code-requires c = (refl, omega (arith, c.requires, octets-two 0xA9 (omega arith)))

pub returns-in-Copyright : goal.returns-in-Copyright
returns-in-Copyright c =
    let a = c.args in record {
      lays = leads a.at (part a.s.now a.a a.e) a.out.now a.m meaning.Copyright c.put_code.result _ c.in-Copyright.is
          c.put_code.ensures;
      a_bound = omega (arith, c.put_code.ensures.end, c.requires.0, octets-two 0xA9 (omega arith));
    }

pub returns-in-Unknown : goal.returns-in-Unknown
returns-in-Unknown c =
    let a = c.args in
    let known = c.in-Unknown.is in record {
      lays = leads-unknown a.at (part a.s.now a.a a.e) a.out.now a.m c.push-l.result _ c.copy-k.result _ c.push.result
          _ known c.push-l.ensures.lays c.copy-k.ensures.lays c.push.ensures.lays;
      a_bound = omega (arith, c.push-l.ensures.value, c.copy-k.ensures.from_value, c.push.ensures.value, c.requires.0);
    }

pub returns-in-Itself : goal.returns-in-Itself
returns-in-Itself c =
    let a = c.args in record {
      lays = leads a.at (part a.s.now a.a a.e) a.out.now a.m meaning.Itself a.at _ c.in-Itself.is
          (lays-none a.at a.out.now);
      a_bound = omega (arith, c.requires.0);
    }

pub returns-in-Letter : goal.returns-in-Letter
returns-in-Letter c =
    let a = c.args in record {
      lays = leads a.at (part a.s.now a.a a.e) a.out.now a.m (meaning.Letter _) a.at _ c.in-Letter.is
          (lays-none a.at a.out.now);
      a_bound = omega (arith, c.requires.0);
    }

pub returns-in-Accent : goal.returns-in-Accent
returns-in-Accent c =
    let a = c.args in record {
      lays = leads a.at (part a.s.now a.a a.e) a.out.now a.m (meaning.Accent _) a.at _ c.in-Accent.is
          (lays-none a.at a.out.now);
      a_bound = omega (arith, c.requires.0);
    }

pub returns-in-Slash : goal.returns-in-Slash
returns-in-Slash c =
    let a = c.args in record {
      lays = leads a.at (part a.s.now a.a a.e) a.out.now a.m meaning.Slash a.at _ c.in-Slash.is
          (lays-none a.at a.out.now);
      a_bound = omega (arith, c.requires.0);
    }

pub returns-in-Hyphenation : goal.returns-in-Hyphenation
returns-in-Hyphenation c =
    let a = c.args in record {
      lays = leads a.at (part a.s.now a.a a.e) a.out.now a.m meaning.Hyphenation a.at _ c.in-Hyphenation.is
          (lays-none a.at a.out.now);
      a_bound = omega (arith, c.requires.0);
    }
