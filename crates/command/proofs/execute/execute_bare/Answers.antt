-- `command::execute::execute_bare` meets its contract. Assumes nothing.
use Rattle.std.proofs.Common.{arith, refl, sym, subst, [], append-nil}
use Rattle.text.specs.Utf8.{octets, is_scalar}
use Rattle.text.specs.Scan.{part}
use Rattle.command.proofs.stacks.LaysLaws.{lays-none, octets-three, octets-two}
use Rattle.command.specs.declared.meaning.Meaning.TheVariants.{Itself, Slash, Copyright, Hyphenation}
use Rattle.command.specs.Execute.{Sane}
use Rattle.command.proofs.ways.ExecuteWays as laws
use Rattle.command.proofs.execute.execute_bare.Goals as goal

pub put_code-requires : goal.put_code-requires
put_code-requires c =
    let a = c.args in
    let s = subst Sane c.in-Letter.is c.requires.0 in
    (s.0, omega (arith, octets-three _ s.1, c.requires.1, c.requires.3))

pub put_code-requires-in-Accent : goal.put_code-requires-in-Accent
put_code-requires-in-Accent c =
    let a = c.args in
    let s = subst Sane c.in-Accent.is c.requires.0 in
    (s.0, omega (arith, octets-two _ s.1, c.requires.1, c.requires.3))

pub put_code-requires-in-Slash : goal.put_code-requires-in-Slash
unfolding is_scalar
put_code-requires-in-Slash c =
    let a = c.args in
    (refl, omega (arith, octets-two 0xF8 (omega arith), c.requires.1, c.requires.3))

pub put_code-requires-in-Copyright : goal.put_code-requires-in-Copyright
unfolding is_scalar
put_code-requires-in-Copyright c =
    let a = c.args in
    (refl, omega (arith, octets-two 0xA9 (omega arith), c.requires.1, c.requires.3))

pub returns-in-Itself : goal.returns-in-Itself
returns-in-Itself c =
    let a = c.args in record {
      lays = laws.bare-as (part a.s.now a.a a.e) a.m a.out.now a.at Itself _ c.copy.result _
          c.in-Itself.is refl c.copy.ensures.lays;
      a_bound = omega (arith, c.copy.ensures.from_value);
    }

pub returns-in-Letter : goal.returns-in-Letter
returns-in-Letter c =
    let a = c.args in
    let s = subst Sane c.in-Letter.is c.requires.0 in record {
      lays = laws.bare-as (part a.s.now a.a a.e) a.m a.out.now a.at _ _ c.put_code.result _
          c.in-Letter.is refl c.put_code.ensures;
      a_bound = omega (arith, c.put_code.ensures.end, octets-three _ s.1, c.requires.1);
    }

pub returns-in-Accent : goal.returns-in-Accent
returns-in-Accent c =
    let a = c.args in
    let s = subst Sane c.in-Accent.is c.requires.0 in record {
      lays = laws.bare-as (part a.s.now a.a a.e) a.m a.out.now a.at _ _ c.put_code-in-Accent.result _
          c.in-Accent.is refl c.put_code-in-Accent.ensures;
      a_bound = omega (arith, c.put_code-in-Accent.ensures.end, octets-two _ s.1, c.requires.1);
    }

pub returns-in-Slash : goal.returns-in-Slash
returns-in-Slash c =
    let a = c.args in record {
      lays = laws.bare-as (part a.s.now a.a a.e) a.m a.out.now a.at Slash _ c.put_code-in-Slash.result _
          c.in-Slash.is refl c.put_code-in-Slash.ensures;
      a_bound = omega (arith, c.put_code-in-Slash.ensures.end, octets-two 0xF8 (omega arith), c.requires.1);
    }

pub returns-in-Copyright : goal.returns-in-Copyright
returns-in-Copyright c =
    let a = c.args in record {
      lays = laws.bare-as (part a.s.now a.a a.e) a.m a.out.now a.at Copyright _ c.put_code-in-Copyright.result _
          c.in-Copyright.is (sym (append-nil (octets 0xA9))) c.put_code-in-Copyright.ensures;
      a_bound = omega (arith, c.put_code-in-Copyright.ensures.end, octets-two 0xA9 (omega arith), c.requires.1);
    }

pub returns-in-Hyphenation : goal.returns-in-Hyphenation
returns-in-Hyphenation c =
    let a = c.args in
    let p = c.requires in record {
      lays = laws.bare-as (part a.s.now a.a a.e) a.m a.out.now a.at Hyphenation [] a.at _ c.in-Hyphenation.is refl
          (lays-none a.at a.out.now);
      a_bound = omega (arith, p.1);
    }

pub returns-in-Unknown : goal.returns-in-Unknown
returns-in-Unknown c =
    let a = c.args in record {
      lays = laws.bare-unknown (part a.s.now a.a a.e) a.m a.out.now a.at c.push-l.result _ c.copy-k.result _ c.push.result _
          c.in-Unknown.is c.push-l.ensures.lays c.copy-k.ensures.lays c.push.ensures.lays;
      a_bound = omega (arith, c.push-l.ensures.value, c.copy-k.ensures.from_value, c.push.ensures.value);
    }
