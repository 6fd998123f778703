-- `command::execute::execute_command` meets its contract. Assumes nothing.
use Rattle.std.proofs.Common.{arith, refl, subst, []}
use Rattle.text.specs.Utf8.{is_scalar}
use Rattle.text.specs.Scan.{part}
use Rattle.command.proofs.stacks.LaysLaws.{lays-none, octets-three}
use Rattle.command.specs.declared.meaning.Meaning.TheVariants.{Itself, Slash, Hyphenation}
use Rattle.command.specs.Execute.{Sane}
use Rattle.command.proofs.ways.ExecuteWays as laws
use Rattle.command.proofs.execute.execute_command.Goals as goal

pub put_code-requires : goal.put_code-requires
put_code-requires c =
    let a = c.args in
    let s = subst Sane c.in-Letter.is c.requires.marks_value.1 in
    (s.0, omega (arith, octets-three _ s.1, c.requires.at_le_from.4))

pub last_char_combine-requires : goal.last_char_combine-requires
last_char_combine-requires c =
    let a = c.args in
    let q = c.requires.at_le_from in
    let s = subst Sane c.in-Accent.is c.requires.marks_value.1 in
    let n = laws.no_lead (part a.s.now a.a a.e) a.m a.out.now a.at a.from a.to q.0 q.1 (omega (arith, q.2)) q.5 _
    c.in-Accent.is refl in
    (c.requires.marks_value.0, q.1, omega (arith, n, q.3), s.0, s.1)

pub last_char_combine-requires-in-Slash : goal.last_char_combine-requires-in-Slash
unfolding is_scalar
last_char_combine-requires-in-Slash c =
    let a = c.args in
    let q = c.requires.at_le_from in
    let n = laws.no_lead (part a.s.now a.a a.e) a.m a.out.now a.at a.from a.to q.0 q.1 (omega (arith, q.2)) q.5
    Slash c.in-Slash.is refl in
    (c.requires.marks_value.0, q.1, omega (arith, n, q.3), refl, omega arith)

pub returns-in-Itself : goal.returns-in-Itself
returns-in-Itself c =
    let a = c.args in
    let q = c.requires.at_le_from in record {
      lays = laws.runs_as (part a.s.now a.a a.e) a.m a.out.now a.at a.from a.to q.0 q.1 (omega (arith, q.2)) q.5 Itself _
          c.copy.result _ c.in-Itself.is refl c.copy.ensures.lays;
      a_bound = omega (arith, c.copy.ensures.from_value);
    }

pub returns-in-Letter : goal.returns-in-Letter
returns-in-Letter c =
    let a = c.args in
    let q = c.requires.at_le_from in
    let s = subst Sane c.in-Letter.is c.requires.marks_value.1 in record {
      lays = laws.runs_as (part a.s.now a.a a.e) a.m a.out.now a.at a.from a.to q.0 q.1 (omega (arith, q.2)) q.5 _ _
          c.put_code.result _ c.in-Letter.is refl c.put_code.ensures;
      a_bound = omega (arith, c.put_code.ensures.end, octets-three _ s.1, c.requires.marks_value.2);
    }

pub returns-in-Accent : goal.returns-in-Accent
returns-in-Accent c =
    let a = c.args in
    let q = c.requires.at_le_from in
    let n = laws.no_lead (part a.s.now a.a a.e) a.m a.out.now a.at a.from a.to q.0 q.1 (omega (arith, q.2)) q.5 _
    c.in-Accent.is refl in record {
      lays = laws.as-from (part a.s.now a.a a.e) a.m a.out.now a.at a.from a.to q.0 q.1 (omega (arith, q.2)) q.5 _ _
          c.last_char_combine.result _ c.in-Accent.is refl refl c.last_char_combine.ensures.lays;
      a_bound = omega (arith, c.last_char_combine.ensures.upper_bound, n);
    }

pub returns-in-Slash : goal.returns-in-Slash
returns-in-Slash c =
    let a = c.args in
    let q = c.requires.at_le_from in
    let n = laws.no_lead (part a.s.now a.a a.e) a.m a.out.now a.at a.from a.to q.0 q.1 (omega (arith, q.2)) q.5
    Slash c.in-Slash.is refl in record {
      lays = laws.as-from (part a.s.now a.a a.e) a.m a.out.now a.at a.from a.to q.0 q.1 (omega (arith, q.2)) q.5 Slash _
          c.last_char_combine-in-Slash.result _ c.in-Slash.is refl refl c.last_char_combine-in-Slash.ensures.lays;
      a_bound = omega (arith, c.last_char_combine-in-Slash.ensures.upper_bound, n);
    }

pub returns-in-Copyright : goal.returns-in-Copyright
returns-in-Copyright c =
    let a = c.args in
    let q = c.requires.at_le_from in record {
      lays = laws.copyright (part a.s.now a.a a.e) a.m a.out.now a.at a.from a.to q.0 q.1 (omega (arith, q.2)) q.5
          c.in-Copyright.is;
      a_bound = omega arith;
    }

pub returns-in-Hyphenation : goal.returns-in-Hyphenation
returns-in-Hyphenation c =
    let a = c.args in
    let q = c.requires.at_le_from in record {
      lays = laws.runs_as (part a.s.now a.a a.e) a.m a.out.now a.at a.from a.to q.0 q.1 (omega (arith, q.2)) q.5
          Hyphenation [] a.at _ c.in-Hyphenation.is refl (lays-none a.at a.out.now);
      a_bound = omega (arith, c.requires.marks_value.2);
    }

pub returns-in-Unknown : goal.returns-in-Unknown
returns-in-Unknown c =
    let a = c.args in
    let q = c.requires.at_le_from in record {
      lays = laws.unknown (part a.s.now a.a a.e) a.m a.out.now a.at a.from a.to q.0 q.1 (omega (arith, q.2)) q.5
          c.push.result _ c.in-Unknown.is c.push.ensures.lays;
      a_bound = omega (arith, c.push.ensures.value);
    }
