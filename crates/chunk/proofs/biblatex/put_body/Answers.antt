-- `chunk::biblatex::put_body` meets its contract. Assumes nothing.
use Rattle.std.proofs.Common.{arith, sym, ap}
use Rattle.text.specs.Scan.{part}
use Rattle.chunk.specs.declared.form.Kind.{Kind}
use Rattle.chunk.specs.Format.{body_of}
use Rattle.chunk.proofs.texts.Puts.{puts-on, puts-as}
use Rattle.chunk.proofs.biblatex.put_body.Goals as goal

pub returns-in-Normal : goal.returns-in-Normal
returns-in-Normal c =
    let a = c.args in
    let e = sym (ap (λ (k : Kind). body_of a.verb k (part a.t.now a.from a.to)) c.in-Normal.is) in
    record { puts = puts-as e c.escaped.ensures.puts; upper_bound = omega (arith, c.escaped.ensures.upper_bound) }

pub returns-in-Verbatim : goal.returns-in-Verbatim
returns-in-Verbatim c =
    let a = c.args in
    let e = sym (ap (λ (k : Kind). body_of a.verb k (part a.t.now a.from a.to)) c.in-Verbatim.is) in
    record { puts = puts-as e c.escaped-in-Verbatim.ensures.puts; upper_bound = omega (arith, c.escaped-in-Verbatim.ensures.upper_bound) }

pub returns-in-Math : goal.returns-in-Math
returns-in-Math c =
    let a = c.args in
    let e = sym (ap (λ (k : Kind). body_of a.verb k (part a.t.now a.from a.to)) c.in-Math.is) in
    record {
      puts = puts-as e (puts-on c.copy-last.ensures.puts c.put.ensures.puts);
      upper_bound = omega (arith, c.copy-last.ensures.from_value, c.put.ensures.value, c.requires.0);
    }
