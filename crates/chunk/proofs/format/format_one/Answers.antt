-- `chunk::format::format_one` meets its contract. Assumes nothing.
use Rattle.std.proofs.Common.{arith, sym, ap, ◌∙◌}
use Rattle.text.specs.Scan.{part}
use Rattle.chunk.specs.declared.form.Kind.{Kind}
use Rattle.chunk.specs.Format.{Written, format_one}
use Rattle.chunk.proofs.texts.Puts.{puts-on, puts-as}
use Rattle.chunk.proofs.format.format_one.Goals as goal

pub returns-in-Normal : goal.returns-in-Normal
returns-in-Normal c =
    let a = c.args in
    let e = sym (ap (λ (k : Kind). format_one a.white k (part a.t.now a.from a.to)) c.in-Normal.is) in
    let put = puts-as (ap (λ (w : Written). w.text) e) c.lines.ensures.puts in
    record { puts = put; white_value = (c.lines.ensures.white_value.0 ∙ ap (λ (w : Written). w.white) e, omega (arith, c.lines.ensures.white_value.1)) }

pub returns-in-Verbatim : goal.returns-in-Verbatim
returns-in-Verbatim c =
    let a = c.args in
    let e = sym (ap (λ (k : Kind). format_one a.white k (part a.t.now a.from a.to)) c.in-Verbatim.is) in
    let put = puts-as (ap (λ (w : Written). w.text) e) c.copy-end.ensures.puts in
    record { puts = put; white_value = (c.ends_white-last.ensures ∙ ap (λ (w : Written). w.white) e, omega (arith, c.copy-end.ensures.from_value, c.requires.0)) }

pub returns-in-Math : goal.returns-in-Math
returns-in-Math c =
    let a = c.args in
    let e = sym (ap (λ (k : Kind). format_one a.white k (part a.t.now a.from a.to)) c.in-Math.is) in
    let put = puts-as (ap (λ (w : Written). w.text) e) (puts-on (puts-on c.put-first.ensures.puts c.copy-last.ensures.puts) c.put-end.ensures.puts) in
    record {
      puts = put;
      white_value = (ap (λ (w : Written). w.white) e, omega (arith, c.put-first.ensures.value, c.copy-last.ensures.from_value, c.put-end.ensures.value, c.requires.0));
    }
