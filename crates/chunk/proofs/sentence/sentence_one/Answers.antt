-- `chunk::sentence::sentence_one` meets its contract. Assumes nothing.
use Rattle.std.proofs.Common.{arith, sym, ap, ◌∙◌}
use Rattle.text.specs.Scan.{part}
use Rattle.chunk.specs.declared.form.Kind.{Kind}
use Rattle.chunk.specs.Format.{Written, format_one}
use Rattle.chunk.specs.Sentence.{sentence_one}
use Rattle.chunk.proofs.texts.Puts.{puts-as}
use Rattle.chunk.proofs.sentence.sentence_one.Goals as goal

pub returns-in-Normal : goal.returns-in-Normal
returns-in-Normal c =
    let a = c.args in
    let e = sym (ap (λ (k : Kind). sentence_one a.s.first a.s.white k (part a.t.now a.from a.to)) c.in-Normal.is) in
    let put = puts-as (ap (λ (w : Written). w.text) e) c.normal-r.ensures.puts in
    record { puts = put; white_value = (c.normal-r.ensures.white_value.0 ∙ ap (λ (w : Written). w.white) e, omega (arith, c.normal-r.ensures.white_value.1)) }

pub returns-in-Verbatim : goal.returns-in-Verbatim
returns-in-Verbatim c =
    let a = c.args in
    let q = c.in-Verbatim.is in
    let u = part a.t.now a.from a.to in
    let e = ap (λ (k : Kind). format_one a.s.white k u) q ∙ sym (ap (λ (k : Kind). sentence_one a.s.first a.s.white k u) q) in
    let put = puts-as (ap (λ (w : Written). w.text) e) c.format_one.ensures.puts in
    record { puts = put; white_value = (c.format_one.ensures.white_value.0 ∙ ap (λ (w : Written). w.white) e, omega (arith, c.format_one.ensures.white_value.1)) }

pub returns-in-Math : goal.returns-in-Math
returns-in-Math c =
    let a = c.args in
    let q = c.in-Math.is in
    let u = part a.t.now a.from a.to in
    let e = ap (λ (k : Kind). format_one a.s.white k u) q ∙ sym (ap (λ (k : Kind). sentence_one a.s.first a.s.white k u) q) in
    let put = puts-as (ap (λ (w : Written). w.text) e) c.format_one-in-Math.ensures.puts in
    record { puts = put; white_value = (c.format_one-in-Math.ensures.white_value.0 ∙ ap (λ (w : Written). w.white) e, omega (arith, c.format_one-in-Math.ensures.white_value.1)) }
