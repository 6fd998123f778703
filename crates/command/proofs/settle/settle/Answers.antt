-- `command::settle::settle` meets its contract. Assumes nothing.
use Rattle.std.proofs.Common.{arith, ap, ◌∙◌}
use Rattle.text.specs.Scan.{part}
use Rattle.chunk.specs.Format.{Written}
use Rattle.command.proofs.stacks.LaysLaws.{lays-as, lays-still}
use Rattle.command.proofs.ways.SettleWays as laws
use Rattle.command.proofs.settle.settle.Goals as goal

pub returns-then-braces-eq0 : goal.returns-then-braces-eq0
returns-then-braces-eq0 c =
    let a = c.args in
    let q = laws.settle-normal a.braces a.white (part a.t.now a.from a.to) c.if-braces-eq0.true in record {
      lays = lays-as a.from _ _ a.t.now _ _ (ap (λ (x : Written). x.text) q) c.lines.ensures.lays;
      white_value = (c.lines.ensures.white_value.0 ∙ ap (λ (x : Written). x.white) q, c.lines.ensures.white_value.1);
    }

pub returns : goal.returns
returns c =
    let a = c.args in
    let p = c.requires in
    let q = laws.settle-verbatim a.braces a.white (part a.t.now a.from a.to) c.if-braces-eq0.false in record {
      lays = lays-as a.from _ _ a.t.now _ _ (ap (λ (x : Written). x.text) q) (lays-still a.t.now a.from a.to p.0 p.1);
      white_value = (c.ends_white-w.ensures ∙ ap (λ (x : Written). x.white) q, omega arith);
    }
