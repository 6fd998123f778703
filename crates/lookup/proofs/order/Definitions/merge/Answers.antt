-- `lookup::order::Definitions::merge` meets its contract. Assumes nothing.
use Rattle.std.proofs.Common.{sym, ◌∙◌}
use Rattle.row.specs.Numbers.{rows_of}
use Rattle.lookup.specs.Order.{comes}
use Rattle.lookup.proofs.loops.MergeTurns.{left-inside, right-inside, going-left, going-right, going-ends}
use Rattle.lookup.proofs.order.Definitions.merge.Goals as goal

pub bounds-a-i : goal.bounds-a-i
bounds-a-i c =
    let l = c.loop-i in
    let a = c.args in
    let le = comes a.self.file.now (rows_of a.self.rows.now) in
    let first = sym c.takes_left.ensures ∙ c.if-takes_left.true in
    left-inside le a.a.now a.b.now l.i l.j c.loop-i-test.true first

pub loop-i-preserved-then-takes_left : goal.loop-i-preserved-then-takes_left
loop-i-preserved-then-takes_left c =
    let l = c.loop-i in
    let a = c.args in
    let le = comes a.self.file.now (rows_of a.self.rows.now) in
    let first = sym c.takes_left.ensures ∙ c.if-takes_left.true in
    going-left le a.a.now a.b.now a.out.now l.out l.i l.j c.requires l.invariant c.loop-i-test.true first

pub bounds-b-j : goal.bounds-b-j
bounds-b-j c =
    let l = c.loop-i in
    let a = c.args in
    let le = comes a.self.file.now (rows_of a.self.rows.now) in
    let first = sym c.takes_left.ensures ∙ c.if-takes_left.false in
    right-inside le a.a.now a.b.now l.i l.j first

pub loop-i-preserved : goal.loop-i-preserved
loop-i-preserved c =
    let l = c.loop-i in
    let a = c.args in
    let le = comes a.self.file.now (rows_of a.self.rows.now) in
    let first = sym c.takes_left.ensures ∙ c.if-takes_left.false in
    going-right le a.a.now a.b.now a.out.now l.out l.i l.j c.requires l.invariant c.loop-i-test.true first

pub returns : goal.returns
returns c =
    let l = c.loop-i in
    let a = c.args in
    let le = comes a.self.file.now (rows_of a.self.rows.now) in
    going-ends le a.a.now a.b.now a.out.now l.out l.i l.j c.requires l.invariant c.loop-i-test.false
