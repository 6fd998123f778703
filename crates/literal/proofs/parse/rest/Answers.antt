-- `literal::parse::rest` meets its contract. Assumes nothing.
use Rattle.std.proofs.Common.{arith, sym, subst, length}
use Rattle.row.specs.Limits.{most_bytes}
use Rattle.literal.specs.Inner.{AheadMade}
use Rattle.turn.specs.Turns.{Placed}
use Rattle.literal.proofs.ways.LiteralWays.{rest-long, rest-refused, rest-chunks, rest-ready, rest-fits, rest-grows, first}
use Rattle.literal.proofs.parse.rest.Goals as goal

pub returns-then-s-gt-MOST_LITERAL : goal.returns-then-s-gt-MOST_LITERAL
returns-then-s-gt-MOST_LITERAL c = let a = c.args in record {
  says_parsed = rest-long a.verb a.s.now a.base a.before a.have a.numbers.now _ _ c.if-s-gt-MOST_LITERAL.true;
  grows_parsed = (omega (arith, c.requires.0.file), omega (arith, c.requires.0.file));
}

pub content-requires : goal.content-requires
content-requires c =
    let a = c.args in
    rest-ready a.s.now a.base a.before a.have a.out.now c.requires.0 c.if-s-gt-MOST_LITERAL.false a.at
    a.len c.requires.1.grows

pub up-requires : goal.up-requires
up-requires c =
    let a = c.args in
    let file = c.requires.0.file in
    let placed = subst (AheadMade (length a.s.now) 0 (first a.have a.at a.len)) c.in-Err.is c.content.ensures.ahead_made in (
      omega (arith, placed.0, file),
      omega (arith, placed.1, file),
      omega (arith, file),
    )

pub close-rows-requires : goal.close-rows-requires
close-rows-requires c =
    let a = c.args in
    rest-fits a.s.now a.base a.before a.have a.out.now c.requires.0 c.if-s-gt-MOST_LITERAL.false a.at
    a.len c.requires.1.grows
    c.in-Ok.t c.content.result c.in-Ok.is c.content.ensures.ahead_made _ c.content.auto.out

pub returns-in-Err : goal.returns-in-Err
returns-in-Err c =
    let a = c.args in
    let file = c.requires.0.file in
    let placed = subst (AheadMade (length a.s.now) 0 (first a.have a.at a.len)) c.in-Err.is c.content.ensures.ahead_made in record {
      says_parsed = rest-refused a.base a.before a.have a.numbers.now a.verb a.s.now a.at a.len a.out.now c.requires.1
          c.content.result _ _ _ _ c.if-s-gt-MOST_LITERAL.false c.content.ensures.says_content c.in-Err.f c.up.result
          c.in-Err.is c.up.ensures;
      grows_parsed = subst (Placed most_bytes) (sym c.up.ensures) (omega (arith, placed.0, file), omega (arith, placed.1, file));
    }

pub returns-in-Ok : goal.returns-in-Ok
returns-in-Ok c =
    let a = c.args in record {
      says_parsed = rest-chunks a.base a.before a.have a.numbers.now a.verb a.s.now a.at a.len a.out.now c.requires.1
          c.content.result _ _ _ _ c.if-s-gt-MOST_LITERAL.false c.content.ensures.says_content c.in-Ok.t c.close-rows.result
          c.in-Ok.is c.close-rows.ensures;
      grows_parsed = rest-grows a.s.now a.base a.before a.have a.out.now c.requires.0 c.if-s-gt-MOST_LITERAL.false a.at
          a.len c.requires.1.grows c.in-Ok.t c.content.result c.in-Ok.is c.content.ensures.ahead_made
          c.close-rows.result c.close-rows.ensures.few;
    }
