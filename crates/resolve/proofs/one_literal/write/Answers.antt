-- `resolve::one_literal::write` meets its contract. Assumes nothing.
use Rattle.std.proofs.Common.{arith}
use Rattle.std.proofs.lemmas.Result.{err_from_is_err_and}
use Rattle.literal.specs.Literal.{resolve_literal}
use Rattle.resolve.proofs.ways.WriteWays.{write-few, write-room, write-refused, write-full, write-held, write_done}
use Rattle.resolve.proofs.one_literal.write.Goals as goal

pub returns-then-chunks-n : goal.returns-then-chunks-n
returns-then-chunks-n c =
    let a = c.args in
    rw c.nowhere.ensures
    (write-full (resolve_literal a.verbatim a.s.now a.base) _ c.rest.result _ _ c.rest.ensures.says_parsed a.chunks.now
    a.text.now c.in_ok-rows.rows c.in_ok-rows.len c.in_ok-rows.was c.rest.ensures.grows_parsed c.if-chunks-n.true)

pub copy-requires : goal.copy-requires
copy-requires c =
    let a = c.args in
    let few = write-few (resolve_literal a.verbatim a.s.now a.base) _ c.rest.result _ _ c.rest.ensures.says_parsed
    a.chunks.now
    a.text.now c.in_ok-rows.rows c.in_ok-rows.len c.in_ok-rows.was c.rest.ensures.grows_parsed in
    (omega arith, omega (arith, few.0, c.requires.1, c.rest.auto.out), omega (arith, few.0))

pub copy_numbers-requires : goal.copy_numbers-requires
copy_numbers-requires c =
    let a = c.args in
    let enough = write-room (resolve_literal a.verbatim a.s.now a.base) _ c.rest.result _ _ c.rest.ensures.says_parsed a.chunks.now
    a.text.now c.in_ok-rows.rows c.in_ok-rows.len c.in_ok-rows.was c.rest.ensures.grows_parsed c.if-chunks-n.false in
    (omega (arith, c.if-n-le32.true, c.rest.auto.numbers), omega (arith, enough.0))

pub returns-then-n-le32 : goal.returns-then-n-le32
returns-then-n-le32 c =
    let a = c.args in
    let few = write-few (resolve_literal a.verbatim a.s.now a.base) _ c.rest.result _ _ c.rest.ensures.says_parsed a.chunks.now
    a.text.now c.in_ok-rows.rows c.in_ok-rows.len c.in_ok-rows.was c.rest.ensures.grows_parsed in
    write-held (resolve_literal a.verbatim a.s.now a.base) _ c.rest.result _ _ c.rest.ensures.says_parsed a.chunks.now
    a.text.now c.in_ok-rows.rows c.in_ok-rows.len c.in_ok-rows.was c.rest.ensures.grows_parsed c.if-chunks-n.false
    (omega (arith, few.0, c.requires.1, c.rest.auto.out)) c.copy.result _ c.copy.ensures.puts
    (omega (arith, c.if-n-le32.true)) _ c.copy_numbers.ensures

pub parse-requires : goal.parse-requires
parse-requires c =
    let p = c.requires in
    record {
      file = p.0;
      scratch = omega (arith, p.1, c.rest.auto.out);
      value = omega arith;
      rows = omega arith;
    }

pub returns-in_err-rows : goal.returns-in_err-rows
returns-in_err-rows c =
    let a = c.args in
    let e = err_from_is_err_and c.from_residual.result c.from_residual.ensures.1 in
    rw (e.1, e.2)
    (write-refused (resolve_literal a.verbatim a.s.now a.base) _ c.rest.result _ _ c.rest.ensures.says_parsed a.chunks.now
    a.text.now _ c.in_err-rows.was)

pub returns : goal.returns
returns c =
    let a = c.args in
    let few = write-few (resolve_literal a.verbatim a.s.now a.base) _ c.rest.result _ _ c.rest.ensures.says_parsed a.chunks.now
    a.text.now c.in_ok-rows.rows c.in_ok-rows.len c.in_ok-rows.was c.rest.ensures.grows_parsed in
    write_done (resolve_literal a.verbatim a.s.now a.base) _ c.rest.result _ _ c.rest.ensures.says_parsed a.chunks.now
    a.text.now c.in_ok-rows.rows c.in_ok-rows.len c.in_ok-rows.was c.rest.ensures.grows_parsed c.if-chunks-n.false
    (omega (arith, few.0, c.requires.1, c.rest.auto.out)) c.copy.result _ c.copy.ensures.puts
    c.parse.result _ _ c.parse.ensures.says_parsed
