-- `resolve::progress::literal` meets its contract. Assumes nothing.
use Rattle.std.proofs.Common.{arith}
use Rattle.std.proofs.lemmas.Result.{err_from_is_err_and}
use Rattle.literal.specs.Literal.{resolve_literal}
use Rattle.resolve.proofs.appending.AppendWays.{literal-few, literal-narrow, literal-refused, literal-done}
use Rattle.resolve.proofs.progress.literal.Goals as goal

pub append-requires : goal.append-requires
append-requires c =
    let p = c.requires in
    let few = literal-few c.args.st.rows _ c.parse.ensures.grows_parsed _ _ c.in_ok-rows.was in (
      p.1,
      omega arith,
      omega (arith, few.0, p.0, c.parse.auto.out),
    )

pub returns-in_err-rows : goal.returns-in_err-rows
returns-in_err-rows c =
    let a = c.args in
    let e = err_from_is_err_and c.from_residual.result c.from_residual.ensures.1 in
    rw (e.1, e.2)
    (record {
      says_run = literal-refused (resolve_literal a.verb a.s.now a.base) a.st a.chunks.now a.text.now _ _ _ c.parse.ensures.says_parsed _
          c.in_err-rows.was;
      bounded_went = literal-narrow a.st.rows _ c.parse.ensures.grows_parsed _ c.in_err-rows.was;
    })

pub returns : goal.returns
returns c =
    let a = c.args in
    let few = literal-few a.st.rows _ c.parse.ensures.grows_parsed _ _ c.in_ok-rows.was in record {
      says_run = literal-done (resolve_literal a.verb a.s.now a.base) a.st a.chunks.now a.text.now _ _ _ c.parse.ensures.says_parsed _ _
          c.in_ok-rows.was (omega (arith, few.0, c.requires.0, c.parse.auto.out)) _ _ c.append.ensures.bounded.1
          c.append.ensures.appends;
      bounded_went = c.append.ensures.bounded.0;
    }
