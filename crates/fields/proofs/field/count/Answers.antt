-- `fields::field::count` meets its contract. Assumes nothing.
use Prim.Native.Nat.{◌+◌, ◌*◌}
use native.Mathlib.Omega.{arith}
use mathlib.Core.Path.{refl}
use mathlib.Core.List.{[]}
use lib.ListN.{drop}
use Rattle.row.specs.Numbers.{rows_of}
use Rattle.row.specs.Limits.{most_open}
use Rattle.values.specs.Uses.{value_from, lent_in}
use Rattle.fields.proofs.ways.FieldWays.{says-count}
use Rattle.fields.proofs.ways.FieldWays as ways
use Rattle.fields.proofs.field.count.Goals as goal

pub overflow_mul-which : goal.overflow_mul-which
overflow_mul-which c = omega (arith, c.requires.which)

pub overflow_add-which : goal.overflow_add-which
overflow_add-which c = omega (arith, c.requires.which)

pub value-requires : goal.value-requires
value-requires c =
    let a = c.args in
    let p = c.requires in (
      ways.ready-value-first a.resolver.now a.scratch.now a.which a.scratch.now _ p refl refl,
      c.begin.ensures.1,
      omega arith,
      omega (arith, p.which),
    )

pub returns : goal.returns
returns c =
    let a = c.args in
    let lent = lent_in a.resolver.now in
    let run = value_from lent a.verbatim most_open [] (rows_of (drop (a.which * 4 + 4) a.resolver.now.rows.now)) in
    let said = says-count run c.begin.result.names 0 c.begin.ensures.2 c.begin.result _ _ c.value.result _ _ c.value.ensures.says_run in record {
      counted = ways.count_at lent a.verbatim a.resolver.now.rows.now a.which refl c.value.result
          (ways.count-as (run 0) c.begin.result c.begin.ensures.0 _ _ c.value.result _ _ said);
      bounded_went = c.value.ensures.bounded_went.0;
    }
