-- `whole::file::bound_row` meets its contract. Assumes nothing.
use Prim.Native.Nat.{◌+◌}
use native.Mathlib.Omega.{arith}
use mathlib.Core.Path.{subst}
use lib.ListN.{drop}
use Rattle.row.specs.Numbers.{rows_of}
use Rattle.values.specs.Uses.{lent_in}
use Rattle.whole.specs.Bounds.{MostOf, SmallMost}
use Rattle.whole.proofs.counting.RowKinds.{inside}
use Rattle.whole.proofs.counting.Covering.{cover-few, cover-flag, cover-other, cover-most, cover-count}
use Rattle.whole.proofs.file.bound_row.Goals as goal

pub returns-then-not-is_value : goal.returns-then-not-is_value
returns-then-not-is_value c =
    let a = c.args in
    let p = c.requires in
    let lent = lent_in a.resolver.now in
    let below = inside a.resolver.now.rows.now a.i p.1 in (
      cover-other lent a.flags.now a.i a.t p.3 below c.is_value.result c.is_value.ensures
          c.if-not-is_value.true,
      p.2,
    )

pub most_of-requires : goal.most_of-requires
most_of-requires c =
    let p = c.requires in
    (omega (arith, p.1), p.4.0)

pub add-requires : goal.add-requires
add-requires c =
    let a = c.args in
    let p = c.requires in
    let lent = lent_in a.resolver.now in
    let most = subst SmallMost c.in-Some.is c.most_of.ensures.1 in
    let few = cover-few lent a.flags.now a.i a.t p.3 in
    (p.2, omega (arith, most.0), most.1, omega (arith, few, p.1))

pub flag_at-flag-requires : goal.flag_at-flag-requires
flag_at-flag-requires c =
    let a = c.args in
    let p = c.requires in
    let lent = lent_in a.resolver.now in
    let below = inside a.resolver.now.rows.now a.i p.1 in
    cover-flag lent a.flags.now a.i a.t p.3 below c.is_value.result c.is_value.ensures
    c.if-not-is_value.false p.0.flagged

pub add_counted-requires : goal.add_counted-requires
add_counted-requires c =
    let a = c.args in
    let p = c.requires in
    let lent = lent_in a.resolver.now in
    let few = cover-few lent a.flags.now a.i a.t p.3 in
    (p.2, c.count-w.ensures.bounded_went, omega (arith, few, p.1))

pub returns-in-Some : goal.returns-in-Some
returns-in-Some c =
    let a = c.args in
    let p = c.requires in
    let lent = lent_in a.resolver.now in
    let most = subst (MostOf a.name (drop (a.i + 1) (rows_of a.resolver.now.rows.now))) c.in-Some.is c.most_of.ensures.0 in
    let below = inside a.resolver.now.rows.now a.i p.1 in (
      cover-most lent a.flags.now a.i a.t p.3 below c.is_value.result c.is_value.ensures
          c.if-not-is_value.false a.name p.4 c.in-Some.most.rows c.in-Some.most.bytes most c.add.result c.add.ensures.2,
      c.add.ensures.1,
    )

pub returns-in-None : goal.returns-in-None
returns-in-None c =
    let a = c.args in
    let p = c.requires in
    let lent = lent_in a.resolver.now in
    let below = inside a.resolver.now.rows.now a.i p.1 in (
      cover-count lent a.flags.now a.i a.t p.3 below c.is_value.result c.is_value.ensures
          c.if-not-is_value.false c.flag_at-flag.result c.flag_at-flag.ensures c.count-w.result
          c.count-w.ensures.counted c.add_counted.result c.add_counted.ensures.2,
      c.add_counted.ensures.1,
    )
