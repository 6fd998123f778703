-- `whole::file::add_counted` meets its contract. Assumes nothing.
use Rattle.std.specs.Prelude.{Result}
use Rattle.row.specs.declared.fault.Fault.{Fault}
use Rattle.resolve.specs.declared.progress.Progress.{Progress}
use mathlib.Core.Path.{sym, subst}
use Rattle.resolve.specs.Progress.{BoundedWent}
use Rattle.whole.specs.Filing.{AddsCounted}
use Rattle.whole.specs.Bounds.{CoversCounted}
use Rattle.whole.proofs.file.add_counted.Goals as goal

pub add-requires-in-Ok : goal.add-requires-in-Ok
add-requires-in-Ok c =
    let st = subst BoundedWent c.in-Ok.is c.requires.1 in
    (c.requires.0, st.rows, st.bytes, c.requires.2)

pub returns-in-Err : goal.returns-in-Err
returns-in-Err c =
    let a = c.args in
    let is = sym c.in-Err.is in (
      subst (λ (w : Result Progress Fault). AddsCounted a.t w c.add.result) is c.add.ensures.0,
      c.add.ensures.1,
      subst (λ (w : Result Progress Fault). CoversCounted a.t w c.add.result) is c.add.ensures.2,
    )

pub returns-in-Ok : goal.returns-in-Ok
returns-in-Ok c =
    let a = c.args in
    let is = sym c.in-Ok.is in (
      subst (λ (w : Result Progress Fault). AddsCounted a.t w c.add-in-Ok.result) is c.add-in-Ok.ensures.0,
      c.add-in-Ok.ensures.1,
      subst (λ (w : Result Progress Fault). CoversCounted a.t w c.add-in-Ok.result) is c.add-in-Ok.ensures.2,
    )
