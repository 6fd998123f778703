-- `whole::file::add` meets its contract. Assumes nothing.
use native.Mathlib.Omega.{arith}
use mathlib.Core.Path.{refl}
use Rattle.whole.proofs.counting.CountWays.{much-not, add-much, add-on}
use Rattle.whole.proofs.counting.Covering.{cover-much, cover_on}
use Rattle.whole.proofs.file.add.Goals as goal

pub returns-then-t-over : goal.returns-then-t-over
returns-then-t-over c =
    let a = c.args in (
      add-much a.t a.rows a.bytes a.over c.if-t-over.true _ refl refl,
      record { rows = omega arith; bytes = omega arith },
      cover-much a.t a.rows a.bytes a.over _ refl refl,
    )

pub returns : goal.returns
returns c =
    let a = c.args in
    let small = much-not a.t a.rows a.bytes a.over c.if-t-over.false in (
      add-on a.t a.rows a.bytes a.over c.if-t-over.false _ refl refl refl refl,
      record { rows = small.2; bytes = small.3 },
      cover_on a.t a.rows a.bytes a.over c.if-t-over.false _ refl refl refl,
    )
