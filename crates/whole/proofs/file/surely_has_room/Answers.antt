-- `whole::file::surely_has_room` meets its contract. Assumes nothing.
use mathlib.Core.Path.{refl}
use mathlib.Core.Bool.{false}
use Rattle.text.proofs.general.Tests.{true-not-false}
use Rattle.whole.proofs.ways.ValueWays.{filing-on}
use Rattle.whole.proofs.file.surely_has_room.Goals as goal

pub surely_fits-requires : goal.surely_fits-requires
surely_fits-requires c = (c.requires, c.most_of_names-name.ensures c.args.resolver.now.file.now c.args.resolver.now.words.now)

pub returns-then-surely_fits : goal.returns-then-surely_fits
returns-then-surely_fits c = λ e. c.surely_fits.ensures c.if-surely_fits.true

pub surely_fits-requires-2 : goal.surely_fits-requires-2
surely_fits-requires-2 c =
    let a = c.args in (
      filing-on a.resolver.now a.flags.now a.scratch.now
          _ c.requires c.surely_fits.auto.scratch,
      (tt, λ _ _ _. tt),
    )

pub returns-then-is_none : goal.returns-then-is_none
returns-then-is_none c = λ e. true-not-false false e refl
