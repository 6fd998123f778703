-- `command::meaning::span_of` meets its contract. Assumes nothing.
use Rattle.std.proofs.Common.{◌≡◌, refl, false, [], ◌∷◌, ne_eqb}
use Rattle.text.specs.Class.{mark}
use Rattle.text.specs.Every.{every}
use Rattle.text.specs.Utf8.{octets}
use Rattle.text.specs.Strings.{utf8}
use Rattle.command.specs.Commands.{commands}
use Rattle.command.specs.Names.{flat, rows_of, long}
use Rattle.command.proofs.ways.SpanRows as laws
use Rattle.command.proofs.meaning.span_of.Goals as goal

pub returns-then-n-gt24 : goal.returns-then-n-gt24
unfolding every laws.fits laws.before laws.behind laws.sizes flat rows_of long commands utf8 octets
returns-then-n-gt24 c = laws.spans _ _ _ (laws.outside 0 0) refl (laws.above (laws.outside 0 0) 24 _ refl c.if-n-gt24.true) refl

pub returns-in-2 : goal.returns-in-2
unfolding laws.fits laws.before laws.behind laws.sizes flat rows_of long commands utf8 octets
returns-in-2 c = laws.spans-at _ _ _ _ c.in-2.is refl refl

pub returns-in-3 : goal.returns-in-3
unfolding laws.fits laws.before laws.behind laws.sizes flat rows_of long commands utf8 octets
returns-in-3 c = laws.spans-at _ _ _ _ c.in-3.is refl refl

pub returns-in-4 : goal.returns-in-4
unfolding laws.fits laws.before laws.behind laws.sizes flat rows_of long commands utf8 octets
returns-in-4 c = laws.spans-at _ _ _ _ c.in-4.is refl refl

pub returns-in-5 : goal.returns-in-5
unfolding laws.fits laws.before laws.behind laws.sizes flat rows_of long commands utf8 octets
returns-in-5 c = laws.spans-at _ _ _ _ c.in-5.is refl refl

pub returns-in-6 : goal.returns-in-6
unfolding laws.fits laws.before laws.behind laws.sizes flat rows_of long commands utf8 octets
returns-in-6 c = laws.spans-at _ _ _ _ c.in-6.is refl refl

pub returns-in-7 : goal.returns-in-7
unfolding laws.fits laws.before laws.behind laws.sizes flat rows_of long commands utf8 octets
returns-in-7 c = laws.spans-at _ _ _ _ c.in-7.is refl refl

pub returns-in-8 : goal.returns-in-8
unfolding laws.fits laws.before laws.behind laws.sizes flat rows_of long commands utf8 octets
returns-in-8 c = laws.spans-at _ _ _ _ c.in-8.is refl refl

pub returns-in-9 : goal.returns-in-9
unfolding laws.fits laws.before laws.behind laws.sizes flat rows_of long commands utf8 octets
returns-in-9 c = laws.spans-at _ _ _ _ c.in-9.is refl refl

pub returns-in-10 : goal.returns-in-10
unfolding laws.fits laws.before laws.behind laws.sizes flat rows_of long commands utf8 octets
returns-in-10 c = laws.spans-at _ _ _ _ c.in-10.is refl refl

pub returns-in-11 : goal.returns-in-11
unfolding laws.fits laws.before laws.behind laws.sizes flat rows_of long commands utf8 octets
returns-in-11 c = laws.spans-at _ _ _ _ c.in-11.is refl refl

pub returns-in_default : goal.returns-in_default
unfolding laws.fits laws.before laws.behind laws.sizes flat rows_of long commands utf8 octets
returns-in_default c = laws.spans _ _ _ (5 ∷ 3 ∷ 10 ∷ 10 ∷ 6 ∷ 2 ∷ []) refl others refl
  where
    others : mark (5 ∷ 3 ∷ 10 ∷ 10 ∷ 6 ∷ 2 ∷ []) c.args.n ≡ false
    others = rw (
      ne_eqb _ _ c.in_default.in_default-own.rest.0.0.0.0.0.0.1,
      ne_eqb _ _ c.in_default.in_default-own.rest.0.0.0.0.0.0.0.0.1,
      ne_eqb _ _ c.in_default.in_default-own.rest.0.1,
      ne_eqb _ _ c.in_default.in_default-own.rest.0.0.0.0.0.1,
      ne_eqb _ _ c.in_default.in_default-own.rest.0.0.0.0.0.0.0.0.0.1,
    )
