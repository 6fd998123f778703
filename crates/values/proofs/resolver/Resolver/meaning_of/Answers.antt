-- `Resolver::meaning_of` meets its contract. Assumes nothing.
use Rattle.values.proofs.naming.MeaningWays.{means-inside}
use Rattle.values.proofs.ways.ElementWays.{months-of}
use Rattle.values.proofs.resolver.Resolver.meaning_of.Goals as goal

pub returns-in-Some-clause-row_inside : goal.returns-in-Some-clause-row_inside
returns-in-Some-clause-row_inside c =
    let a = c.args in
    let r = a.self.now in
    means-inside r.file.now r.rows.now r.months.now r.words.now a.start a.end _ c.find.ensures _ c.in-Some.is

pub find_month-requires : goal.find_month-requires
find_month-requires c = let r = c.args.self.now in months-of r.file.now r.rows.now r.months.now r.words.now r.lent
