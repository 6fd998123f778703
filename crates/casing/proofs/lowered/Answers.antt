-- `casing::lowered` meets its contract: it is lent the numbers of a list that keeps the rule.
-- Assumes nothing.
use Rattle.casing.specs.Lowers.{lowers}
use Rattle.casing.specs.Casing.{to_lowercase}
use Rattle.casing.proofs.Casing.{lower-rule}
use Rattle.casing.proofs.lowered.Goals as goal

pub find-requires : goal.find-requires
find-requires c = record { rows = lowers; rule = lower-rule; same = c.requires }

pub returns : goal.returns
unfolding to_lowercase
returns c = c.find.ensures lowers lower-rule c.requires
