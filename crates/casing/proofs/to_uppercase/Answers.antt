-- `casing::to_uppercase` meets its contract: its table is the numbers of a list that keeps the rule.
-- Assumes nothing.
use Rattle.casing.specs.Uppers.{uppers}
use Rattle.casing.specs.Casing.{to_uppercase}
use Rattle.casing.proofs.Casing.{upper-rule}
use Rattle.casing.proofs.to_uppercase.Goals as goal

pub find-requires : goal.find-requires
find-requires c = record { rows = uppers; rule = upper-rule; same = c.upper_table-t.ensures }

pub returns : goal.returns
unfolding to_uppercase
returns c = c.find.ensures uppers upper-rule c.upper_table-t.ensures
