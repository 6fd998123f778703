-- The invariants of `lookup::index::Index::follow`.
use Rattle.std.proofs.Common.{◌+◌, ◌/◌, ◌≤◌, length}
use Rattle.lookup.proofs.links.Chains.{left}
use Rattle.lookup.proofs.links.FollowWays.{Going}
use Rattle.lookup.proofs.index.Index.follow.Given as goal

-- with each row that was looked at the search has less far to go
abbrev pub invariant-loop-at : goal.invariant-loop-at
invariant-loop-at l = record {
  each : length l.self.rows.now / 4 ≤ length l.self.next.now;
  going : Going l.self.file.now l.name l.self.rows.now (length l.self.heads.now) l.b l.from l.at;
  few : l.k + left (length l.self.rows.now / 4) l.at ≤ length l.self.rows.now / 4;
}

abbrev pub decreases-loop-at : goal.decreases-loop-at
decreases-loop-at l = left (length l.self.rows.now / 4) l.at
