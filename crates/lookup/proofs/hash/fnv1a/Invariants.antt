-- The invariants of `lookup::hash::fnv1a`.
use Rattle.std.proofs.Common.{◌≡◌, drop}
use Rattle.lookup.specs.Fnv.{hash_of, hash_from}
use Rattle.lookup.proofs.hash.fnv1a.Given as goal

abbrev pub invariant-loop-b : goal.invariant-loop-b
invariant-loop-b l = hash_of l.bytes ≡ hash_from l.hash (drop l.b-index l.bytes)
