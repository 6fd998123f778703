-- The cases of specs/Worked.antt compute.
-- Assumes nothing.
use Rattle.std.proofs.Common.{refl}
use Rattle.lookup.specs.Fnv.{hash_from}
use Rattle.text.specs.SameBytes.{same_bytes}
use Rattle.lookup.specs.Names.{is_named, later, last_named}
use Rattle.lookup.specs.RowIndex.{counts}
use Rattle.lookup.specs.Worked.{Worked}

pub worked : Worked
unfolding hash_from same_bytes is_named later last_named counts
worked = record {
  nothing = refl;
  a = refl;
  foobar = refl;
  last = refl;
  once = refl;
  absent = refl;
  empty = refl;
  other = refl;
  shadowed = refl;
  counting = refl;
}
