-- What salvage gives packs without refusal: the last sentence of demand 3's fourth theorem, which speaks of two crates below.
-- The proof is `packs` of proofs/Packs.antt. Assumes nothing.
use Rattle.std.specs.Prelude.{ℕ, ◌≤◌, ◌≡◌, true, List, length}
use Rattle.row.specs.Row.{flat}
use Rattle.row.specs.Limits.{most_bytes}
use Rattle.salvage.specs.Salvage.{salvage_of}
use Rattle.pack.specs.Pack.{is_packable}

abbrev pub Packs : Type 0
Packs = (s : List ℕ) → length s ≤ most_bytes → is_packable (flat (salvage_of s)) ≡ true
