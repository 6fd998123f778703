-- Which refusals packing and unpacking can answer [01:Numbers a caller can get], and their places. The proof is `refusals` of
-- proofs/Refusals.antt. Assumes nothing.
use Rattle.std.specs.Prelude.{ℕ, ◌/◌, ◌<◌, ◌≡◌, ◌↔◌, List, length, Result, Ok, Err}
use Rattle.row.specs.declared.fault.Reason.TheVariants.{NoRoom, BadRows}
use Rattle.row.specs.declared.fault.Fault.{Fault}
use Rattle.row.specs.Fault.{nowhere, Answered}
use Rattle.pack.specs.Pack.{Pack}
use Rattle.pack.specs.Unpack.{Unpack}

-- 16 and 17 at 0..0
pub data PackFault : Fault → Type 0 where
  full : PackFault (nowhere NoRoom)
  bad-rows : PackFault (nowhere BadRows)

pub record Refusals : Type 0 where
  -- `pack` and `unpack` answer no others
  pub packs : (l b b' : List ℕ) (f : Fault) → Pack l b (Err f) b' → PackFault f
  pub unpacks : (s b b' : List ℕ) (f : Fault) → Unpack s b (Err f) b' → PackFault f
  -- "then 16 exactly if an answer exists and needs more rows or bytes than a lent output has"
  pub packs-full : (l b b' : List ℕ) (r : Result ℕ Fault) → Pack l b r b' →
      (r ≡ Err (nowhere NoRoom)) ↔ ((n : ℕ) × Answered (Pack l) (Ok n) × (length b < n))
  pub unpacks-full : (s b b' : List ℕ) (r : Result ℕ Fault) → Unpack s b r b' →
      (r ≡ Err (nowhere NoRoom)) ↔ ((n : ℕ) × Answered (Unpack s) (Ok n) × (length b / 4 < n))
