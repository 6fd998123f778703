-- Which refusals salvage can answer [01:Numbers a caller can get]: "Salvage itself refuses only with 1 and 16". The proof is `refusals` of
-- proofs/Refusals.antt. Assumes nothing.
use Rattle.std.specs.Prelude.{ℕ, List, Err}
use Rattle.row.specs.declared.fault.Reason.TheVariants.{TooLong, NoRoom}
use Rattle.row.specs.declared.fault.Fault.{Fault}
use Rattle.row.specs.Fault.{nowhere}
use Rattle.raw.specs.Refusals.{Full}
use Rattle.salvage.specs.Salvage.{Salvage}

-- 1 and 16 at 0..0
pub data SalvageFault : Fault → Type 0 where
  long : SalvageFault (nowhere TooLong)
  full : SalvageFault (nowhere NoRoom)

pub record Refusals : Type 0 where
  -- `salvage` answers no others
  pub salvages : (s b b' : List ℕ) (f : Fault) → Salvage s b (Err f) b' → SalvageFault f
  -- "then 16 exactly if an answer exists and needs more rows or bytes than a lent output has"
  pub no_room : (s : List ℕ) → Full (Salvage s)
