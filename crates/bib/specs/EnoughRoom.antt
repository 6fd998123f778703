-- A row for each byte of the file, and one more, is always enough room. Refusal 16 is for callers that lend less.
-- The proof is `enough-room` of proofs/EnoughRoom.antt. Assumes nothing.
use Rattle.std.specs.Prelude.{ℕ, ◌+◌, ◌*◌, ◌≤◌, ◌≡◌, List, length, Err}
use Rattle.row.specs.declared.fault.Reason.TheVariants.{NoRoom}
use Rattle.row.specs.Fault.{nowhere}
use Rattle.raw.specs.Read.{strict, reading_out}
use Rattle.salvage.specs.Salvage.{salvaged}
use Rattle.bib.specs.Export.{ExportedReading}

-- the lent numbers b have a row, which is four numbers, for each byte of the file s, and one more
abbrev pub Enough : List ℕ → List ℕ → Type 0
Enough s b = 4 * (length s + 1) ≤ length b

pub record EnoughRoom : Type 0 where
  -- with enough room, neither strict reading nor salvage is refused for want of room
  pub reading : (s b : List ℕ) → Enough s b → reading_out (strict s) (length b) ≡ Err (nowhere NoRoom) → ⊥
  pub salvaging : (s b : List ℕ) → Enough s b → reading_out (salvaged s) (length b) ≡ Err (nowhere NoRoom) → ⊥
  -- with enough room, neither exported call answers 16
  pub read : (s b b' : List ℕ) (r count start end : ℕ) → Enough s b → ExportedReading (strict s) b r count start end b' → r ≡ 16 → ⊥
  pub salvage : (s b b' : List ℕ) (r count start end : ℕ) → Enough s b → ExportedReading (salvaged s) b r count start end b' → r ≡ 16 → ⊥
