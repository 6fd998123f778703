-- The proof of specs/EnoughRoom.antt: a row for each byte of the file, and one more, is always enough room.
-- Assumes nothing.
use Rattle.std.specs.Prelude.{Result, Err}
use Rattle.row.specs.declared.fault.Fault.{Fault}
use Prim.Native.Nat.{ℕ, ◌/◌, ◌≤◌}
use native.Mathlib.Omega.{arith}
use mathlib.Core.Path.{◌≡◌, refl, ap}
use mathlib.Core.Bool.{Bool, true, false, cond}
use mathlib.Core.List.{List}
use lib.ListN.{length}
use lib.Dec.{leb}
use borrow.Author.Tests.{le-leb}
use Rattle.row.specs.declared.fault.Reason.TheVariants.{TooLong, NoRoom}
use Rattle.row.specs.Fault.{nowhere}
use Rattle.row.specs.Row.{Row}
use Rattle.raw.specs.Reader.{Out, ok, again, bad}
use Rattle.row.specs.Limits.{most_bytes}
use Rattle.raw.specs.Read.{strict, reading_out}
use Rattle.raw.proofs.Strict.{strict-reading}
use Rattle.salvage.specs.Salvage.{salvage_of, salvaged}
use Rattle.salvage.proofs.Demand3.{demand3}
use Rattle.bib.specs.Export.{status_of}
use Rattle.bib.specs.EnoughRoom.{Enough, EnoughRoom}

-- the status of a reading that finds o, over n lent numbers
abbrev status : Out → ℕ → ℕ
status o n = status_of (reading_out o n)

-- rows that fit are answered
rows-status : (q : ℕ) (rs : List Row) (n : ℕ) → length rs ≤ n / 4 → status (ok q rs) n ≤ 10
rows-status q rs n h = rw (le-leb (length rs) (n / 4) h) (omega arith)

module _ (s b : List ℕ) (h : Enough s b) where
  read-status : status (strict s) (length b) ≤ 10
  read-status = by (strict s) refl
    where
      by : (o : Out) → strict s ≡ o → status o (length b) ≤ 10
      by (ok q rs) e = let k = (strict-reading.accepts s q rs e).few in rows-status q rs (length b) (omega arith)
      by (again q rs a) e = absurd (strict-reading.decides s q a rs e)
      by (bad f) e = (strict-reading.refuses s f e).number.1

  salvage-status : status (salvaged s) (length b) ≤ 10
  unfolding salvaged
  salvage-status = by (leb (length s) most_bytes)
    where
      by : (x : Bool) → status (cond x (ok (length s) (salvage_of s)) (bad (nowhere TooLong))) (length b) ≤ 10
      by true = let k = demand3.few s in rows-status (length s) (salvage_of s) (length b) (omega arith)
      by false = omega arith

not-room : (r : Result ℕ Fault) → status_of r ≤ 10 → r ≡ Err (nowhere NoRoom) → ⊥
not-room r h e = let z : status_of r ≡ 16 = ap status_of e in omega arith

pub enough-room : EnoughRoom
enough-room =
    record {
      reading = λ s b h. not-room (reading_out (strict s) (length b)) (read-status s b h);
      salvaging = λ s b h. not-room (reading_out (salvaged s) (length b)) (salvage-status s b h);
      read = λ s b b' r count start end h x e. omega (arith, x.told.status, read-status s b h);
      salvage = λ s b b' r count start end h x e. omega (arith, x.told.status, salvage-status s b h);
    }
