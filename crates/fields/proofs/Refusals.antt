-- Which refusals `resolve_field` can answer, and their places: `refusals`.
-- Assumes nothing.
use Prim.Native.Nat.{ℕ}
use native.Mathlib.Omega.{arith}
use mathlib.Core.Path.{◌≡◌}
use mathlib.Core.Bool.{Bool}
use lib.ListN.{length}
use Rattle.row.specs.declared.fault.Reason.TheVariants.{NoRoom}
use Rattle.row.specs.Fault.{nowhere}
use Rattle.resolve.specs.Resolves.{refused}
use Rattle.resolve.specs.Checks.{Lent, is_right, lent_of}
use Rattle.resolve.proofs.Refusals.{calls, refusals as call-refusals}
use Rattle.values.specs.Field.{field_of}
use Rattle.values.specs.Refusals.{FieldFault}
use Rattle.values.proofs.Refusals.{refusals as value-refusals}
use Rattle.fields.specs.Refusals.{Refusals}

-- a value is never refused with 16
not_full : (l : Lent) (verb : Bool) (i : ℕ) → field_of l verb i ≡ refused (nowhere NoRoom) → ⊥
not_full l verb i e = absurd (omega (arith, value-refusals.own l verb i (nowhere NoRoom) (value-refusals.value l verb i (nowhere NoRoom) e)))

pub refusals : Refusals
refusals =
    record {
      field = λ file rows which verb months words w b t w' b' t' f r.
          let l = lent_of file rows months words in
          calls file (is_right file rows which months words) (length w) (field_of l verb which) (FieldFault l verb which) (value-refusals.value l verb which)
          b t f r.writes.answer;
      field-full = λ file rows which verb months words w b t w' b' t' x r.
          let l = lent_of file rows months words in
          call-refusals.call-full file (is_right file rows which months words) (length w) (field_of l verb which) (not_full l verb which) b t x
          r.writes.answer;
    }
