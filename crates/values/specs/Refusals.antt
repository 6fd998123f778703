-- Which refusals a value can come to [01:Numbers a caller can get], and their places. The proof is `refusals` of proofs/Refusals.antt.
-- Assumes nothing.
use Rattle.std.specs.Prelude.{ℕ, ◌≤◌, ◌≡◌, Bool, true, List}
use Rattle.row.specs.declared.form.Kind.TheVariants.{Literal, Name}
use Rattle.row.specs.declared.fault.Fault.{Fault}
use Rattle.row.specs.declared.fault.Reason.{Reason}
use Rattle.row.specs.Fault.{number_of}
use Rattle.row.specs.Row.{Row}
use Rattle.row.specs.Rules.{is_kind}
use Rattle.literal.specs.Refusals.{LiteralFault}
use Rattle.resolve.specs.Resolves.{refused}
use Rattle.resolve.specs.Checks.{Lent}
use Rattle.values.specs.Field.{spelt, field_of}
use Rattle.values.specs.NameUses.{UseFault, Met}

-- of the value whose row is number i: 12, 13, 14 and 15 at "the use", which is a name's row that is met; or what a literal that is met comes to,
-- at its place in the file
pub data FieldFault (l : Lent) (verb : Bool) (i : ℕ) : Fault → Type 0 where
  used : (path : List ℕ) (r : Row) (n : ℕ) (reason : Reason) → Met l verb i path r n → is_kind Name r.kind ≡ true → UseFault l path r n reason
      → FieldFault l verb i (record { reason = reason; start = r.start; end = r.end })
  met : (path : List ℕ) (r : Row) (n : ℕ) (f : Fault) → Met l verb i path r n → is_kind Literal r.kind ≡ true
      → LiteralFault (spelt l r) r.start f → FieldFault l verb i f

pub record Refusals : Type 0 where
  -- a value comes to no others
  pub value : (l : Lent) (verb : Bool) (i : ℕ) (f : Fault) → field_of l verb i ≡ refused f → FieldFault l verb i f
  -- 16 and 17 are none of its own
  pub own : (l : Lent) (verb : Bool) (i : ℕ) (f : Fault) → FieldFault l verb i f → number_of f.reason ≤ 15
