-- `chunk::form::row_at` meets its contract. Assumes nothing.
use Rattle.std.proofs.Common.{◌+◌, arith, refl}
use Rattle.chunk.proofs.form.row_at.Goals as goal

pub returns : goal.returns
returns c = record { kind = refl; from = refl; to = refl; small = omega (arith, (c.type_inv.rows (c.args.i + 2)).fits) }
