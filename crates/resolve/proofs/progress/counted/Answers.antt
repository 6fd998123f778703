-- `resolve::progress::counted` meets its contract. Assumes nothing.
use mathlib.Core.Path.{refl}
use Rattle.resolve.proofs.progress.counted.Goals as goal

pub returns : goal.returns
returns c = let known = c.requires in record {
  names_value = (refl, record { bytes = known.0.bytes; rows = known.0.rows; names = known.1 });
  has = λ ps b₀ t₀ b t has. record { over = has.over; bytes = has.bytes; rows = has.rows; text = has.text };
}
