-- `text::utf8::is_scalar` meets its contract. Assumes nothing.
use mathlib.Core.Path.{refl}
use Rattle.text.specs.Utf8.{is_scalar}
use Rattle.text.proofs.utf8.is_scalar.Goals as goal

pub returns : goal.returns
unfolding is_scalar
returns c = refl
