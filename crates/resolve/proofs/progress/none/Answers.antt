-- `resolve::progress::none` meets its contract. Assumes nothing.
use mathlib.Core.Path.{refl}
use Rattle.literal.specs.Rows.{rows_from, writes, last_kind, last_text, last_start}
use Rattle.resolve.proofs.progress.none.Goals as goal

pub returns : goal.returns
unfolding rows_from writes last_kind last_text last_start
returns c = record { by_index = λ b. record { numbers = λ _. refl; count = refl; last = refl; from = λ _. refl; start = refl }; n_value = refl }
