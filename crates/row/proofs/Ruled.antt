-- The proof of specs/Ruled.antt, by the laws of the row rules: `ruled`.
-- Assumes nothing.
use Rattle.row.specs.Ruled.{Ruled}
use Rattle.row.proofs.rules.Append as append
use Rattle.row.proofs.rules.SmallKinds as small
use Rattle.row.proofs.rules.Masks as masks

pub ruled : Ruled
ruled = record {
  run-append = append.run-append;
  free-whole = append.free-whole;
  rows_append = append.rows_append;
  rows-moved = append.rows-moved;
  clean-append = append.clean-append;
  clean-moved = append.clean-moved;
  rules-small = small.rules-small;
  masks-step = masks.masks-step;
  masks-whole = masks.masks-whole;
}
