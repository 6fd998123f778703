-- The proof of specs/Boundaries.antt, by the laws of sequences/CutPlaces.antt: `boundaries`.
-- Assumes nothing.
use Rattle.text.specs.Boundaries.{Boundaries}
use Rattle.text.proofs.sequences.CutPlaces as place

pub boundaries : Boundaries
boundaries = record { sees = place.sees; skips = place.skips; first = place.first; between = place.between }
