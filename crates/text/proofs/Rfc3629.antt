-- The proof of specs/Rfc3629.antt, by the laws of Octets, ScalarValues and CutPlaces in sequences/: `rfc3629`.
-- Assumes nothing.
use Rattle.text.specs.Rfc3629.{Rfc3629}
use Rattle.text.proofs.sequences.Octets as octets
use Rattle.text.proofs.sequences.ScalarValues as values
use Rattle.text.proofs.sequences.CutPlaces as place

pub rfc3629 : Rfc3629
rfc3629 = record {
  accepts = octets.accepts;
  refuses = octets.refuses;
  writes = values.writes;
  decodes = place.decodes;
  encodes = values.encodes;
  shortest = values.shortest;
  leads = values.leads;
  boundary = place.boundary;
}
